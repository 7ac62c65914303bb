-- A settled device whose sides change in nothing that the turn asks of them is settled too.
-- Assumes nothing.
use mathlib.Core.Path.{◌≡◌, refl, sym, ap, ap₂, ◌∙◌}
use mathlib.Core.Bool.{Bool, true, false, not, ◌&&◌, false≢true}
use Prim.Native.Nat.{ℕ, ◌+◌}
use lib.Dec.{eqb}
use Rattle.arbiter.specs.Rules.{idle_limit}
use Rattle.std.specs.Prelude.{if◌then◌else◌}
use Rattle.arbiter.specs.Words.{worth, partner, same_master, side, device}
use Rattle.arbiter.specs.Parts.{with_bus}
use Rattle.arbiter.specs.State.{at_rest, claims_turn, scl_high, sda_high, is_idle, bus_hung}
use Rattle.arbiter.specs.Registers.{is_asserted}
use Rattle.arbiter.specs.Order.{levels}
use Rattle.arbiter.specs.Steps.{owner_byte, lines_byte}
use Rattle.arbiter.specs.declared.Master.{Master}
use Rattle.arbiter.specs.declared.Master.TheVariants.{Zero, One}
use Rattle.arbiter.specs.declared.Turn.{Turn}
use Rattle.arbiter.specs.declared.Turn.TheVariants.{Nobody, Claims, Owns}
use Rattle.arbiter.specs.declared.Control.{Control}
use Rattle.arbiter.specs.declared.Side.{Side}
use Rattle.arbiter.specs.declared.Bus.{Bus}
use Rattle.arbiter.specs.declared.Device.{Device}
use Rattle.arbiter.specs.declared.Clock.TheVariants.{NoClock}
use Rattle.arbiter.proofs.Again.{bus_stays}
use Rattle.arbitration.specs.Quiet.{no_loss, no_cut, no_claim, no_grant}
use Rattle.connection.specs.Quiet.{linked, switch_stays}
use Rattle.step.specs.Carried.{parts_three_to_seven, quiet_from, is_quiet}
use Rattle.step.proofs.Quiet.{quiet_law}
use Rattle.light.specs.Light.{Still, Settled}

-- ---- a side that is alike, or that fits what the turn asks of its master

abbrev pub Alike : Side → Side → Type 0
Alike s x = (x.rt ≡ s.rt) × (x.contr ≡ s.contr) × (at_rest x.port ≡ at_rest s.port)

-- nobody's turn: no request comes; m claims: it asks on, and its port does not come to rest; m owns: RT and CONTR stay
abbrev pub Fits : Master → Turn → Side → Side → Type 0
Fits m Nobody s x = s.contr.lockreq ≡ false → x.contr.lockreq ≡ false
Fits m (Claims k g) s x =
    same_master m k ≡ true → (s.contr.lockreq ≡ true → x.contr.lockreq ≡ true) × (at_rest x.port ≡ true → at_rest s.port ≡ true)
Fits m (Owns k g) s x = same_master m k ≡ true → (x.rt ≡ s.rt) × (x.contr ≡ s.contr)

requests : (s x : Side) → x.contr ≡ s.contr → x.contr.lockreq ≡ s.contr.lockreq
requests s x e = ap (λ (c : Control). c.lockreq) e

-- a side that fits, changed into one alike, fits
pub fits_on : (m : Master) (t : Turn) (s x y : Side) → Fits m t s x → Alike x y → Fits m t s y
fits_on m Nobody s x y f a = λ h. requests x y a.1 ∙ f h
fits_on m (Claims k g) s x y f a = λ e. (λ h. requests x y a.1 ∙ (f e).0 h, λ h. (f e).1 (sym a.2 ∙ h))
fits_on m (Owns k g) s x y f a = λ e. (a.0 ∙ (f e).0, a.1 ∙ (f e).1)

pub fits_self : (m : Master) (t : Turn) (s : Side) → Fits m t s s
fits_self m Nobody s = λ h. h
fits_self m (Claims k g) s = λ e. (λ h. h, λ h. h)
fits_self m (Owns k g) s = λ e. (refl, refl)

pub alike_fits : (m : Master) (t : Turn) (s x : Side) → Alike s x → Fits m t s x
alike_fits m t s x a = fits_on m t s s x (fits_self m t s) a

-- ---- parts 3 to 7

five : (a b c d e : Bool) → a && b && c && d && e ≡ true → (a ≡ true) × (b ≡ true) × (c ≡ true) × (d ≡ true) × (e ≡ true)
five true true true true e h = (refl, refl, refl, refl, h)
five true true true false e h = absurd (false≢true h)
five true true false d e h = absurd (false≢true h)
five true false c d e h = absurd (false≢true h)
five false b c d e h = absurd (false≢true h)

all_five : (a b c d e : Bool) → a ≡ true → b ≡ true → c ≡ true → d ≡ true → e ≡ true → a && b && c && d && e ≡ true
all_five a b c d e p q r s t =
    ap (λ (x : Bool). x && b && c && d && e) p
    ∙ ap (λ (x : Bool). x && c && d && e) q
    ∙ ap (λ (x : Bool). x && d && e) r
    ∙ ap (λ (x : Bool). x && e) s
    ∙ t

-- the five tests of a turn, each by itself and all of them
pub tests : (t : Turn) (d : Device) → quiet_from t false d ≡ true
    → (switch_stays t d ≡ true) × (no_grant t d ≡ true) × (no_claim t d ≡ true) × (no_cut false t d ≡ true) × (no_loss t d ≡ true)
tests t d h = five (switch_stays t d) (no_grant t d) (no_claim t d) (no_cut false t d) (no_loss t d) h

whole : (t : Turn) (d : Device) → switch_stays t d ≡ true → no_grant t d ≡ true → no_claim t d ≡ true → no_cut false t d ≡ true → no_loss t d ≡ true
    → quiet_from t false d ≡ true
whole t d p q r u v = all_five (switch_stays t d) (no_grant t d) (no_claim t d) (no_cut false t d) (no_loss t d) p q r u v

none_asks : (r0 r1 x0 x1 : Bool) → (r0 ≡ false → x0 ≡ false) → (r1 ≡ false → x1 ≡ false) → not r0 && not r1 ≡ true → not x0 && not x1 ≡ true
none_asks false false x0 x1 f g h = ap₂ (λ (a b : Bool). not a && not b) (f refl) (g refl)
none_asks false true x0 x1 f g h = absurd (false≢true h)
none_asks true r1 x0 x1 f g h = absurd (false≢true h)

waits : (rest x : Bool) (hold held : ℕ) → (x ≡ true → rest ≡ true) → held ≡ hold → not (rest && eqb hold 0) ≡ true → not (x && eqb held 0) ≡ true
waits rest true hold held f k h = ap₂ (λ (r : Bool) (n : ℕ). not (r && eqb n 0)) (sym (f refl)) k ∙ h
waits rest false hold held f k h = refl

keeps : (limit reserve : ℕ) (b : Bus) (s x : Side) → x.rt ≡ s.rt → x.contr ≡ s.contr
    → not (if eqb s.rt 0 then s.contr.idletimer && eqb b.idle limit else eqb reserve 0 && is_idle b) ≡ true
    → not (if eqb x.rt 0 then x.contr.idletimer && eqb b.idle limit else eqb reserve 0 && is_idle b) ≡ true
keeps limit reserve b s x r c h =
    ap₂ (λ (n : ℕ) (k : Control). not (if eqb n 0 then k.idletimer && eqb b.idle limit else eqb reserve 0 && is_idle b)) r c ∙ h

linked_on : (d : Device) (k : Master) (s y : Side) → y.contr ≡ s.contr → linked k s.contr.busconnect d.arb.switch ≡ true
    → linked k y.contr.busconnect d.arb.switch ≡ true
linked_on d k s y c h = ap (λ (a : Control). linked k a.busconnect d.arb.switch) c ∙ h

-- d with other sides and another bus
module _ (d : Device) (x p : Side) (b : Bus) where
  abbrev moved : Device
  moved = record { side0 = x; side1 = p; bus = b; arb = d.arb; kind = d.kind }

  -- both sides fit, the hold on SCL stays, and the lines end no grant
  quiet_moved : (t : Turn) → Fits Zero t d.side0 x → Fits One t d.side1 p → b.hold ≡ d.bus.hold → no_loss t (with_bus b d) ≡ true
      → quiet_from t false d ≡ true → quiet_from t false moved ≡ true
  quiet_moved Nobody f a k l h =
      let q = tests Nobody d h in
      whole Nobody moved q.0 refl (none_asks d.side0.contr.lockreq d.side1.contr.lockreq x.contr.lockreq p.contr.lockreq f a q.2)
      refl refl
  quiet_moved (Claims Zero g) f a k l h =
      let q = tests (Claims Zero g) d h in
      whole (Claims Zero g) moved q.0 (waits (at_rest d.side0.port) (at_rest x.port) d.bus.hold b.hold (f refl).1 k q.1)
      ((f refl).0 q.2) refl refl
  quiet_moved (Claims One g) f a k l h =
      let q = tests (Claims One g) d h in
      whole (Claims One g) moved q.0 (waits (at_rest d.side1.port) (at_rest p.port) d.bus.hold b.hold (a refl).1 k q.1)
      ((a refl).0 q.2) refl refl
  quiet_moved (Owns Zero g) f a k l h =
      let q = tests (Owns Zero g) d h in
      whole (Owns Zero g) moved (linked_on d Zero d.side0 x (f refl).1 q.0) refl refl refl
      (keeps (idle_limit d) d.arb.reserve b d.side0 x (f refl).0 (f refl).1 l)
  quiet_moved (Owns One g) f a k l h =
      let q = tests (Owns One g) d h in
      whole (Owns One g) moved (linked_on d One d.side1 p (a refl).1 q.0) refl refl refl
      (keeps (idle_limit d) d.arb.reserve b d.side1 p (a refl).0 (a refl).1 l)

-- the same where the bus stays, of m's side and its partner's
module _ (d : Device) (x p : Side) where
  abbrev after : Master → Device
  after m = device m x p d.bus d.arb d

  quiet_fits : (m : Master) (t : Turn) → Fits m t (side m d) x → Fits (partner m) t (side (partner m) d) p → quiet_from t false d ≡ true
      → quiet_from t false (after m) ≡ true
  quiet_fits Zero t f a h = quiet_moved d x p d.bus t f a refl (tests t d h).4 h
  quiet_fits One t f a h = quiet_moved d p x d.bus t a f refl (tests t d h).4 h

-- a claimant is not granted while SCL is held, whatever its port does
not_ready : (rest free : Bool) → free ≡ false → not (rest && free) ≡ true
not_ready true free h = ap not h
not_ready false free h = refl

module _ (d : Device) (x : Side) where
  quiet_held : (m : Master) (t : Turn) → x.contr ≡ (side m d).contr → eqb d.bus.hold 0 ≡ false → claims_turn m t ≡ true → quiet_from t false d ≡ true
      → quiet_from t false (after d x (side (partner m) d) m) ≡ true
  quiet_held m Nobody c f l h = absurd (false≢true l)
  quiet_held m (Owns k g) c f l h = absurd (false≢true l)
  quiet_held Zero (Claims One g) c f l h = absurd (false≢true l)
  quiet_held One (Claims Zero g) c f l h = absurd (false≢true l)
  quiet_held Zero (Claims Zero g) c f l h =
      let q = tests (Claims Zero g) d h in
      whole (Claims Zero g) (after d x d.side1 Zero) q.0 (not_ready (at_rest x.port) (eqb d.bus.hold 0) f) (requests d.side0 x c ∙ q.2) refl
      refl
  quiet_held One (Claims One g) c f l h =
      let q = tests (Claims One g) d h in
      whole (Claims One g) (after d x d.side0 One) q.0 (not_ready (at_rest x.port) (eqb d.bus.hold 0) f) (requests d.side1 x c ∙ q.2) refl refl

-- ---- both, and the answer

-- m's side x and its partner's side p in a settled device d
module _ (m : Master) (d : Device) (x p : Side) where
  pub same_levels : Still d.bus → levels false d.bus (after d x p m) ≡ after d x p m
  unfolding levels
  same_levels still = ap (λ (b : Bus). with_bus b (after d x p m)) (bus_stays d.bus still)

  pub both_settle : Settled d → Fits m d.arb.turn (side m d) x → Fits (partner m) d.arb.turn (side (partner m) d) p
      → parts_three_to_seven false NoClock (levels false d.bus (after d x p m)) ≡ after d x p m
  unfolding is_quiet
  both_settle (still, quiet) f a =
      ap (λ (y : Device). parts_three_to_seven false NoClock y) (same_levels still)
      ∙ sym (quiet_law false NoClock (after d x p m) (quiet_fits d x p m d.arb.turn f a quiet))

  pub fits_settles : Settled d → Fits m d.arb.turn (side m d) x → Alike (side (partner m) d) p
      → parts_three_to_seven false NoClock (levels false d.bus (after d x p m)) ≡ after d x p m
  fits_settles h f a = both_settle h f (alike_fits (partner m) d.arb.turn (side (partner m) d) p a)

  pub held_settles : Settled d → x.contr ≡ (side m d).contr → p ≡ side (partner m) d → eqb d.bus.hold 0 ≡ false → claims_turn m d.arb.turn ≡ true
      → parts_three_to_seven false NoClock (levels false d.bus (after d x p m)) ≡ after d x p m
  unfolding is_quiet
  held_settles (still, quiet) c e f l =
      ap (λ (y : Device). parts_three_to_seven false NoClock y) (same_levels still)
      ∙ sym (quiet_law false NoClock (after d x p m)
      (ap (λ (y : Side). quiet_from d.arb.turn false (after d x y m)) e ∙ quiet_held d x m d.arb.turn c f l quiet))

  pub same_owner : owner_byte (after d x p m) ≡ owner_byte d
  unfolding owner_byte
  same_owner = refl

-- interrupts and masks that stay leave the lines byte
module _ (d : Device) (x p : Side) where
  abbrev shown : ℕ → ℕ → ℕ → ℕ → ℕ
  shown i0 k0 i1 k1 =
      worth 1 (is_asserted (bus_hung d.bus) i0 k0) + worth 2 (is_asserted (bus_hung d.bus) i1 k1) + worth 4 (scl_high d.bus) + worth 8 (sda_high d.bus)

  pub same_lines : (m : Master) → x.ints ≡ (side m d).ints → x.mask ≡ (side m d).mask → p.ints ≡ (side (partner m) d).ints → p.mask
      ≡ (side (partner m) d).mask
      → lines_byte (after d x p m) ≡ lines_byte d
  unfolding lines_byte
  same_lines Zero a b c e = λ i. shown (a i) (b i) (c i) (e i)
  same_lines One a b c e = λ i. shown (c i) (e i) (a i) (b i)

-- ---- LINES that end no grant

pub lined_settles : (d : Device) (x p : Side) (b : Bus) → Settled d → Alike d.side0 x → Alike d.side1 p → b.hold ≡ d.bus.hold
    → no_loss d.arb.turn (with_bus b d) ≡ true → parts_three_to_seven false NoClock (moved d x p b) ≡ moved d x p b
unfolding is_quiet
lined_settles d x p b (still, quiet) a c k l =
    let t : Turn = d.arb.turn in
    let fits0 = alike_fits Zero t d.side0 x a in
    let fits1 = alike_fits One t d.side1 p c in
    sym (quiet_law false NoClock (moved d x p b) (quiet_moved d x p b t fits0 fits1 k l quiet))
