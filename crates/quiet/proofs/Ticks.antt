-- The laws of quiet ticks, of every device value: one of them, and j of them in a row.
-- Assumes nothing.
use mathlib.Core.Path.{◌≡◌, refl, sym, ap, ap₂, subst, ◌∙◌}
use mathlib.Core.Bool.{Bool, true, false, not, ◌&&◌, ◌||◌, true≢false, false≢true, and-false, and-eq-true_iff}
use Prim.Native.Nat.{ℕ, zero, suc, ◌-◌, ◌+◌, ◌≤◌}
use lib.Dec.{eqb}
use borrow.Author.Tests.{eqb-true, ne_eqb}
use native.Mathlib.Omega.{arith}
use Rattle.arbiter.specs.Rules.{limit_of, idle_limit}
use Rattle.std.specs.Prelude.{if◌then◌else◌}
use Rattle.arbiter.specs.Words.{worth, side}
use Rattle.arbiter.specs.Parts.{with_reserve}
use Rattle.arbiter.specs.State.{at_rest, scl_high, sda_high, is_idle, scl_hung_limit, sda_hung_limit, bus_hung}
use Rattle.arbiter.specs.Registers.{is_asserted}
use Rattle.arbiter.specs.Effects.{counted_to, ticked_bus, ticked}
use Rattle.arbiter.specs.Order.{runs_out}
use Rattle.arbiter.specs.Steps.{owner_byte, lines_byte, answer, step, run_from}
use Rattle.arbiter.specs.declared.Turn.{Turn}
use Rattle.arbiter.specs.declared.Turn.TheVariants.{Nobody, Claims, Owns}
use Rattle.arbiter.specs.declared.Kind.{Kind}
use Rattle.arbiter.specs.declared.Side.{Side}
use Rattle.arbiter.specs.declared.Bus.{Bus}
use Rattle.arbiter.specs.declared.Device.{Device}
use Rattle.arbiter.specs.declared.Stepped.{Stepped}
use Rattle.arbiter.proofs.Choice.{split, if_true, if_false}
use Rattle.arbiter.proofs.KindKept.{limit_some}
use Rattle.arbiter.proofs.Settled.{Still}
use Rattle.arbitration.specs.Quiet.{no_loss, no_cut}
use Rattle.fields.specs.Apart.{is_apart}
use Rattle.quiet.specs.Counts.{least, risen, counted_bus, with_counts, after_ticks}
use Rattle.quiet.specs.Quiet.{hold_left, scl_left, sda_left, idle_left, owner_left, turn_left, is_still, is_calm, counts_left, quiet_ticks, tick, Quiet, ticks}
use Rattle.quiet.specs.Quiet.{Same, QuietTogether}
use Rattle.quiet.proofs.Counts.{least_first, least_second, risen_more, risen_none, hold_kept, scl_uncut, scl_hung, sda_hung, idle_unexpired}
use Rattle.quiet.proofs.Tick.{Idles, quiet_tick}

-- ---- what the number says

-- j ticks are left to each count, and nothing else is to be settled
abbrev Left : ℕ → Device → Type 0
Left j d =
    (is_still d.bus ≡ true)
    × (is_calm d.arb.turn d ≡ true)
    × (j ≤ hold_left d.bus.hold)
    × (j ≤ turn_left d.arb.turn d)
    × (j ≤ scl_left (scl_high d.bus) d.bus.lowscl)
    × (j ≤ sda_left (sda_high d.bus) d.bus.lowsda)

left_of : (j : ℕ) (d : Device) → 1 ≤ j → j ≤ quiet_ticks d → Left j d
unfolding quiet_ticks counts_left
left_of j d o l =
    split (is_still d.bus && is_calm d.arb.turn d)
    (λ h.
    let b : Bus = d.bus in
    let p = (and-eq-true_iff (is_still b) (is_calm d.arb.turn d)).0 h in
    let t : ℕ = turn_left d.arb.turn d in
    let s : ℕ = scl_left (scl_high b) b.lowscl in
    let a : ℕ = sda_left (sda_high b) b.lowsda in
    let m : ℕ = least (hold_left b.hold) t in
    let n : ℕ = least s a in
    let all : quiet_ticks d ≡ least m n = if_true (counts_left d) 0 h in
    let x : least m n ≤ m = least_first m n in
    let y : least m n ≤ n = least_second m n in (
      p.0,
      p.1,
      omega (arith, least_first (hold_left b.hold) t),
      omega (arith, least_second (hold_left b.hold) t),
      omega (arith, least_first s a),
      omega (arith, least_second s a),
    ))
    (λ h. let none : quiet_ticks d ≡ 0 = if_false (counts_left d) 0 h in absurd (omega arith))

-- a still bus, by its tests
still_if : (stands : Bool) (n : ℕ) → not stands || eqb n 0 ≡ true → stands ≡ true → n ≡ 0
still_if true n h e = eqb-true n 0 h
still_if false n h e = absurd (false≢true e)

still_unless : (runs : Bool) (n : ℕ) → runs || eqb n 0 ≡ true → runs ≡ false → n ≡ 0
still_unless true n h e = absurd (true≢false e)
still_unless false n h e = eqb-true n 0 h

still_of : (b : Bus) → is_still b ≡ true → Still b
still_of b h =
    let p = (and-eq-true_iff ((not (scl_high b) || eqb b.lowscl 0) && (not (sda_high b) || eqb b.lowsda 0)) (is_idle b || eqb b.idle 0)).0 h in
    let q = (and-eq-true_iff (not (scl_high b) || eqb b.lowscl 0) (not (sda_high b) || eqb b.lowsda 0)).0 p.0 in
    (still_if (scl_high b) b.lowscl q.0, still_if (sda_high b) b.lowsda q.1, still_unless (is_idle b) b.idle p.1)

-- ---- the bus after j ticks

-- the bus of `after_ticks`
abbrev bus_after : ℕ → ℕ → Bus → Bus
bus_after limit j b =
    counted_bus (b.hold - j) (risen limit (is_idle b) j b.idle) (risen scl_hung_limit (not (scl_high b)) j b.lowscl)
    (risen sda_hung_limit (not (sda_high b)) j b.lowsda) b

scl_at : (limit j : ℕ) (b : Bus) → eqb (b.hold - j) 0 ≡ eqb b.hold 0 → scl_high (bus_after limit j b) ≡ scl_high b
scl_at limit j b held = ap (λ (x : Bool). b.outscl && b.drivescl && x) held

idle_at : (limit j : ℕ) (b : Bus) → eqb (b.hold - j) 0 ≡ eqb b.hold 0 → is_idle (bus_after limit j b) ≡ is_idle b
idle_at limit j b held = ap (λ (x : Bool). not b.busy && x && sda_high b) (scl_at limit j b held)

-- the ticked bus, with SCL before the tick as s
abbrev ticked_at : ℕ → ℕ → Bus → Bool → Bus
ticked_at limit j b s =
    counted_bus
    (b.hold - j - 1)
    (counted_to limit (not b.busy && s && sda_high b) (risen limit (is_idle b) j b.idle))
    (counted_to scl_hung_limit (not s) (risen scl_hung_limit (not (scl_high b)) j b.lowscl))
    (counted_to sda_hung_limit (not (sda_high b)) (risen sda_hung_limit (not (sda_high b)) j b.lowsda))
    b

bus_more : (limit j : ℕ) (b : Bus) → eqb (b.hold - j) 0 ≡ eqb b.hold 0 → ticked_bus limit (bus_after limit j b) ≡ bus_after limit (j + 1) b
bus_more limit j b held =
    let hold : b.hold - j - 1 ≡ b.hold - (j + 1) = omega arith in
    let idle = risen_more limit (is_idle b) j b.idle in
    let lowscl = risen_more scl_hung_limit (not (scl_high b)) j b.lowscl in
    let lowsda = risen_more sda_hung_limit (not (sda_high b)) j b.lowsda in
    ap (ticked_at limit j b) (scl_at limit j b held) ∙ λ i. counted_bus (hold i) (idle i) (lowscl i) (lowsda i) b

after_more : (j : ℕ) (d : Device) → eqb (d.bus.hold - j) 0 ≡ eqb d.bus.hold 0 → ticked (after_ticks j d) ≡ after_ticks (j + 1) d
unfolding ticked after_ticks with_counts
after_more j d held =
    let reserve : d.arb.reserve - j - 1 ≡ d.arb.reserve - (j + 1) = omega arith in
    ap₂ (λ (x : Bus) (n : ℕ). record { side0 = d.side0; side1 = d.side1; bus = x; arb = with_reserve n d.arb; kind = d.kind })
    (bus_more (idle_limit d) j d.bus held) reserve

-- a count that does not run stays at 0
stays : (up : Bool) (top j n : ℕ) → (up ≡ false → n ≡ 0) → up ≡ false → risen top up j n ≡ 0
stays false top j n h e = h refl
stays true top j n h e = absurd (true≢false e)

off : (b : Bool) → b ≡ true → not b ≡ false
off b e = ap not e

still_at : (limit j : ℕ) (b : Bus) → eqb (b.hold - j) 0 ≡ eqb b.hold 0 → Still b → Still (bus_after limit j b)
still_at limit j b held still = (
  λ e. let high : scl_high b ≡ true = sym (scl_at limit j b held) ∙ e in
      stays (not (scl_high b)) scl_hung_limit j b.lowscl (λ x. still.0 high) (off (scl_high b) high),
  λ e. stays (not (sda_high b)) sda_hung_limit j b.lowsda (λ x. still.1 e) (off (sda_high b) e),
  λ e. let no : is_idle b ≡ false = sym (idle_at limit j b held) ∙ e in stays (is_idle b) limit j b.idle still.2 no,
)

hung_at : (limit j : ℕ) (b : Bus) → j ≤ scl_left (scl_high b) b.lowscl → j ≤ sda_left (sda_high b) b.lowsda → bus_hung (bus_after limit j b) ≡ bus_hung b
hung_at limit j b s a = ap₂ ◌||◌ (scl_hung (scl_high b) j b.lowscl s) (sda_hung (sda_high b) j b.lowsda a)

-- ---- parts 3 to 7 after j ticks

-- part 3
module _ (k : Kind) (j : ℕ) (s : Side) (reserve : ℕ) (b : Bus) (o : 1 ≤ j) (held : eqb (b.hold - j) 0 ≡ eqb b.hold 0) (still : Still b) where
  on_idle : (idle : Bool) → is_idle b ≡ idle → (spent : Bool) → eqb s.rt 0 ≡ spent
      → j ≤ (if idle then (if spent then idle_left (limit_of k) s.contr.idletimer b.idle else reserve - 1) else 65535)
      → (if spent then s.contr.idletimer && eqb (risen (limit_of k) idle j b.idle) (limit_of k) else eqb (reserve - j) 0 && idle) ≡ false
  on_idle true e true f l = idle_unexpired (limit_of k) s.contr.idletimer j b.idle o l
  on_idle true e false f l = ap (λ (x : Bool). x && true) (ne_eqb (reserve - j) 0 (λ q. omega arith))
  on_idle false e true f l =
      ap (λ (n : ℕ). s.contr.idletimer && eqb n (limit_of k)) (still.2 e) ∙ ap (λ (x : Bool). s.contr.idletimer && x) (limit_some k)
      ∙ and-false s.contr.idletimer
  on_idle false e false f l = and-false (eqb (reserve - j) 0)

  unlost : j ≤ owner_left (limit_of k) s reserve b → runs_out (limit_of k) s (reserve - j) (bus_after (limit_of k) j b) ≡ false
  unlost l =
      ap (λ (x : Bool). if eqb s.rt 0 then s.contr.idletimer && eqb (risen (limit_of k) (is_idle b) j b.idle) (limit_of k) else eqb (reserve - j) 0 && x)
      (idle_at (limit_of k) j b held)
      ∙ on_idle (is_idle b) refl (eqb s.rt 0) refl l

module _ (j : ℕ) (d : Device) (o : 1 ≤ j) (left : Left j d) where
  held : eqb (d.bus.hold - j) 0 ≡ eqb d.bus.hold 0
  held = hold_kept j d.bus.hold left.2

  still : Still d.bus
  still = still_of d.bus left.0

  loss_at : (t : Turn) → j ≤ turn_left t d → no_loss t (after_ticks j d) ≡ true
  unfolding after_ticks with_counts
  loss_at Nobody l = refl
  loss_at (Claims m g) l = refl
  loss_at (Owns m g) l = ap not (unlost d.kind j (side m d) d.arb.reserve d.bus o held still l)

  -- part 4
  cut_at : (t : Turn) → no_cut true t (after_ticks j d) ≡ true
  unfolding after_ticks with_counts
  cut_at Nobody = refl
  cut_at (Claims m g) = refl
  cut_at (Owns m g) =
      ap (λ (x : Bool). not (true && x && (side m d).contr.smbusdis)) (scl_uncut (scl_high d.bus) j d.bus.lowscl o still.0 left.4)

  -- parts 5 to 7
  calm_at : (t : Turn) → is_calm t (after_ticks j d) ≡ is_calm t d
  unfolding after_ticks with_counts
  calm_at Nobody = refl
  calm_at (Claims m g) =
      ap (λ (x : Bool). is_apart d.arb.switch && not (at_rest (side m d).port && x) && (side m d).contr.lockreq) held
  calm_at (Owns m g) = refl

  idles_at : Idles d.arb.turn (after_ticks j d)
  idles_at = (loss_at d.arb.turn left.3, cut_at d.arb.turn, calm_at d.arb.turn ∙ left.1)

-- ---- the law

-- what held of more ticks holds of fewer
fewer : (i j : ℕ) (d : Device) → i ≤ j → Left j d → Left i d
fewer i j d l h =
    let x = h.2 in let y = h.3 in let z = h.4 in let w = h.5 in (h.0, h.1, omega arith, omega arith, omega arith, omega arith)

module _ (j : ℕ) (d : Device) (left : Left (j + 1) d) where
  now : Left j d
  now = fewer j (j + 1) d (omega arith) left

  held_now : eqb (d.bus.hold - j) 0 ≡ eqb d.bus.hold 0
  held_now = hold_kept j d.bus.hold now.2

  held_next : eqb (d.bus.hold - j - 1) 0 ≡ eqb (d.bus.hold - j) 0
  held_next =
      let h : d.bus.hold - j - 1 ≡ d.bus.hold - (j + 1) = omega arith in
      ap (λ (n : ℕ). eqb n 0) h ∙ hold_kept (j + 1) d.bus.hold left.2 ∙ sym held_now

  next : ticked (after_ticks j d) ≡ after_ticks (j + 1) d
  next = after_more j d held_now

  still_now : Still (bus_after (idle_limit d) j d.bus)
  still_now = still_at (idle_limit d) j d.bus held_now (still_of d.bus left.0)

  hung_now : bus_hung (bus_after (idle_limit d) j d.bus) ≡ bus_hung d.bus
  hung_now = hung_at (idle_limit d) j d.bus now.4 now.5

  hung_next : bus_hung (ticked_bus (idle_limit d) (bus_after (idle_limit d) j d.bus)) ≡ bus_hung (bus_after (idle_limit d) j d.bus)
  hung_next = ap bus_hung (bus_more (idle_limit d) j d.bus held_now) ∙ hung_at (idle_limit d) (j + 1) d.bus left.4 left.5 ∙ sym hung_now

  idles_next : Idles d.arb.turn (ticked (after_ticks j d))
  idles_next = subst (Idles d.arb.turn) (sym next) (idles_at (j + 1) d (omega arith) left)

  lines_now : lines_byte (after_ticks j d) ≡ lines_byte d
  unfolding lines_byte after_ticks with_counts
  lines_now =
      ap₂ (λ (h s : Bool).
      worth 1 (is_asserted h d.side0.ints d.side0.mask) + worth 2 (is_asserted h d.side1.ints d.side1.mask) + worth 4 s
      + worth 8 (sda_high d.bus)) hung_now (scl_at (idle_limit d) j d.bus held_now)

  owner_now : owner_byte (after_ticks j d) ≡ owner_byte d
  unfolding owner_byte after_ticks with_counts
  owner_now = refl

  stepped : step (after_ticks j d) tick ≡ record { device = ticked (after_ticks j d); answer = answer 0 0 (after_ticks j d) }
  unfolding after_ticks with_counts
  stepped = quiet_tick (after_ticks j d) held_next still_now hung_next idles_next

  quiet_step : step (after_ticks j d) tick ≡ record { device = after_ticks (j + 1) d; answer = answer 0 0 d }
  quiet_step =
      stepped
      ∙ ap (λ (x : Device). record { device = x; answer = answer 0 0 (after_ticks j d) }) next
      ∙ λ i. record { device = after_ticks (j + 1) d; answer = record { outcome = 0; read = 0; owner = owner_now i; lines = lines_now i } }

pub quiet : Quiet
quiet d j l = quiet_step j d (left_of (j + 1) d (omega arith) (omega arith))

-- ---- in a row

pub after_none : (d : Device) → after_ticks 0 d ≡ d
unfolding after_ticks with_counts
after_none d =
    let b : Bus = d.bus in
    let reserve : d.arb.reserve - 0 ≡ d.arb.reserve = omega arith in
    let hold : b.hold - 0 ≡ b.hold = omega arith in
    let idle = risen_none (idle_limit d) (is_idle b) b.idle in
    let lowscl = risen_none scl_hung_limit (not (scl_high b)) b.lowscl in
    let lowsda = risen_none sda_hung_limit (not (sda_high b)) b.lowsda in
    λ i. record {
      side0 = d.side0;
      side1 = d.side1;
      bus = counted_bus (hold i) (idle i) (lowscl i) (lowsda i) b;
      arb = with_reserve (reserve i) d.arb;
      kind = d.kind;
    }

pub ticks_after : (n i : ℕ) (d : Device) → i + n ≤ quiet_ticks d → ticks n (after_ticks i d) ≡ after_ticks (i + n) d
unfolding ticks run_from
ticks_after zero i d l = let e : i ≡ i + 0 = omega arith in ap (λ (x : ℕ). after_ticks x d) e
ticks_after (suc n) i d l =
    let e : i + 1 + n ≡ i + suc n = omega arith in
    ap (λ (x : Stepped). ticks n x.device) (quiet d i (omega arith)) ∙ ticks_after n (i + 1) d (omega arith) ∙ ap (λ (x : ℕ). after_ticks x d) e

same_from : (j : ℕ) (d : Device) → 1 ≤ j → Left j d → Same d (after_ticks j d)
unfolding after_ticks with_counts
same_from j d o left =
    record {
      scl = scl_at (idle_limit d) j d.bus (hold_kept j d.bus.hold left.2);
      sda = refl;
      hung = hung_at (idle_limit d) j d.bus left.4 left.5;
    }

same_after : (j : ℕ) (d : Device) → j ≤ quiet_ticks d → Same d (after_ticks j d)
same_after zero d l = subst (Same d) (sym (after_none d)) (record { scl = refl; sda = refl; hung = refl })
same_after (suc j) d l = same_from (suc j) d (omega arith) (left_of (suc j) d (omega arith) l)

pub quiet_together : QuietTogether
quiet_together d j l =
    let e : 0 + j ≡ j = omega arith in
    (ap (ticks j) (sym (after_none d)) ∙ ticks_after j 0 d (omega arith) ∙ ap (λ (x : ℕ). after_ticks x d) e, same_after j d l)
