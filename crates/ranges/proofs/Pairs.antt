-- The two bytes of a PAIR against two WRITEs: what a master's own byte does to its side and what its partner's mail does are all one in
-- either order, but for bit 5 of INT_STATUS.
-- Assumes nothing.
use Prim.Native.Nat.{◌<◌}
use mathlib.Core.Path.{◌≡◌, refl, sym, ap, ap₂, ◌∙◌}
use mathlib.Core.Bool.{true≢false, false≢true, and-eq-true_iff}
use native.Mathlib.Omega.{arith}
use borrow.Author.Tests.{eqb-true}
use Rattle.std.specs.Prelude.{◌-◌, ◌/◌, ◌%◌, ◌&&◌, ◌||◌, if◌then◌else◌}
use Rattle.ranges.specs.Names.{ℕ, Bool, true, false, not, eqb, bit_and, Master, Zero, One, Turn, Nobody, Claims, Owns, Register}
use Rattle.ranges.specs.Names.{Id, Contr, Status, Rt, IntStatus, IntMask, MailLow, MailHigh, Control, Side, Bus, Device}
use Rattle.arbiter.specs.Rules.{rolls}
use Rattle.arbiter.specs.Words.{bit, partner}
use Rattle.arbiter.specs.Parts.{with_ints, with_mail, with_turn}
use Rattle.arbiter.specs.State.{owns_turn, owns}
use Rattle.arbiter.specs.Registers.{register_number, test_int, mail_full_int, raised, withdraws, mail_low, mail_high, own_written, mail_written}
use Rattle.arbiter.specs.Registers.{drives_written, turn_written}
use Rattle.arbiter.specs.Effects.{write_risen, writer_side, written_bus, written, paired}
use Rattle.arbiter.specs.Steps.{run}
use Rattle.ranges.specs.Exact.{clashes, PairAsWrites, PairEitherOrder, ClashEndsSet}
use Rattle.arbiter.proofs.Choice.{either, not_true}
use Rattle.arbiter.proofs.Every.{every, every_at}
use Rattle.arbiter.proofs.Ended.{turn_left}
use Rattle.ranges.proofs.Fields.{raised_fits, cleared_fits}
use Rattle.ranges.proofs.Outputs.{side_fits}
use Rattle.ranges.proofs.OwnByte.{own_ints, shaped, risen, writer_shaped}

-- ---- bit 5 of INT_STATUS

abbrev status_test : Bool → ℕ → Bool
status_test b i = eqb (raised mail_full_int true (raised test_int b i)) (raised test_int b (raised mail_full_int true i))

status_tests : (b : Bool) → every (status_test b) 64 ≡ true
status_tests true = refl
status_tests false = refl

abbrev clear_test : ℕ → ℕ → Bool
clear_test w i = bit 5 w || eqb (raised mail_full_int true (bit_and i (63 - w))) (bit_and (raised mail_full_int true i) (63 - w))

clear_tests : every (λ w. every (clear_test w) 64) 64 ≡ true
clear_tests = refl

low_bit : (v : ℕ) → bit 5 (v % 64) ≡ bit 5 v
low_bit v = let same : v % 64 / 32 % 2 ≡ v / 32 % 2 = omega arith in ap (λ (n : ℕ). eqb n 1) same

other : (a b : Bool) → a || b ≡ true → a ≡ false → b ≡ true
other true b t f = absurd (true≢false f)
other false b t f = t

-- the mail's bit set and one's own byte: all one in either order, unless the byte clears that bit
abbrev clears : Register → ℕ → Bool
clears r v = eqb (register_number r) 4 && bit 5 v

ints_either : (r : Register) (v i : ℕ) → i < 64 → clears r v ≡ false → raised mail_full_int true (own_ints r v i) ≡ own_ints r v (raised mail_full_int true i)
ints_either Id v i h c = refl
ints_either Contr v i h c = refl
ints_either Status v i h c = eqb-true _ _ (every_at (status_test (bit 5 v)) 64 (status_tests (bit 5 v)) i h)
ints_either Rt v i h c = refl
ints_either IntStatus v i h c =
    let w : ℕ = v % 64 in
    let low : w < 64 = omega arith in
    eqb-true _ _
    (other (bit 5 w) (eqb (raised mail_full_int true (bit_and i (63 - w))) (bit_and (raised mail_full_int true i) (63 - w)))
    (every_at (clear_test w) 64 (every_at (λ w. every (clear_test w) 64) 64 clear_tests w low) i h) (low_bit v ∙ c))
ints_either IntMask v i h c = refl
ints_either MailLow v i h c = refl
ints_either MailHigh v i h c = refl

-- ---- one side: its own byte v to r, and its partner's byte w to q

module _ (rolls g : Bool) (r : Register) (v w : ℕ) (s : Side) (h : s.ints < 64) where
  abbrev own : Side → Side
  own x = shaped (risen rolls x) g r v x

  low_either : (b : Bool) → (if b then own s else mail_low w (own s)) ≡ own (if b then s else mail_low w s)
  low_either true = refl
  low_either false = refl

  high_either : (b : Bool) → clears r v && true && not b ≡ false → (if b then own s else mail_high w (own s)) ≡ own (if b then s else mail_high w s)
  high_either true c = refl
  high_either false c =
      ap (λ (i : ℕ). with_ints i (with_mail (record { low = s.mail.low; high = w; full = true }) (own s)))
      (ints_either r v s.ints h (falls (clears r v) c))
    where
      falls : (b : Bool) → b && true && true ≡ false → b ≡ false
      falls true e = absurd (true≢false e)
      falls false e = refl

  mail_either : (q : Register) → clears r v && eqb (register_number q) 7 && not s.mail.full ≡ false
      → mail_written q w (own s) ≡ own (mail_written q w s)
  unfolding mail_written
  mail_either Id c = refl
  mail_either Contr c = refl
  mail_either Status c = refl
  mail_either Rt c = refl
  mail_either IntStatus c = refl
  mail_either IntMask c = refl
  mail_either MailLow c = low_either s.mail.full
  mail_either MailHigh c = high_either s.mail.full c

  -- own byte first, or the partner's
  side_either : (q : Register) → clears r v && eqb (register_number q) 7 && not s.mail.full ≡ false
      → mail_written q w (write_risen rolls (own_written g r v s)) ≡ write_risen rolls (own_written g r v (mail_written q w s))
  side_either q c =
      ap (mail_written q w) (writer_shaped rolls g r v s) ∙ mail_either q c ∙ sym (writer_shaped rolls g r v (mail_written q w s))

-- ---- what the partner's byte leaves: the pointer and CONTR, and whether one owns

abbrev face : Side → Register × Control
face s = (s.pointer, s.contr)

mail_face : (r : Register) (v : ℕ) (s : Side) → face (mail_written r v s) ≡ face s
unfolding mail_written
mail_face Id v s = refl
mail_face Contr v s = refl
mail_face Status v s = refl
mail_face Rt v s = refl
mail_face IntStatus v s = refl
mail_face IntMask v s = refl
mail_face MailLow v s = either (λ (x : Side). face x ≡ face s) s.mail.full (λ h. refl) (λ h. refl)
mail_face MailHigh v s = either (λ (x : Side). face x ≡ face s) s.mail.full (λ h. refl) (λ h. refl)

-- the byte of one who does not own leaves the drives
pub drives_left : (c : Bool) (r : Register) (v : ℕ) (b : Bus) → drives_written false c r v b ≡ b
unfolding drives_written
drives_left c Id v b = refl
drives_left c Contr v b = refl
drives_left c Status v b = refl
drives_left c Rt v b = refl
drives_left c IntStatus v b = refl
drives_left c IntMask v b = refl
drives_left c MailLow v b = refl
drives_left c MailHigh v b = refl

-- a byte makes the turn nobody's or leaves it
turn_either : (P : Turn → Type 0) (g : Bool) (r : Register) (v : ℕ) (t : Turn) → P Nobody → P t → P (turn_written g r v t)
unfolding turn_written
turn_either P g Id v t none left = left
turn_either P g Contr v t none left = either P (withdraws g v) (λ h. none) (λ h. left)
turn_either P g Status v t none left = left
turn_either P g Rt v t none left = left
turn_either P g IntStatus v t none left = left
turn_either P g IntMask v t none left = left
turn_either P g MailLow v t none left = left
turn_either P g MailHigh v t none left = left

-- k's byte ends nobody's grant but k's
other_owns : (k : Master) (r : Register) (v : ℕ) (t : Turn) → owns_turn (partner k) (turn_written (owns_turn k t) r v t) ≡ owns_turn (partner k) t
other_owns k r v Nobody = ap (owns_turn (partner k)) (turn_left r v Nobody)
other_owns k r v (Claims m g) = ap (owns_turn (partner k)) (turn_left r v (Claims m g))
other_owns Zero r v (Owns Zero g) = turn_either (λ (t : Turn). owns_turn One t ≡ false) true r v (Owns Zero g) refl refl
other_owns Zero r v (Owns One g) = ap (owns_turn One) (turn_left r v (Owns One g))
other_owns One r v (Owns Zero g) = ap (owns_turn Zero) (turn_left r v (Owns Zero g))
other_owns One r v (Owns One g) = turn_either (λ (t : Turn). owns_turn Zero t ≡ false) true r v (Owns One g) refl refl

-- at most one owns, so that the bus and the turn have one byte to go by: two writes of which each does nothing unless its master owns
owner_alone : {X : Type 0} (w0 w1 : Bool → X → X) → ((x : X) → w0 false x ≡ x) → ((x : X) → w1 false x ≡ x) → (t : Turn) (x : X)
    → w1 (owns_turn One t) (w0 (owns_turn Zero t) x) ≡ w0 (owns_turn Zero t) (w1 (owns_turn One t) x)
owner_alone w0 w1 left0 left1 Nobody x = left1 (w0 false x) ∙ left0 x ∙ sym (left0 (w1 false x) ∙ left1 x)
owner_alone w0 w1 left0 left1 (Claims m g) x = left1 (w0 false x) ∙ left0 x ∙ sym (left0 (w1 false x) ∙ left1 x)
owner_alone w0 w1 left0 left1 (Owns Zero g) x = left1 (w0 true x) ∙ ap (w0 true) (sym (left1 x))
owner_alone w0 w1 left0 left1 (Owns One g) x = ap (w1 true) (left0 x) ∙ sym (left0 (w1 true x))

-- ---- both

-- d after the WRITE of k's byte v, as the partner's byte meets it
module _ (v0 v1 : ℕ) (d : Device) (h0 : d.side0.ints < 64) (h1 : d.side1.ints < 64) where
  abbrev p0 : Register
  p0 = d.side0.pointer

  abbrev p1 : Register
  p1 = d.side1.pointer

  abbrev t : Turn
  t = d.arb.turn

  -- master 0's first
  zero_first : clashes One v1 d ≡ false → paired v0 v1 d ≡ written One v1 (written Zero v0 d)
  unfolding paired written
  zero_first c =
      let x : Side = mail_written p0 v0 d.side1 in
      let f : face x ≡ face d.side1 = mail_face p0 v0 d.side1 in
      let o : owns_turn One (turn_written (owns Zero d) p0 v0 t) ≡ owns One d = other_owns Zero p0 v0 t in
      let same = ap₂ (λ (g : Bool) (r : Register). write_risen (rolls d) (own_written g r v1 x)) (sym o) (ap (λ y. y.0) (sym f)) in
      λ i. record {
        side0 = mail_written (sym f i).0 v1 (writer_side Zero v0 d);
        side1 = (side_either (rolls d) (owns One d) p1 v1 v0 d.side1 h1 p0 c ∙ same) i;
        bus = drives_written (sym o i) (sym f i).1.busconnect (sym f i).0 v1 (written_bus Zero v0 d d.bus);
        arb = with_turn (turn_written (sym o i) (sym f i).0 v1 (turn_written (owns Zero d) p0 v0 t)) d.arb;
        kind = d.kind;
      }

  -- master 1's first
  one_first : clashes Zero v0 d ≡ false → paired v0 v1 d ≡ written Zero v0 (written One v1 d)
  unfolding paired written
  one_first c =
      let x : Side = mail_written p1 v1 d.side0 in
      let f : face x ≡ face d.side0 = mail_face p1 v1 d.side0 in
      let o : owns_turn Zero (turn_written (owns One d) p1 v1 t) ≡ owns Zero d = other_owns One p1 v1 t in
      let c0 : Bool = d.side0.contr.busconnect in
      let c1 : Bool = d.side1.contr.busconnect in
      let bus =
      owner_alone (λ g b. drives_written g c0 p0 v0 b) (λ g b. drives_written g c1 p1 v1 b) (drives_left c0 p0 v0) (drives_left c1 p1 v1) t d.bus
      ∙ λ i. drives_written (sym o i) (sym f i).1.busconnect (sym f i).0 v0 (written_bus One v1 d d.bus) in
      let turn =
      owner_alone (λ g u. turn_written g p0 v0 u) (λ g u. turn_written g p1 v1 u) (turn_left p0 v0) (turn_left p1 v1) t t
      ∙ λ i. turn_written (sym o i) (sym f i).0 v0 (turn_written (owns One d) p1 v1 t) in
      let same = ap₂ (λ (g : Bool) (r : Register). write_risen (rolls d) (own_written g r v0 x)) (sym o) (ap (λ y. y.0) (sym f)) in
      λ i. record {
        side0 = (side_either (rolls d) (owns Zero d) p0 v0 v1 d.side0 h0 p1 c ∙ same) i;
        side1 = mail_written (sym f i).0 v0 (writer_side One v1 d);
        bus = bus i;
        arb = with_turn (turn i) d.arb;
        kind = d.kind;
      }

pub pair_as_writes : PairAsWrites
pair_as_writes k rs v0 v1 =
    let d : Device = run k rs in
    let h0 = (side_fits k rs Zero).0 in
    let h1 = (side_fits k rs One).0 in
    (zero_first v0 v1 d h0 h1, one_first v0 v1 d h0 h1)

pub pair_either_order : PairEitherOrder
pair_either_order k rs v0 v1 c0 c1 = let both = pair_as_writes k rs v0 v1 in sym (both.0 c1) ∙ both.1 c0

-- ---- a clash

own_fits : (r : Register) (v i : ℕ) → i < 64 → own_ints r v i < 64
own_fits Id v i h = h
own_fits Contr v i h = h
own_fits Status v i h = raised_fits test_int refl refl (bit 5 v) i h
own_fits Rt v i h = h
own_fits IntStatus v i h = cleared_fits v i h
own_fits IntMask v i h = h
own_fits MailLow v i h = h
own_fits MailHigh v i h = h

set_tests : every (λ i. bit 5 (raised mail_full_int true i)) 64 ≡ true
set_tests = refl

-- mail that fills the box sets the bit, whatever one's own byte was
mail_sets : (q : Register) (w : ℕ) (s : Side) → s.ints < 64 → eqb (register_number q) 7 ≡ true → s.mail.full ≡ false
    → bit 5 (mail_written q w s).ints ≡ true
unfolding mail_written
mail_sets Id w s h q f = absurd (false≢true q)
mail_sets Contr w s h q f = absurd (false≢true q)
mail_sets Status w s h q f = absurd (false≢true q)
mail_sets Rt w s h q f = absurd (false≢true q)
mail_sets IntStatus w s h q f = absurd (false≢true q)
mail_sets IntMask w s h q f = absurd (false≢true q)
mail_sets MailLow w s h q f = absurd (false≢true q)
mail_sets MailHigh w s h q f =
    either (λ (x : Side). bit 5 x.ints ≡ true) s.mail.full (λ e. absurd (true≢false (sym e ∙ f)))
    (λ e. every_at (λ i. bit 5 (raised mail_full_int true i)) 64 set_tests s.ints h)

clash_sets : (rolls g : Bool) (r q : Register) (v w : ℕ) (s : Side) → s.ints < 64
    → clears r v && eqb (register_number q) 7 && not s.mail.full ≡ true
    → bit 5 (mail_written q w (write_risen rolls (own_written g r v s))).ints ≡ true
clash_sets rolls g r q v w s h c =
    let outer = (and-eq-true_iff (clears r v && eqb (register_number q) 7) (not s.mail.full)).0 c in
    let inner = (and-eq-true_iff (clears r v) (eqb (register_number q) 7)).0 outer.0 in
    ap (λ (x : Side). bit 5 (mail_written q w x).ints) (writer_shaped rolls g r v s)
    ∙ mail_sets q w (shaped (risen rolls s) g r v s) (own_fits r v s.ints h) inner.1 (not_true s.mail.full outer.1)

pub clash_ends_set : ClashEndsSet
unfolding paired
clash_ends_set k rs v0 v1 =
    let d : Device = run k rs in (
      clash_sets (rolls d) (owns Zero d) d.side0.pointer d.side1.pointer v0 v1 d.side0 (side_fits k rs Zero).0,
      clash_sets (rolls d) (owns One d) d.side1.pointer d.side0.pointer v1 v0 d.side1 (side_fits k rs One).0,
    )
