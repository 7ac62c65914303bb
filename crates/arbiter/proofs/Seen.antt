-- What the answers and the registers show of owner and connection is what the device has.
-- Assumes nothing.
use Prim.Native.Nat.{◌<◌}
use native.Mathlib.Omega.{arith}
use mathlib.Core.Path.{◌≡◌, refl, sym, ap, ap₂, ◌∙◌}
use mathlib.Core.Bool.{Bool, true, false, not, ◌&&◌, ◌||◌, beq, false≢true, and-eq-true_iff, and-true, and-false}
use Rattle.std.specs.Prelude.{◌+◌, ◌*◌}
use Rattle.arbiter.specs.Types.{ℕ, eqb, ltb, Master, Zero, One, Sole, Priority, LastGranted, Turn, Nobody, Claims, Owns, Contr, Status}
use Rattle.arbiter.specs.Types.{Control, Side, Bus, Switch, Apart, Initialising, Closed, Arbitration, Device, Raw, Stepped}
use Rattle.arbiter.specs.Words.{bit, worth, byte_of, same_master, partner, side}
use Rattle.arbiter.specs.State.{owns_turn, owns, closed_for, is_initialising, scl_high, sda_high, bus_hung}
use Rattle.arbiter.specs.Registers.{contr_byte, status_byte, register_byte, reads_at}
use Rattle.arbiter.specs.Steps.{turn_ground, master_number, owner_number, switch_number, owner_byte, taken, refused, step, run}
use Rattle.arbiter.specs.AuditWords.{next}
use Rattle.arbiter.specs.Audit.{owner_bits, switch_bits, AnswersShow, AnswersShowOne, RegistersShow, RegistersShowOne}
use Rattle.arbiter.specs.Grounds.{ground_bits, ground_shown}
use Rattle.arbiter.proofs.Bitwise.{same}
use Rattle.arbiter.proofs.Every.{both, both_at}
use Rattle.arbiter.proofs.Choice.{split, same_self}
use Rattle.arbiter.proofs.Cases.{step_cases}
use Rattle.arbiter.proofs.Connected.{serves, asks_on, partner_not, serves_owner, step_served, all_served}

-- ---- the answers

-- the third byte of an answer is made of the device after the step, accepted or refused
abbrev ShowsItself : Stepped → Type 0
ShowsItself s = s.answer.owner ≡ owner_byte s.device

step_shows : (d : Device) (r : Raw) → ShowsItself (step d r)
unfolding taken refused
step_shows d r = step_cases ShowsItself d r (λ e x s. refl) (λ n u. refl)

-- an owner's number fits two bits
owner_below : (t : Turn) → owner_number t < 4
owner_below Nobody = omega arith
owner_below (Claims m g) = omega arith
owner_below (Owns Zero g) = omega arith
owner_below (Owns One g) = omega arith

-- the byte of a turn and a switch
abbrev byte_for : Turn → Switch → ℕ
byte_for t w = owner_number t + 4 * switch_number w + worth 16 (is_initialising w) + 32 * turn_ground t

-- the switch adds fours, the initialisation a sixteen, and the ground thirty-twos
bits_of : (t : Turn) (w : Switch) → (owner_bits (byte_for t w) ≡ owner_number t) × (switch_bits (byte_for t w) ≡ switch_number w)
bits_of t Apart = omega (arith, owner_below t)
bits_of t (Initialising k n) = omega (arith, owner_below t)
bits_of t (Closed Zero) = omega (arith, owner_below t)
bits_of t (Closed One) = omega (arith, owner_below t)

-- so an answer shows owner and connected one as they are after the step
shown_bits : (d : Device) (r : Raw) → let b : ℕ = (step d r).answer.owner in let a : Arbitration = (next d r).arb in
    (owner_bits b ≡ owner_number a.turn) × (switch_bits b ≡ switch_number a.switch)
unfolding owner_byte
shown_bits d r =
    let a : Arbitration = (next d r).arb in
    let both_bits = bits_of a.turn a.switch in
    (ap owner_bits (step_shows d r) ∙ both_bits.0, ap switch_bits (step_shows d r) ∙ both_bits.1)

-- and its ground
ground_below : (t : Turn) → turn_ground t < 4
ground_below Nobody = omega arith
ground_below (Claims m Sole) = omega arith
ground_below (Claims m Priority) = omega arith
ground_below (Claims m LastGranted) = omega arith
ground_below (Owns m Sole) = omega arith
ground_below (Owns m Priority) = omega arith
ground_below (Owns m LastGranted) = omega arith

ground_of : (t : Turn) (w : Switch) → ground_bits (byte_for t w) ≡ turn_ground t
ground_of t Apart = omega (arith, owner_below t, ground_below t)
ground_of t (Initialising k n) = omega (arith, owner_below t, ground_below t)
ground_of t (Closed Zero) = omega (arith, owner_below t, ground_below t)
ground_of t (Closed One) = omega (arith, owner_below t, ground_below t)

pub ground_shown_lem : (d : Device) (r : Raw) → ground_shown r d ≡ turn_ground (next d r).arb.turn
unfolding owner_byte
ground_shown_lem d r = ap ground_bits (step_shows d r) ∙ ground_of (next d r).arb.turn (next d r).arb.switch

-- a master is told by its number, and 0 is nobody's
no_number : (m : Master) → eqb 0 (master_number m) ≡ false
no_number Zero = refl
no_number One = refl

number_of : (m k : Master) → eqb (master_number k) (master_number m) ≡ same_master m k
number_of Zero Zero = refl
number_of Zero One = refl
number_of One Zero = refl
number_of One One = refl

-- no number but the owner's own is the owner's
owner_told : (m : Master) (t : Turn) → eqb (owner_number t) (master_number m) ≡ owns_turn m t
owner_told m Nobody = no_number m
owner_told m (Claims k g) = no_number m
owner_told m (Owns k g) = number_of m k

-- and so for the connected one
connected_told : (m : Master) (w : Switch) → eqb (switch_number w) (master_number m) ≡ closed_for m w
connected_told m Apart = no_number m
connected_told m (Initialising k n) = no_number m
connected_told m (Closed k) = number_of m k

pub answers_show : AnswersShow
answers_show k rs r m =
    let a : Arbitration = (next (run k rs) r).arb in
    let bits = shown_bits (run k rs) r in (
      ap (λ (x : ℕ). eqb x (master_number m)) bits.0 ∙ owner_told m a.turn,
      ap (λ (x : ℕ). eqb x (master_number m)) bits.1 ∙ connected_told m a.switch,
    )

-- an owner's number is below 3
owner_low : (t : Turn) → ltb (owner_number t) 3 ≡ true
owner_low Nobody = refl
owner_low (Claims k g) = refl
owner_low (Owns Zero g) = refl
owner_low (Owns One g) = refl

-- where the switch serves only an owner, its number is 0 or the owner's
abbrev one_number_lem : ℕ → ℕ → Bool
one_number_lem s o = eqb s 0 || eqb s o

one_number : (t : Turn) (w : Switch) → ((m : Master) → serves m w ≡ true → owns_turn m t ≡ true) → one_number_lem (switch_number w) (owner_number t) ≡ true
one_number t Apart h = refl
one_number t (Initialising k n) h = refl
one_number Nobody (Closed k) h = absurd (false≢true (h k (same_self k)))
one_number (Claims m g) (Closed k) h = absurd (false≢true (h k (same_self k)))
one_number (Owns Zero g) (Closed Zero) h = refl
one_number (Owns Zero g) (Closed One) h = absurd (false≢true (h One refl))
one_number (Owns One g) (Closed Zero) h = absurd (false≢true (h Zero refl))
one_number (Owns One g) (Closed One) h = refl

pub answers_show_one : AnswersShowOne
answers_show_one k rs r =
    let d : Device = next (run k rs) r in
    let bits = shown_bits (run k rs) r in
    ap₂ (λ (s o : ℕ). ltb o 3 && one_number_lem s o) bits.1 bits.0
    ∙ ap₂ (λ (x y : Bool). x && y) (owner_low d.arb.turn)
    (one_number d.arb.turn d.arb.switch λ m s. serves_owner d (step_served (run k rs) r (all_served k rs)) m s)

-- ---- the registers

-- bits 2, 1 and 0 of a byte are the last three that it is made of: a test at all truth values
abbrev three_bits : Bool → Bool → Bool → Bool → Bool → Bool → Bool → Bool → Bool
three_bits b7 b6 b5 b4 b3 b2 b1 b0 =
    let v : ℕ = byte_of b7 b6 b5 b4 b3 b2 b1 b0 in
    beq (bit 2 v) b2 && (beq (bit 1 v) b1 && beq (bit 0 v) b0)

all_bits : both (λ b7. both (λ b6. both (λ b5. both (λ b4. both (λ b3. both (λ b2. both (λ b1. both (λ b0. three_bits b7 b6 b5 b4 b3 b2 b1 b0)))))))) ≡ true
unfolding both byte_of
all_bits = refl

-- and so for each byte
three_bits_lem : (b7 b6 b5 b4 b3 b2 b1 b0 : Bool) → let v : ℕ = byte_of b7 b6 b5 b4 b3 b2 b1 b0 in (bit 2 v ≡ b2) × (bit 1 v ≡ b1) × (bit 0 v ≡ b0)
three_bits_lem b7 b6 b5 b4 b3 b2 b1 b0 =
    let v : ℕ = byte_of b7 b6 b5 b4 b3 b2 b1 b0 in
    let t = both_at _ (both_at _ (both_at _ (both_at _ (both_at _ (both_at _ (both_at _ (both_at _ all_bits b7) b6) b5) b4) b3) b2) b1) b0 in
    let t210 = (and-eq-true_iff (beq (bit 2 v) b2) (beq (bit 1 v) b1 && beq (bit 0 v) b0)).0 t in
    let t10 = (and-eq-true_iff (beq (bit 1 v) b1) (beq (bit 0 v) b0)).0 t210.1 in
    (same (bit 2 v) b2 t210.0, same (bit 1 v) b1 t10.0, same (bit 0 v) b0 t10.1)

-- CONTR shows the grant in bit 1, and BUS_CONNECT in bit 2
contr_shows : (m : Master) (d : Device) → let v : ℕ = reads_at Contr m d in (bit 2 v ≡ asks_on m d) × (bit 1 v ≡ owns m d)
unfolding register_byte contr_byte
contr_shows m d =
    let c : Control = (side m d).contr in
    let t = three_bits_lem c.priority c.smbusdis c.idletimer c.swrst c.businit c.busconnect (owns m d) c.lockreq in
    (t.0, t.1)

-- STATUS shows the partner's grant in bit 0
status_shows : (m : Master) (d : Device) → bit 0 (reads_at Status m d) ≡ owns (partner m) d
unfolding register_byte status_byte
status_shows m d =
    let own : Side = side m d in
    let other : Side = side (partner m) d in
    let b : Bus = d.bus in
    (three_bits_lem (sda_high b) (scl_high b) false own.mail.full (not other.mail.full) (bus_hung b) d.arb.initfail (owns (partner m) d)).2

-- the partner's partner is oneself
back : (m : Master) → partner (partner m) ≡ m
back Zero = refl
back One = refl

-- a switch is closed for whom it serves without initialising
closed_as : (m : Master) (w : Switch) → closed_for m w ≡ serves m w && not (is_initialising w)
closed_as m Apart = refl
closed_as m (Initialising k n) = sym (and-false (same_master m k))
closed_as m (Closed k) = sym (and-true (same_master m k))

pub registers_show : RegistersShow
registers_show k rs m =
    let d : Device = run k rs in
    let done : Bool = not (is_initialising d.arb.switch) in
    let contr = contr_shows m d in (
      closed_as m d.arb.switch ∙ ap (λ (x : Bool). x && done) (all_served k rs m ∙ sym (ap₂ ◌&&◌ contr.1 contr.0)),
      contr.1,
      status_shows (partner m) d ∙ ap (λ (k : Master). owns k d) (back m),
    )

-- the two masters never own at once
one_owner : (m : Master) (t : Turn) → owns_turn m t && owns_turn (partner m) t ≡ false
one_owner m t = split (owns_turn m t) (λ h. ap₂ ◌&&◌ h (partner_not m t h)) (λ h. ap (λ (o : Bool). o && owns_turn (partner m) t) h)

pub registers_show_one : RegistersShowOne
registers_show_one k rs m =
    let d : Device = run k rs in
    let t : Turn = d.arb.turn in (
      ap₂ ◌&&◌ (contr_shows m d).1 (contr_shows (partner m) d).1 ∙ one_owner m t,
      ap₂ ◌&&◌ (status_shows m d) (status_shows (partner m) d) ∙ one_owner (partner m) t,
    )
