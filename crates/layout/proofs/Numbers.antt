-- Every field's number comes back from its byte, and is no more than its top; and a byte up to the top comes back from its field.
-- Assumes nothing.
use Prim.Native.Nat.{ℕ, suc, ◌+◌, ◌*◌, ◌/◌, ◌%◌, ◌-◌, ◌≤◌, ◌<◌}
use mathlib.Core.Path.{◌≡◌, refl, sym, ap, ◌∙◌}
use mathlib.Core.Bool.{Bool, true, false, not, ◌&&◌, ◌||◌, beq, and-eq-true_iff}
use native.Mathlib.Omega.{arith}
use lib.Dec.{eqb, leb}
use borrow.Author.Tests.{lt-ltb, le-ltb, ne_eqb, eqb-true, leb-true}
use Rattle.arbiter.specs.Words.{bit, worth, byte_of}
use Rattle.arbiter.specs.Registers.{register_number, contr_byte, control_of}
use Rattle.arbiter.specs.Effects.{register_at}
use Rattle.arbiter.specs.Traces.{kind_number, kind_of}
use Rattle.ranges.specs.Ranges.{port_number, last_number, turn_number, state_number, pulses}
use Rattle.arbiter.specs.declared.Master.TheVariants.{Zero, One}
use Rattle.arbiter.specs.declared.Ground.TheVariants.{Sole, Priority, LastGranted}
use Rattle.arbiter.specs.declared.Register.{Register}
use Rattle.arbiter.specs.declared.Register.TheVariants.{Id, Contr, Status, Rt, IntStatus, IntMask, MailLow, MailHigh}
use Rattle.arbiter.specs.declared.Port.{Port}
use Rattle.arbiter.specs.declared.Port.TheVariants.{Rest, Open, Writing}
use Rattle.arbiter.specs.declared.Turn.{Turn}
use Rattle.arbiter.specs.declared.Turn.TheVariants.{Nobody, Claims, Owns}
use Rattle.std.specs.Prelude.{Option, Some, None}
use Rattle.arbiter.specs.declared.Master.{Master}
use Rattle.arbiter.specs.declared.Switch.{Switch}
use Rattle.arbiter.specs.declared.Switch.TheVariants.{Apart, Initialising, Closed}
use Rattle.arbiter.specs.declared.Kind.{Kind}
use Rattle.arbiter.specs.declared.Kind.TheVariants.{Pca9641, Tpt29641}
use Rattle.arbiter.specs.declared.Control.{Control}
use Rattle.arbiter.proofs.Every.{every, every_at, both, both_at}
use Rattle.arbiter.proofs.Bitwise.{same}
use Rattle.arbiter.proofs.Choice.{not_true}
use Rattle.layout.specs.Numbers.{port_of, last_of, turn_of, switch_of}

-- facts one after the other
infixr 10 ◌also◌
pub ◌also◌ : {A B : Type 0} → A → B → A × B
a also b = (a, b)

-- ---- from the field to its byte and back, where the byte is in range too

pub register_back : (r : Register) → (register_at (register_number r) ≡ r) × (leb (register_number r) 7 ≡ true)
register_back Id = (refl, refl)
register_back Contr = (refl, refl)
register_back Status = (refl, refl)
register_back Rt = (refl, refl)
register_back IntStatus = (refl, refl)
register_back IntMask = (refl, refl)
register_back MailLow = (refl, refl)
register_back MailHigh = (refl, refl)

pub port_back : (p : Port) → (port_of (port_number p) ≡ p) × (leb (port_number p) 2 ≡ true)
port_back Rest = (refl, refl)
port_back Open = (refl, refl)
port_back Writing = (refl, refl)

pub turn_back : (t : Turn) → (turn_of (turn_number t) ≡ t) × (leb (turn_number t) 12 ≡ true)
turn_back Nobody = (refl, refl)
turn_back (Claims Zero Sole) = (refl, refl)
turn_back (Claims Zero Priority) = (refl, refl)
turn_back (Claims Zero LastGranted) = (refl, refl)
turn_back (Claims One Sole) = (refl, refl)
turn_back (Claims One Priority) = (refl, refl)
turn_back (Claims One LastGranted) = (refl, refl)
turn_back (Owns Zero Sole) = (refl, refl)
turn_back (Owns Zero Priority) = (refl, refl)
turn_back (Owns Zero LastGranted) = (refl, refl)
turn_back (Owns One Sole) = (refl, refl)
turn_back (Owns One Priority) = (refl, refl)
turn_back (Owns One LastGranted) = (refl, refl)

pub last_back : (l : Option Master) → (last_of (last_number l) ≡ l) × (leb (last_number l) 2 ≡ true)
last_back None = (refl, refl)
last_back (Some Zero) = (refl, refl)
last_back (Some One) = (refl, refl)

pub kind_back : (k : Kind) → (kind_of (kind_number k) ≡ k) × (leb (kind_number k) 1 ≡ true)
kind_back Pca9641 = (refl, refl)
kind_back Tpt29641 = (refl, refl)

pub flag_back : (f : Bool) → (eqb (worth 1 f) 1 ≡ f) × (leb (worth 1 f) 1 ≡ true)
flag_back true = (refl, refl)
flag_back false = (refl, refl)

-- the switch where its PULSEs are in range
zero_at : (n : ℕ) → n < 9 → switch_of (3 + n) ≡ Initialising Zero n
zero_at n h =
    let back : 3 + n - 3 ≡ n = omega arith in
    simp (
      ne_eqb (3 + n) 0 (λ e. omega arith),
      ne_eqb (3 + n) 1 (λ e. omega arith),
      ne_eqb (3 + n) 2 (λ e. omega arith),
      lt-ltb (3 + n) 12 (omega arith),
      back,
    )

one_at : (n : ℕ) → n < 9 → switch_of (12 + n) ≡ Initialising One n
one_at n h =
    let back : 12 + n - 12 ≡ n = omega arith in
    simp (
      ne_eqb (12 + n) 0 (λ e. omega arith),
      ne_eqb (12 + n) 1 (λ e. omega arith),
      ne_eqb (12 + n) 2 (λ e. omega arith),
      le-ltb (12 + n) 12 (omega arith),
      back,
    )

pub switch_back : (w : Switch) → pulses w < 9 → (switch_of (state_number w) ≡ w) × (state_number w ≤ 20)
switch_back Apart h = (refl, omega arith)
switch_back (Closed Zero) h = (refl, omega arith)
switch_back (Closed One) h = (refl, omega arith)
switch_back (Initialising Zero n) h = (zero_at n h, omega arith)
switch_back (Initialising One n) h = (one_at n h, omega arith)

-- ---- CONTR: each stored bit of its byte, by tests that antt computes at all values

abbrev Test : Type 0
Test = Bool → Bool → Bool → Bool → Bool → Bool → Bool → Bool

abbrev always : Test → Bool
always t = both (λ b7. both (λ b6. both (λ b5. both (λ b4. both (λ b3. both (λ b2. both (λ b0. t b7 b6 b5 b4 b3 b2 b0)))))))

always_at : (t : Test) → always t ≡ true → (c : Control)
    → t c.priority c.smbusdis c.idletimer c.swrst c.businit c.busconnect c.lockreq ≡ true
always_at t h c =
    let upper = both_at _ (both_at _ (both_at _ (both_at _ h c.priority) c.smbusdis) c.idletimer) c.swrst in
    both_at _ (both_at _ (both_at _ upper c.businit) c.busconnect) c.lockreq

-- bit k of the byte is the one that t picks
abbrev bit_is : ℕ → Test → Test
bit_is k t b7 b6 b5 b4 b3 b2 b0 = beq (bit k (byte_of b7 b6 b5 b4 b3 b2 false b0)) (t b7 b6 b5 b4 b3 b2 b0)

-- a byte with bit 1 clear
abbrev clear : ℕ → Bool
clear v = leb v 255 && not (bit 1 v)

pub contr_back : (c : Control) → (control_of (contr_byte false c) ≡ c) × (clear (contr_byte false c) ≡ true)
unfolding contr_byte both byte_of
contr_back c =
    let v : ℕ = contr_byte false c in
    let back : control_of v ≡ c = simp (
      same (bit 7 v) c.priority (always_at (bit_is 7 (λ b7 b6 b5 b4 b3 b2 b0. b7)) refl c),
      same (bit 6 v) c.smbusdis (always_at (bit_is 6 (λ b7 b6 b5 b4 b3 b2 b0. b6)) refl c),
      same (bit 5 v) c.idletimer (always_at (bit_is 5 (λ b7 b6 b5 b4 b3 b2 b0. b5)) refl c),
      same (bit 4 v) c.swrst (always_at (bit_is 4 (λ b7 b6 b5 b4 b3 b2 b0. b4)) refl c),
      same (bit 3 v) c.businit (always_at (bit_is 3 (λ b7 b6 b5 b4 b3 b2 b0. b3)) refl c),
      same (bit 2 v) c.busconnect (always_at (bit_is 2 (λ b7 b6 b5 b4 b3 b2 b0. b2)) refl c),
      same (bit 0 v) c.lockreq (always_at (bit_is 0 (λ b7 b6 b5 b4 b3 b2 b0. b0)) refl c),
    ) in
    (back, always_at (λ b7 b6 b5 b4 b3 b2 b0. clear (byte_of b7 b6 b5 b4 b3 b2 false b0)) refl c)

-- ---- from a byte in range to its field and back, by a test that antt computes at all of them

up_to : (f : ℕ → ℕ) (top : ℕ) → every (λ v. eqb (f v) v) (suc top) ≡ true → (v : ℕ) → leb v top ≡ true → f v ≡ v
up_to f top t v h =
    let fits : v ≤ top = leb-true v top h in
    eqb-true (f v) v (every_at (λ v. eqb (f v) v) (suc top) t v (omega arith))

pub register_same : (v : ℕ) → leb v 7 ≡ true → register_number (register_at v) ≡ v
register_same v h = up_to (λ v. register_number (register_at v)) 7 refl v h

pub port_same : (v : ℕ) → leb v 2 ≡ true → port_number (port_of v) ≡ v
port_same v h = up_to (λ v. port_number (port_of v)) 2 refl v h

pub turn_same : (v : ℕ) → leb v 12 ≡ true → turn_number (turn_of v) ≡ v
turn_same v h = up_to (λ v. turn_number (turn_of v)) 12 refl v h

pub last_same : (v : ℕ) → leb v 2 ≡ true → last_number (last_of v) ≡ v
last_same v h = up_to (λ v. last_number (last_of v)) 2 refl v h

pub kind_same : (v : ℕ) → leb v 1 ≡ true → kind_number (kind_of v) ≡ v
kind_same v h = up_to (λ v. kind_number (kind_of v)) 1 refl v h

pub flag_same : (v : ℕ) → leb v 1 ≡ true → worth 1 (eqb v 1) ≡ v
flag_same v h = up_to (λ v. worth 1 (eqb v 1)) 1 refl v h

pub switch_same : (v : ℕ) → leb v 20 ≡ true → state_number (switch_of v) ≡ v
switch_same v h = up_to (λ v. state_number (switch_of v)) 20 refl v h

-- and its PULSEs are in range
pub switch_pulses : (v : ℕ) → leb v 20 ≡ true → leb (pulses (switch_of v)) 8 ≡ true
switch_pulses v h =
    let fits : v ≤ 20 = leb-true v 20 h in
    every_at (λ v. leb (pulses (switch_of v)) 8) 21 refl v (omega arith)

contr_tests : every (λ v. bit 1 v || eqb (contr_byte false (control_of v)) v) 256 ≡ true
unfolding contr_byte byte_of
contr_tests = refl

pub contr_same : (v : ℕ) → leb v 255 && not (bit 1 v) ≡ true → contr_byte false (control_of v) ≡ v
contr_same v h =
    let two = (and-eq-true_iff (leb v 255) (not (bit 1 v))).0 h in
    let fits : v ≤ 255 = leb-true v 255 two.0 in
    let t = every_at (λ v. bit 1 v || eqb (contr_byte false (control_of v)) v) 256 contr_tests v (omega arith) in
    eqb-true _ v (sym (ap (λ (x : Bool). x || eqb (contr_byte false (control_of v)) v) (not_true (bit 1 v) two.1)) ∙ t)

-- ---- a count of two bytes

pub word_back : (n : ℕ) → n % 256 + 256 * (n / 256) ≡ n
word_back n = omega arith

pub low_same : (lo hi : ℕ) → leb lo 255 ≡ true → (lo + 256 * hi) % 256 ≡ lo
low_same lo hi h = let fits : lo ≤ 255 = leb-true lo 255 h in omega arith

pub high_same : (lo hi : ℕ) → leb lo 255 ≡ true → (lo + 256 * hi) / 256 ≡ hi
high_same lo hi h = let fits : lo ≤ 255 = leb-true lo 255 h in omega arith
