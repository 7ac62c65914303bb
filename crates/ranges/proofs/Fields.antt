-- What is to be shown of the numbers of a device: that each is in its range (specs/Ranges.antt), as a record of bounds and as the test of the list of fields.
-- Assumes nothing.
use Prim.Native.Nat.{◌<◌}
use mathlib.Core.Path.{◌≡◌, refl, ap₂}
use mathlib.Core.Bool.{Bool, true, false, ◌&&◌, and-eq-true_iff}
use native.Mathlib.Omega.{arith}
use borrow.Author.Tests.{ltb-true, lt-ltb}
use Rattle.std.specs.Prelude.{◌+◌, ◌-◌, ◌%◌, ◌∷◌}
use Rattle.ranges.specs.Names.{ℕ, List, [], ltb, bit_and, Master, Zero, One, Mailbox, Side, Bus, Arbitration, Device}
use Rattle.arbiter.specs.Rules.{idle_limit}
use Rattle.arbiter.specs.Words.{partner, side, device}
use Rattle.arbiter.specs.Parts.{with_side, with_ints}
use Rattle.arbiter.specs.Registers.{raised, cleared}
use Rattle.ranges.specs.Ranges.{Field, fits, pulses, narrow, all_fit}
use Rattle.arbiter.proofs.Every.{every, every_at}

-- ---- the tests of a list, one by one

abbrev pub AllFit : List Field → Device → Type 0
AllFit [] d = Unit {0}
AllFit (f ∷ fs) d = (f.value d < f.top d.kind + 1) × AllFit fs d

pub fit_all : (fs : List Field) (d : Device) → AllFit fs d → all_fit fs d ≡ true
unfolding all_fit
fit_all [] d h = refl
fit_all (f ∷ fs) d h = ap₂ ◌&&◌ (lt-ltb (f.value d) (f.top d.kind + 1) h.0) (fit_all fs d h.1)

pub all_fit_lem : (fs : List Field) (d : Device) → all_fit fs d ≡ true → AllFit fs d
unfolding all_fit
all_fit_lem [] d h = tt
all_fit_lem (f ∷ fs) d h =
    let two = (and-eq-true_iff (fits f d) (all_fit fs d)).0 h in
    (ltb-true (f.value d) (f.top d.kind + 1) two.0, all_fit_lem fs d two.1)

-- ---- interrupts

abbrev pub raised_test : ℕ → Bool → ℕ → Bool
raised_test this x i = ltb (raised this x i) 64

pub raised_fits : (this : ℕ) → every (raised_test this true) 64 ≡ true → every (raised_test this false) 64 ≡ true
    → (x : Bool) (i : ℕ) → i < 64 → raised this x i < 64
raised_fits this t f true i h = ltb-true (raised this true i) 64 (every_at (raised_test this true) 64 t i h)
raised_fits this t f false i h = ltb-true (raised this false i) 64 (every_at (raised_test this false) 64 f i h)

abbrev cleared_test : ℕ → ℕ → Bool
cleared_test w i = ltb (bit_and i (63 - w)) 64

cleared_tests : every (λ w. every (cleared_test w) 64) 64 ≡ true
cleared_tests = refl

pub cleared_fits : (v i : ℕ) → i < 64 → cleared v i < 64
cleared_fits v i h =
    let w : v % 64 < 64 = omega arith in
    ltb-true (cleared v i) 64 (every_at (cleared_test (v % 64)) 64 (every_at (λ w. every (cleared_test w) 64) 64 cleared_tests (v % 64) w) i h)

-- ---- the ranges as they are proved: B says of a field that holds a byte as it was written that it is one, or nothing

abbrev pub BusOk : ℕ → Bus → Type 0
BusOk limit b = (b.hold < 36) × (b.idle < limit + 1) × (b.lowscl < 501) × (b.lowsda < 502)

module _ (B : ℕ → Type 0) where
  abbrev pub MailOk : Mailbox → Type 0
  MailOk b = B b.low × B b.high

  abbrev pub SideOk : Side → Type 0
  SideOk s = (s.ints < 64) × (s.mask < 128) × B s.rt × MailOk s.mail

  abbrev pub ArbOk : Arbitration → Type 0
  ArbOk a = (pulses a.switch < 9) × B a.reserve

  pub record DeviceFits (d : Device) : Type 0 where
    pub zero : SideOk d.side0
    pub one : SideOk d.side1
    pub bus : BusOk (idle_limit d) d.bus
    pub arb : ArbOk d.arb

  pub ok_side : (m : Master) (d : Device) → DeviceFits d → SideOk (side m d)
  ok_side Zero d h = h.zero
  ok_side One d h = h.one

  pub ok_device : (m : Master) (s p : Side) (b : Bus) (a : Arbitration) (d : Device)
      → SideOk s → SideOk p → BusOk (idle_limit d) b → ArbOk a → DeviceFits (device m s p b a d)
  ok_device Zero s p b a d hs hp hb ha = record { zero = hs; one = hp; bus = hb; arb = ha }
  ok_device One s p b a d hs hp hb ha = record { zero = hp; one = hs; bus = hb; arb = ha }

  pub ok_with : (m : Master) (s : Side) (d : Device) → SideOk s → DeviceFits d → DeviceFits (with_side m s d)
  ok_with m s d hs h = ok_device m s (side (partner m) d) d.bus d.arb d hs (ok_side (partner m) d h) h.bus h.arb

  -- a side with other interrupts
  pub ok_ints : (i : ℕ) (s : Side) → i < 64 → SideOk s → SideOk (with_ints i s)
  ok_ints i s hi h = (hi, h.1, h.2, h.3)

  -- ---- as the tests have it

  pub ok_narrow : (d : Device) → DeviceFits d → all_fit narrow d ≡ true
  ok_narrow d h =
      let (ints0, mask0, _, _) = h.zero in
      let (ints1, mask1, _, _) = h.one in
      let (hold, idle, scl, sda) = h.bus in
      let pulsed = h.arb.0 in
      fit_all narrow d (omega arith, (omega arith, (omega arith, (omega arith, (omega arith, (omega arith, (omega arith, (omega arith, (omega arith, tt)))))))))
