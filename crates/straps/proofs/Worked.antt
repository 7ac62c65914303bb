-- The sums of src/lib.rt are the rule of document 01. One test is computed over all settings of the pins, and one over all addresses.
-- Assumes nothing.
use mathlib.Core.Path.{◌≡◌, refl, sym, ◌∙◌, ap}
use mathlib.Core.Bool.{Bool, true, false, not, ◌&&◌, false≢true, and-eq-true_iff}
use Prim.Native.Nat.{ℕ, ◌+◌, ◌-◌, ◌*◌, ◌/◌, ◌%◌, ◌≤◌, ◌<◌}
use native.Mathlib.Omega.{arith}
use lib.Dec.{eqb, ltb}
use borrow.Author.Tests.{ltb-true, ltb-false, eqb-true, not-true}
use Rattle.std.specs.Prelude.{if◌then◌else◌}
use Rattle.arbiter.specs.Straps.{is_tie, is_code, low_bits, in_range, address_of, pins}
use Rattle.arbiter.specs.declared.Pins.{Pins}
use Rattle.std.specs.Prelude.{Option, Some, None}
use Rattle.arbiter.proofs.Every.{every, every_at}

-- ---- a test at every setting of four pins that have codes, AD3 a tie

abbrev pub coded : Pins → Bool
coded p = is_tie p.ad3 && is_code p.ad2 && is_code p.ad1 && is_code p.ad0

abbrev pub all_settings : (Pins → Bool) → Bool
all_settings f = every (λ a. every (λ b. every (λ c. every (λ d. f (pins a b c d)) 4) 4) 4) 2

pub at_setting : (f : Pins → Bool) → all_settings f ≡ true → (p : Pins) → coded p ≡ true → f p ≡ true
at_setting f t p h =
    let c = (and-eq-true_iff (is_tie p.ad3 && is_code p.ad2 && is_code p.ad1) (is_code p.ad0)).0 h in
    let d = (and-eq-true_iff (is_tie p.ad3 && is_code p.ad2) (is_code p.ad1)).0 c.0 in
    let e = (and-eq-true_iff (is_tie p.ad3) (is_code p.ad2)).0 d.0 in
    let ad3 = every_at (λ a. every (λ b. every (λ c. every (λ d. f (pins a b c d)) 4) 4) 4) 2 t p.ad3 (ltb-true _ _ e.0) in
    let ad2 = every_at (λ b. every (λ c. every (λ d. f (pins p.ad3 b c d)) 4) 4) 4 ad3 p.ad2 (ltb-true _ _ e.1) in
    let ad1 = every_at (λ c. every (λ d. f (pins p.ad3 p.ad2 c d)) 4) 4 ad2 p.ad1 (ltb-true _ _ d.1) in
    every_at (λ d. f (pins p.ad3 p.ad2 p.ad1 d)) 4 ad1 p.ad0 (ltb-true _ _ c.1)

-- ---- from the pins to the address

-- the class as a number, a resistor counting 1
abbrev class_of : Pins → ℕ
class_of p = 4 * (p.ad2 / 2 % 2) + 2 * (p.ad1 / 2 % 2) + p.ad0 / 2 % 2

abbrev pub worked_address : Pins → ℕ
worked_address p = 0x10 * ((class_of p + 7) % 8) + 8 * (p.ad3 % 2) + low_bits p

abbrev pub worked : Pins → Bool → Option ℕ
worked p listed = if listed then Some (worked_address p) else None

abbrev same : Option ℕ → Option ℕ → Bool
same (Some a) (Some b) = eqb a b
same (Some a) None = false
same None (Some b) = false
same None None = true

is_same : (s t : Option ℕ) → same s t ≡ true → s ≡ t
is_same (Some a) (Some b) e = ap Some (eqb-true a b e)
is_same (Some a) None e = absurd (false≢true e)
is_same None (Some b) e = absurd (false≢true e)
is_same None None e = refl

abbrev right_address : Pins → Bool
right_address p = same (address_of p) (worked p (coded p && in_range (worked_address p)))

all_addresses : all_settings right_address ≡ true
unfolding address_of
all_addresses = refl

-- r is what the code's own test of the range gives
pub address_worked : (p : Pins) (b r : Bool) → r ≡ in_range (worked_address p) → coded p && r ≡ b → address_of p ≡ worked p b
unfolding address_of
address_worked p b r e h = go (coded p) refl ∙ ap (λ (t : Bool). worked p (coded p && t)) (sym e) ∙ ap (worked p) h
  where
    go : (c : Bool) → coded p ≡ c → address_of p ≡ worked p (coded p && in_range (worked_address p))
    go true k = is_same _ _ (at_setting right_address all_addresses p k)
    go false k = rw k

-- ---- from the address to the pins

abbrev class_at : ℕ → ℕ
class_at a = (a / 0x10 + 1) % 8

abbrev pub worked_pins : ℕ → Pins
worked_pins a = pins (a / 8 % 2) (2 * (class_at a / 4 % 2) + a / 4 % 2) (2 * (class_at a / 2 % 2) + a / 2 % 2) (2 * (class_at a % 2) + a % 2)

abbrev right_pins : ℕ → Bool
right_pins a = same (address_of (worked_pins a)) (Some a)

all_pins : every (λ k. right_pins (k + 8)) 112 ≡ true
unfolding address_of
all_pins = refl

pub pins_worked : (a : ℕ) → in_range a ≡ true → address_of (worked_pins a) ≡ Some a
pins_worked a h =
    let b = (and-eq-true_iff (not (ltb a 0x08)) (ltb a 0x78)).0 h in
    let low : 8 ≤ a = ltb-false _ _ (not-true _ b.0) in
    let high : a < 0x78 = ltb-true _ _ b.1 in
    let e : a ≡ a - 8 + 8 = omega arith in
    is_same _ _ (ap right_pins e ∙ every_at (λ k. right_pins (k + 8)) 112 all_pins (a - 8) (omega arith))
