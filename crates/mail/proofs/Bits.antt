-- Bit 4 of INT_STATUS, which is kept in a byte: what setting it, setting another bit and clearing it do to it.
-- Assumes nothing.
use Prim.Native.Nat.{ℕ, ◌-◌, ◌*◌, ◌+◌, ◌/◌, ◌%◌, ◌<◌, min, max}
use native.Mathlib.Omega.{arith}
use mathlib.Core.Path.{◌≡◌, refl, sym, ap, ap₂, ◌∙◌}
use mathlib.Core.Bool.{Bool, true, false, not, ◌&&◌, ◌||◌, beq, and-eq-true_iff, or-false}
use lib.Bits.{bit_and, bit_or, and_step, or_step}
use lib.Dec.{eqb, ltb}
use borrow.Author.Tests.{ltb-true}
use Rattle.arbiter.specs.Words.{bit}
use Rattle.arbiter.specs.Registers.{mail_emptied_int, raised, cleared}
use Rattle.arbiter.proofs.Every.{every, every_at}
use Rattle.arbiter.proofs.Bitwise.{same}

-- ---- an operation on two bytes, digit by digit

-- f gives a digit of two digits, and of truth values it is `like`
abbrev pub digit_test : (ℕ → ℕ → ℕ) → (Bool → Bool → Bool) → ℕ → ℕ → Bool
digit_test f like x y = ltb (f x y) 2 && beq (eqb (f x y) 1) (like (eqb x 1) (eqb y 1))

module _ (f : ℕ → ℕ → ℕ) (like : Bool → Bool → Bool) (digits : every (λ x. every (λ y. digit_test f like x y) 2) 2 ≡ true)
    (g : ℕ → ℕ → ℕ) (step : (a b : ℕ) → g a b ≡ g (a / 2) (b / 2) * 2 + f (a % 2) (b % 2)) where
  pub digit : (a b : ℕ) → (f (a % 2) (b % 2) < 2) × (eqb (f (a % 2) (b % 2)) 1 ≡ like (eqb (a % 2) 1) (eqb (b % 2) 1))
  digit a b =
      let x : ℕ = a % 2 in
      let y : ℕ = b % 2 in
      let row = every_at (λ x. every (λ y. digit_test f like x y) 2) 2 digits x (omega arith) in
      let two = (and-eq-true_iff (ltb (f x y) 2) _).0 (every_at (λ y. digit_test f like x y) 2 row y (omega arith)) in
      (ltb-true (f x y) 2 two.0, same _ _ two.1)

  pub half : (a b : ℕ) → g a b / 2 ≡ g (a / 2) (b / 2)
  half a b = omega (arith, step a b, (digit a b).0)

  pub last : (a b : ℕ) → g a b % 2 ≡ f (a % 2) (b % 2)
  last a b = omega (arith, step a b, (digit a b).0)

  sixteenth : (a b : ℕ) → g a b / 16 ≡ g (a / 16) (b / 16)
  sixteenth a b =
      let four : g a b / 2 / 2 / 2 / 2 ≡ g (a / 2 / 2 / 2 / 2) (b / 2 / 2 / 2 / 2) =
      ap (λ n. n / 2 / 2 / 2) (half a b) ∙ ap (λ n. n / 2 / 2) (half (a / 2) (b / 2))
      ∙ ap (λ n. n / 2) (half (a / 2 / 2) (b / 2 / 2)) ∙ half (a / 2 / 2 / 2) (b / 2 / 2 / 2)
      in
      down (g a b) ∙ four ∙ ap₂ g (sym (down a)) (sym (down b))
    where
      down : (n : ℕ) → n / 16 ≡ n / 2 / 2 / 2 / 2
      down n = omega arith

  pub bit_4 : (a b : ℕ) → bit 4 (g a b) ≡ like (bit 4 a) (bit 4 b)
  bit_4 a b = ap (λ n. eqb (n % 2) 1) (sixteenth a b) ∙ ap (λ n. eqb n 1) (last (a / 16) (b / 16)) ∙ (digit (a / 16) (b / 16)).1

or_4 : (a b : ℕ) → bit 4 (bit_or a b) ≡ bit 4 a || bit 4 b
or_4 = bit_4 max ◌||◌ refl bit_or or_step

and_4 : (a b : ℕ) → bit 4 (bit_and a b) ≡ bit 4 a && bit 4 b
and_4 = bit_4 min ◌&&◌ refl bit_and and_step

-- ---- the operations on INT_STATUS

-- Another interrupt leaves it.
pub raised_other : (this : ℕ) (happened : Bool) (i : ℕ) → bit 4 this ≡ false → bit 4 (raised this happened i) ≡ bit 4 i
raised_other this true i h = or_4 i this ∙ ap (λ (b : Bool). bit 4 i || b) h ∙ or-false (bit 4 i)
raised_other this false i h = or_4 i 0 ∙ or-false (bit 4 i)

-- Its own sets it.
pub raised_emptied : (happened : Bool) (i : ℕ) → bit 4 (raised mail_emptied_int happened i) ≡ bit 4 i || happened
raised_emptied true i = or_4 i mail_emptied_int
raised_emptied false i = or_4 i 0

-- Written 1 it is cleared.
abbrev mask_test : ℕ → Bool
mask_test x = beq (bit 4 (0x3F - x)) (not (bit 4 x))

mask_tests : every mask_test 64 ≡ true
mask_tests = refl

pub cleared_4 : (v i : ℕ) → bit 4 (cleared v i) ≡ bit 4 i && not (bit 4 v)
cleared_4 v i =
    let low : v % 64 / 16 % 2 ≡ v / 16 % 2 = omega arith in
    let mask = same (bit 4 (0x3F - v % 64)) (not (bit 4 (v % 64))) (every_at mask_test 64 mask_tests (v % 64) (omega arith)) in
    and_4 i (0x3F - v % 64) ∙ ap (λ (b : Bool). bit 4 i && b) (mask ∙ ap (λ (n : ℕ). not (eqb n 1)) low)
