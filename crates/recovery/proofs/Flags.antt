-- Bits 1 and 2 of INT_STATUS through the operations on its byte, and an interrupt told in it or not.
-- Assumes nothing.
use Prim.Native.Nat.{◌*◌, ◌+◌, ◌/◌, ◌%◌, min, max}
use native.Mathlib.Omega.{arith}
use mathlib.Core.Path.{◌≡◌, refl, sym, ap, ap₂, ◌∙◌}
use mathlib.Core.Bool.{or-false, and-true, and-false}
use lib.Bits.{bit_and, bit_or, and_step, or_step}
use Rattle.std.specs.Prelude.{◌&&◌, ◌||◌}
use Rattle.ranges.specs.Names.{ℕ, Bool, true, false, eqb}
use Rattle.arbiter.specs.Words.{bit}
use Rattle.arbiter.specs.Registers.{hung_int, mail_full_int, mail_emptied_int, test_int, int_in_int, raised}
use Rattle.arbiter.proofs.Every.{every}
use Rattle.mail.proofs.Bits.{digit_test, digit, half, last}

-- ---- bits 1 and 2 of two bytes put together

module _ (f : ℕ → ℕ → ℕ) (like : Bool → Bool → Bool) (digits : every (λ x. every (λ y. digit_test f like x y) 2) 2 ≡ true)
    (g : ℕ → ℕ → ℕ) (step : (a b : ℕ) → g a b ≡ g (a / 2) (b / 2) * 2 + f (a % 2) (b % 2)) where
  halved : (a b : ℕ) → g a b / 2 ≡ g (a / 2) (b / 2)
  halved = half f like digits g step

  lowest : (a b : ℕ) → eqb (g a b % 2) 1 ≡ like (eqb (a % 2) 1) (eqb (b % 2) 1)
  lowest a b = ap (λ n. eqb n 1) (last f like digits g step a b) ∙ (digit f like digits g step a b).1

  quarter : (a b : ℕ) → g a b / 4 ≡ g (a / 4) (b / 4)
  quarter a b =
      down (g a b) ∙ ap (λ n. n / 2) (halved a b) ∙ halved (a / 2) (b / 2) ∙ ap₂ g (sym (down a)) (sym (down b))
    where
      down : (n : ℕ) → n / 4 ≡ n / 2 / 2
      down n = omega arith

  bit_1 : (a b : ℕ) → bit 1 (g a b) ≡ like (bit 1 a) (bit 1 b)
  bit_1 a b = ap (λ n. eqb (n % 2) 1) (halved a b) ∙ lowest (a / 2) (b / 2)

  bit_2 : (a b : ℕ) → bit 2 (g a b) ≡ like (bit 2 a) (bit 2 b)
  bit_2 a b = ap (λ n. eqb (n % 2) 1) (quarter a b) ∙ lowest (a / 4) (b / 4)

-- such a bit of INT_STATUS: it goes through both operations, and it is that of neither mail nor test, INT_IN nor BUS_HUNG
pub record Flag (f : ℕ → Bool) : Type 0 where
  pub or : (a b : ℕ) → f (bit_or a b) ≡ f a || f b
  pub and : (a b : ℕ) → f (bit_and a b) ≡ f a && f b
  pub none : f 0 ≡ false
  pub hung : f hung_int ≡ false
  pub full : f mail_full_int ≡ false
  pub emptied : f mail_emptied_int ≡ false
  pub test : f test_int ≡ false
  pub intin : f int_in_int ≡ false

pub one : Flag (bit 1)
one =
    record {
      or = bit_1 max ◌||◌ refl bit_or or_step;
      and = bit_1 min ◌&&◌ refl bit_and and_step;
      none = refl;
      hung = refl;
      full = refl;
      emptied = refl;
      test = refl;
      intin = refl;
    }

pub two : Flag (bit 2)
two =
    record {
      or = bit_2 max ◌||◌ refl bit_or or_step;
      and = bit_2 min ◌&&◌ refl bit_and and_step;
      none = refl;
      hung = refl;
      full = refl;
      emptied = refl;
      test = refl;
      intin = refl;
    }

-- ---- an interrupt told

module _ (f : ℕ → Bool) (l : Flag f) where
  -- an interrupt, told or not
  pub raised_told : (this : ℕ) (happened : Bool) (i : ℕ) → f (raised this happened i) ≡ f i || f this && happened
  raised_told this true i = l.or i this ∙ ap (λ (b : Bool). f i || b) (sym (and-true (f this)))
  raised_told this false i = l.or i 0 ∙ ap (λ (b : Bool). f i || b) (l.none ∙ sym (and-false (f this)))

  pub other : (this : ℕ) (happened : Bool) (i : ℕ) → f this ≡ false → f (raised this happened i) ≡ f i
  other this happened i h = raised_told this happened i ∙ ap (λ (b : Bool). f i || b && happened) h ∙ or-false (f i)
