-- A number in decimal: its digits one by one, and what they are worth.
-- Assumes nothing.
use Prim.Native.Nat.{ℕ, zero, suc, ◌+◌, ◌-◌, ◌*◌, ◌/◌, ◌%◌, ◌^◌, ◌<◌, ◌≤◌}
use mathlib.Core.Path.{◌≡◌, refl, sym, ap, ◌∙◌}
use mathlib.Core.List.{List, [], ◌∷◌, ◌++◌}
use native.Mathlib.Omega.{arith}
use lib.Dec.{ltb}
use borrow.Author.Tests.{lt-ltb, le-ltb}
use Rattle.std.specs.Fmt
use Rattle.std.proofs.lemmas.Fmt.{AppendsLastDigit, decimal_from_appends, length-decimal-le}
use Rattle.std.specs.Prelude.{if◌then◌else◌}
use Rattle.arbiter.proofs.Choice.{if_true, if_false, split}
use Rattle.report.specs.Report.{digit, digits, most_digits, decimal, value_from, DecimalIsWorth}

-- ---- by their number k

digits_suc : (k n : ℕ) → digits (suc k) n ≡ (if ltb n 10 then digit n ∷ [] else digits k (n / 10) ++ (digit (n % 10) ∷ []))
unfolding digits
digits_suc k n = refl

-- ---- what they are worth

value_more : (n : ℕ) (l : List ℕ) (c : ℕ) → value_from n (l ++ c ∷ []) ≡ 10 * value_from n l + (c - 48)
unfolding value_from
value_more n [] c = refl
value_more n (x ∷ l) c = value_more (10 * n + (x - 48)) l c

power : (k : ℕ) → 10 ^ suc k ≡ 10 * 10 ^ k
power k = omega arith

worth_all : (k n : ℕ) → n < 10 ^ k → value_from 0 (digits k n) ≡ n
unfolding value_from digits
worth_all zero n h = omega arith
worth_all (suc k) n h =
    split (ltb n 10)
    (λ t. ap (value_from 0) (if_true (digit n ∷ []) (digits k (n / 10) ++ (digit (n % 10) ∷ [])) t) ∙ one)
    (λ f.
    let p = power k in
    let small : n / 10 < 10 ^ k = omega (arith, h, p) in
    let rest = worth_all k (n / 10) small in
    ap (value_from 0) (if_false (digit n ∷ []) (digits k (n / 10) ++ (digit (n % 10) ∷ [])) f) ∙ value_more 0 (digits k (n / 10)) (digit (n % 10)) ∙ last rest)
  where
    one : 10 * 0 + (48 + n - 48) ≡ n
    one = omega arith

    last : value_from 0 (digits k (n / 10)) ≡ n / 10 → 10 * value_from 0 (digits k (n / 10)) + (48 + n % 10 - 48) ≡ n
    last e = omega (arith, e)

pub decimal_is_worth : DecimalIsWorth
decimal_is_worth n h = worth_all most_digits n h

-- ---- what the library prints of a 64-bit number

appends : AppendsLastDigit digits
appends =
    record {
      one = λ k n h. digits_suc k n ∙ if_true _ _ (lt-ltb n 10 h);
      more = λ k n h. digits_suc k n ∙ if_false _ _ (le-ltb n 10 h);
    }

pub printed_number : (n : ℕ) → n < 2 ^ 64 → Fmt.decimal n ≡ decimal n
printed_number n h =
    sym (decimal_from_appends digits appends most_digits n h (length-decimal-le most_digits n (omega arith) (omega (arith, h)) h))
