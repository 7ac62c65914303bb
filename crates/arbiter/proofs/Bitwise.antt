-- The laws of specs/Bitwise.antt, each by a test that antt computes at all values.
-- Assumes nothing.
use mathlib.Core.Path.{◌≡◌, refl}
use mathlib.Core.Bool.{Bool, true, false, not, ◌&&◌, beq, false≢true}
use Prim.Native.Nat.{ℕ}
use Rattle.arbiter.specs.Words.{bit}
use Rattle.arbiter.specs.Registers.{is_asserted, cleared}
use Rattle.arbiter.specs.Bitwise.{some_shows, AssertedBitByBit, ClearedBitByBit}
use Rattle.arbiter.proofs.Every.{every, every_at}

pub same : (a b : Bool) → beq a b ≡ true → a ≡ b
same true true e = refl
same true false e = absurd (false≢true e)
same false true e = absurd (false≢true e)
same false false e = refl

abbrev asserted_test : Bool → ℕ → ℕ → Bool
asserted_test hung i mask = beq (is_asserted hung i mask) (some_shows hung i mask)

asserted_tests : (hung : Bool) → every (λ i. every (λ mask. asserted_test hung i mask) 128) 64 ≡ true
unfolding is_asserted
asserted_tests true = refl
asserted_tests false = refl

pub asserted_bit_by_bit : AssertedBitByBit
asserted_bit_by_bit hung i mask hi hm =
    same (is_asserted hung i mask) (some_shows hung i mask)
    (every_at (λ mask. asserted_test hung i mask) 128 (every_at (λ i. every (λ mask. asserted_test hung i mask) 128) 64 (asserted_tests hung) i hi) mask hm)

abbrev cleared_test : ℕ → ℕ → ℕ → Bool
cleared_test k v i = beq (bit k (cleared v i)) (bit k i && not (bit k v))

cleared_tests : every (λ k. every (λ v. every (λ i. cleared_test k v i) 64) 256) 6 ≡ true
cleared_tests = refl

pub cleared_bit_by_bit : ClearedBitByBit
cleared_bit_by_bit k v i hk hv hi =
    let ks = every_at (λ k. every (λ v. every (λ i. cleared_test k v i) 64) 256) 6 cleared_tests k hk in
    let vs = every_at (λ v. every (λ i. cleared_test k v i) 64) 256 ks v hv in
    same (bit k (cleared v i)) (bit k i && not (bit k v)) (every_at (λ i. cleared_test k v i) 64 vs i hi)
