-- A row that has been looked at shows what request #110 asks for.
-- Assumes nothing.
use Prim.Native.Nat.{ℕ, zero, suc, ◌<◌, ◌≤◌}
use native.Mathlib.Omega.{arith}
use mathlib.Core.Path.{◌≡◌, refl, ap, ◌∙◌, subst}
use mathlib.Core.Bool.{Bool, true, false}
use mathlib.Core.List.{List}
use lib.Dec.{eqb, ltb}
use lib.ListN.{length}
use borrow.Author.Tests.{eqb-true, eqb-false, ltb-true, ltb-false}
use Rattle.std.specs.Prelude.{Result, Ok, Err, if◌then◌else◌}
use Rattle.arbiter.specs.Steps.{answer}
use Rattle.arbiter.specs.declared.Answer.{Answer}
use Rattle.arbiter.proofs.Choice.{split, if_true, if_false}
use Rattle.shelf.specs.declared.Record.{Record}
use Rattle.shelf.specs.declared.Naming.TheVariants.{APlace}
use Rattle.shelf.specs.declared.Fault.{Fault}
use Rattle.shelf.specs.declared.Fault.TheVariants.{EmptyRow, TooMany, EqualAddresses, NotInRow}
use Rattle.shelf.specs.declared.Reach.{Reach}
use Rattle.shelf.specs.declared.Reach.TheVariants.{At}
use Rattle.shelf.specs.Shelf.{addresses_of, record_at, device_at, two_equal, reach_of, show_by, shelf_show}
use Rattle.shelf.proofs.Rows.{addresses_length}
use Rattle.routing.specs.declared.Seen.{Seen}
use Rattle.routing.specs.Deciding.{see_of, seen_to, seen_of, reach_for}
use Rattle.routing.proofs.Told.{reach_for_is, seen_at}
use Rattle.showing.specs.Showing.{look_start, shown_here, look_of, looked_to, looked_of, shown_with, shown_of}

seen_too : (i place : ℕ) (row : List Record) → (looked_to i place row).seen ≡ seen_to i place row
unfolding looked_to look_start look_of seen_to
seen_too zero place row = refl
seen_too (suc i) place row = ap (λ (s : Seen). see_of s (record_at row i).address) (seen_too i place row)

-- once the place has been passed
met : (i place : ℕ) (row : List Record) → place < i → i ≤ length row → i ≤ 16 → (looked_to i place row).answer ≡ answer 0 0 (device_at row place)
unfolding looked_to look_of
met zero place row l h k = absurd (omega arith)
met (suc i) place row l h k =
    let known = seen_at i place row (omega arith) (omega arith) in
    ap (λ (s : Seen). shown_here (eqb s.count s.name) (device_at row i) before) (seen_too i place row)
    ∙ ap (λ (n : ℕ). shown_here (eqb n (seen_to i place row).name) (device_at row i) before) known.1
    ∙ ap (λ (n : ℕ). shown_here (eqb i n) (device_at row i) before) known.0
    ∙ split (eqb i place)
    (λ q. if_true (answer 0 0 (device_at row i)) before q ∙ ap (λ (n : ℕ). answer 0 0 (device_at row n)) (eqb-true i place q))
    (λ q. if_false (answer 0 0 (device_at row i)) before q ∙ met i place row (further (eqb-false i place q)) (omega arith) (omega arith))
  where
    before : Answer
    before = (looked_to i place row).answer

    further : (i ≡ place → ⊥) → place < i
    further n = omega (arith, n, l)

-- past a refusal, where it is none; and at the last test
past : (b : Bool) (f : Fault) (w : Result Reach Fault) (a : Answer) (row : List Record) → (b ≡ false → shown_with w a ≡ show_by w row)
    → shown_with (if b then Err f else w) a ≡ show_by (if b then Err f else w) row
past true f w a row k = refl
past false f w a row k = k refl

last : (b : Bool) (i : ℕ) (a : Answer) (row : List Record) → (b ≡ true → a ≡ answer 0 0 (device_at row i))
    → shown_with (if b then Ok (At i) else Err NotInRow) a ≡ show_by (if b then Ok (At i) else Err NotInRow) row
last true i a row k = k refl
last false i a row k = refl

by_tests : (place : ℕ) (roll : List ℕ) (a : Answer) (row : List Record) → (place < length roll → length roll ≤ 16 → a ≡ answer 0 0 (device_at row place))
    → shown_with (reach_of APlace place roll) a ≡ show_by (reach_of APlace place roll) row
by_tests place roll a row k =
    past (eqb (length roll) 0) EmptyRow _ a row (λ q₁.
    past (ltb 16 (length roll)) TooMany _ a row (λ q₂.
    past (two_equal roll) EqualAddresses _ a row (λ q₃.
    last (ltb place (length roll)) place a row (λ q. k (ltb-true place (length roll) q) (ltb-false 16 (length roll) q₂)))))

pub shows_place : (place : ℕ) (row : List Record) → shown_of (looked_of place row) ≡ shelf_show row place
unfolding shown_of looked_of shelf_show seen_of
shows_place place row =
    ap (λ (w : Result Reach Fault). shown_with w there)
    (ap (λ (s : Seen). reach_for s APlace) (seen_too (length row) place row ∙ whole) ∙ reach_for_is APlace place row)
    ∙ by_tests place (addresses_of row) there row
    (λ l h. met (length row) place row (subst (λ (n : ℕ). place < n) (addresses_length row) l) (omega arith)
    (subst (λ (n : ℕ). n ≤ 16) (addresses_length row) h))
  where
    there : Answer
    there = (looked_to (length row) place row).answer

    whole : seen_to (length row) place row ≡ seen_of place row
    whole = refl
