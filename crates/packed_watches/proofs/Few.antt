-- A call takes no more samples than it is given, and so few that their count fits beside the number.
-- Assumes nothing.
use Prim.Native.Nat.{ℕ, ◌≤◌}
use mathlib.Core.List.{List, [], ◌∷◌}
use native.Mathlib.Omega.{arith}
use lib.Dec.{ltb}
use lib.ListN.{length, length-take}
use borrow.Author.Tests.{ltb-true, ltb-false}
use Rattle.arbiter.proofs.Choice.{either}
use Rattle.watch.specs.declared.Watcher.{Watcher}
use Rattle.watch.specs.Told.{taken}
use Rattle.watch.proofs.Told.{some_taken}
use Rattle.watchlayout.specs.Places.{watcher_in}
use Rattle.watchlayout.specs.Calls.{is_watch, heeded}
use Rattle.packed_watches.specs.Packed.{most_at_once, count_at_once, at_once}

taken_few : (xs : List ℕ) (w : Watcher) → taken xs w ≤ length xs
unfolding taken
taken_few [] w = omega arith
taken_few (x ∷ xs) w = (some_taken x xs w).1

heeded_few : (xs b : List ℕ) → (heeded xs b).taken ≤ length xs
unfolding heeded
heeded_few xs b = either (λ (n : ℕ). n ≤ length xs) (is_watch b) (λ t. taken_few xs (watcher_in b)) (λ f. omega arith)

-- the count is small, and not above the length
pub count_small : (n : ℕ) → count_at_once n ≤ most_at_once
count_small n = either (λ (m : ℕ). m ≤ most_at_once) (ltb most_at_once n) (λ t. omega arith) (λ f. ltb-false most_at_once n f)

pub count_fits : (n : ℕ) → count_at_once n ≤ n
count_fits n = either (λ (m : ℕ). m ≤ n) (ltb most_at_once n) (λ t. omega (arith, ltb-true most_at_once n t)) (λ f. omega arith)

pub at_once_few : (xs b : List ℕ) → (heeded (at_once xs) b).taken ≤ most_at_once
at_once_few xs b = omega (arith, heeded_few (at_once xs) b, length-take (count_at_once (length xs)) xs, count_small (length xs))
