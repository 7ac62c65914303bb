-- An import answers with few events: those of a capture that is not too long, or none.
-- Assumes nothing.
use Prim.Native.Nat.{ℕ, ◌≤◌}
use mathlib.Core.Path.{subst, sym}
use mathlib.Core.List.{List}
use native.Mathlib.Omega.{arith}
use lib.Dec.{eqb, ltb}
use lib.ListN.{length}
use borrow.Author.Tests.{ltb-false}
use Rattle.arbiter.specs.Traces.{most_events}
use Rattle.arbiter.proofs.Choice.{either, split, if_true}
use Rattle.capture.specs.Import.{most_samples, import_number, imported_by, imported}
use Rattle.capture.proofs.Bound.{captured_in_range}

pub imported_few : (address : ℕ) (samples buffer : List ℕ) → (imported address samples buffer).count ≤ most_events
unfolding imported import_number
imported_few address samples buffer =
    split (ltb most_samples (length samples))
    (λ long. subst (λ (n : ℕ). (imported_by n address samples).count ≤ most_events) (sym (if_true 13 _ long)) (omega arith))
    (λ short. either (λ (n : ℕ). n ≤ most_events) (eqb (import_number address samples (length buffer)) 0)
    (λ t. captured_in_range address samples (ltb-false _ _ short)) (λ t. omega arith))
