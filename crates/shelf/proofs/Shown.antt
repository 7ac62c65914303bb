-- What is shown by its place after an event.
-- Assumes nothing.
use Prim.Native.Nat.{ℕ, ◌<◌}
use mathlib.Core.Path.{◌≡◌, refl, sym, ap, ◌∙◌, subst}
use mathlib.Core.Bool.{Bool, true, false, false≢true}
use mathlib.Core.List.{List}
use lib.Dec.{eqb, ltb}
use lib.ListN.{length}
use borrow.Author.Tests.{lt-ltb}
use Rattle.arbiter.specs.Steps.{answer}
use Rattle.arbiter.proofs.Choice.{if_true, if_false}
use Rattle.std.specs.Prelude.{if◌then◌else◌}
use Rattle.shelf.specs.Names.{Raw, Record, APlace, Fault, EmptyRow, TooMany, EqualAddresses, NotInRow, Reach, At, Result, Ok, Err}
use Rattle.shelf.specs.Shelf.{most_records, addresses_of, two_equal, reach_of, reaches, reaches_place, step_record, show_by, shelf_row}
use Rattle.shelf.specs.Shelf.{shelf_show}
use Rattle.shelf.specs.Runs.{ShownAtPlace}
use Rattle.shelf.proofs.Rows.{keeps_addresses, reached_steps, addresses_length}

-- The test of a refusal has failed, since some place is reached.
past : (b : Bool) (f : Fault) (w : Result Reach Fault) (j : ℕ) → reaches_place j (if b then Err f else w) ≡ true → (b ≡ false) × (reaches_place j w ≡ true)
past true f w j h = absurd (false≢true h)
past false f w j h = (refl, h)

-- So the row is no ground for a refusal, and a place of it is reached by its number.
place_there : (roll : List ℕ) (name : ℕ) (r : Raw) (j : ℕ) → j < length roll → reaches_place j (reaches roll name r) ≡ true → reach_of APlace j roll ≡ Ok (At j)
unfolding reaches
place_there roll name r j l h =
    let (q₁, h₁) = past (eqb (length roll) 0) EmptyRow _ j h in
    let (q₂, h₂) = past (ltb most_records (length roll)) TooMany _ j h₁ in
    let (q₃, h₃) = past (two_equal roll) EqualAddresses _ j h₂ in
    if_false (Err EmptyRow) _ q₁ ∙ if_false (Err TooMany) _ q₂ ∙ if_false (Err EqualAddresses) _ q₃
    ∙ if_true (Ok (At j)) (Err NotInRow) (lt-ltb j (length roll) l)

pub shown_at_place : ShownAtPlace
unfolding shelf_show step_record
shown_at_place row name r j l h =
    ap (λ (roll : List ℕ). show_by (reach_of APlace j roll) (shelf_row row name r)) (keeps_addresses row name r)
    ∙ ap (λ (w : Result Reach Fault). show_by w (shelf_row row name r))
    (place_there (addresses_of row) name r j (subst (λ (n : ℕ). j < n) (sym (addresses_length row)) l) h)
    ∙ ap (λ (c : Record). answer 0 0 c.device) (reached_steps row name r j l h)
