-- An event that names nothing, as a TICK or a RESET, reaches every device, whatever name stands beside it.
-- Assumes nothing.
use Rattle.std.proofs.Common.{ℕ, List, ◌≡◌, refl, sym, subst, ap, ◌∙◌}
use Rattle.arbiter.specs.declared.Raw.{Raw}
use Rattle.arbiter.specs.declared.Answer.{Answer}
use Rattle.shelf.specs.declared.Record.{Record}
use Rattle.shelf.specs.declared.Naming.{Naming}
use Rattle.shelf.specs.declared.Naming.TheVariants.{Nothing}
use Rattle.shelf.specs.Shelf.{ShelfStepped, addresses_of, answer_after, reach_of, row_after, shelf_row, shelf_answer, reaches, naming, raw_of}

-- an event of kind k whose three fields are 0
whole : (r : Raw) (k : ℕ) → r.kind ≡ k → r.x ≡ 0 → r.y ≡ 0 → r.z ≡ 0 → raw_of k 0 0 0 ≡ r
whole r k e x y z =
    ap (λ (n : ℕ). raw_of n 0 0 0) (sym e) ∙ ap (λ (n : ℕ). raw_of r.kind n 0 0) (sym x) ∙ ap (λ (n : ℕ). raw_of r.kind r.x n 0) (sym y)
    ∙ ap (λ (n : ℕ). raw_of r.kind r.x r.y n) (sym z)

-- where nothing is named, a row is gone over as it is under the name 0
module _ (row : List Record) (name : ℕ) (r : Raw) (none : naming r.kind ≡ Nothing) where
  same_row : shelf_row row 0 r ≡ shelf_row row name r
  unfolding shelf_row reaches
  same_row =
      ap (λ (n : Naming). row_after (reach_of n 0 (addresses_of row)) r row) none
      ∙ sym (ap (λ (n : Naming). row_after (reach_of n name (addresses_of row)) r row) none)

  same_answer : shelf_answer row 0 r ≡ shelf_answer row name r
  unfolding shelf_answer reaches
  same_answer =
      ap (λ (n : Naming). answer_after (reach_of n 0 (addresses_of row)) r row) none
      ∙ sym (ap (λ (n : Naming). answer_after (reach_of n name (addresses_of row)) r row) none)

pub nameless : (k : ℕ) (row after : List Record) (name : ℕ) (a : Answer) (r : Raw) → naming k ≡ Nothing → r.kind ≡ k → r.x ≡ 0 → r.y ≡ 0 → r.z ≡ 0
    → ShelfStepped row 0 (raw_of k 0 0 0) after a → ShelfStepped row name r after a
nameless k row after name a r none e x y z p =
    subst (λ (s : Raw). ShelfStepped row name s after a) (whole r k e x y z) (
      p.0 ∙ same_row row name (raw_of k 0 0 0) none,
      p.1 ∙ same_answer row name (raw_of k 0 0 0) none,
    )

pub tick_names_nothing : naming 6 ≡ Nothing
unfolding naming
tick_names_nothing = refl

pub reset_names_nothing : naming 8 ≡ Nothing
unfolding naming
reset_names_nothing = refl
