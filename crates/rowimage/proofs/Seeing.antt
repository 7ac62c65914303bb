-- What is seen of the records that are left, once others have been seen.
-- Assumes nothing.
use Prim.Native.Nat.{ℕ, zero, suc, ◌≤◌}
use native.Mathlib.Omega.{arith}
use mathlib.Core.Path.{◌≡◌, refl, ap, ◌∙◌}
use mathlib.Core.List.{List, [], ◌∷◌}
use lib.ListN.{length, drop}
use lib.Seq.{drop-cons, drop-length}
use Rattle.shelf.specs.declared.Record.{Record}
use Rattle.shelf.specs.Shelf.{no_record}
use Rattle.routing.specs.declared.Seen.{Seen}
use Rattle.routing.specs.Deciding.{start_of, see_of, seen_to, seen_of}

-- what is seen of some records after others
abbrev pub see_all : Seen → List Record → Seen
see_all s [] = s
see_all s (c ∷ row) = see_all (see_of s c.address) row

see_from : (i : ℕ) (name : ℕ) (row : List Record) → i ≤ length row → see_all (start_of name) row ≡ see_all (seen_to i name row) (drop i row)
unfolding seen_to
see_from zero name row h = refl
see_from (suc i) name row h =
    see_from i name row (omega arith) ∙ ap (λ (l : List Record). see_all (seen_to i name row) l) (drop-cons row i no_record (omega arith))

pub see_whole : (name : ℕ) (row : List Record) → see_all (start_of name) row ≡ seen_of name row
unfolding seen_of
see_whole name row = see_from (length row) name row (omega arith) ∙ ap (λ (l : List Record). see_all (seen_to (length row) name row) l) (drop-length row)
