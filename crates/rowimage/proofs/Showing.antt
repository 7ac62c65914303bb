-- A look at a place: the place is in the row, and what stands there is shown.
-- Assumes nothing.
use Prim.Native.Nat.{ℕ, ◌+◌, ◌*◌, ◌<◌, ◌≤◌}
use native.Mathlib.Omega.{arith}
use mathlib.Core.Path.{◌≡◌, sym, ap, subst, ◌∙◌}
use mathlib.Core.Bool.{Bool, true, false, false≢true}
use mathlib.Core.List.{List}
use lib.Dec.{eqb, ltb}
use lib.ListN.{length, drop}
use Rattle.std.specs.Prelude.{Result, Ok, Err, if◌then◌else◌}
use Rattle.arbiter.specs.Steps.{answer}
use Rattle.arbiter.specs.declared.Raw.{Raw}
use Rattle.layout.specs.Layout.{device_in}
use Rattle.shelf.specs.declared.Record.{Record}
use Rattle.shelf.specs.declared.Naming.TheVariants.{APlace}
use Rattle.shelf.specs.declared.Fault.{Fault}
use Rattle.shelf.specs.declared.Fault.TheVariants.{EmptyRow, TooMany, EqualAddresses, NotInRow}
use Rattle.shelf.specs.declared.Reach.{Reach}
use Rattle.shelf.specs.declared.Reach.TheVariants.{At, Everyone}
use Rattle.shelf.specs.Shelf.{addresses_of, naming, two_equal, most_records, reach_of, reaches, fault_answer, show_by, shelf_show}
use Rattle.shelf.proofs.Rows.{addresses_length}
use Rattle.shelf.proofs.Found.{reached_in_row}
use Rattle.routing.specs.declared.Seen.{Seen}
use Rattle.routing.specs.Deciding.{seen_of, reach_for}
use Rattle.routing.proofs.Told.{reach_for_is}
use Rattle.rowimage.specs.Row.{record_bytes, record_count, image_in, records_in}
use Rattle.rowimage.proofs.Bytes.{record_at_lem, records_length}

abbrev is_everyone : Result Reach Fault → Bool
is_everyone (Ok (At i)) = false
is_everyone (Ok Everyone) = true
is_everyone (Err f) = false

past : (b : Bool) (f : Fault) (w : Result Reach Fault) → (if b then Err f else w) ≡ Ok Everyone → w ≡ Ok Everyone
past true f w h = absurd (false≢true (ap is_everyone h))
past false f w h = h

-- a place reaches no more than its own device
not_everyone : (place : ℕ) (roll : List ℕ) → reach_of APlace place roll ≡ Ok Everyone → ⊥
not_everyone place roll h =
    one (ltb place (length roll)) (past (two_equal roll) EqualAddresses _
    (past (ltb most_records (length roll)) TooMany _ (past (eqb (length roll) 0) EmptyRow _ h)))
  where
    one : (b : Bool) → (if b then Ok (At place) else Err NotInRow) ≡ Ok Everyone → ⊥
    one true e = false≢true (ap is_everyone e)
    one false e = false≢true (ap is_everyone e)

lines : Raw
lines = record { kind = 5; x = 0; y = 0; z = 0 }

place_inside : (place i : ℕ) (roll : List ℕ) → reach_of APlace place roll ≡ Ok (At i) → i < length roll
unfolding lines reaches naming
place_inside place i roll h = (reached_in_row roll place lines i h).0

module _ (b : List ℕ) (place : ℕ) (s : Seen) (w : Result Reach Fault) (seen : s ≡ seen_of place (records_in b)) (reached : w ≡ reach_for s APlace) where
  told : reach_of APlace place (addresses_of (records_in b)) ≡ w
  told = sym (reach_for_is APlace place (records_in b)) ∙ ap (λ (x : Seen). reach_for x APlace) (sym seen) ∙ sym reached

  inside : (i : ℕ) → w ≡ Ok (At i) → i < record_count b
  unfolding records_in
  inside i e =
      subst (λ (n : ℕ). i < n) (addresses_length (records_in b) ∙ records_length (record_count b) b)
      (place_inside place i (addresses_of (records_in b)) (told ∙ e))

  pub show_fits : (i : ℕ) → w ≡ Ok (At i) → record_bytes * i + record_bytes ≤ length b
  show_fits i e = let h = inside i e in omega (arith, h)

  pub show_at : (i : ℕ) → w ≡ Ok (At i) → answer 0 0 (device_in (image_in (drop (record_bytes * i) b))) ≡ shelf_show (records_in b) place
  unfolding shelf_show records_in
  show_at i e =
      ap (λ (c : Record). answer 0 0 c.device) (sym (record_at_lem (record_count b) i b (inside i e)))
      ∙ ap (λ (x : Result Reach Fault). show_by x (records_in b)) (sym (told ∙ e))

  pub show_no_everyone : w ≡ Ok Everyone → ⊥
  show_no_everyone e = not_everyone place (addresses_of (records_in b)) (told ∙ e)

  pub show_refused : (f : Fault) → w ≡ Err f → fault_answer f ≡ shelf_show (records_in b) place
  unfolding shelf_show
  show_refused f e = ap (λ (x : Result Reach Fault). show_by x (records_in b)) (sym (told ∙ e))
