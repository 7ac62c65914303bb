-- Laws of `rowimage`: every event leaves a good buffer, a fresh row is good, and runs on a buffer go together with those of the shelf.
-- Assumes nothing.
use Prim.Native.Nat.{ℕ, zero, suc}
use mathlib.Core.Path.{◌≡◌, refl, sym, ap, subst, ◌∙◌}
use mathlib.Core.Bool.{true, and-eq-true_iff}
use mathlib.Core.List.{List, [], ◌∷◌, map}
use lib.ListN.{set}
use borrow.Author.Tests.{eq-eqb}
use Rattle.arbiter.specs.Effects.{power_up}
use Rattle.arbiter.specs.Steps.{step, run_from, run}
use Rattle.arbiter.specs.declared.Kind.{Kind}
use Rattle.arbiter.specs.declared.Kind.TheVariants.{Pca9641}
use Rattle.arbiter.specs.declared.Raw.{Raw}
use Rattle.arbiter.proofs.Choice.{if_true}
use Rattle.ranges.specs.Ranges.{in_range, is_bytes, are_bytes}
use Rattle.ranges.proofs.Ranges.{in_range_lem, stays_in_range}
use Rattle.shelf.specs.declared.Record.{Record}
use Rattle.shelf.specs.declared.Fault.{Fault}
use Rattle.shelf.specs.declared.Reach.{Reach}
use Rattle.shelf.specs.declared.Reach.TheVariants.{At, Everyone}
use Rattle.std.specs.Prelude.{Result, Ok, Err}
use Rattle.shelf.specs.Shelf.{addresses_of, no_record, record_at, device_at, reaches, step_record, row_after, shelf_row, shelf_answer}
use Rattle.shelf.specs.Runs.{Named, shelf_run, Slot, fresh_row, shelf_after}
use Rattle.shelf.proofs.Rows.{refused_same}
use Rattle.rowimage.specs.Row.{bytes_of_row, records_in, is_row}
use Rattle.rowimage.specs.Calls.{row_answer, row_buffer}
use Rattle.rowimage.specs.Slots.{slot_count, slots_to, row_of_slots, fresh_row_number, fresh_row_buffer}
use Rattle.rowimage.specs.Laws.{row_in_range, RowStays, RowRefused, FreshRowGood, row_run, named_bytes, RowsAlike}
use Rattle.rowimage.proofs.Bytes.{row_read_back, row_laid_out_back}

-- ---- an event keeps a row in range

pub power_up_fits : (k : Kind) → in_range (power_up k) ≡ true
unfolding run run_from are_bytes
power_up_fits k = in_range_lem k [] refl

pub device_fits : (row : List Record) (i : ℕ) → row_in_range row ≡ true → in_range (device_at row i) ≡ true
unfolding row_in_range no_record
device_fits [] i h = power_up_fits Pca9641
device_fits (c ∷ row) zero h = ((and-eq-true_iff (in_range c.device) (row_in_range row)).0 h).0
device_fits (c ∷ row) (suc i) h = device_fits row i ((and-eq-true_iff (in_range c.device) (row_in_range row)).0 h).1

set_fits : (row : List Record) (i : ℕ) (c : Record) → row_in_range row ≡ true → in_range c.device ≡ true → row_in_range (set row i c) ≡ true
unfolding row_in_range
set_fits [] i c h f = refl
set_fits (a ∷ row) zero c h f =
    (and-eq-true_iff (in_range c.device) (row_in_range row)).1 (f, ((and-eq-true_iff (in_range a.device) (row_in_range row)).0 h).1)
set_fits (a ∷ row) (suc i) c h f =
    let two = (and-eq-true_iff (in_range a.device) (row_in_range row)).0 h in
    (and-eq-true_iff (in_range a.device) (row_in_range (set row i c))).1 (two.0, set_fits row i c two.1 f)

map_fits : (row : List Record) (r : Raw) → is_bytes r ≡ true → row_in_range row ≡ true → row_in_range (map (step_record r) row) ≡ true
unfolding row_in_range step_record
map_fits [] r b h = refl
map_fits (c ∷ row) r b h =
    let two = (and-eq-true_iff (in_range c.device) (row_in_range row)).0 h in
    (and-eq-true_iff (in_range (step c.device r).device) (row_in_range (map (step_record r) row))).1
    (stays_in_range c.device r b two.0, map_fits row r b two.1)

after_fits : (w : Result Reach Fault) (row : List Record) (r : Raw) → is_bytes r ≡ true → row_in_range row ≡ true → row_in_range (row_after w r row) ≡ true
unfolding step_record
after_fits (Ok (At i)) row r b h = set_fits row i (step_record r (record_at row i)) h (stays_in_range (device_at row i) r b (device_fits row i h))
after_fits (Ok Everyone) row r b h = map_fits row r b h
after_fits (Err f) row r b h = h

pub shelf_fits : (row : List Record) (name : ℕ) (r : Raw) → is_bytes r ≡ true → row_in_range row ≡ true → row_in_range (shelf_row row name r) ≡ true
unfolding shelf_row
shelf_fits row name r b h = after_fits (reaches (addresses_of row) name r) row r b h

-- ---- one event on a good buffer

pub row_answered : (b : List ℕ) (name : ℕ) (r : Raw) → is_row b ≡ true → row_answer b name r ≡ shelf_answer (records_in b) name r
unfolding row_answer
row_answered b name r h = if_true _ _ h

pub row_left : (b : List ℕ) (name : ℕ) (r : Raw) → is_row b ≡ true → row_buffer b name r ≡ bytes_of_row (shelf_row (records_in b) name r)
unfolding row_buffer
row_left b name r h = if_true _ _ h

pub row_stays : RowStays
row_stays b name r bytes h =
    subst (λ (l : List ℕ). (is_row l ≡ true) × (records_in l ≡ shelf_row (records_in b) name r)) (sym (row_left b name r h))
    (row_read_back (shelf_row (records_in b) name r) (shelf_fits (records_in b) name r bytes (row_laid_out_back b h).0))

pub row_refused : RowRefused
row_refused b name r f h e =
    let same = refused_same (records_in b) name r f e in
    (row_left b name r h ∙ ap bytes_of_row same.0 ∙ (row_laid_out_back b h).1, row_answered b name r h ∙ same.1)

-- ---- from power-up

fresh_fits : (slots : List Slot) → row_in_range (fresh_row slots) ≡ true
unfolding row_in_range
fresh_fits [] = refl
fresh_fits (s ∷ slots) = (and-eq-true_iff (in_range (power_up s.kind)) (row_in_range (fresh_row slots))).1 (power_up_fits s.kind, fresh_fits slots)

pub fresh_row_good : FreshRowGood
unfolding fresh_row_buffer row_of_slots
fresh_row_good slots b h =
    subst (λ (l : List ℕ). (is_row l ≡ true) × (records_in l ≡ row_of_slots slots)) (sym (if_true _ _ (eq-eqb (fresh_row_number slots b) 0 h)))
    (row_read_back (row_of_slots slots) (fresh_fits (slots_to (slot_count slots) slots)))

from_alike : (row : List Record) (es : List Named) → row_in_range row ≡ true → named_bytes es ≡ true
    → (row_run (bytes_of_row row) es ≡ bytes_of_row (shelf_run row es)) × (row_in_range (shelf_run row es) ≡ true)
unfolding row_run named_bytes shelf_run
from_alike row [] h b = (refl, h)
from_alike row (e ∷ es) h b =
    let two = (and-eq-true_iff (is_bytes e.event) (named_bytes es)).0 b in
    let back = row_read_back row h in
    let one = row_left (bytes_of_row row) e.name e.event back.0 ∙ ap (λ (l : List Record). bytes_of_row (shelf_row l e.name e.event)) back.1 in
    let rest = from_alike (shelf_row row e.name e.event) es (shelf_fits row e.name e.event two.0 h) two.1 in
    (ap (λ (l : List ℕ). row_run l es) one ∙ rest.0, rest.1)

pub rows_alike : RowsAlike
rows_alike slots es b =
    let (same, fits) = from_alike (fresh_row slots) es (fresh_fits slots) b in
    let back = row_read_back (shelf_after slots es) fits in
    let good = subst (λ (l : List ℕ). is_row l ≡ true) (sym same) back.0 in (
      same,
      good,
      λ e. row_answered (row_run (bytes_of_row (fresh_row slots)) es) e.name e.event good
          ∙ ap (λ (l : List ℕ). shelf_answer (records_in l) e.name e.event) same
          ∙ ap (λ (row : List Record). shelf_answer row e.name e.event) back.1,
    )
