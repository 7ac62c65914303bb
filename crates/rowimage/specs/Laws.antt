-- Laws of `rowimage`: what holds of rows in buffers: row and buffer are inverse, a fresh row is good, every event leaves a good one, and runs go
-- together with those of the shelf. proofs/ proves each.
-- Assumes nothing.
use Rattle.std.specs.Prelude.{ℕ, ◌≡◌, Bool, true, ◌&&◌, List, [], ◌∷◌, Err}
use Rattle.ranges.specs.Ranges.{in_range, is_bytes}
use Rattle.arbiter.specs.declared.Raw.{Raw}
use Rattle.shelf.specs.declared.Record.{Record}
use Rattle.shelf.specs.declared.Fault.{Fault}
use Rattle.shelf.specs.Shelf.{addresses_of, reaches, fault_answer, shelf_row, shelf_answer}
use Rattle.shelf.specs.Runs.{Named, Slot, fresh_row, shelf_after}
use Rattle.rowimage.specs.Row.{bytes_of_row, records_in, is_row}
use Rattle.rowimage.specs.Calls.{row_answer, row_buffer}
use Rattle.rowimage.specs.Slots.{row_of_slots, fresh_row_number, fresh_row_buffer}

-- every device of the row has its fields in range
unfoldable pub row_in_range : List Record → Bool
row_in_range [] = true
row_in_range (c ∷ row) = in_range c.device && row_in_range row

-- ---- there and back

-- A row with its fields in range is never refused with 9 or 16, and comes back from its bytes.
abbrev pub RowReadBack : Type 0
RowReadBack = (row : List Record) → row_in_range row ≡ true → (is_row (bytes_of_row row) ≡ true) × (records_in (bytes_of_row row) ≡ row)

-- A good buffer is that of a row in range, and comes back from its records.
abbrev pub RowLaidOutBack : Type 0
RowLaidOutBack = (b : List ℕ) → is_row b ≡ true → (row_in_range (records_in b) ≡ true) × (bytes_of_row (records_in b) ≡ b)

-- ---- one event

-- An event leaves a good buffer, whatever good buffer it was given: its records are those of the shelf after the event.
abbrev pub RowStays : Type 0
RowStays =
    (b : List ℕ) (name : ℕ) (r : Raw) → is_bytes r ≡ true → is_row b ≡ true
    → (is_row (row_buffer b name r) ≡ true) × (records_in (row_buffer b name r) ≡ shelf_row (records_in b) name r)

-- What the shelf refuses leaves the buffer as it was, and answers number, 00, 00, 00.
abbrev pub RowRefused : Type 0
RowRefused =
    (b : List ℕ) (name : ℕ) (r : Raw) (f : Fault) → is_row b ≡ true → reaches (addresses_of (records_in b)) name r ≡ Err f
    → (row_buffer b name r ≡ b) × (row_answer b name r ≡ fault_answer f)

-- ---- from power-up

-- A fresh row is good, and its records are the slots after power-up.
abbrev pub FreshRowGood : Type 0
FreshRowGood =
    (slots b : List ℕ) → fresh_row_number slots b ≡ 0
    → (is_row (fresh_row_buffer slots b) ≡ true) × (records_in (fresh_row_buffer slots b) ≡ row_of_slots slots)

-- events one after the other on a buffer
unfoldable pub row_run : List ℕ → List Named → List ℕ
row_run b [] = b
row_run b (e ∷ es) = row_run (row_buffer b e.name e.event) es

unfoldable pub named_bytes : List Named → Bool
named_bytes [] = true
named_bytes (e ∷ es) = is_bytes e.event && named_bytes es

-- On a fresh row they leave the bytes of the shelf after them, and each event then answers as on the shelf: 9 and 16 are never answered.
abbrev pub RowsAlike : Type 0
RowsAlike =
    (slots : List Slot) (es : List Named) → named_bytes es ≡ true → let b : List ℕ = row_run (bytes_of_row (fresh_row slots)) es in
    (b ≡ bytes_of_row (shelf_after slots es)) × (is_row b ≡ true) × ((e : Named) → row_answer b e.name e.event ≡ shelf_answer (shelf_after slots es) e.name e.event)
