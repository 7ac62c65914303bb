-- A fresh row, of slots that are two bytes each: an address, and the number of a kind of part. Each record is its address and the image of a
-- device of this kind after power-up.
-- Assumes nothing.
use Rattle.std.specs.Prelude.{ℕ, zero, suc, ◌*◌, ◌/◌, ◌%◌, Bool, true, ◌&&◌, List, [], ◌∷◌, Result, Ok, Err, eqb, length, drop, if◌then◌else◌}
use Rattle.arbiter.specs.Traces.{byte_at, is_kind, kind_of}
use Rattle.shelf.specs.declared.Record.{Record}
use Rattle.shelf.specs.declared.Naming.TheVariants.{Nothing}
use Rattle.shelf.specs.declared.Fault.{Fault}
use Rattle.shelf.specs.declared.Reach.{Reach}
use Rattle.shelf.specs.declared.Reach.TheVariants.{At, Everyone}
use Rattle.shelf.specs.Shelf.{addresses_of, reach_of, fault_number}
use Rattle.shelf.specs.Runs.{Slot, fresh_row}
use Rattle.rowimage.specs.Row.{record_bytes, bytes_of_row}

abbrev pub slot_bytes : ℕ
slot_bytes = 2

abbrev pub slot_count : List ℕ → ℕ
slot_count slots = length slots / slot_bytes

-- the first n slots of these bytes
abbrev pub slot_in : List ℕ → Slot
slot_in b = record { address = byte_at 0 b; kind = kind_of (byte_at 1 b) }

unfoldable pub slots_to : ℕ → List ℕ → List Slot
slots_to zero b = []
slots_to (suc n) b = slot_in b ∷ slots_to n (drop slot_bytes b)

-- their numbers are of kinds of part
unfoldable pub kinds_known : ℕ → List ℕ → Bool
kinds_known zero b = true
kinds_known (suc n) b = is_kind (byte_at 1 b) && kinds_known n (drop slot_bytes b)

-- the row that they make
unfoldable pub row_of_slots : List ℕ → List Record
row_of_slots slots = fresh_row (slots_to (slot_count slots) slots)

-- ---- the refusals

-- #105's 3 for another kind
abbrev pub kinds_number : List ℕ → ℕ
kinds_number slots = if kinds_known (slot_count slots) slots then 0 else 3

-- before it the shelf's own of a row, 5, 6 and 17: those of an event that names nothing
abbrev pub number_by : Result Reach Fault → List ℕ → ℕ
number_by (Ok (At i)) slots = kinds_number slots
number_by (Ok Everyone) slots = kinds_number slots
number_by (Err f) slots = fault_number f

unfoldable pub slots_number : List ℕ → ℕ
slots_number slots = number_by (reach_of Nothing 0 (addresses_of (row_of_slots slots))) slots

-- the slots are in pairs, and the row has 39 bytes for each
abbrev pub is_laid_for : ℕ → ℕ → Bool
is_laid_for slots row = eqb (slots % slot_bytes) 0 && eqb row (record_bytes * (slots / slot_bytes))

-- 9 first, as for every buffer
unfoldable pub fresh_row_number : List ℕ → List ℕ → ℕ
fresh_row_number slots b = if is_laid_for (length slots) (length b) then slots_number slots else 9

-- ---- what is left in the buffer: refused, it is left as it was

unfoldable pub fresh_row_buffer : List ℕ → List ℕ → List ℕ
fresh_row_buffer slots b = if eqb (fresh_row_number slots b) 0 then bytes_of_row (row_of_slots slots) else b
