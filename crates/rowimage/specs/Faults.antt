-- The refusals of a row in a buffer and of slots, as the code has them, by their numbers.
-- Assumes nothing.
use Rattle.std.specs.Prelude.{ℕ, Result, Ok, Err}
use Rattle.shelf.specs.Shelf.{fault_number}
use Rattle.rowimage.specs.declared.RowFault.{RowFault}
use Rattle.rowimage.specs.declared.RowFault.TheVariants.{WrongLength, OutOfRange, UnknownKind, Shelf}

abbrev pub row_fault_number : RowFault → ℕ
row_fault_number WrongLength = 9
row_fault_number OutOfRange = 16
row_fault_number UnknownKind = 3
row_fault_number (Shelf f) = fault_number f

-- 0 where nothing is refused
abbrev pub number_of : Result (Unit {0}) RowFault → ℕ
number_of (Ok u) = 0
number_of (Err f) = row_fault_number f
