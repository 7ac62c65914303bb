-- A refusal has a number of its own, and none is 0.
-- Assumes nothing.
use Prim.Native.Nat.{ℕ}
use native.Mathlib.Omega.{arith}
use mathlib.Core.Path.{◌≡◌, refl, sym, ap, ◌∙◌}
use lib.Dec.{eqb}
use Rattle.std.specs.Prelude.{Result, Ok, Err, if◌then◌else◌}
use Rattle.shelf.specs.declared.Fault.TheVariants.{EmptyRow, TooMany, EqualAddresses, NotInRow}
use Rattle.rowimage.specs.declared.RowFault.{RowFault}
use Rattle.rowimage.specs.declared.RowFault.TheVariants.{WrongLength, OutOfRange, UnknownKind, Shelf}
use Rattle.rowimage.specs.Faults.{row_fault_number, number_of}

pub fault_some : (f : RowFault) → row_fault_number f ≡ 0 → ⊥
fault_some WrongLength e = omega arith
fault_some OutOfRange e = omega arith
fault_some UnknownKind e = omega arith
fault_some (Shelf EmptyRow) e = omega arith
fault_some (Shelf TooMany) e = omega arith
fault_some (Shelf EqualAddresses) e = omega arith
fault_some (Shelf NotInRow) e = omega arith

-- what a number tells
abbrev told_by_number : ℕ → Result (Unit {0}) RowFault
told_by_number n =
    if eqb n 0 then Ok tt
    else if eqb n 9 then Err WrongLength
    else if eqb n 16 then Err OutOfRange
    else if eqb n 3 then Err UnknownKind
    else if eqb n 5 then Err (Shelf EmptyRow)
    else if eqb n 6 then Err (Shelf TooMany)
    else if eqb n 17 then Err (Shelf EqualAddresses)
    else Err (Shelf NotInRow)

told_back : (r : Result (Unit {0}) RowFault) → told_by_number (number_of r) ≡ r
told_back (Ok u) = refl
told_back (Err WrongLength) = refl
told_back (Err OutOfRange) = refl
told_back (Err UnknownKind) = refl
told_back (Err (Shelf EmptyRow)) = refl
told_back (Err (Shelf TooMany)) = refl
told_back (Err (Shelf EqualAddresses)) = refl
told_back (Err (Shelf NotInRow)) = refl

-- so two results of one number are one
pub same_number : (r s : Result (Unit {0}) RowFault) → number_of r ≡ number_of s → r ≡ s
same_number r s e = sym (told_back r) ∙ ap told_by_number e ∙ told_back s
