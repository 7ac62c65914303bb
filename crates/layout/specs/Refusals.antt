-- Why a call on an image is refused, by document 02's numbers, and what a call that may be refused tells, as the numbers say it: 0, or the number of the
-- refusal. The code answers with a Result; Images.antt speaks of the numbers.
-- Assumes nothing.
use Rattle.std.specs.Prelude.{ℕ, Result, Ok, Err}
use Rattle.layout.specs.declared.ImageRefusal.{ImageRefusal}
use Rattle.layout.specs.declared.ImageRefusal.TheVariants.{Length, Range, Argument}

-- what a register of an image reads: the number, and the byte
pub record Shown : Type 0 where
  pub number : ℕ
  pub byte : ℕ

abbrev pub refusal_number : ImageRefusal → ℕ
refusal_number Length = 9
refusal_number Range = 16
refusal_number Argument = 3

-- a call that gives what is not told by its number
unfoldable pub number_of : {T : Type 0} → Result T ImageRefusal → ℕ
number_of (Ok given) = 0
number_of (Err r) = refusal_number r

-- a register read: 00h where it was refused
unfoldable pub shown_of : Result ℕ ImageRefusal → Shown
shown_of (Ok byte) = record { number = 0; byte = byte }
shown_of (Err r) = record { number = refusal_number r; byte = 0 }
