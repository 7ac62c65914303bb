-- Why a call on a listener is refused, by document 02's numbers, and what a call that may be refused tells, as the numbers say it: 0, or the number of
-- the refusal. The code answers with a Result; Calls.antt speaks of the numbers.
-- Assumes nothing.
use Rattle.std.specs.Prelude.{ℕ, Result, Ok, Err}
use Rattle.watchlayout.specs.declared.WatchRefusal.{WatchRefusal}
use Rattle.watchlayout.specs.declared.WatchRefusal.TheVariants.{Length, Range, Argument, Address}

-- what listening tells: the number, and how many samples were taken
pub record Heeded : Type 0 where
  pub number : ℕ
  pub taken : ℕ

abbrev pub refusal_number : WatchRefusal → ℕ
refusal_number Length = 9
refusal_number Range = 16
refusal_number Argument = 3
refusal_number Address = 11

-- a call that gives what is not told by its number
unfoldable pub number_of : {T : Type 0} → Result T WatchRefusal → ℕ
number_of (Ok given) = 0
number_of (Err r) = refusal_number r

-- samples taken: none by a refused buffer
unfoldable pub heeded_of : Result ℕ WatchRefusal → Heeded
heeded_of (Ok taken) = record { number = 0; taken = taken }
heeded_of (Err r) = record { number = refusal_number r; taken = 0 }
