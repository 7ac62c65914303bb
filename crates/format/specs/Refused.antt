-- What a call answers, as document 01 tells it: 0 and the length of what is written, or the number of a refusal.
-- Assumes nothing.
use Rattle.std.specs.Prelude.{ℕ, Result, Ok, Err}
use Rattle.arbiter.specs.Traces.{refusal_number}
use Rattle.arbiter.specs.declared.Refusal.{Refusal}
use Rattle.arbiter.specs.Types.{Written}

-- the number alone
abbrev pub number_of : {A : Type 0} → Result A Refusal → ℕ
number_of (Ok x) = 0
number_of (Err r) = refusal_number r

-- the number and the length
abbrev pub written_of : Result ℕ Refusal → Written
written_of (Ok n) = record { number = 0; length = n }
written_of (Err r) = record { number = refusal_number r; length = 0 }
