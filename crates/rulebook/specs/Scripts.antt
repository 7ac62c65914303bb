-- A script of traces/rules/ as a row: its part, and its events with the answer that each of them gets, as the listing prints it.
-- Assumes nothing.
use Rattle.std.specs.Prelude.{ℕ, zero, suc, ◌/◌, ◌%◌, List, [], ◌∷◌, ◌++◌}
use Rattle.arbiter.specs.declared.Kind.{Kind}
use Rattle.arbiter.specs.declared.Raw.{Raw}
use Rattle.arbiter.specs.declared.Answer.{Answer}
use Rattle.arbiter.specs.Effects.{power_up}
use Rattle.arbiter.specs.Steps.{answers_from}
use Rattle.arbiter.specs.Marks.{tick}

-- ---- a line of a script: an event that comes so often, and the answer that it gets each time

pub record Line : Type 0 where
  pub often : ℕ
  pub event : Raw
  pub answer : ℕ

infix 70 ◌gives◌
abbrev pub ◌gives◌ : Raw → ℕ → Line
e gives a = record { often = 1; event = e; answer = a }

infix 70 ◌ticks◌
abbrev pub ◌ticks◌ : ℕ → ℕ → Line
n ticks a = record { often = n; event = tick; answer = a }

-- ---- a script: a line of its file that gets several answers, as `tick 50` may, has a line for each run of the same answer

infix 15 part◌does◌
pub record Script : Type 0 where
  pub kind : Kind
  pub lines : List Line

abbrev pub part◌does◌ : Kind → List Line → Script
part k does ls = record { kind = k; lines = ls }

-- ---- what is found, and what the script says

-- eight digits of the listing are the four bytes of an answer
abbrev pub answer_of : ℕ → Answer
answer_of n = record { outcome = n / 0x1000000; read = n / 0x10000 % 256; owner = n / 0x100 % 256; lines = n % 256 }

abbrev pub repeated : {A : Type 0} → ℕ → A → List A
repeated zero x = []
repeated (suc n) x = x ∷ repeated n x

abbrev pub events : List Line → List Raw
events [] = []
events (l ∷ ls) = repeated l.often l.event ++ events ls

abbrev pub answers : List Line → List Answer
answers [] = []
answers (l ∷ ls) = repeated l.often (answer_of l.answer) ++ answers ls

-- by the definitions, from power-up of the script's part
abbrev pub found : Script → List Answer
found s = answers_from (power_up s.kind) (events s.lines)

abbrev pub told : Script → List Answer
told s = answers s.lines
