-- `format::put_answer` meets its contract.
-- Assumes nothing.
use borrow.Author.Tests.{le-ltb, lt-ltb}
use Rattle.format.specs.Places.{put_at, with_answer}
use Rattle.format.proofs.put_answer.Goals as goal

pub returns-then-i-answers : goal.returns-then-i-answers
unfolding put_at with_answer
returns-then-i-answers c = simp (lt-ltb _ _ c.if-i-answers.true)

pub returns-else-i-answers : goal.returns-else-i-answers
unfolding with_answer
returns-else-i-answers c = simp (le-ltb _ _ c.if-i-answers.false)
