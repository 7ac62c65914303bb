-- `text::put_whole` meets its contract.
-- Assumes nothing.
use mathlib.Core.Path.{refl}
use borrow.Author.Tests.{le-ltb, lt-ltb}
use Rattle.text.specs.Written.{fitted}
use Rattle.text.proofs.put_whole.Goals as goal

pub returns-then-n-text : goal.returns-then-n-text
unfolding fitted
returns-then-n-text c = (refl, simp (le-ltb _ _ c.if-n-text.true, c.copy_from_slice.ensures.after))

pub returns-else-n-text : goal.returns-else-n-text
unfolding fitted
returns-else-n-text c = (refl, simp (lt-ltb _ _ c.if-n-text.false))
