-- `rowimage::check_row` meets its contract.
-- Assumes nothing.
use borrow.Author.Tests.{eq-eqb, ne_eqb}
use mathlib.Core.Path.{sym, ◌∙◌}
use Rattle.rowimage.specs.Row.{row_number}
use Rattle.rowimage.proofs.check_row.Goals as goal

pub returns-then-images_fit : goal.returns-then-images_fit
unfolding row_number
returns-then-images_fit c = simp (eq-eqb _ _ c.if-row-eq0.true, sym c.images_fit.ensures ∙ c.if-images_fit.true)

pub returns-else-images_fit : goal.returns-else-images_fit
unfolding row_number
returns-else-images_fit c = simp (eq-eqb _ _ c.if-row-eq0.true, sym c.images_fit.ensures ∙ c.if-images_fit.false)

pub returns-else-row-eq0 : goal.returns-else-row-eq0
unfolding row_number
returns-else-row-eq0 c = simp (ne_eqb _ _ c.if-row-eq0.false)
