-- `rowimage::show_row` meets its contract.
-- Assumes nothing.
use mathlib.Core.Path.{sym, ap, ◌∙◌}
use borrow.Author.Tests.{eq-eqb, ne_eqb}
use Rattle.layout.specs.Images.{refused_by}
use Rattle.rowimage.specs.Calls.{row_shown}
use Rattle.rowimage.proofs.Faults.{fault_some}
use Rattle.rowimage.proofs.show_row.Goals as goal

pub returns-in-Ok : goal.returns-in-Ok
unfolding row_shown
returns-in-Ok c = simp (eq-eqb _ _ (sym c.in-Ok.ensures)) c.show_in.ensures

pub returns-in-Err : goal.returns-in-Err
unfolding row_shown
returns-in-Err c =
    let number = c.in-Err.ensures in
    simp (ne_eqb _ _ (λ e. fault_some c.in-Err.f (number ∙ e))) (c.refused_by.ensures ∙ ap refused_by (c.row_fault_number.ensures ∙ number))
