-- `rowimage::step_row` meets its contract.
-- Assumes nothing.
use mathlib.Core.Path.{sym, ap, ◌∙◌}
use borrow.Author.Tests.{eq-eqb, ne_eqb}
use Rattle.layout.specs.Images.{refused_by}
use Rattle.rowimage.specs.Calls.{row_answer, row_buffer}
use Rattle.rowimage.proofs.Faults.{fault_some}
use Rattle.rowimage.proofs.step_row.Goals as goal

pub route-requires : goal.route-requires
route-requires c = eq-eqb _ _ (sym c.in-Ok.ensures)

pub returns-in-Ok : goal.returns-in-Ok
unfolding row_answer row_buffer
returns-in-Ok c =
    let good = eq-eqb _ _ (sym c.in-Ok.ensures) in
    let done = c.route.ensures in
    (simp good done.0, simp good done.1)

pub returns-in-Err : goal.returns-in-Err
unfolding row_answer row_buffer
returns-in-Err c =
    let number = c.in-Err.ensures in
    let bad = ne_eqb _ _ (λ e. fault_some c.in-Err.f (number ∙ e)) in
    (simp bad (c.refused_by.ensures ∙ ap refused_by (c.row_fault_number.ensures ∙ number)), simp bad)
