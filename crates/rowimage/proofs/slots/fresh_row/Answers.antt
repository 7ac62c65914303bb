-- `rowimage::slots::fresh_row` meets its contract.
-- Assumes nothing.
use mathlib.Core.Path.{sym, ap, ◌∙◌}
use Rattle.std.proofs.lemmas.Result.{err_from_is_err_and}
use Rattle.rowimage.specs.Faults.{row_fault_number, number_of}
use Rattle.rowimage.proofs.Faults.{fault_some}
use Rattle.rowimage.proofs.Fresh.{laid_room, number_known, fresh_done, fresh_refused, fresh_unlaid}
use Rattle.rowimage.proofs.slots.fresh_row.Goals as goal

pub put_slots-requires : goal.put_slots-requires
put_slots-requires c =
    (laid_room _ _ (sym c.is_laid_for.ensures ∙ c.if-is_laid_for.true), number_known _ (sym c.in_ok-check_slots.ensures))

pub returns-in_ok-check_slots : goal.returns-in_ok-check_slots
returns-in_ok-check_slots c =
    fresh_done _ _ _ (sym c.is_laid_for.ensures ∙ c.if-is_laid_for.true) (sym c.in_ok-check_slots.ensures) c.put_slots.ensures

pub returns-in_err-check_slots : goal.returns-in_err-check_slots
returns-in_err-check_slots c =
    let p = err_from_is_err_and c.from_residual.result c.from_residual.ensures.1 in
    let told = c.in_err-check_slots.ensures in
    let refused =
    fresh_refused c.args.slots.now c.args.row.now _ (sym c.is_laid_for.ensures ∙ c.if-is_laid_for.true) told (fault_some c.in_err-check_slots.field-0.0)
    in
    (ap number_of p.1 ∙ ap row_fault_number p.2 ∙ refused.0, refused.1)

pub returns-else-is_laid_for : goal.returns-else-is_laid_for
returns-else-is_laid_for c = fresh_unlaid _ _ (sym c.is_laid_for.ensures ∙ c.if-is_laid_for.false)
