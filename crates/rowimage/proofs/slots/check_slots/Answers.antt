-- `rowimage::slots::check_slots` meets its contract.
-- Assumes nothing.
use mathlib.Core.Path.{sym, ap, ◌∙◌}
use mathlib.Core.Bool.{Bool}
use Rattle.std.specs.Prelude.{if◌then◌else◌}
use Rattle.std.proofs.lemmas.Result.{err_from_is_err_and}
use Rattle.rowimage.specs.Faults.{row_fault_number, number_of}
use Rattle.rowimage.proofs.Fresh.{number_told, number_passed}
use Rattle.rowimage.proofs.slots.check_slots.Goals as goal

pub returns-in_err-reach_for : goal.returns-in_err-reach_for
returns-in_err-reach_for c =
    let p = err_from_is_err_and c.from_residual.result c.from_residual.ensures.1 in
    ap number_of p.1 ∙ ap row_fault_number p.2 ∙ number_told c.args.slots.now _ _ c.survey_slots.ensures c.in_err-reach_for.ensures

pub returns-then-kinds_known : goal.returns-then-kinds_known
returns-then-kinds_known c =
    ap (λ (b : Bool). if b then 0 else 3) (sym c.if-kinds_known.true ∙ c.kinds_known.ensures)
    ∙ number_passed c.args.slots.now _ _ c.survey_slots.ensures c.in_ok-reach_for.ensures

pub returns-else-kinds_known : goal.returns-else-kinds_known
returns-else-kinds_known c =
    ap (λ (b : Bool). if b then 0 else 3) (sym c.if-kinds_known.false ∙ c.kinds_known.ensures)
    ∙ number_passed c.args.slots.now _ _ c.survey_slots.ensures c.in_ok-reach_for.ensures
