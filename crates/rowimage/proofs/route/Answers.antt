-- `rowimage::route` meets its contract.
-- Assumes nothing.
use mathlib.Core.Path.{ap, ◌∙◌}
use Rattle.routing.specs.declared.Seen.{Seen}
use Rattle.routing.specs.Deciding.{plan_of}
use Rattle.rowimage.proofs.Walks.{plan_fits, plan_done, plan_none}
use Rattle.rowimage.proofs.route.Goals as goal

pub carry_out-requires : goal.carry_out-requires
carry_out-requires c =
    let planned = c.in-Ok.ensures ∙ ap (λ (s : Seen). plan_of s c.args.r.kind) c.survey.ensures in
    let fits = plan_fits c.args.row.now c.requires c.args.name c.args.r _ planned in
    (c.requires, fits.0, fits.1)

pub returns-in-Ok : goal.returns-in-Ok
returns-in-Ok c =
    let planned = c.in-Ok.ensures ∙ ap (λ (s : Seen). plan_of s c.args.r.kind) c.survey.ensures in
    let done = plan_done c.args.row.now c.requires c.args.name c.args.r _ _ _ c.no_answer.result planned c.carry_out.ensures.0 c.carry_out.ensures.1 in
    (c.unwrap_or.ensures ∙ done.0, done.1)

pub returns-in-Err : goal.returns-in-Err
returns-in-Err c =
    let planned = c.in-Err.ensures ∙ ap (λ (s : Seen). plan_of s c.args.r.kind) c.survey.ensures in
    plan_none c.args.row.now c.requires c.args.name c.args.r _ _ planned c.fault_answer.ensures
