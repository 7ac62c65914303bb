-- `rows::route_event` meets its contract: the plan for what has been surveyed does what the event does.
-- Assumes nothing.
use Rattle.std.proofs.Common.{◌≤◌, ◌-◌, ◌∙◌, List, Option, ap, length, rules}
use Rattle.std.specs.Option.{unwrap_or}
use borrow.Rule.Slice.PartMut.{put_mid}
use Rattle.shelf.specs.declared.Record.{Record}
use Rattle.arbiter.specs.declared.Answer.{Answer}
use Rattle.routing.specs.declared.Seen.{Seen}
use Rattle.routing.specs.Deciding.{plan_of}
use Rattle.rows.proofs.Carried.{plan_does, plan_refused, swept}
use Rattle.rows.proofs.route_event.Goals as goal

pub offset_bounds-row-places : goal.offset_bounds-row-places
offset_bounds-row-places c =
    let planned = c.in-Ok.ensures ∙ ap (λ (s : Seen). plan_of s c.args.r.kind) c.survey.ensures in
    let does = plan_does c.args.name c.args.r c.args.row.now c.in-Ok.places planned in
    let ordered : c.in-Ok.places.start ≤ c.in-Ok.places.end = does.ordered in
    let fits : c.in-Ok.places.end ≤ length c.args.row.now = does.fits in
    search rules

pub slice_bounds-carry_out-count : goal.slice_bounds-carry_out-count
slice_bounds-carry_out-count c =
    let planned = c.in-Ok.ensures ∙ ap (λ (s : Seen). plan_of s c.args.r.kind) c.survey.ensures in
    (plan_does c.args.name c.args.r c.args.row.now c.in-Ok.places planned).ordered

pub slice_bounds-carry_out-start : goal.slice_bounds-carry_out-start
slice_bounds-carry_out-start c =
    let planned = c.in-Ok.ensures ∙ ap (λ (s : Seen). plan_of s c.args.r.kind) c.survey.ensures in
    (plan_does c.args.name c.args.r c.args.row.now c.in-Ok.places planned).ordered

pub slice_bounds-carry_out-end : goal.slice_bounds-carry_out-end
slice_bounds-carry_out-end c =
    let planned = c.in-Ok.ensures ∙ ap (λ (s : Seen). plan_of s c.args.r.kind) c.survey.ensures in
    (plan_does c.args.name c.args.r c.args.row.now c.in-Ok.places planned).fits

pub returns-in-Ok : goal.returns-in-Ok
returns-in-Ok c =
    let row = c.args.row.now in
    let p = c.in-Ok.places in
    let planned = c.in-Ok.ensures ∙ ap (λ (s : Seen). plan_of s c.args.r.kind) c.survey.ensures in
    let does = plan_does c.args.name c.args.r row p planned in
    let done = swept c.args.r p row does.ordered does.fits c.carry_out.ensures in (
      ap (λ (s : List Record × Option Answer). put_mid p.start (p.end - p.start) row s.0) done ∙ does.part_leaves,
      c.unwrap_or.ensures ∙ ap (λ (s : List Record × Option Answer). unwrap_or s.1 c.no_answer.result) done
          ∙ ap (λ (t : Option Answer). unwrap_or t c.no_answer.result) does.part_answers,
    )

pub returns-in-Err : goal.returns-in-Err
returns-in-Err c =
    let planned = c.in-Err.ensures ∙ ap (λ (s : Seen). plan_of s c.args.r.kind) c.survey.ensures in
    let refused = plan_refused c.args.name c.args.r c.args.row.now c.in-Err.f planned in
    (refused.0, c.fault_answer.ensures ∙ refused.1)
