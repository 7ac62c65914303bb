-- `rows::carry_out` meets its contract: at each record those before it have made the step.
-- Assumes nothing.
use Rattle.std.proofs.Common.{◌≡◌, ◌<◌, ◌-◌, ◌∙◌, ℕ, None, length, ap, sym, add-one, arith}
use Rattle.std.proofs.lemmas.List.{get_or_default}
use Rattle.arbiter.specs.Steps.{step}
use Rattle.shelf.specs.declared.Record.{Record}
use Rattle.shelf.specs.Shelf.{no_record, step_record}
use Rattle.routing.specs.Deciding.{first_answer}
use Rattle.rows.specs.Sweeps.{sweep_of, carried_out}
use Rattle.rows.proofs.Carried.{sweep_none, visited_next}
use Rattle.rows.proofs.carry_out.Goals as goal

pub loop-c-init : goal.loop-c-init
loop-c-init c = sym (sweep_none c.args.r 0 (c.args.part.now, None))

pub loop-c-preserved : goal.loop-c-preserved
loop-c-preserved c =
    let r = c.args.r in
    let part = c.loop-c.part in
    let i = c.loop-c.c-index in
    let within : i < length part = omega arith in
    let there = get_or_default part i _ no_record within in
    rw (add-one i) (
    visited_next r i (c.args.part.now, None) part c.loop-c.told _ _ c.loop-c.invariant (c.visit.ensures.0 ∙ ap (step_record r) there)
    (c.visit.ensures.1 ∙ ap (λ (b : Record). first_answer c.loop-c.told (step b.device r).answer) there)
    )

pub returns : goal.returns
unfolding carried_out
returns c =
    let all : c.loop-c.c-index ≡ length c.args.part.now - 0 = omega arith in
    c.loop-c.invariant ∙ ap (λ (k : ℕ). sweep_of c.args.r 0 k (c.args.part.now, None)) all
