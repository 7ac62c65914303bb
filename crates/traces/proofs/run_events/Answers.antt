-- `traces::run_events` meets its contract: its device goes the short way if it tells that it is settled, and else each event is stepped in full.
-- Assumes nothing.
use mathlib.Core.Path.{sym, ap, ◌∙◌}
use native.Mathlib.Omega.{arith}
use Rattle.std.proofs.lemmas.Result.{err_from_is_err_and}
use Rattle.light.proofs.Told.{settled_told}
use Rattle.traces.specs.Bodies.{ran_with}
use Rattle.traces.proofs.Runs.{roomy, refused_ran, all-ran, all-answered}
use Rattle.traces.proofs.run_events.Goals as goal

pub run_settled-requires : goal.run_settled-requires
run_settled-requires c = settled_told _ (sym c.is_settled.ensures ∙ c.if-is_settled.true)

pub returns-in_err-n : goal.returns-in_err-n
returns-in_err-n c =
    let p = err_from_is_err_and c.from_residual.result c.from_residual.ensures.1 in
    rw (p.1, p.2) (refused_ran _ _ _ _ (sym c.events_with_room.ensures ∙ c.in_err-n.was))

pub step_each-device-requires : goal.step_each-device-requires
step_each-device-requires c =
    let fits = roomy _ _ _ (sym c.events_with_room.ensures ∙ c.in_ok-n.was) in
    (omega (arith, fits.0), fits.1)

pub returns : goal.returns
returns c =
    let fits = roomy _ _ _ (sym c.events_with_room.ensures ∙ c.in_ok-n.was) in
    let stepped = c.step_each-device in (
      ap (ran_with 0 c.in_ok-n.n) stepped.ensures.0 ∙ all-ran _ _ _ c.in_ok-n.n fits.0 fits.1,
      stepped.ensures.1 ∙ all-answered _ _ _ c.in_ok-n.n fits.0 fits.1,
    )
