-- `traces::run_trace` meets its contract: the events of an accepted trace are run from power-up, where a device is settled; a refused one leaves everything as
-- it was.
-- Assumes nothing.
use mathlib.Core.Path.{sym, subst, ap, ◌∙◌}
use Rattle.light.specs.Light.{Settled}
use Rattle.light.proofs.Settles.{settled_at_power_up}
use Rattle.traces.specs.Bodies.{ran_of}
use Rattle.traces.proofs.Accepted.{played_report, played_buffer, never_refused}
use Rattle.traces.proofs.run_trace.Goals as goal

pub run_settled-requires : goal.run_settled-requires
run_settled-requires c = subst Settled (sym c.fresh.ensures) (settled_at_power_up _)

pub returns-in_err-run : goal.returns-in_err-run
returns-in_err-run c =
    let h = sym c.read_trace.ensures.0 ∙ c.in_ok-read.was in
    let told = sym (ap (ran_of c.fresh.result) c.in_err-run.was) ∙ c.run_settled.ensures.0 in
    absurd (never_refused _ _ _ _ _ h _ _ _ c.fresh.ensures c.events_in.ensures told)

pub returns : goal.returns
returns c =
    let h = sym c.read_trace.ensures.0 ∙ c.in_ok-read.was in
    let told = sym (ap (ran_of c.fresh.result) c.in_ok-run.was) ∙ c.run_settled.ensures.0 in (
      played_report _ _ _ _ _ h _ _ _ c.fresh.ensures c.events_in.ensures told,
      c.run_settled.ensures.1 ∙ played_buffer _ _ _ _ _ h _ _ c.fresh.ensures c.events_in.ensures,
    )
