-- `share::counting::take_others` meets its contract.
-- Assumes nothing.
use Prim.Native.Nat.{◌+◌}
use mathlib.Core.Path.{sym, ap, ◌∙◌}
use native.Mathlib.Omega.{arith}
use Rattle.arbiter.specs.declared.Device.{Device}
use Rattle.arbiter.specs.Types.{Ran}
use Rattle.traces.specs.Bodies.{ran_of}
use Rattle.share.specs.Walk.{point_with}
use Rattle.share.proofs.Others.{others_ran}
use Rattle.share.proofs.counting.take_others.Goals as goal

pub returns-in-Ok : goal.returns-in-Ok
returns-in-Ok c =
    let p = c.args.p in
    let done = ap (λ (x : Ran). x.device) (sym (ap (ran_of p.device) c.in-Ok.is) ∙ c.run_settled.ensures.0)
    ∙ others_ran p.device p.at c.args.k c.args.events.now _ c.requires.2 (omega (arith, c.requires.0)) in
    c.point_with.ensures ∙ ap (λ (d : Device). point_with d p.tally (p.at + c.args.k)) done

pub returns-in-Err : goal.returns-in-Err
returns-in-Err c =
    let p = c.args.p in
    let done = ap (λ (x : Ran). x.device) (sym (ap (ran_of p.device) c.in-Err.is) ∙ c.run_settled.ensures.0)
    ∙ others_ran p.device p.at c.args.k c.args.events.now _ c.requires.2 (omega (arith, c.requires.0)) in
    c.point_with-in-Err.ensures ∙ ap (λ (d : Device). point_with d p.tally (p.at + c.args.k)) done
