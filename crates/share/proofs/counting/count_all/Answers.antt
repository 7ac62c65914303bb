-- `share::counting::count_all` meets its contract. The counts so far, with those of the states that are still to come, are the counts of
-- Assumes nothing.
use mathlib.Core.Path.{◌≡◌, refl, sym, subst, ◌∙◌}
use native.Mathlib.Omega.{arith}
use Rattle.light.specs.Light.{Settled}
use Rattle.share.specs.declared.Point.{Point}
use Rattle.arbiter.specs.Traces.{event_count}
use Rattle.share.proofs.Quiet.{counted_whole, begun, ended}
use Rattle.share.proofs.counting.count_all.Goals as goal

pub loop-p-init : goal.loop-p-init
loop-p-init c =
    let at = begun c.args.events.now _ (counted_whole c.args.events.now) c.args.from _ c.point_with-p.result c.empty_tally.ensures
    c.point_with-p.ensures in
    (at.0, at.1, refl, subst (λ (x : Point). Settled x.device) (sym c.point_with-p.ensures) c.requires.1)

pub take_next-p-requires : goal.take_next-p-requires
take_next-p-requires c =
    (omega (arith, c.loop-p-test.true), c.requires.0, c.loop-p.invariant.1, c.loop-p.invariant.3)

pub loop-p-smaller : goal.loop-p-smaller
loop-p-smaller c = omega (arith, c.take_next-p.ensures.0, c.take_next-p.ensures.1)

pub loop-p-preserved : goal.loop-p-preserved
loop-p-preserved c = let next = c.take_next-p.ensures in (next.1, next.2, next.3 ∙ c.loop-p.invariant.2, next.4)

pub returns : goal.returns
returns c =
    let e : c.loop-p.p.at ≡ event_count c.args.events.now = omega (arith, c.loop-p-test.false, c.loop-p.invariant.0) in
    ended c.args.events.now _ (counted_whole c.args.events.now) c.args.from _ c.point_with-p.result c.loop-p.p
    c.empty_tally.ensures c.point_with-p.ensures
    c.loop-p.invariant.2 e
