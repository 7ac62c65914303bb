-- `traces::ticks::play_ticks` meets its contract: the events after event i that were passed are TICKs, and as many places have the answer.
-- Assumes nothing.
use Prim.Native.Nat.{◌+◌}
use mathlib.Core.Path.{refl, sym, ◌∙◌}
use native.Mathlib.Omega.{arith}
use Rattle.traces.proofs.Batch.{passed_none, passed_more, passed_all}
use Rattle.traces.proofs.ticks.play_ticks.Goals as goal

pub loop-at-init : goal.loop-at-init
loop-at-init c =
    let given = c.args in
    passed_none given.events.now _ given.i given.last given.a c.requires.0

pub returns-else-is_tick_at : goal.returns-else-is_tick_at
returns-else-is_tick_at c =
    let given = c.args in
    let at = c.loop-at in
    let first = c.put_there in
    passed_all given.events.now _ given.i given.last given.a _ _ at.invariant _ first.ensures

pub returns-else-is_tick_at-2 : goal.returns-else-is_tick_at-2
returns-else-is_tick_at-2 c =
    let given = c.args in
    let at = c.loop-at in
    let first = c.put_there in
    let within = c.loop-at-test.true in
    let read = c.is_tick_at in
    let tick = sym read.ensures ∙ c.if-is_tick_at.true in
    let put = c.put_there-then-is_tick_at in
    let more = passed_more given.events.now _ given.i given.last given.a _
    at.at at.invariant (omega (arith, within)) tick _ put.auto.answers put.ensures (at.at + 1) refl in
    passed_all given.events.now _ given.i given.last given.a _ _ more _ first.ensures

pub loop-at-preserved : goal.loop-at-preserved
loop-at-preserved c =
    let given = c.args in
    let at = c.loop-at in
    let within = c.loop-at-test.true in
    let read = c.is_tick_at in
    let tick = sym read.ensures ∙ c.if-is_tick_at.true in
    let put = c.put_there-then-is_tick_at in
    let next = c.is_tick_at-in-loop-at in
    let tick-2 = sym next.ensures ∙ c.if-is_tick_at-2.true in
    let put_2 = c.put_there-then-is_tick_at-2 in
    let one = passed_more given.events.now _ given.i given.last given.a _
    at.at at.invariant (omega (arith, within)) tick _ put.auto.answers put.ensures (at.at + 1) refl in
    let two = passed_more given.events.now _ given.i given.last given.a _
    (at.at + 1) one (omega (arith, within)) tick-2 _ put_2.auto.answers put_2.ensures
    (at.at + 2) (omega arith) in
    two

pub returns-then-is_tick_at-3 : goal.returns-then-is_tick_at-3
returns-then-is_tick_at-3 c =
    let given = c.args in
    let at = c.loop-at in
    let first = c.put_there in
    let read = c.is_tick_at-then-at-last in
    let tick = sym read.ensures ∙ c.if-is_tick_at-3.true in
    let put = c.put_there-then-is_tick_at-3 in
    let within = c.if-at-last.true in
    let more = passed_more given.events.now _ given.i given.last given.a _
    at.at at.invariant within tick _ put.auto.answers put.ensures (at.at + 1) refl in
    passed_all given.events.now _ given.i given.last given.a _ _ more _ first.ensures

pub returns-else-is_tick_at-3 : goal.returns-else-is_tick_at-3
returns-else-is_tick_at-3 c =
    let given = c.args in
    let at = c.loop-at in
    let first = c.put_there in
    passed_all given.events.now _ given.i given.last given.a _ _ at.invariant _ first.ensures

pub returns-else-at-last : goal.returns-else-at-last
returns-else-at-last c =
    let given = c.args in
    let at = c.loop-at in
    let first = c.put_there in
    passed_all given.events.now _ given.i given.last given.a _ _ at.invariant _ first.ensures
