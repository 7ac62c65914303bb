-- `traces::playing::step_each` meets its contract: the loop holds the device after i events, and their answers stand before the untouched rest.
-- Assumes nothing.
use Prim.Native.Nat.{◌<◌}
use mathlib.Core.Path.{refl, ap, ◌∙◌}
use native.Mathlib.Omega.{arith}
use Rattle.arbiter.specs.Steps.{step, run_from, answers_from}
use Rattle.arbiter.specs.Traces.{raws_in, event_count}
use Rattle.traces.proofs.Runs.{again_device, again_out}
use Rattle.traces.proofs.playing.step_each.Goals as goal

pub loop-i-init : goal.loop-i-init
unfolding run_from answers_from raws_in
loop-i-init c = (omega arith, refl, refl, refl)

pub loop-i-preserved : goal.loop-i-preserved
loop-i-preserved c =
    let given = c.args in
    let at = c.loop-i in
    let inv = at.invariant in
    let within = c.loop-i-test.true in
    let s = c.step_device-s in
    let put = c.put_answer in
    let more : at.i < event_count given.events.now = omega (arith, within, c.requires.0) in
    let truly = s.ensures ∙ ap (step at.d) c.event_at.ensures in (
      omega (arith, within),
      put.auto.answers ∙ inv.1,
      again_device given.from given.events.now at.i at.d s.result more inv.2 truly,
      again_out given.from given.events.now at.i at.d s.result more inv.2 truly given.answers.now at.answers _ inv.3 inv.1
          put.ensures (omega (arith, within, c.requires.1)),
    )
