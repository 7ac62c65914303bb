-- `share::counting::count_events` meets its contract.
-- Assumes nothing.
use Prim.Native.Nat.{ℕ, ◌*◌}
use mathlib.Core.Path.{◌≡◌, sym, ap, ◌∙◌}
use native.Mathlib.Omega.{arith}
use lib.ListN.{take}
use lib.Seq.{length-take-le}
use Rattle.arbiter.specs.Traces.{event_bytes, event_count, raws_in}
use Rattle.share.specs.States.{states_from}
use Rattle.share.specs.Walk.{no_tally, tally_from}
use Rattle.share.proofs.Others.{raws_front}
use Rattle.share.proofs.Own.{counted_all, counted_none, counted_enough}
use Rattle.share.proofs.counting.count_events.Goals as goal

pub returns-then-n-events : goal.returns-then-n-events
returns-then-n-events c = c.empty_tally.ensures ∙ sym (counted_none _ _ _ c.if-n-events.true)

pub returns : goal.returns
returns c =
    let d = c.args.from in
    let b = c.args.events.now in
    let n = c.args.n in
    let few = counted_enough b n c.if-n-events.false in
    let length-is = length-take-le (event_bytes * n) b few.0 in
    let count-is : event_count (take (event_bytes * n) b) ≡ n = omega (arith, length-is) in
    c.count_all.ensures
    ∙ ap (λ (m : ℕ). tally_from no_tally (states_from d (raws_in m (take (event_bytes * n) b)))) count-is
    ∙ ap (λ (rs : _). tally_from no_tally (states_from d rs)) (raws_front n b)
    ∙ sym (counted_all d b n few.1 few.0)
