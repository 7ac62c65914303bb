-- `watching::listen`: where the walk ends, all that is taken is heard.
-- Assumes nothing.
use Rattle.std.proofs.Common.{◌<◌, ◌+◌, false, true, sym, ap, ◌∙◌, arith}
use Rattle.watch.specs.declared.Watcher.{Watcher}
use Rattle.watch.specs.Told.{tells}
use Rattle.watching.specs.Turns.{goes_on}
use Rattle.watching.proofs.Resting.{ready_still, positive}
use Rattle.watching.proofs.Turns.{turn_one, one_goes, turn_still, still_goes, turned_on, taken_on, ended, walked}
use Rattle.watching.proofs.listen.Goals as goal

pub loop-at-preserved-else-is_told : goal.loop-at-preserved-else-is_told
loop-at-preserved-else-is_told c =
    let samples = c.args.samples.now in
    let w = c.args.w in
    let i = c.loop-at.at in
    let v = c.loop-at.watcher in
    let inv = c.loop-at.invariant in
    let here = c.loop-at-test.true in
    let heard = c.watch_sample-watcher.ensures in
    let went = heard ∙ sym (turn_one samples i v here) in
    let told = c.if-is_told.ensures ∙ ap (λ (u : Watcher). tells v.tally u.tally) heard in
    let goes = ap (goes_on samples i (i + 1) v) told ∙ one_goes samples i v here in
    let on : i < i + 1 = omega arith in (
      omega arith,
      went ∙ turned_on samples w i (i + 1) v inv.1 on,
      taken_on samples w i (i + 1) v inv.1 on false _ went inv.2 goes,
    )

pub loop-at-preserved : goal.loop-at-preserved
loop-at-preserved c =
    let samples = c.args.samples.now in
    let w = c.args.w in
    let i = c.loop-at.at in
    let v = c.loop-at.watcher in
    let inv = c.loop-at.invariant in
    let n = c.count_still-still.result in
    let found = c.count_still-still.ensures in
    let some : 0 < n = positive n c.if-still-eq0.false in
    let ready = ready_still v.settings v.ear _ n c.room_of-room.ensures found.0 c.if-still-eq0.false in
    let went = c.rest-watcher.ensures ∙ turn_still samples i n v some found.1 ready found.2 in
    let goes = still_goes samples i n v some found.1 ready found.2 in
    let on : i < i + n = omega arith in (
      found.1,
      went ∙ turned_on samples w i (i + n) v inv.1 on,
      taken_on samples w i (i + n) v inv.1 on false _ went inv.2 goes,
    )

pub returns-after-loop-at : goal.returns-after-loop-at
returns-after-loop-at c =
    let inv = c.loop-at.invariant in
    walked c.args.samples.now c.args.w c.loop-at.watcher c.loop-at.at inv.1 inv.0 inv.2 c.loop-at-test.false

pub returns-then-is_told : goal.returns-then-is_told
returns-then-is_told c =
    let samples = c.args.samples.now in
    let w = c.args.w in
    let i = c.loop-at.at in
    let v = c.loop-at.watcher in
    let inv = c.loop-at.invariant in
    let here = c.loop-at-test.true in
    let heard = c.watch_sample-watcher.ensures in
    let went = heard ∙ sym (turn_one samples i v here) in
    let told = c.if-is_told.ensures ∙ ap (λ (u : Watcher). tells v.tally u.tally) heard in
    let goes = ap (goes_on samples i (i + 1) v) told ∙ one_goes samples i v here in
    let on : i < i + 1 = omega arith in
    let all = taken_on samples w i (i + 1) v inv.1 on true _ went inv.2 goes in
    ended samples w _ (i + 1) (went ∙ turned_on samples w i (i + 1) v inv.1 on) (omega arith) (sym all)
