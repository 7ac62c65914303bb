-- `hearing::heavily` tells what the bus and the event are after a sample that is not light.
-- Assumes nothing.
use Rattle.std.proofs.Common.{sym, ◌∙◌}
use Rattle.hearing.proofs.Heavy.{on_stop, on_start, on_outside, on_ninth, is_ended}
use Rattle.hearing.proofs.heavily.Goals as goal

pub returns-then-now : goal.returns-then-now
returns-then-now c =
    let e = on_stop _ _ _ c.requires c.if-was.true c.if-now.true c.args.address c.args.m in
    (c.on_stop.ensures ∙ e.0, c.stop_gives.ensures ∙ e.1)

pub returns-else-now : goal.returns-else-now
returns-else-now c =
    let e = on_start _ _ _ c.requires c.if-was.true c.if-now.false c.args.address c.args.m in
    (c.on_start.ensures ∙ e.0, e.1)

pub returns-then-is_outside : goal.returns-then-is_outside
returns-then-is_outside c =
    on_outside _ _ _ c.requires c.if-was.false (sym c.is_outside.ensures ∙ c.if-is_outside.true) c.args.address c.args.m

pub returns-else-is_outside : goal.returns-else-is_outside
returns-else-is_outside c =
    let e = on_ninth _ _ _ c.requires c.if-was.false (sym c.is_outside.ensures ∙ c.if-is_outside.false) c.args.address c.args.m in
    (is_ended c.args.address c.args.l _ _ c.awaited_after.ensures c.is_owing.ensures ∙ e.0, c.byte_gives.ensures ∙ e.1)
