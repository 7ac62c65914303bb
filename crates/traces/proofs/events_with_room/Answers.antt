-- `traces::events_with_room` meets its contract: refused for its bytes, refused for the room, or counted.
-- Assumes nothing.
use Prim.Native.Nat.{◌*◌}
use native.Mathlib.Omega.{arith}
use borrow.Author.Tests.{eq-eqb, ne_eqb, lt-ltb, le-ltb}
use Rattle.arbiter.specs.Traces.{event_bytes, event_count}
use Rattle.traces.specs.Bodies.{with_room}
use Rattle.traces.proofs.events_with_room.Goals as goal

pub returns-then-events-ne0 : goal.returns-then-events-ne0
unfolding with_room
returns-then-events-ne0 c = simp (ne_eqb _ _ c.if-events-ne0.true)

pub returns-then-room-n : goal.returns-then-room-n
unfolding with_room
returns-then-room-n c =
    let short = lt-ltb c.args.room (event_bytes * event_count c.args.events.now) (omega (arith, c.if-room-n.true)) in
    simp (eq-eqb _ _ c.if-events-ne0.false, short)

pub returns : goal.returns
unfolding with_room
returns c =
    let fits = le-ltb c.args.room (event_bytes * event_count c.args.events.now) (omega (arith, c.if-room-n.false)) in
    simp (eq-eqb _ _ c.if-events-ne0.false, fits)
