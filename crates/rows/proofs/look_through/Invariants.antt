-- `rows::look_through` meets its contract: at each record it is known what is seen and shown of those before it.
-- Assumes nothing.
use Rattle.std.proofs.Common.{◌≡◌}
use Rattle.showing.specs.Showing.{looked_to}
use Rattle.rows.proofs.look_through.Given as goal

abbrev pub invariant-loop-c : goal.invariant-loop-c
invariant-loop-c l = l.s ≡ looked_to l.c-index l.place l.row
