-- `rows::survey` meets its contract: at each record it is known what is seen of those before it.
-- Assumes nothing.
use Rattle.std.proofs.Common.{◌≡◌}
use Rattle.routing.specs.Deciding.{seen_to}
use Rattle.rows.proofs.survey.Given as goal

abbrev pub invariant-loop-c : goal.invariant-loop-c
invariant-loop-c l = l.s ≡ seen_to l.c-index l.name l.row
