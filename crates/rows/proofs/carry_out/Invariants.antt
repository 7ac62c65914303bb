-- `rows::carry_out` meets its contract: at each record those before it have made the step.
-- Assumes nothing.
use Rattle.std.proofs.Common.{◌≡◌, None}
use Rattle.rows.specs.Sweeps.{sweep_of}
use Rattle.rows.proofs.carry_out.Given as goal

abbrev pub invariant-loop-c : goal.invariant-loop-c
invariant-loop-c l = (l.part, l.told) ≡ sweep_of l.r 0 l.c-index (l.initial.part, None)
