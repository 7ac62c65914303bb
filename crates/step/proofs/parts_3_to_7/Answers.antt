-- `step::parts_3_to_7` meets its contract.
-- Assumes nothing.
use Rattle.step.proofs.Quiet.{quiet_law}
use Rattle.step.proofs.parts_3_to_7.Goals as goal

pub returns-then-is_silent-is_quiet : goal.returns-then-is_silent-is_quiet
returns-then-is_silent-is_quiet c = quiet_law _ _ _ (simp (← c.is_quiet.ensures, ← c.is_silent.ensures) c.if-is_silent-is_quiet.true)
