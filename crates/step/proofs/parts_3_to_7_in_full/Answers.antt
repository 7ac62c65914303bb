-- `step::parts_3_to_7_in_full` meets its contract.
-- Assumes nothing.
use Rattle.step.specs.Carried.{parts_three_to_seven}
use Rattle.step.proofs.parts_3_to_7_in_full.Goals as goal

pub returns : goal.returns
unfolding parts_three_to_seven
returns c =
    simp (
      c.connect_of.ensures,
      c.grant_of.ensures,
      c.claim_of.ensures,
      c.cut_at.ensures,
      c.losses_of.ensures,
    )
