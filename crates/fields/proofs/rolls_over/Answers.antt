-- `fields::rolls_over` opens the rules of the two kinds of part.
-- Assumes nothing.
use Rattle.arbiter.specs.Rules.{rules_of}
use Rattle.fields.proofs.rolls_over.Goals as goal

pub returns-in-Pca9641 : goal.returns-in-Pca9641
unfolding rules_of
returns-in-Pca9641 c = simp c.in-Pca9641.is

pub returns-in-Tpt29641 : goal.returns-in-Tpt29641
unfolding rules_of
returns-in-Tpt29641 c = simp c.in-Tpt29641.is
