-- What is proved of quiet ticks, in one record, one field a statement. proofs/Answers.antt fills it with one term, so that a lost proof fails the
-- check.
-- Assumes nothing.
use Rattle.quiet.specs.Quiet.{Quiet, QuietTogether}

pub record Answers : Type 0 where
  pub quiet : Quiet
  pub quiet_together : QuietTogether
