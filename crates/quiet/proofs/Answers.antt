-- The answers, all of them: the one term that fills the record.
-- Assumes nothing.
use Rattle.quiet.specs.Answers.{Answers}
use Rattle.quiet.proofs.Ticks.{quiet, quiet_together}

pub answers : Answers
answers =
    record {
      quiet = quiet;
      quiet_together = quiet_together;
    }
