-- The answers, all of them: the one term that fills the record.
-- Assumes nothing.
use Rattle.report.specs.Answers.{Answers}
use Rattle.report.proofs.Decimal.{decimal_is_worth}

pub answers : Answers
answers =
    record {
      decimal_is_worth = decimal_is_worth;
    }
