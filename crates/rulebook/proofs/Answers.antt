-- The one term that fills the record.
-- Assumes nothing.
use Rattle.rulebook.specs.Answers.{Answers}
use Rattle.rulebook.proofs.Rows.{rule_rows_hold}

pub answers : Answers
answers =
    record {
      rule_rows_hold = rule_rows_hold;
    }
