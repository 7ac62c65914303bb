-- The one statement of this crate in its record. proofs/Answers.antt fills it with one term, so that a lost proof fails the check.
-- Assumes nothing.
use Rattle.rulebook.specs.Rows.{RuleRowsHold}

pub record Answers : Type 0 where
  -- Are the answers of the rule book's scripts those of the definitions?
  pub rule_rows_hold : RuleRowsHold
