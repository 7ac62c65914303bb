-- What is proved of the report's text beside what the calls promise, in one record. proofs/Answers.antt fills it with one term, so that a lost proof
-- fails the check.
-- Assumes nothing.
use Rattle.report.specs.Report.{DecimalIsWorth}

pub record Answers : Type 0 where
  pub decimal_is_worth : DecimalIsWorth
