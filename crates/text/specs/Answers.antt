-- What is proved of the listing's text beside what the calls promise, in one record. proofs/Answers.antt fills it with one term, so that a lost
-- proof fails the check.
-- Assumes nothing.
use Rattle.text.specs.Long.{LongListing}

pub record Answers : Type 0 where
  pub long_listing : LongListing
