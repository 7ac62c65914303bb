-- The answers, all of them: the one term that fills the record.
-- Assumes nothing.
use Rattle.text.specs.Answers.{Answers}
use Rattle.text.proofs.Long.{long_listing}

pub answers : Answers
answers =
    record {
      long_listing = long_listing;
    }
