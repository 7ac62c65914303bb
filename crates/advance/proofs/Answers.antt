-- The answers, all of them: the one term that fills the record.
-- Assumes nothing.
use Rattle.advance.specs.Answers.{Answers}
use Rattle.advance.proofs.Compared.{unchanged}
use Rattle.advance.proofs.Three.{three_at_most, six_at_most}
use Rattle.advance.proofs.BoundWitness.{as_many, rows_hold, three_is_least}

pub answers : Answers
answers =
    record {
      unchanged = unchanged;
      six_at_most = six_at_most;
      three_at_most = three_at_most;
      as_many = as_many;
      rows_hold = rows_hold;
      three_is_least = three_is_least;
    }
