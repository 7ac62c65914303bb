-- The answers, all of them: the one term that fills the record.
-- Assumes nothing.
use Rattle.orders.specs.Answers.{Answers}
use Rattle.orders.proofs.Choices.{orders_of_any_two}
use Rattle.orders.proofs.Calls.{front_of_all}

pub answers : Answers
answers =
    record {
      orders_of_any_two = orders_of_any_two;
      front_of_all = front_of_all;
    }
