-- What is proved of the orders of two scripts and of the call that lists them, in one record, one field a statement. proofs/Answers.antt fills it
-- with one term, so that a lost proof fails the check.
-- Assumes nothing.
use Rattle.orders.specs.Choices.{OrdersOfAnyTwo}
use Rattle.orders.specs.Call.{FrontOfAll}

pub record Answers : Type 1 where
  -- Are they all the orders, each once and in sequence?
  pub orders_of_any_two : OrdersOfAnyTwo
  -- What does a limit list?
  pub front_of_all : FrontOfAll
