-- What is proved of the order sheet, in one record, one field a statement. proofs/Answers.antt fills it with one term, so that a lost proof fails
-- the check.
-- Assumes nothing.
use Rattle.sheets.specs.Laws.{BoardFirst, HouseElse, EmptyRefused, AlwaysTicked, NumberTells, OrderFound, EventsRead, EmptyNoEvents}
use Rattle.sheets.specs.Started.{StandsAfterReset, StandsAtPowerUp, StartedInTime, PairInTime, PremisesMet}
use Rattle.sheets.specs.Examples.{ExamplesHold}

pub record Answers : Type 0 where
  -- Which box is found?
  pub board_first : BoardFirst
  pub house_else : HouseElse
  -- Does an empty box ever become a value?
  pub empty_refused : EmptyRefused
  pub always_ticked : AlwaysTicked
  pub number_tells : NumberTells
  pub empty_no_events : EmptyNoEvents
  -- Are the events those that the sheets order?
  pub order_found : OrderFound
  pub events_read : EventsRead
  -- What do they do?
  pub stands_after_reset : StandsAfterReset
  pub stands_at_power_up : StandsAtPowerUp
  -- When does the waiting one get its turn?
  pub started_in_time : StartedInTime
  pub pair_in_time : PairInTime
  pub premises_met : PremisesMet
  -- Are the definitions the paper's?
  pub examples_hold : ExamplesHold
