-- The answers, all of them: the one term that fills the record.
-- Assumes nothing.
use Rattle.sheets.specs.Answers.{Answers}
use Rattle.sheets.proofs.Found.{board_first, house_else, empty_refused, always_ticked, number_tells}
use Rattle.sheets.proofs.Complete.{order_found, events_read, empty_no_events}
use Rattle.sheets.proofs.Started.{stands_after_reset, stands_at_power_up}
use Rattle.sheets.proofs.InTime.{started_in_time, pair_in_time, premises_met}
use Rattle.sheets.proofs.Examples.{examples_hold}

pub answers : Answers
answers =
    record {
      board_first = board_first;
      house_else = house_else;
      empty_refused = empty_refused;
      always_ticked = always_ticked;
      number_tells = number_tells;
      empty_no_events = empty_no_events;
      order_found = order_found;
      events_read = events_read;
      stands_after_reset = stands_after_reset;
      stands_at_power_up = stands_at_power_up;
      started_in_time = started_in_time;
      pair_in_time = pair_in_time;
      premises_met = premises_met;
      examples_hold = examples_hold;
    }
