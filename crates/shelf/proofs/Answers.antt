-- All that specs/Answers.antt states: the one term that fills the record.
-- Assumes nothing.
use Rattle.shelf.specs.Answers.{Answers}
use Rattle.shelf.proofs.Rows.{keeps_addresses, others_same, reached_steps, answer_alone, refused_same}
use Rattle.shelf.proofs.Found.{reached_in_row, unknown_changes_none}
use Rattle.shelf.proofs.Shown.{shown_at_place}
use Rattle.shelf.proofs.Places.{at_place, answer_at_place, every_run_at_place, one_connected_at_place, later_at_place, reserve_lasts_at_place}
use Rattle.shelf.proofs.Places.{partner_in_time_at_place}
use Rattle.shelf.proofs.Turns.{partner_in_time_throughout_at_place, partner_next_at_place}
use Rattle.shelf.proofs.Examples.{examples_hold}
use Rattle.shelf.proofs.ShelfWitnesses.{one_event_met, shelf_witnesses_meet}

pub answers : Answers
answers =
    record {
      keeps_addresses = keeps_addresses;
      others_same = others_same;
      reached_steps = reached_steps;
      answer_alone = answer_alone;
      refused_same = refused_same;
      reached_in_row = reached_in_row;
      unknown_changes_none = unknown_changes_none;
      shown_at_place = shown_at_place;
      at_place = at_place;
      answer_at_place = answer_at_place;
      every_run_at_place = every_run_at_place;
      one_connected_at_place = one_connected_at_place;
      later_at_place = later_at_place;
      reserve_lasts_at_place = reserve_lasts_at_place;
      partner_in_time_at_place = partner_in_time_at_place;
      partner_in_time_throughout_at_place = partner_in_time_throughout_at_place;
      partner_next_at_place = partner_next_at_place;
      examples_hold = examples_hold;
      one_event_met = one_event_met;
      shelf_witnesses_meet = shelf_witnesses_meet;
    }
