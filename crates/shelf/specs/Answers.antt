-- Request #110: what is proved of every shelf, in one record. proofs/Answers.antt fills it with one term, so that a lost proof fails the
-- check.
-- Assumes nothing.
use Rattle.shelf.specs.Runs.{KeepsAddresses, OthersSame, ReachedSteps, AnswerAlone, RefusedSame, ReachedInRow, UnknownChangesNone, ShownAtPlace, AtPlace, AnswerAtPlace, EveryRunAtPlace, OneConnectedAtPlace, LaterAtPlace, ReserveLastsAtPlace, PartnerInTimeAtPlace, PartnerInTimeThroughoutAtPlace, PartnerNextAtPlace}
use Rattle.shelf.specs.Examples.{ExamplesHold}
use Rattle.shelf.specs.ShelfWitnesses.{OneEventMet, ShelfWitnessesMeet}

pub record Answers : Type 1 where
  pub keeps_addresses : KeepsAddresses
  pub others_same : OthersSame
  pub reached_steps : ReachedSteps
  pub answer_alone : AnswerAlone
  pub refused_same : RefusedSame
  pub reached_in_row : ReachedInRow
  pub unknown_changes_none : UnknownChangesNone
  pub shown_at_place : ShownAtPlace
  pub at_place : AtPlace
  pub answer_at_place : AnswerAtPlace
  pub every_run_at_place : EveryRunAtPlace
  pub one_connected_at_place : OneConnectedAtPlace
  pub later_at_place : LaterAtPlace
  pub reserve_lasts_at_place : ReserveLastsAtPlace
  pub partner_in_time_at_place : PartnerInTimeAtPlace
  pub partner_in_time_throughout_at_place : PartnerInTimeThroughoutAtPlace
  pub partner_next_at_place : PartnerNextAtPlace
  pub examples_hold : ExamplesHold
  pub one_event_met : OneEventMet
  pub shelf_witnesses_meet : ShelfWitnessesMeet
