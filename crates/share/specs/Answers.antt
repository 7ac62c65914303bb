-- What is proved of the totals of #112, in one record, one field a statement. proofs/Answers.antt fills it with one term, so that a lost proof
-- fails the check.
-- Assumes nothing.
use Rattle.share.specs.Laws.{StatesAreTicks, WaitingNotOwning, AddUp, ConnectedOwned, WaitedOrOwned, LongestWaited, RefusedAreTraces, TotalsFit, TracesFit, RefusedAddsOne, NeverNoRoom, PastMost, AnyOrder, AnyOrderFrom, JoinedAlike, JoinedPastMost}
use Rattle.share.specs.Lent.{ReadStored}
use Rattle.share.specs.Examples.{RowsHold, Refusals}

pub record Answers : Type 0 where
  -- What is counted of a run?
  pub states_are_ticks : StatesAreTicks
  pub waiting_not_owning : WaitingNotOwning
  -- How do the totals go together?
  pub add_up : AddUp
  pub connected_owned : ConnectedOwned
  pub waited_or_owned : WaitedOrOwned
  pub longest_waited : LongestWaited
  pub refused_are_traces : RefusedAreTraces
  -- Do they fit?
  pub totals_fit : TotalsFit
  pub traces_fit : TracesFit
  -- What does a refused trace add, and one too many?
  pub refused_adds_one : RefusedAddsOne
  pub never_no_room : NeverNoRoom
  pub past_most : PastMost
  -- Does the order matter in which traces are added, or where they are counted?
  pub any_order : AnyOrder
  pub any_order_from : AnyOrderFrom
  pub joined_alike : JoinedAlike
  pub joined_past_most : JoinedPastMost
  -- Do totals come back from the numbers that hold them?
  pub read_stored : ReadStored
  -- Are the definitions the paper's?
  pub rows_hold : RowsHold
  pub refusals : Refusals
