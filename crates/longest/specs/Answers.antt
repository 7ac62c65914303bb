-- All statements of this crate in one record, one field a statement. proofs/Answers.antt fills it with one term, so that a lost proof fails
-- the check.
-- Assumes nothing.
use Rattle.longest.specs.Longest.{LongestWaitBounded, LongestWaitUnheld, LongestWaitBelow, TraceWaitBounded}
use Rattle.longest.specs.Witnesses.{LongestWitnessesMeet}

pub record Answers : Type 0 where
  -- What is the longest wait that a run's report can count?
  pub longest_wait_bounded : LongestWaitBounded
  pub longest_wait_unheld : LongestWaitUnheld
  pub longest_wait_below : LongestWaitBelow
  -- And in the totals of a trace?
  pub trace_wait_bounded : TraceWaitBounded
  -- Are there runs that reach it, and why is each premise asked?
  pub longest_witnesses_meet : LongestWitnessesMeet
