-- What is proved of an advance beside what its call promises, in one record, one field a statement. proofs/Answers.antt fills it with one term,
-- so that a lost proof fails the check.
-- Assumes nothing.
use Rattle.advance.specs.Changes.{Unchanged}
use Rattle.advance.specs.Advance.{SixAtMost}
use Rattle.advance.specs.Bound.{ThreeAtMost}
use Rattle.advance.specs.BoundWitness.{AsMany, RowsHold, ThreeIsLeast}

pub record Answers : Type 0 where
  -- What is a change?
  pub unchanged : Unchanged
  -- How many ticks can change something?
  pub six_at_most : SixAtMost
  pub three_at_most : ThreeAtMost
  -- Are there runs that reach the bound, and at which ticks?
  pub as_many : AsMany
  pub rows_hold : RowsHold
  pub three_is_least : ThreeIsLeast
