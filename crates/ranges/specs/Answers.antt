-- All statements of this crate in one record, one field a statement. proofs/Answers.antt fills it with one term, so that a lost proof fails
-- the check.
-- Assumes nothing.
use Rattle.ranges.specs.Ranges.{InRange, NarrowInRange, StaysInRange, IntStatusReads, IntMaskReads, OutputAsserted, AnswerAsserted}
use Rattle.ranges.specs.RangeWitnesses.{EveryValueReached, AllCover}
use Rattle.ranges.specs.Exact.{SwitchExact, PairAsWrites, PairEitherOrder, ClashEndsSet, PowerUpIsReset}
use Rattle.ranges.specs.ExactWitnesses.{ExactWitnessesMeet}

pub record Answers : Type 0 where
  -- Does every field stay in its range, and is every value reached?
  pub in_range : InRange
  pub narrow_in_range : NarrowInRange
  pub stays_in_range : StaysInRange
  pub every_value_reached : EveryValueReached
  pub all_cover : AllCover
  -- Do the interrupts read as document 01 says?
  pub int_status_reads : IntStatusReads
  pub int_mask_reads : IntMaskReads
  pub output_asserted : OutputAsserted
  pub answer_asserted : AnswerAsserted
  -- Whose is the switch, what is PAIR to two WRITEs, and what is power-up?
  pub switch_exact : SwitchExact
  pub pair_as_writes : PairAsWrites
  pub pair_either_order : PairEitherOrder
  pub clash_ends_set : ClashEndsSet
  pub power_up_is_reset : PowerUpIsReset
  -- Are there runs that meet the premises?
  pub exact_witnesses_meet : ExactWitnessesMeet
