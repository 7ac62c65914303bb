-- The answers, all of them: the one term that fills the record.
-- Assumes nothing.
use Rattle.ranges.specs.Answers.{Answers}
use Rattle.ranges.proofs.Ranges.{in_range_lem, narrow_in_range, stays_in_range}
use Rattle.ranges.proofs.Outputs.{int_status_reads, int_mask_reads, output_asserted, answer_asserted}
use Rattle.ranges.proofs.RangeWitnesses.{every_value_reached, all_cover_lem}
use Rattle.ranges.proofs.Exact.{switch_exact, power_up_is_reset}
use Rattle.ranges.proofs.Pairs.{pair_as_writes, pair_either_order, clash_ends_set}
use Rattle.ranges.proofs.ExactWitnesses.{exact_witnesses_meet}

pub answers : Answers
answers =
    record {
      in_range = in_range_lem;
      narrow_in_range = narrow_in_range;
      stays_in_range = stays_in_range;
      every_value_reached = every_value_reached;
      all_cover = all_cover_lem;
      int_status_reads = int_status_reads;
      int_mask_reads = int_mask_reads;
      output_asserted = output_asserted;
      answer_asserted = answer_asserted;
      switch_exact = switch_exact;
      pair_as_writes = pair_as_writes;
      pair_either_order = pair_either_order;
      clash_ends_set = clash_ends_set;
      power_up_is_reset = power_up_is_reset;
      exact_witnesses_meet = exact_witnesses_meet;
    }
