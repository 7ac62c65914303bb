-- What is proved of every capture: the one term that fills the record.
-- Assumes nothing.
use Rattle.capture.specs.Answers.{Answers}
use Rattle.capture.proofs.Bytes.{events_read_back}
use Rattle.capture.proofs.Joined.{events_joined, cut_joined}
use Rattle.capture.proofs.Bound.{nine_samples, most_captured, captured_in_range}
use Rattle.capture.proofs.Laws.{own_lines, upper_bits_ignored, repeated_sample}
use Rattle.capture.proofs.Densest.{most_reached}
use Rattle.capture.proofs.Examples.{examples_hold}

pub answers : Answers
answers =
    record {
      nine_samples = nine_samples;
      most_captured = most_captured;
      captured_in_range = captured_in_range;
      most_reached = most_reached;
      own_lines = own_lines;
      upper_bits_ignored = upper_bits_ignored;
      repeated_sample = repeated_sample;
      events_joined = events_joined;
      cut_joined = cut_joined;
      events_read_back = events_read_back;
      examples_hold = examples_hold;
    }
