-- The answers, all of them: the one term that fills the record.
-- Assumes nothing.
use Rattle.longest.specs.Answers.{Answers}
use Rattle.longest.proofs.Longest.{longest_wait_bounded, longest_wait_unheld, longest_wait_below, trace_wait_bounded}
use Rattle.longest.proofs.Witnesses.{longest_witnesses_meet}

pub answers : Answers
answers =
    record {
      longest_wait_bounded = longest_wait_bounded;
      longest_wait_unheld = longest_wait_unheld;
      longest_wait_below = longest_wait_below;
      trace_wait_bounded = trace_wait_bounded;
      longest_witnesses_meet = longest_witnesses_meet;
    }
