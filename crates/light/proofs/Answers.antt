-- The answers, all of them: the one term that fills the record.
-- Assumes nothing.
use Rattle.light.specs.Answers.{Answers}
use Rattle.light.proofs.Settles.{settled_at_power_up, stays_settled}
use Rattle.light.proofs.Told.{settled_told}
use Rattle.light.proofs.Light.{ends_itself_lem}
use Rattle.light.proofs.Ended.{ended_is_step, answer_shows}
use Rattle.light.proofs.Turns.{granted_at_stop, claimed_by_write}

pub answers : Answers
answers =
    record {
      settled_at_power_up = settled_at_power_up;
      stays_settled = stays_settled;
      settled_told = settled_told;
      ends_itself = ends_itself_lem;
      ended_is_step = ended_is_step;
      answer_shows = answer_shows;
      granted_at_stop = granted_at_stop;
      claimed_by_write = claimed_by_write;
    }
