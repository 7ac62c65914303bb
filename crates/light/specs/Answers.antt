-- What is proved of settled devices and of steps with parts left out, in one record, one field a statement. proofs/Answers.antt fills it
-- with one term, so that a lost proof fails the check.
-- Assumes nothing.
use Rattle.light.specs.Light.{SettledAtPowerUp, StaysSettled, SettledTold}
use Rattle.light.specs.Ended.{EndsItself, EndedIsStep, AnswerShows}
use Rattle.light.specs.Turns.{GrantedAtStop, ClaimedByWrite}

pub record Answers : Type 0 where
  -- Is every device that a run reaches settled?
  pub settled_at_power_up : SettledAtPowerUp
  pub stays_settled : StaysSettled
  -- Does a device tell that it is settled?
  pub settled_told : SettledTold
  -- What may a step leave out in a settled device?
  pub ends_itself : EndsItself
  pub ended_is_step : EndedIsStep
  pub answer_shows : AnswerShows
  -- Which events move the turn alone?
  pub granted_at_stop : GrantedAtStop
  pub claimed_by_write : ClaimedByWrite
