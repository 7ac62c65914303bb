-- All answers in one record, one field a statement. proofs/Answers.antt fills it with one term, so that a lost proof fails the check.
-- Assumes nothing.
use Rattle.arbiter.specs.Audit.{RunsOn, KeepsKind, RunsOfKind, OneConnected, ApartUnowned, AnswersShow, AnswersShowOne, RegistersShow, RegistersShowOne, ResetEnds, ReserveLasts, ReserveEnds, ReserveExact, PartnerNext, PartnerInTime, PartnerInTimeThroughout, HeldUntilLetGo, IdleTimerExact, IdleTimerEnds, GrantedAtRest, EndsDisconnected, RefusedUnchanged, AllSettled}
use Rattle.arbiter.specs.Bitwise.{AssertedBitByBit, ClearedBitByBit}
use Rattle.arbiter.specs.Grounds.{GroundWithClaim, GroundOfChoice, GroundStays, ContestIsPair}
use Rattle.arbiter.specs.Hung.{HungExact, ClockNotHung}
use Rattle.arbiter.specs.HungRows.{HungRowsHold, SlowClockNeverHung}
use Rattle.arbiter.specs.OldTraces.{ConvertedAccepted, OldRefused}
use Rattle.arbiter.specs.Marks.{MarksHold, ReadingsHold}
use Rattle.arbiter.specs.Witnesses.{WitnessesMeet}

pub record Answers : Type 0 where
  -- A run gone on is a run.
  pub runs_on : RunsOn
  -- Every run is one of a kind of part.
  pub keeps_kind : KeepsKind
  pub runs_of_kind : RunsOfKind
  -- Can both controllers ever be connected at once?
  pub one_connected : OneConnected
  pub apart_unowned : ApartUnowned
  pub answers_show : AnswersShow
  pub answers_show_one : AnswersShowOne
  pub registers_show : RegistersShow
  pub registers_show_one : RegistersShowOne
  -- Can a reserved transfer be cut short?
  pub reset_ends : ResetEnds
  pub reserve_lasts : ReserveLasts
  pub reserve_ends : ReserveEnds
  pub reserve_exact : ReserveExact
  -- When does the waiting one get its turn?
  pub partner_next : PartnerNext
  pub partner_in_time : PartnerInTime
  pub partner_in_time_throughout : PartnerInTimeThroughout
  -- What does a reserve of 00h mean?
  pub held_until_let_go : HeldUntilLetGo
  pub idle_timer_exact : IdleTimerExact
  pub idle_timer_ends : IdleTimerEnds
  -- How a grant begins and ends, and what a step leaves
  pub granted_at_rest : GrantedAtRest
  pub ends_disconnected : EndsDisconnected
  pub refused_unchanged : RefusedUnchanged
  pub all_settled : AllSettled
  -- On what ground was a claim won?
  pub ground_with_claim : GroundWithClaim
  pub ground_of_choice : GroundOfChoice
  pub ground_stays : GroundStays
  pub contest_is_pair : ContestIsPair
  -- What does BUS_HUNG mean?
  pub hung_exact : HungExact
  pub clock_not_hung : ClockNotHung
  pub hung_rows_hold : HungRowsHold
  pub slow_clock_never_hung : SlowClockNeverHung
  -- What do the operations on INT_STATUS and INT_MSK mean, bit by bit?
  pub asserted_bit_by_bit : AssertedBitByBit
  pub cleared_bit_by_bit : ClearedBitByBit
  -- What becomes of a trace from before the kind of part?
  pub converted_accepted : ConvertedAccepted
  pub old_refused : OldRefused
  -- Are there runs that meet the premises?
  pub witnesses_meet : WitnessesMeet
  -- Are the definitions the paper's?
  pub marks_hold : MarksHold
  pub readings_hold : ReadingsHold
