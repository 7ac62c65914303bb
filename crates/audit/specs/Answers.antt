-- All statements of this crate in one record, one field a statement. proofs/Answers.antt fills it with one term, so that a lost proof fails
-- the check.
-- Assumes nothing.
use Rattle.audit.specs.Blocking.{ClaimantBlocks, ClaimantYields, LostIdle, StalledHolderKeeps, IdleTimerFromAnywhere, IdleTimerToPartner, OvertakenOnce}
use Rattle.audit.specs.Freed.{ResetFrees, ResetRestores, ResetRemedies, ResetUnheld, ResetHolds}
use Rattle.audit.specs.Connection.{ConnectionExact, StaysConnected, TransferLasts, UnownedReleased, ConnectedReleased}
use Rattle.audit.specs.WorstWait.{WorstWaitWithin, WorstWaitWithinUnheld, WorstWait, WorstWaitUnheld, WorstWaitLate}
use Rattle.audit.specs.SettingsKept.{RtKept, BitsKept, MaskKept, SettingsKept, RtStored, BitsWritten, MaskWritten, SettingsReset, RtKeptThroughout, BitsKeptThroughout}
use Rattle.audit.specs.WaitAsSet.{ReservesKept, ReservesAsSet, WaitAsSet, BothReserve}
use Rattle.audit.specs.MoreWitnesses.{MoreWitnessesMeet}
use Rattle.audit.specs.WaitWitnesses.{WaitWitnessesMeet}
use Rattle.audit.specs.SettingsWitnesses.{SettingsWitnessesMeet}
use Rattle.audit.specs.FurtherWitnesses.{FurtherWitnessesMeet, SlowClockRuns}

pub record Answers : Type 0 where
  -- Can a claimant that never sends its STOP, or a holder whose bus stays busy, be got round?
  pub claimant_blocks : ClaimantBlocks
  pub claimant_yields : ClaimantYields
  pub lost_idle : LostIdle
  pub stalled_holder_keeps : StalledHolderKeeps
  -- What does a reset free?
  pub reset_frees : ResetFrees
  pub reset_restores : ResetRestores
  pub reset_remedies : ResetRemedies
  pub reset_unheld : ResetUnheld
  pub reset_holds : ResetHolds
  -- What ends a connection?
  pub connection_exact : ConnectionExact
  pub stays_connected : StaysConnected
  pub transfer_lasts : TransferLasts
  -- When are the drives released?
  pub unowned_released : UnownedReleased
  pub connected_released : ConnectedReleased
  -- Does the idle timer end a grant from anywhere?
  pub idle_timer_from_anywhere : IdleTimerFromAnywhere
  pub idle_timer_to_partner : IdleTimerToPartner
  -- How often can a waiting one be overtaken, and how long can it wait?
  pub overtaken_once : OvertakenOnce
  pub worst_wait_within : WorstWaitWithin
  pub worst_wait_within_unheld : WorstWaitWithinUnheld
  pub worst_wait : WorstWait
  pub worst_wait_unheld : WorstWaitUnheld
  pub worst_wait_late : WorstWaitLate
  -- What changes a master's settings?
  pub rt_kept : RtKept
  pub bits_kept : BitsKept
  pub mask_kept : MaskKept
  pub settings_kept : SettingsKept
  pub rt_stored : RtStored
  pub bits_written : BitsWritten
  pub mask_written : MaskWritten
  pub settings_reset : SettingsReset
  pub rt_kept_throughout : RtKeptThroughout
  pub bits_kept_throughout : BitsKeptThroughout
  -- So how long can a waiting one wait, by what RT was set to?
  pub reserves_kept : ReservesKept
  pub reserves_as_set : ReservesAsSet
  pub both_reserve : BothReserve
  pub wait_as_set : WaitAsSet
  -- Are there runs that meet the premises, and that reach the figures?
  pub more_witnesses_meet : MoreWitnessesMeet
  pub wait_witnesses_meet : WaitWitnessesMeet
  pub settings_witnesses_meet : SettingsWitnessesMeet
  pub further_witnesses_meet : FurtherWitnessesMeet
  pub slow_clock_runs : SlowClockRuns
