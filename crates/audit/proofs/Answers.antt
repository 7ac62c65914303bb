-- The answers, all of them: the one term that fills the record.
-- Assumes nothing.
use Rattle.audit.specs.Answers.{Answers}
use Rattle.audit.proofs.Blocking.{claimant_blocks, claimant_yields, lost_idle, stalled_holder_keeps}
use Rattle.audit.proofs.Freed.{reset_frees, reset_restores, reset_remedies, reset_unheld, reset_holds}
use Rattle.audit.proofs.Connection.{connection_exact, stays_connected}
use Rattle.audit.proofs.Transfer.{transfer_lasts}
use Rattle.audit.proofs.Released.{unowned_released, connected_released}
use Rattle.audit.proofs.IdleAnywhere.{idle_timer_from_anywhere, idle_timer_to_partner}
use Rattle.audit.proofs.Overtaking.{overtaken_once}
use Rattle.audit.proofs.WorstWait.{worst_wait_within, worst_wait_within_unheld, worst_wait, worst_wait_unheld, worst_wait_late}
use Rattle.audit.proofs.SettingsKept.{rt_kept, bits_kept, mask_kept, settings_kept, rt_stored, bits_written, mask_written, settings_reset}
use Rattle.audit.proofs.SettingsKept.{rt_kept_throughout, bits_kept_throughout}
use Rattle.audit.proofs.WaitAsSet.{reserves_kept, reserves_as_set, both_reserve, wait_as_set}
use Rattle.audit.proofs.MoreWitnesses.{more_witnesses_meet}
use Rattle.audit.proofs.WaitWitnesses.{wait_witnesses_meet}
use Rattle.audit.proofs.SettingsWitnesses.{settings_witnesses_meet}
use Rattle.audit.proofs.FurtherWitnesses.{further_witnesses_meet, slow_clock_runs}

pub answers : Answers
answers =
    record {
      claimant_blocks = claimant_blocks;
      claimant_yields = claimant_yields;
      lost_idle = lost_idle;
      stalled_holder_keeps = stalled_holder_keeps;
      reset_frees = reset_frees;
      reset_restores = reset_restores;
      reset_remedies = reset_remedies;
      reset_unheld = reset_unheld;
      reset_holds = reset_holds;
      connection_exact = connection_exact;
      stays_connected = stays_connected;
      transfer_lasts = transfer_lasts;
      unowned_released = unowned_released;
      connected_released = connected_released;
      idle_timer_from_anywhere = idle_timer_from_anywhere;
      idle_timer_to_partner = idle_timer_to_partner;
      overtaken_once = overtaken_once;
      worst_wait_within = worst_wait_within;
      worst_wait_within_unheld = worst_wait_within_unheld;
      worst_wait = worst_wait;
      worst_wait_unheld = worst_wait_unheld;
      worst_wait_late = worst_wait_late;
      rt_kept = rt_kept;
      bits_kept = bits_kept;
      mask_kept = mask_kept;
      settings_kept = settings_kept;
      rt_stored = rt_stored;
      bits_written = bits_written;
      mask_written = mask_written;
      settings_reset = settings_reset;
      rt_kept_throughout = rt_kept_throughout;
      bits_kept_throughout = bits_kept_throughout;
      reserves_kept = reserves_kept;
      reserves_as_set = reserves_as_set;
      both_reserve = both_reserve;
      wait_as_set = wait_as_set;
      more_witnesses_meet = more_witnesses_meet;
      wait_witnesses_meet = wait_witnesses_meet;
      settings_witnesses_meet = settings_witnesses_meet;
      further_witnesses_meet = further_witnesses_meet;
      slow_clock_runs = slow_clock_runs;
    }
