-- The answers, all of them: the one term that fills the record.
-- Assumes nothing.
use Rattle.guarantee.specs.Answers.{Answers}
use Rattle.guarantee.proofs.Guarantee.{order_guarantees, sheets_guarantee, order_guarantees_within, sheets_guarantee_within}
use Rattle.guarantee.proofs.Necessary.{reserve_necessary, bounded_exactly}
use Rattle.guarantee.proofs.Boxes.{boxes_overwritten, boxes_kept, idle_box_dropped, idle_box_kept}
use Rattle.guarantee.proofs.Starts.{starts_in_any_order, starts_guarantee}
use Rattle.guarantee.proofs.StartLost.{request_lost}
use Rattle.guarantee.proofs.StartAsks.{one_asks_first}
use Rattle.guarantee.proofs.StartOwner.{first_owns, either_in_time}
use Rattle.guarantee.proofs.Reboot.{reboot_stores, reboot_while_owning, reboot_after_withdrawal, reboot_rows_hold}
use Rattle.guarantee.proofs.Waits.{wait_tells}
use Rattle.guarantee.proofs.Witnesses.{guarantee_witnesses_meet}
use Rattle.guarantee.proofs.MoreWitnesses.{more_witnesses_meet}
use Rattle.guarantee.proofs.StartsWitnesses.{starts_witnesses_meet}

pub answers : Answers
answers =
    record {
      order_guarantees = order_guarantees;
      sheets_guarantee = sheets_guarantee;
      order_guarantees_within = order_guarantees_within;
      sheets_guarantee_within = sheets_guarantee_within;
      reserve_necessary = reserve_necessary;
      bounded_exactly = bounded_exactly;
      boxes_overwritten = boxes_overwritten;
      boxes_kept = boxes_kept;
      idle_box_dropped = idle_box_dropped;
      idle_box_kept = idle_box_kept;
      starts_in_any_order = starts_in_any_order;
      request_lost = request_lost;
      starts_guarantee = starts_guarantee;
      one_asks_first = one_asks_first;
      first_owns = first_owns;
      either_in_time = either_in_time;
      reboot_stores = reboot_stores;
      reboot_while_owning = reboot_while_owning;
      reboot_after_withdrawal = reboot_after_withdrawal;
      reboot_rows_hold = reboot_rows_hold;
      wait_tells = wait_tells;
      guarantee_witnesses_meet = guarantee_witnesses_meet;
      more_witnesses_meet = more_witnesses_meet;
      starts_witnesses_meet = starts_witnesses_meet;
    }
