-- The statements of request #111, all of them: the one term that fills the record.
-- Assumes nothing.
use Rattle.mail.specs.Assurance.{Assurance}
use Rattle.mail.proofs.Box.{box_changes}
use Rattle.mail.proofs.Lists.{mail_in_order, pending_held, one_pending, low_kept, word_filled, drop_is_nothing, resets_end, lists_grow, pair_fills_both}
use Rattle.mail.proofs.Lists.{emptying_leaves}
use Rattle.mail.proofs.Status.{status_shows}
use Rattle.mail.proofs.Using.{cleared_seen, emptied_seen, words_taken, clear_until_filled}
use Rattle.mail.proofs.Sender.{sent_cleared_seen, cleared_sent_seen}
use Rattle.mail.proofs.Reading.{low_then_high, burst_takes}
use Rattle.mail.proofs.Runs.{rows_hold, premises_met}

pub assurance : Assurance
assurance =
    record {
      mail_in_order = mail_in_order;
      pending_held = pending_held;
      one_pending = one_pending;
      low_kept = low_kept;
      word_filled = word_filled;
      drop_is_nothing = drop_is_nothing;
      resets_end = resets_end;
      lists_grow = lists_grow;
      box_changes = box_changes;
      pair_fills_both = pair_fills_both;
      emptying_leaves = emptying_leaves;
      status_shows = status_shows;
      cleared_seen = cleared_seen;
      emptied_seen = emptied_seen;
      words_taken = words_taken;
      clear_until_filled = clear_until_filled;
      sent_cleared_seen = sent_cleared_seen;
      cleared_sent_seen = cleared_sent_seen;
      low_then_high = low_then_high;
      burst_takes = burst_takes;
      rows_hold = rows_hold;
      premises_met = premises_met;
    }
