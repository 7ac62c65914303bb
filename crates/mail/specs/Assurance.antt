-- All statements of request #111 in one record, one field a statement. proofs/Assurance.antt fills it with one term, so that a lost proof fails
-- the check.
-- Assumes nothing.
use Rattle.mail.specs.Mail.{MailInOrder, PendingHeld, OnePending, LowKept, WordFilled, DropIsNothing, ResetsEnd, ListsGrow, BoxChanges, PairFillsBoth, EmptyingLeaves}
use Rattle.mail.specs.Using.{StatusShows, ClearedSeen, EmptiedSeen, WordsTaken, ClearUntilFilled, SentClearedSeen, ClearedSentSeen, LowThenHigh, BurstTakes}
use Rattle.mail.specs.Runs.{RowsHold, PremisesMet}

pub record Assurance : Type 0 where
  -- Is a word lost or doubled?
  pub mail_in_order : MailInOrder
  pub pending_held : PendingHeld
  pub one_pending : OnePending
  pub low_kept : LowKept
  pub word_filled : WordFilled
  pub drop_is_nothing : DropIsNothing
  pub resets_end : ResetsEnd
  pub lists_grow : ListsGrow
  pub box_changes : BoxChanges
  -- Both directions together
  pub pair_fills_both : PairFillsBoth
  pub emptying_leaves : EmptyingLeaves
  -- What do the masters see of it?
  pub status_shows : StatusShows
  -- How does a sender know that its word was taken?
  pub cleared_seen : ClearedSeen
  pub emptied_seen : EmptiedSeen
  pub words_taken : WordsTaken
  pub clear_until_filled : ClearUntilFilled
  pub sent_cleared_seen : SentClearedSeen
  pub cleared_sent_seen : ClearedSentSeen
  -- How does a reader get the word that it empties?
  pub low_then_high : LowThenHigh
  pub burst_takes : BurstTakes
  -- Are there runs that show it?
  pub rows_hold : RowsHold
  pub premises_met : PremisesMet
