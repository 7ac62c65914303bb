-- The reader's box, emptied if it is.
-- Assumes nothing.
use Rattle.std.specs.Prelude.{Bool, not, ◌&&◌}
use Rattle.arbiter.specs.declared.Mailbox.{Mailbox}

abbrev pub mail_unless : Bool → Mailbox → Mailbox
mail_unless emptied m = record { low = m.low; high = m.high; full = m.full && not emptied }
