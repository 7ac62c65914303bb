-- Names of `mail`: the arbiter's types and words that the statements use, the word of src/lib.rt, and the library's own booleans, numbers and
-- lists, passed on under their own names.
-- Assumes nothing.
pub use Rattle.std.specs.Prelude.{ℕ, ◌+◌, ◌≤◌, ◌≡◌, Bool, true, false, not, ◌&&◌, ◌||◌, List, [], ◌∷◌, ◌++◌, map, length, drop, if◌then◌else◌}
pub use Rattle.arbiter.specs.declared.Master.{Master}
pub use Rattle.arbiter.specs.declared.Master.TheVariants.{Zero, One}
pub use Rattle.arbiter.specs.declared.Register.{Register}
pub use Rattle.arbiter.specs.declared.Register.TheVariants.{Id, Contr, Status, Rt, IntStatus, IntMask, MailLow, MailHigh}
pub use Rattle.arbiter.specs.declared.Mailbox.{Mailbox}
pub use Rattle.arbiter.specs.declared.Side.{Side}
pub use Rattle.arbiter.specs.declared.Kind.{Kind}
pub use Rattle.arbiter.specs.declared.Kind.TheVariants.{Pca9641, Tpt29641}
pub use Rattle.arbiter.specs.declared.Device.{Device}
pub use Rattle.arbiter.specs.declared.Raw.{Raw}
pub use Rattle.arbiter.specs.declared.Event.{Event}
pub use Rattle.arbiter.specs.declared.Event.TheVariants.{Command, Write, Read, Stop, Pair, Lines, Tick, Pulse, Reset, GeneralCall}
pub use Rattle.std.specs.Prelude.{Result, Ok, Err}
pub use Rattle.arbiter.specs.declared.Unread.TheVariants.{BadField, UnknownKind}
pub use Rattle.arbiter.specs.declared.Unread.{Unread}
pub use Rattle.arbiter.specs.Words.{bit, worth, partner, same_master, of, side}
pub use Rattle.arbiter.specs.Registers.{reads_at}
unfoldable pub use Rattle.arbiter.specs.Events.{decode}
pub use Rattle.arbiter.specs.Effects.{is_mail_high}
unfoldable pub use Rattle.arbiter.specs.Effects.{power_up}
pub use Rattle.arbiter.specs.Order.{is_reset}
unfoldable pub use Rattle.arbiter.specs.Steps.{step, run_from, run}
pub use Rattle.arbiter.specs.AuditWords.{next, accepted, is_accepted, reset}
unfoldable pub use Rattle.arbiter.specs.AuditWords.{never}
pub use Rattle.mail.specs.declared.Word.{Word}
