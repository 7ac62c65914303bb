-- Names of `ranges`: the types of the arbiter, and the library's own booleans, numbers and lists, passed on under their own names.
-- Assumes nothing.
pub use Rattle.std.specs.Prelude.{ℕ, zero, suc, ◌+◌, ◌*◌, ◌-◌, ◌/◌, ◌%◌, ◌^◌, Bool, true, false, not, ◌&&◌, ◌||◌, List, [], ◌∷◌, ◌++◌, map, eqb, ltb, length, drop, get_or}
pub use Rattle.std.specs.Int.Bits.{bit_and, bit_or}
pub use Rattle.arbiter.specs.declared.Master.{Master}
pub use Rattle.arbiter.specs.declared.Master.TheVariants.{Zero, One}
pub use Rattle.arbiter.specs.declared.Ground.{Ground}
pub use Rattle.arbiter.specs.declared.Ground.TheVariants.{Sole, Priority, LastGranted}
pub use Rattle.arbiter.specs.declared.Turn.{Turn}
pub use Rattle.arbiter.specs.declared.Turn.TheVariants.{Nobody, Claims, Owns}
pub use Rattle.std.specs.Prelude.{Option, Some, None, Result, Ok, Err}
pub use Rattle.arbiter.specs.declared.Accepted.{Accepted}
pub use Rattle.arbiter.specs.declared.Unread.TheVariants.{BadField, UnknownKind}
pub use Rattle.arbiter.specs.declared.Unread.{Unread}
pub use Rattle.arbiter.specs.Traces.{accepted_with}
pub use Rattle.arbiter.specs.declared.Port.{Port}
pub use Rattle.arbiter.specs.declared.Port.TheVariants.{Rest, Open, Writing}
pub use Rattle.arbiter.specs.declared.Register.{Register}
pub use Rattle.arbiter.specs.declared.Register.TheVariants.{Id, Contr, Status, Rt, IntStatus, IntMask, MailLow, MailHigh}
pub use Rattle.arbiter.specs.declared.Control.{Control}
pub use Rattle.arbiter.specs.declared.Mailbox.{Mailbox}
pub use Rattle.arbiter.specs.declared.Side.{Side}
pub use Rattle.arbiter.specs.declared.Bus.{Bus}
pub use Rattle.arbiter.specs.declared.Switch.{Switch}
pub use Rattle.arbiter.specs.declared.Switch.TheVariants.{Apart, Initialising, Closed}
pub use Rattle.arbiter.specs.declared.Arbitration.{Arbitration}
pub use Rattle.arbiter.specs.declared.Kind.{Kind}
pub use Rattle.arbiter.specs.declared.Kind.TheVariants.{Pca9641, Tpt29641}
pub use Rattle.arbiter.specs.declared.Device.{Device}
pub use Rattle.arbiter.specs.declared.Raw.{Raw}
pub use Rattle.arbiter.specs.declared.Event.{Event}
pub use Rattle.arbiter.specs.declared.Event.TheVariants.{Command, Write, Read, Stop, Pair, Lines, Tick, Pulse, Reset, GeneralCall}
pub use Rattle.arbiter.specs.declared.Clock.{Clock}
pub use Rattle.arbiter.specs.declared.Clock.TheVariants.{NoClock, ClockLow, ClockHigh}
pub use Rattle.arbiter.specs.declared.Outcome.{Outcome}
pub use Rattle.arbiter.specs.declared.Outcome.TheVariants.{Done, NotAcknowledged, OutOfSequence}
pub use Rattle.arbiter.specs.declared.Answer.{Answer}
pub use Rattle.arbiter.specs.declared.Stepped.{Stepped}
pub use Rattle.arbiter.specs.declared.Pins.{Pins}
pub use Rattle.arbiter.specs.declared.Refusal.{Refusal}
pub use Rattle.arbiter.specs.declared.Refusal.TheVariants.{TraceCut, TooManyEvents, BytesAfterEnd, BadStraps, NoRoom, BadCount, UnknownPart}
pub use Rattle.arbiter.specs.Types.{Report}
