-- Names of `capture`: the types of src/lib.rt and those of the arbiter, and the library's own booleans, numbers and lists, passed on under their
-- own names.
-- Assumes nothing.
pub use Rattle.std.specs.Prelude.{ℕ, ◌+◌, ◌*◌, ◌/◌, ◌%◌, Bool, true, false, not, ◌&&◌, ◌||◌, List, [], ◌∷◌, ◌++◌, map, eqb, ltb, length, drop, if◌then◌else◌}
pub use Rattle.arbiter.specs.Words.{bit, worth, of}
pub use Rattle.arbiter.specs.declared.Master.{Master}
pub use Rattle.arbiter.specs.declared.Master.TheVariants.{Zero, One}
pub use Rattle.arbiter.specs.declared.Raw.{Raw}
pub use Rattle.arbiter.specs.declared.Event.{Event}
pub use Rattle.arbiter.specs.declared.Event.TheVariants.{Command, Write, Read, Stop, Pair, Lines, Tick, Pulse, Reset, GeneralCall}
pub use Rattle.capture.specs.declared.Levels.{Levels}
pub use Rattle.capture.specs.declared.Sign.{Sign}
pub use Rattle.capture.specs.declared.Sign.TheVariants.{Steady, Starts, Stops, Clocks}
pub use Rattle.capture.specs.declared.Awaited.{Awaited}
pub use Rattle.capture.specs.declared.Awaited.TheVariants.{NoByte, AddressByte, CommandByte, WriteByte, ReadByte, CallByte, SkippedByte}
pub use Rattle.capture.specs.declared.Listener.{Listener}
pub use Rattle.capture.specs.declared.Given.{Given}
pub use Rattle.capture.specs.declared.Given.TheVariants.{Written, Gives}
pub use Rattle.capture.specs.declared.Both.{Both}
pub use Rattle.capture.specs.declared.Heard.{Heard}
pub use Rattle.capture.specs.declared.ImportFault.{ImportFault}
pub use Rattle.capture.specs.declared.ImportFault.TheVariants.{TooLong, BadAddress, Cut, NoRoom}
