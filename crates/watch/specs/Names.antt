-- Names of `watch`: the types of src/lib.rt and those that they stand on, and the library's own booleans, numbers and lists, passed on under
-- their own names.
-- Assumes nothing.
pub use Rattle.std.specs.Prelude.{ℕ, ◌+◌, Bool, true, false, not, ◌&&◌, ◌||◌, List, [], ◌∷◌, ◌++◌, map, eqb, ltb, length, if◌then◌else◌}
pub use Rattle.arbiter.specs.Words.{bit, worth, of, side}
pub use Rattle.arbiter.specs.declared.Master.{Master}
pub use Rattle.arbiter.specs.declared.Master.TheVariants.{Zero, One}
pub use Rattle.arbiter.specs.declared.Register.{Register}
pub use Rattle.arbiter.specs.declared.Register.TheVariants.{Id}
pub use Rattle.arbiter.specs.declared.Kind.{Kind}
pub use Rattle.arbiter.specs.declared.Device.{Device}
pub use Rattle.arbiter.specs.declared.Raw.{Raw}
pub use Rattle.arbiter.specs.declared.Event.{Event}
pub use Rattle.arbiter.specs.declared.Event.TheVariants.{Command, Write, Read, Stop, Pair, Lines, Tick, Pulse, Reset, GeneralCall}
pub use Rattle.capture.specs.declared.Listener.{Listener}
pub use Rattle.capture.specs.declared.Both.{Both}
pub use Rattle.capture.specs.declared.Heard.{Heard}
pub use Rattle.watch.specs.declared.Settings.{Settings}
pub use Rattle.watch.specs.declared.Ear.{Ear}
pub use Rattle.watch.specs.declared.Check.{Check}
pub use Rattle.watch.specs.declared.Tally.{Tally}
pub use Rattle.watch.specs.declared.Watcher.{Watcher}
