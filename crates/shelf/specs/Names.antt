-- Names of `shelf`: the types of src/lib.rt and those of the arbiter, and the library's own booleans, numbers and lists, passed on under their
-- own names.
-- Assumes nothing.
pub use Rattle.std.specs.Prelude.{ℕ, zero, suc, Bool, true, false, not, ◌&&◌, ◌||◌, List, [], ◌∷◌, ◌++◌, map, eqb, ltb, length, get_or, set, if◌then◌else◌}
pub use Rattle.arbiter.specs.declared.Kind.{Kind}
pub use Rattle.arbiter.specs.declared.Kind.TheVariants.{Pca9641}
pub use Rattle.arbiter.specs.declared.Device.{Device}
pub use Rattle.arbiter.specs.declared.Raw.{Raw}
pub use Rattle.arbiter.specs.declared.Answer.{Answer}
pub use Rattle.shelf.specs.declared.Record.{Record}
pub use Rattle.shelf.specs.declared.Naming.{Naming}
pub use Rattle.shelf.specs.declared.Naming.TheVariants.{AnAddress, APlace, Nothing}
pub use Rattle.shelf.specs.declared.Fault.{Fault}
pub use Rattle.shelf.specs.declared.Fault.TheVariants.{EmptyRow, TooMany, EqualAddresses, NotInRow}
pub use Rattle.shelf.specs.declared.Reach.{Reach}
pub use Rattle.shelf.specs.declared.Reach.TheVariants.{At, Everyone}
pub use Rattle.std.specs.Prelude.{Result, Ok, Err}
