-- The switch of `fields`: whether it is open with no initialisation under way.
-- Assumes nothing.
use Rattle.std.specs.Prelude.{Bool, true, false}
use Rattle.arbiter.specs.declared.Switch.{Switch}
use Rattle.arbiter.specs.declared.Switch.TheVariants.{Apart, Initialising, Closed}

abbrev pub is_apart : Switch → Bool
is_apart Apart = true
is_apart (Initialising m n) = false
is_apart (Closed m) = false
