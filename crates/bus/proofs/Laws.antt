-- Laws of `bus`: drives let go by a test for each field are the definition's choice between two buses.
-- Assumes nothing.
use mathlib.Core.Path.{◌≡◌, refl}
use mathlib.Core.Bool.{Bool, true, false, ◌||◌}
use Rattle.std.specs.Prelude.{if◌then◌else◌}
use Rattle.arbiter.specs.Parts.{with_drives}
use Rattle.arbiter.specs.Registers.{released}
use Rattle.arbiter.specs.declared.Bus.{Bus}

pub released_law : (ended : Bool) (b : Bus) → with_drives (ended || b.drivescl) (ended || b.drivesda) b ≡ (if ended then released b else b)
released_law true b = refl
released_law false b = refl
