-- The bus that a reset leaves, by its outside levels and the ticks of its hold.
-- Assumes nothing.
use Rattle.std.specs.Prelude.{ℕ, Bool, true, false}
use Rattle.arbiter.specs.declared.Bus.{Bus}

abbrev pub bus_left : Bool → Bool → Bool → ℕ → Bus
bus_left scl sda intin hold =
    record { outscl = scl; outsda = sda; intin = intin; drivescl = true; drivesda = true; busy = false; hold = hold; idle = 0; lowscl = 0; lowsda = 0 }
