-- The counts of a device, named once, and the device with them moved on by so many ticks, all else as it was (request #113).
-- Assumes nothing.
use Rattle.std.specs.Prelude.{ℕ, ◌+◌, ◌-◌, Bool, not, ◌&&◌, ltb, if◌then◌else◌}
use Rattle.arbiter.specs.Rules.{idle_limit}
use Rattle.arbiter.specs.Parts.{with_reserve}
use Rattle.arbiter.specs.State.{scl_high, sda_high, is_idle, scl_hung_limit, sda_hung_limit}
use Rattle.arbiter.specs.declared.Bus.{Bus}
use Rattle.arbiter.specs.declared.Device.{Device}

-- #113 as ruled: "Counts are reserve, hold, idle and both low counts." The device with these in place of its own.
abbrev pub counted_bus : ℕ → ℕ → ℕ → ℕ → Bus → Bus
counted_bus hold idle lowscl lowsda b =
    record { outscl = b.outscl; outsda = b.outsda; intin = b.intin; drivescl = b.drivescl; drivesda = b.drivesda; busy = b.busy; hold = hold; idle = idle; lowscl = lowscl; lowsda = lowsda }

unfoldable pub with_counts : ℕ → ℕ → ℕ → ℕ → ℕ → Device → Device
with_counts reserve hold idle lowscl lowsda d =
    record { side0 = d.side0; side1 = d.side1; bus = counted_bus hold idle lowscl lowsda d.bus; arb = with_reserve reserve d.arb; kind = d.kind }

-- ---- moved on by j ticks

abbrev pub least : ℕ → ℕ → ℕ
least m n = if ltb m n then m else n

-- a count that rises where it counts and is below its top, and stops there: j times what a TICK does to it
abbrev pub risen : ℕ → Bool → ℕ → ℕ → ℕ
risen top up j n = if up && ltb n top then least (n + j) top else n

-- reserve and hold stop at 0
unfoldable pub after_ticks : ℕ → Device → Device
after_ticks j d =
    let b : Bus = d.bus in
    with_counts (d.arb.reserve - j) (b.hold - j) (risen (idle_limit d) (is_idle b) j b.idle) (risen scl_hung_limit (not (scl_high b)) j b.lowscl) (risen sda_hung_limit (not (sda_high b)) j b.lowsda) d
