-- Light of `light`, request #114: settled devices. Every device that a run reaches is settled: parts 2 to 7 have nothing to do in it.
-- Assumes nothing.
use Rattle.std.specs.Prelude.{◌≡◌, Bool, true, false, ◌&&◌}
use Rattle.arbiter.specs.State.{scl_high, sda_high, is_idle}
use Rattle.arbiter.specs.Effects.{power_up}
use Rattle.arbiter.specs.Steps.{step}
use Rattle.arbiter.specs.declared.Bus.{Bus}
use Rattle.arbiter.specs.declared.Kind.{Kind}
use Rattle.arbiter.specs.declared.Device.{Device}
use Rattle.arbiter.specs.declared.Raw.{Raw}
use Rattle.quiet.specs.Quiet.{is_still}
use Rattle.step.specs.Carried.{is_quiet}

-- ---- a settled device

-- part 2 has nothing to do: a high line's low count is 0, and so is the idle count of a bus that is not idle
abbrev pub Still : Bus → Type 0
Still b = (scl_high b ≡ true → b.lowscl ≡ 0) × (sda_high b ≡ true → b.lowsda ≡ 0) × (is_idle b ≡ false → b.idle ≡ 0)

-- and neither have parts 3 to 7
abbrev pub Settled : Device → Type 0
Settled d = Still d.bus × (is_quiet false d ≡ true)

-- the same as a test, by which any device tells whether it is settled; is_still is that of crate quiet
abbrev pub is_settled : Device → Bool
is_settled d = is_still d.bus && is_quiet false d

-- ---- what is proved

-- A device is settled at power-up, and every event leaves a settled device settled.
abbrev pub SettledAtPowerUp : Type 0
SettledAtPowerUp = (k : Kind) → Settled (power_up k)

abbrev pub StaysSettled : Type 0
StaysSettled = (d : Device) (r : Raw) → Settled d → Settled (step d r).device

-- The test says of a device that it is settled only if it is.
abbrev pub SettledTold : Type 0
SettledTold = (d : Device) → is_settled d ≡ true → Settled d
