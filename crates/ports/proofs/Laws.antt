-- Laws of `ports`: what the code writes as one literal with a choice for each field is the definition's choice between two sides.
-- Assumes nothing.
use mathlib.Core.Path.{◌≡◌, refl}
use mathlib.Core.Bool.{Bool, true, false}
use Prim.Native.Nat.{ℕ, ◌%◌}
use Rattle.std.specs.Prelude.{if◌then◌else◌}
use Rattle.arbiter.specs.Words.{bit}
use Rattle.arbiter.specs.Parts.{with_port, with_auto, with_pointer}
use Rattle.arbiter.specs.Events.{good_command}
use Rattle.arbiter.specs.Effects.{register_at, commanded}
use Rattle.arbiter.specs.declared.Port.TheVariants.{Open, Writing}
use Rattle.arbiter.specs.declared.Side.{Side}

-- a side whose command is good by a test, each field with its own choice
abbrev commanded_by : Bool → ℕ → Side → Side
commanded_by good c s =
    with_port (if good then Writing else Open) (with_auto (if good then bit 7 c else s.auto) (with_pointer (if good then register_at (c % 8) else s.pointer) s))

pub commanded_law : (c : ℕ) (s : Side) → commanded_by (good_command c) c s ≡ commanded c s
unfolding commanded
commanded_law c s = go (good_command c)
  where
    go : (good : Bool) → commanded_by good c s
        ≡ (if good then with_port Writing (with_auto (bit 7 c) (with_pointer (register_at (c % 8)) s)) else with_port Open s)
    go true = refl
    go false = refl
