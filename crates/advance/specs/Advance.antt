-- Request #113: "Add an advance by up to 65,535 ticks, equal in its end state to as many TICK events."
-- Assumes nothing.
use Rattle.std.specs.Prelude.{ℕ, zero, suc, ◌+◌, ◌-◌, ◌≤◌, List, eqb, ltb, Result, Ok, Err, if◌then◌else◌}
use Rattle.arbiter.specs.Words.{worth}
use Rattle.arbiter.specs.Steps.{step, run}
use Rattle.arbiter.specs.declared.Kind.{Kind}
use Rattle.arbiter.specs.declared.Device.{Device}
use Rattle.arbiter.specs.declared.Raw.{Raw}
use Rattle.quiet.specs.Counts.{least, after_ticks}
use Rattle.quiet.specs.Quiet.{quiet_ticks, tick, ticks}
use Rattle.advance.specs.declared.Moved.{Moved}
use Rattle.advance.specs.declared.Refused.{Refused}
use Rattle.advance.specs.declared.Refused.TheVariants.{TooManyTicks}
use Rattle.advance.specs.declared.Way.{Way}
use Rattle.advance.specs.Changes.{changes}

-- "the number of those ticks that change anything other than counts": ticks are counted, not changes
unfoldable pub changing : ℕ → Device → ℕ
changing zero d = 0
changing (suc n) d = worth 1 (changes d (step d tick).device) + changing n (step d tick).device

abbrev pub most_ticks : ℕ
most_ticks = 65535

-- what an advance tells: its number, the device after it, and how many of its ticks changed anything but counts
pub record Advanced : Type 0 where
  pub number : ℕ
  pub device : Device
  pub reported : ℕ

abbrev pub advanced_with : ℕ → Device → ℕ → Advanced
advanced_with number device reported = record { number = number; device = device; reported = reported }

-- "Past 65,535: refusal 3, device unchanged, 0 reported."
unfoldable pub advanced : ℕ → Device → Advanced
advanced n d = if ltb most_ticks n then advanced_with 3 d 0 else advanced_with 0 (ticks n d) (changing n d)

-- the number of a refusal
abbrev pub refused_number : Refused → ℕ
refused_number TooManyTicks = 3

-- the code's answer as it is told: what is moved has number 0, and an advance that is refused leaves the device
abbrev pub moved_told : Moved → Advanced
moved_told m = advanced_with 0 m.device m.reported

abbrev pub told : Device → Result Moved Refused → Advanced
told d (Ok m) = moved_told m
told d (Err r) = advanced_with (refused_number r) d 0

-- ---- what is never exceeded

-- "this is never above six from any state reached from power-up"
abbrev pub SixAtMost : Type 0
SixAtMost = (k : Kind) (rs : List Raw) (n : ℕ) → changing n (run k rs) ≤ 6

-- ---- on the way: a device, the ticks left to take, and how many changed something

abbrev pub way_with : Device → ℕ → ℕ → Way
way_with device left reported = record { device = device; left = left; reported = reported }

-- a tick that is taken and compared, where it may change something; else as many quiet ones as there are, at once
abbrev pub tick_on : Way → Way
tick_on w =
    way_with (step w.device tick).device (w.left - 1) (w.reported + worth 1 (changes w.device (step w.device tick).device))

abbrev pub jump_on : ℕ → Way → Way
jump_on j w = way_with (after_ticks j w.device) (w.left - j) w.reported

unfoldable pub onward : Way → Way
onward w =
    let j : ℕ = least (quiet_ticks w.device) w.left in
    if eqb j 0 then tick_on w else jump_on j w
