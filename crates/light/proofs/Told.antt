-- A device that the test calls settled is: each part of the test is one of what a settled device has.
-- Assumes nothing.
use Prim.Native.Nat.{ℕ}
use mathlib.Core.Path.{◌≡◌, sym, ◌∙◌}
use mathlib.Core.Bool.{Bool, true, false, not, ◌&&◌, ◌||◌, false≢true, and-eq-true_iff}
use lib.Dec.{eqb}
use borrow.Author.Tests.{eqb-true}
use Rattle.arbiter.specs.State.{scl_high, sda_high, is_idle}
use Rattle.arbiter.specs.declared.Bus.{Bus}
use Rattle.arbiter.specs.declared.Device.{Device}
use Rattle.step.specs.Carried.{is_quiet}
use Rattle.quiet.specs.Quiet.{is_still}
use Rattle.light.specs.Light.{Still, SettledTold}

-- a count that is 0 where this holds
where_so : (t : Bool) (n : ℕ) → not t || eqb n 0 ≡ true → t ≡ true → n ≡ 0
where_so true n h e = eqb-true n 0 h
where_so false n h e = absurd (false≢true e)

-- and one that is 0 where it does not
where_not : (t : Bool) (n : ℕ) → t || eqb n 0 ≡ true → t ≡ false → n ≡ 0
where_not true n h e = absurd (false≢true (sym e))
where_not false n h e = eqb-true n 0 h

still_told : (b : Bus) → is_still b ≡ true → Still b
still_told b h =
    let scl = not (scl_high b) || eqb b.lowscl 0 in
    let sda = not (sda_high b) || eqb b.lowsda 0 in
    let all = (and-eq-true_iff (scl && sda) (is_idle b || eqb b.idle 0)).0 h in
    let lines = (and-eq-true_iff scl sda).0 all.0 in
    (where_so (scl_high b) b.lowscl lines.0, where_so (sda_high b) b.lowsda lines.1, where_not (is_idle b) b.idle all.1)

pub settled_told : SettledTold
settled_told d h =
    let both = (and-eq-true_iff (is_still d.bus) (is_quiet false d)).0 h in
    (still_told d.bus both.0, both.1)
