-- `imaging::advancing::leap` meets its contract.
-- Assumes nothing.
use Prim.Native.Nat.{ℕ, ◌+◌, ◌-◌, ◌≤◌}
use mathlib.Core.Path.{◌≡◌, ap, ◌∙◌}
use native.Mathlib.Omega.{arith}
use Rattle.arbiter.specs.Words.{worth}
use Rattle.layout.specs.Layout.{image_of, device_in}
use Rattle.layout.proofs.Fits.{image_fits, image_good}
use Rattle.layout.proofs.Flags.{one}
use Rattle.quiet.specs.Quiet.{quiet_ticks, ticks}
use Rattle.quiet.proofs.Counts.{least_first, least_second}
use Rattle.advance.specs.Advance.{changing}
use Rattle.imaging.proofs.OnImages.{one_at_most, changing_few}
use Rattle.imaging.proofs.Leaps.{at_start, so_far_image, ticked, leapt}
use Rattle.imaging.proofs.advancing.leap.Goals as goal

pub loop-left-init : goal.loop-left-init
loop-left-init c =
    let none = at_start c.args.image.now c.args.n c.requires in
    (omega arith, none.0, none.1)

pub tick_on-requires : goal.tick_on-requires
tick_on-requires c =
    let here = c.loop-left in
    let good = so_far_image (device_in c.args.image.now) (c.args.n - here.left) here.image (image_fits _ c.requires) here.invariant.1 in
    (good, (image_good _ good).0)

pub overflow_add-reported : goal.overflow_add-reported
overflow_add-reported c =
    let here = c.loop-left in
    let few = changing_few (c.args.n - here.left) (device_in c.args.image.now) in
    let told = c.from-one.ensures ∙ one _ in
    omega (arith, few, here.invariant.2, told, one_at_most c.tick_on.result)

pub overflow_sub-left : goal.overflow_sub-left
overflow_sub-left c = omega arith

pub loop-left-smaller-then-j-eq0 : goal.loop-left-smaller-then-j-eq0
loop-left-smaller-then-j-eq0 c = omega arith

pub loop-left-preserved-then-j-eq0 : goal.loop-left-preserved-then-j-eq0
loop-left-preserved-then-j-eq0 c =
    let here = c.loop-left in
    let done = c.tick_on.ensures in
    let told = c.from-one.ensures ∙ one _ ∙ ap (worth 1) done.0 in
    let d = device_in c.args.image.now in
    let n = c.args.n in
    let next = ticked d (n - here.left) here.image _ here.reported _ (image_fits _ c.requires) here.invariant.1 here.invariant.2 told done.1 in
    let more : n - here.left + 1 ≡ n - (here.left - 1) = omega arith in
    (omega arith, next.0 ∙ ap (λ (k : ℕ). image_of (ticks k d)) more, next.1 ∙ ap (λ (k : ℕ). changing k d) more)

pub jump-requires : goal.jump-requires
jump-requires c =
    let here = c.loop-left in
    let good = so_far_image (device_in c.args.image.now) (c.args.n - here.left) here.image (image_fits _ c.requires) here.invariant.1 in
    (good, (image_good _ good).0)

pub overflow_sub-left-else-j-eq0 : goal.overflow_sub-left-else-j-eq0
overflow_sub-left-else-j-eq0 c = rw c.quiet_in-j.ensures (least_second _ _)

pub loop-left-smaller : goal.loop-left-smaller
loop-left-smaller c = omega arith

pub loop-left-preserved : goal.loop-left-preserved
loop-left-preserved c =
    let here = c.loop-left in
    let quiet = c.quiet_in-j in
    let d = device_in c.args.image.now in
    let n = c.args.n in
    let j = quiet.result in
    let few : j ≤ quiet_ticks (device_in here.image) = rw quiet.ensures (least_first (quiet_ticks (device_in here.image)) here.left) in
    let inside : j ≤ here.left = rw quiet.ensures (least_second (quiet_ticks (device_in here.image)) here.left) in
    let next = leapt d (n - here.left) j here.image _ (image_fits _ c.requires) here.invariant.1 few c.jump.ensures in
    let more : n - here.left + j ≡ n - (here.left - j) = omega arith in
    (omega arith, next.0 ∙ ap (λ (k : ℕ). image_of (ticks k d)) more, here.invariant.2 ∙ next.1 ∙ ap (λ (k : ℕ). changing k d) more)

pub returns : goal.returns
returns c =
    let here = c.loop-left in
    let d = device_in c.args.image.now in
    let all : c.args.n - here.left ≡ c.args.n = omega arith in
    (here.invariant.2 ∙ ap (λ (k : ℕ). changing k d) all, here.invariant.1 ∙ ap (λ (k : ℕ). image_of (ticks k d)) all)
