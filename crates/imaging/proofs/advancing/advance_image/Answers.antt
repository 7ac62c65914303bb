-- `imaging::advancing::advance_image` meets its contract.
-- Assumes nothing.
use Prim.Native.Nat.{ℕ, ◌<◌, ◌≤◌}
use mathlib.Core.Path.{◌≡◌, sym, ap, ◌∙◌}
use native.Mathlib.Omega.{arith}
use Rattle.layout.specs.Layout.{image_of, device_in}
use Rattle.layout.proofs.Back.{laid_out_back}
use Rattle.layout.proofs.Once.{is_good}
use Rattle.quiet.specs.Quiet.{ticks}
use Rattle.advance.specs.Advance.{Advanced}
use Rattle.advance.specs.Advance.{changing, most_ticks}
use Rattle.imaging.specs.Advancing.{told_by, told_of, told_with}
use Rattle.imaging.proofs.OnImages.{in_few, past_few, told_good, left_good}
use Rattle.imaging.proofs.advancing.advance_image.Goals as goal

pub returns-in_default : goal.returns-in_default
unfolding told_by
returns-in_default c =
    let b = c.args.image.now in
    let good = is_good b c.in_ok-check_image.ensures in
    let most = c.in_default.ensures in
    let past : most_ticks < c.args.ticks = omega (arith, most) in
    let e = past_few c.args.ticks (device_in b) past in (
      ap told_of (sym e) ∙ sym (told_good b c.args.ticks good),
      sym (laid_out_back b good) ∙ ap (λ (a : Advanced). image_of a.device) (sym e) ∙ sym (left_good b c.args.ticks good),
    )

pub returns : goal.returns
unfolding told_by
returns c =
    let b = c.args.image.now in
    let d = device_in b in
    let good = is_good b c.in_ok-check_image.ensures in
    let n = c.in-Ok.ensures in
    let few : c.args.ticks ≤ most_ticks = omega (arith, n.0) in
    let e = in_few c.args.ticks d few in
    let done = c.leap.ensures in (
      ap (told_with 0) (done.0 ∙ ap (λ (k : ℕ). changing k d) n.1) ∙ ap told_of (sym e) ∙ sym (told_good b c.args.ticks good),
      done.1 ∙ ap (λ (k : ℕ). image_of (ticks k d)) n.1 ∙ ap (λ (a : Advanced). image_of a.device) (sym e) ∙ sym (left_good b c.args.ticks good),
    )
