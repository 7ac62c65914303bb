-- `imaging::step_good` meets its contract.
-- Assumes nothing.
use Prim.Native.Nat.{◌<◌}
use mathlib.Core.Path.{subst, sym, ap, ◌∙◌}
use Rattle.ranges.specs.Ranges.{pulses}
use Rattle.arbiter.specs.declared.Device.{Device}
use Rattle.arbiter.specs.declared.Stepped.{Stepped}
use Rattle.layout.proofs.Fits.{image_good}
use Rattle.layout.proofs.Steps.{pulses_stay}
use Rattle.arbiter.specs.Steps.{step}
use Rattle.imaging.proofs.step_good.Goals as goal

pub write_image-requires : goal.write_image-requires
write_image-requires c =
    let ran = c.step_device-s.ensures ∙ ap (λ (d : Device). step d c.args.r) c.read_image.ensures in
    let few = subst (λ (s : Stepped). pulses s.device.arb.switch < 9) (sym ran) (pulses_stay _ c.args.r c.requires) in
    (few, (image_good _ c.requires).0)
