-- `watchimage::fitting::in_range` meets its contract.
-- Assumes nothing.
use mathlib.Core.Path.{sym, ◌∙◌}
use Rattle.layout.proofs.Once.{asked}
use Rattle.watchimage.proofs.Parts.{image_length_lem}
use Rattle.watchlayout.specs.Places.{watch_in_range}
use Rattle.watchimage.proofs.fitting.in_range.Goals as goal

pub slice_bounds-check_image-end : goal.slice_bounds-check_image-end
slice_bounds-check_image-end c = sym (image_length_lem c.args.b.now c.requires)

pub returns : goal.returns
unfolding watch_in_range
returns c =
    simp (
      c.tally_fits.ensures,
      c.ear_fits.ensures,
      c.settings_fit.ensures,
      c.is_ok.ensures.value ∙ asked _ _ c.check_image.ensures,
    )
