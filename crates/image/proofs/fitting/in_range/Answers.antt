-- `image::fitting::in_range` asks each group of fields of an image.
-- Assumes nothing.
use Rattle.arbiter.specs.declared.Master.TheVariants.{Zero, One}
use Rattle.layout.specs.Layout.{rows_fit_too, image_in_range}
use Rattle.image.proofs.fitting.in_range.Goals as goal

pub returns : goal.returns
unfolding image_in_range rows_fit_too
returns c =
    simp (
      c.port_fits-2.ensures One,
      c.port_fits.ensures Zero,
      c.fits.ensures,
      c.shared_fit.ensures,
      c.counts_fit.ensures,
      c.registers_fit-2.ensures One,
      c.registers_fit.ensures Zero,
    )
