-- `watchimage::laying::lay` meets its contract.
-- Assumes nothing.
use mathlib.Core.Path.{sym}
use Rattle.watchimage.proofs.Parts.{image_length_lem}
use Rattle.watchimage.proofs.Laid.{all_put}
use Rattle.watchimage.proofs.laying.lay.Goals as goal

pub slice_bounds-write_image-end-2 : goal.slice_bounds-write_image-end-2
slice_bounds-write_image-end-2 c = sym (image_length_lem c.args.out.now c.requires.1)

pub write_image-requires : goal.write_image-requires
write_image-requires c = (c.requires.0, image_length_lem c.args.out.now c.requires.1)

pub returns : goal.returns
returns c =
    all_put c.args.w c.args.out.now _ _ _ _ _ c.requires.1 c.write_image.ensures
    c.put_settings.ensures c.put_ear.ensures
    c.put_counts.ensures c.put_reads.ensures
