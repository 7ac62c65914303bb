-- `watchimage::reading::watcher_in` meets its contract.
-- Assumes nothing.
use mathlib.Core.Path.{sym}
use Rattle.watchimage.proofs.Parts.{image_length_lem}
use Rattle.watchlayout.specs.Places.{watcher_in}
use Rattle.watchimage.proofs.reading.watcher_in.Goals as goal

pub slice_bounds-read_image-end : goal.slice_bounds-read_image-end
slice_bounds-read_image-end c = sym (image_length_lem c.args.b.now c.requires)

pub returns : goal.returns
unfolding watcher_in
returns c =
    simp (
      c.tally_in.ensures,
      c.read_image.ensures,
      c.ear_in.ensures,
      c.settings_in.ensures,
    )
