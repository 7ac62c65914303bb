-- `imaging::advancing::jump` meets its contract.
-- Assumes nothing.
use mathlib.Core.Path.{ap, ◌∙◌}
use borrow.Rule.Slice.PartMut.{put_mid}
use Rattle.layout.specs.Layout.{counts, laid_out}
use Rattle.quiet.specs.Counts.{after_ticks}
use Rattle.imaging.proofs.Leaps.{jumped}
use Rattle.imaging.proofs.advancing.jump.Goals as goal

pub returns : goal.returns
returns c =
    let image = c.args.image.now in
    let j = c.args.j in
    let after = c.after_ticks.ensures
    ∙ ap (after_ticks j) c.read_image.ensures in
    let made = c.counts_of-bytes.ensures ∙ ap (laid_out counts) after in
    let put = c.copy_from_slice.ensures.after ∙ made in
    ap (put_mid 14 7 image) put ∙ jumped image j c.requires.0
