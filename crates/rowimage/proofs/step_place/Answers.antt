-- `rowimage::step_place` meets its contract.
-- Assumes nothing.
use Prim.Native.Nat.{ℕ, ◌+◌, ◌-◌, ◌*◌}
use mathlib.Core.Path.{ap, ◌∙◌}
use mathlib.Core.List.{List}
use lib.ListN.{drop}
use borrow.Rule.Slice.PartMut.{put_mid}
use Rattle.layout.specs.Layout.{image_length}
use Rattle.layout.specs.Images.{image_answer, image_after}
use Rattle.rowimage.specs.Row.{record_bytes, image_in}
use Rattle.rowimage.specs.Walk.{image_place}
use Rattle.rowimage.proofs.Walks.{part_size, part_is}
use Rattle.rowimage.proofs.step_place.Goals as goal

pub returns : goal.returns
returns c =
    let start = c.args in
    let row = start.row.now in
    let done = c.step_image.ensures in
    let part = part_is start.i row in (
      done.0 ∙ ap (λ (l : List ℕ). image_answer l start.r) part,
      ap (λ (l : List ℕ). put_mid (image_place start.i) (image_place start.i + image_length - image_place start.i) row l)
          (done.1 ∙ ap (λ (l : List ℕ). image_after l start.r) part)
          ∙ ap (λ (n : ℕ). put_mid (image_place start.i) n row (image_after (image_in (drop (record_bytes * start.i) row)) start.r)) (part_size start.i),
    )
