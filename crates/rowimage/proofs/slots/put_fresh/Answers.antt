-- `rowimage::slots::put_fresh` meets its contract.
-- Assumes nothing.
use Prim.Native.Nat.{ℕ, ◌+◌, ◌-◌, ◌*◌}
use mathlib.Core.Path.{ap, ◌∙◌}
use mathlib.Core.List.{List}
use lib.ListN.{drop}
use borrow.Rule.Slice.PartMut.{put_mid}
use Rattle.layout.specs.Layout.{image_length}
use Rattle.layout.specs.Images.{fresh_after}
use Rattle.rowimage.specs.Row.{record_bytes, image_in}
use Rattle.rowimage.specs.Walk.{image_place}
use Rattle.rowimage.proofs.Walks.{part_size, part_is}
use Rattle.rowimage.proofs.slots.put_fresh.Goals as goal

pub returns : goal.returns
returns c =
    let start = c.args in
    let row = start.row.now in
    let done = c.fresh_image-fresh.ensures.1 ∙ ap (λ (l : List ℕ). fresh_after start.kind l) (part_is start.i row) in
    ap (λ (l : List ℕ). put_mid (image_place start.i) (image_place start.i + image_length - image_place start.i) row l) done
    ∙ ap (λ (n : ℕ). put_mid (image_place start.i) n row (fresh_after start.kind (image_in (drop (record_bytes * start.i) row)))) (part_size start.i)
