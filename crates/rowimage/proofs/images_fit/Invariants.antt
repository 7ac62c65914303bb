-- `rowimage::images_fit` meets its contract: the images fit if those that are left do.
-- Assumes nothing.
use mathlib.Core.Path.{◌≡◌}
use Rattle.rowimage.specs.Row.{record_bytes, record_count, images_fit}
use Rattle.rowimage.proofs.images_fit.Given as goal

abbrev pub invariant-loop-record : goal.invariant-loop-record
invariant-loop-record l =
    let left = l.record-iterator.rest.now in
    (l.record-iterator.size ≡ record_bytes) × (images_fit (record_count left) left ≡ images_fit (record_count l.row) l.row)
