-- `rowimage::survey` meets its contract: what is seen of the records that are left, after the others, is seen of all.
-- Assumes nothing.
use mathlib.Core.Path.{◌≡◌}
use Rattle.routing.specs.Deciding.{seen_of}
use Rattle.rowimage.specs.Row.{record_bytes, records_in}
use Rattle.rowimage.proofs.Seeing.{see_all}
use Rattle.rowimage.proofs.survey.Given as goal

abbrev pub invariant-loop-place : goal.invariant-loop-place
invariant-loop-place l =
    (l.place-iterator.size ≡ record_bytes) × (see_all l.s (records_in l.place-iterator.rest.now) ≡ seen_of l.name (records_in l.row))
