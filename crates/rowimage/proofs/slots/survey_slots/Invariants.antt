-- `rowimage::slots::survey_slots` meets its contract: what is seen of the slots that are left, after the others, is seen of all.
-- Assumes nothing.
use mathlib.Core.Path.{◌≡◌}
use Rattle.routing.specs.Deciding.{seen_of}
use Rattle.rowimage.specs.Slots.{slot_bytes, row_of_slots}
use Rattle.rowimage.proofs.Seeing.{see_all}
use Rattle.rowimage.proofs.slots.survey_slots.Given as goal

abbrev pub invariant-loop-slot : goal.invariant-loop-slot
invariant-loop-slot l =
    (l.slot-iterator.size ≡ slot_bytes) × (see_all l.s (row_of_slots l.slot-iterator.rest.now) ≡ seen_of 0 (row_of_slots l.slots))
