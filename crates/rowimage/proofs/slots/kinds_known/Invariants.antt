-- `rowimage::slots::kinds_known` meets its contract: the kinds are known if those that are left are.
-- Assumes nothing.
use mathlib.Core.Path.{◌≡◌}
use Rattle.rowimage.specs.Slots.{slot_bytes, slot_count, kinds_known}
use Rattle.rowimage.proofs.slots.kinds_known.Given as goal

abbrev pub invariant-loop-slot : goal.invariant-loop-slot
invariant-loop-slot l =
    let left = l.slot-iterator.rest.now in
    (l.slot-iterator.size ≡ slot_bytes) × (kinds_known (slot_count left) left ≡ kinds_known (slot_count l.slots) l.slots)
