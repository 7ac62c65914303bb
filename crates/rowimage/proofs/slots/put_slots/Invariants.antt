-- `rowimage::slots::put_slots` meets its contract: at each place the records of the slots before it stand before the untouched rest.
-- Assumes nothing.
use Prim.Native.Nat.{◌*◌}
use mathlib.Core.Path.{◌≡◌}
use mathlib.Core.List.{◌++◌}
use lib.ListN.{length, drop}
use Rattle.shelf.specs.Runs.{fresh_row}
use Rattle.rowimage.specs.Row.{record_bytes, bytes_of_row}
use Rattle.rowimage.specs.Slots.{slots_to}
use Rattle.rowimage.proofs.slots.put_slots.Given as goal

abbrev pub invariant-loop-i : goal.invariant-loop-i
invariant-loop-i l =
    (length l.row ≡ length l.initial.row) × (l.row ≡ bytes_of_row (fresh_row (slots_to l.i l.slots)) ++ drop (record_bytes * l.i) l.initial.row)
