-- `rowimage::carry_out` meets its contract: at each place the buffer holds the row as the places so far have left it.
-- Assumes nothing.
use Prim.Native.Nat.{◌≤◌, ◌-◌}
use mathlib.Core.Path.{◌≡◌}
use lib.ListN.{length}
use Rattle.std.specs.Prelude.{None}
use Rattle.rows.specs.Sweeps.{sweep_of}
use Rattle.rowimage.specs.Row.{bytes_of_row, records_in}
use Rattle.rowimage.proofs.carry_out.Given as goal

abbrev pub invariant-loop-i : goal.invariant-loop-i
invariant-loop-i l =
    (l.fn.places.start ≤ l.i)
    × (length l.row ≡ length l.initial.row)
    × (l.row ≡ bytes_of_row (sweep_of l.r l.fn.places.start (l.i - l.fn.places.start) (records_in l.initial.row, None)).0)
    × (l.told ≡ (sweep_of l.r l.fn.places.start (l.i - l.fn.places.start) (records_in l.initial.row, None)).1)
