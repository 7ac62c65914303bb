-- The walk of `importing::walk`: what the samples before the windows that are left give is in the list, and both buses are as after them.
-- Assumes nothing.
use Rattle.std.proofs.Common.{◌≡◌, ◌+◌, ◌-◌, ◌≤◌, length, drop}
use Rattle.std.specs.Slice.Iter.{windows_rest, windows_size}
use Rattle.importing.proofs.Turns.{Stands}
use Rattle.importing.proofs.walk.Given as goal

abbrev pub invariant-loop-two : goal.invariant-loop-two
invariant-loop-two l =
    let rest = windows_rest l.two-iterator in
    let k = length l.samples - length rest in
    (windows_size l.two-iterator ≡ 2) × (length rest ≤ length l.samples) × (rest ≡ drop k l.samples) × Stands l.address l.samples (k + 1) l.both l.list
