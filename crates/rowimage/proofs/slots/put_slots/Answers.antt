-- `rowimage::slots::put_slots` meets its contract: at each place the records of the slots before it stand before the untouched rest.
-- Assumes nothing.
use Prim.Native.Nat.{◌<◌}
use mathlib.Core.Path.{◌≡◌, refl, ◌∙◌}
use native.Mathlib.Omega.{arith}
use lib.ListN.{length-set}
use Rattle.rowimage.specs.Row.{bytes_of_row}
use Rattle.rowimage.specs.Slots.{slot_count, slots_to}
use Rattle.rowimage.proofs.Fresh.{slot_again, slots_done}
use Rattle.rowimage.proofs.slots.put_slots.Goals as goal

pub loop-i-init : goal.loop-i-init
unfolding slots_to bytes_of_row
loop-i-init c = (refl, refl)

pub loop-i-preserved : goal.loop-i-preserved
loop-i-preserved c =
    let inv = c.loop-i.invariant in
    let slots = c.args.slots.now in
    let more : c.loop-i.i < slot_count slots = omega arith in (
      simp length-set (c.put_fresh.auto.row ∙ inv.0),
      slot_again slots c.args.row.now (slot_count slots) c.loop-i.i c.requires.1 more c.requires.0 _ _ inv.0 inv.1 c.put_fresh.ensures,
    )

pub returns : goal.returns
returns c =
    let slots = c.args.slots.now in
    let e : c.loop-i.i ≡ slot_count slots = omega arith in
    slots_done slots c.args.row.now _ (slot_count slots) c.loop-i.i c.requires.0 e c.loop-i.invariant.1
