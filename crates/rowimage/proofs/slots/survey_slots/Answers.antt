-- `rowimage::slots::survey_slots` meets its contract: what is seen of the slots that are left, after the others, is seen of all.
-- Assumes nothing.
use Prim.Native.Nat.{ℕ}
use mathlib.Core.Path.{◌≡◌, sym, ap, ◌∙◌}
use mathlib.Core.List.{List}
use native.Mathlib.Omega.{arith}
use Rattle.routing.specs.declared.Seen.{Seen}
use Rattle.rowimage.specs.Slots.{slot_bytes, row_of_slots}
use Rattle.rowimage.proofs.Seeing.{see_all, see_whole}
use Rattle.rowimage.proofs.Fresh.{slots_first, slots_end}
use Rattle.rowimage.proofs.slots.survey_slots.Goals as goal

pub loop-slot-init : goal.loop-slot-init
loop-slot-init c =
    let items = c.into_iter-slot-iterator.ensures.into_iter_gives in
    let slots = c.args.slots.now in (
      ap (λ (i : _). i.size) items ∙ c.chunks_exact-slot-items.ensures.size,
      ap (λ (i : _). see_all c.start-s.result (row_of_slots i.rest.now)) items
          ∙ ap (λ (b : List ℕ). see_all c.start-s.result (row_of_slots b)) c.chunks_exact-slot-items.ensures.rest
          ∙ ap (λ (s : Seen). see_all s (row_of_slots slots)) c.start-s.ensures ∙ see_whole 0 (row_of_slots slots),
    )

pub loop-slot-preserved : goal.loop-slot-preserved
loop-slot-preserved c =
    let inv = c.loop-slot.invariant in
    let step = c.in-Some.ensures.steps in
    let rest = c.next.new.self.rest.now in
    let long = step.1.1 ∙ inv.0 in (
      step.0 ∙ inv.0,
      ap (λ (s : Seen). see_all s (row_of_slots rest)) c.see-s.ensures
          ∙ sym (ap (λ (b : List ℕ). see_all c.loop-slot.s (row_of_slots b)) step.1.0 ∙ slots_first c.loop-slot.s _ rest long) ∙ inv.1,
    )

pub returns : goal.returns
returns c =
    let inv = c.loop-slot.invariant in
    let size : c.loop-slot.slot-iterator.size ≡ slot_bytes = inv.0 in
    let short = c.in-None.ensures.steps.1.0 in
    sym (slots_end c.loop-slot.s c.loop-slot.slot-iterator.rest.now (omega (arith, size, short))) ∙ inv.1
