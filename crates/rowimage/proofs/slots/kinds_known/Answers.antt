-- `rowimage::slots::kinds_known` meets its contract: the kinds are known if those that are left are.
-- Assumes nothing.
use Prim.Native.Nat.{ℕ}
use mathlib.Core.Path.{◌≡◌, sym, ap, ◌∙◌}
use mathlib.Core.Bool.{Bool, ◌&&◌}
use mathlib.Core.List.{List}
use native.Mathlib.Omega.{arith}
use Rattle.rowimage.specs.Slots.{slot_bytes, slot_count, kinds_known}
use Rattle.rowimage.proofs.Fresh.{kinds_first, kinds_none}
use Rattle.rowimage.proofs.slots.kinds_known.Goals as goal

pub returns-then-not-is_kind : goal.returns-then-not-is_kind
returns-then-not-is_kind c =
    let inv = c.loop-slot.invariant in
    let step = c.in-Some.ensures.steps in
    let rest = c.next.new.self.rest.now in
    let long = step.1.1 ∙ inv.0 in
    sym (ap (λ (b : List ℕ). kinds_known (slot_count b) b) step.1.0 ∙ kinds_first _ rest long
    ∙ ap (λ (b : Bool). b && kinds_known (slot_count rest) rest) (sym c.is_kind.ensures ∙ c.if-not-is_kind.true)) ∙ inv.1

pub loop-slot-preserved : goal.loop-slot-preserved
loop-slot-preserved c =
    let inv = c.loop-slot.invariant in
    let step = c.in-Some.ensures.steps in
    let rest = c.next.new.self.rest.now in
    let long = step.1.1 ∙ inv.0 in (
      step.0 ∙ inv.0,
      sym (ap (λ (b : List ℕ). kinds_known (slot_count b) b) step.1.0 ∙ kinds_first _ rest long
          ∙ ap (λ (b : Bool). b && kinds_known (slot_count rest) rest) (sym c.is_kind.ensures ∙ c.if-not-is_kind.false)) ∙ inv.1,
    )

pub returns : goal.returns
returns c =
    let inv = c.loop-slot.invariant in
    let size : c.loop-slot.slot-iterator.size ≡ slot_bytes = inv.0 in
    let short = c.in-None.ensures.steps.1.0 in
    sym (kinds_none c.loop-slot.slot-iterator.rest.now (omega (arith, size, short))) ∙ inv.1
