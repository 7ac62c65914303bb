-- `rowimage::survey` meets its contract: what is seen of the records that are left, after the others, is seen of all.
-- Assumes nothing.
use Prim.Native.Nat.{ℕ}
use mathlib.Core.Path.{◌≡◌, sym, ap, ◌∙◌}
use mathlib.Core.List.{List}
use native.Mathlib.Omega.{arith}
use Rattle.routing.specs.declared.Seen.{Seen}
use Rattle.rowimage.specs.Row.{record_bytes, records_in}
use Rattle.rowimage.proofs.Seeing.{see_all, see_whole}
use Rattle.rowimage.proofs.Walks.{see_more, see_end}
use Rattle.rowimage.proofs.survey.Goals as goal

pub loop-place-init : goal.loop-place-init
loop-place-init c =
    let items = c.into_iter-place-iterator.ensures.into_iter_gives in
    let row = c.args.row.now in (
      ap (λ (i : _). i.size) items ∙ c.chunks_exact-place-items.ensures.size,
      ap (λ (i : _). see_all c.start-s.result (records_in i.rest.now)) items
          ∙ ap (λ (b : List ℕ). see_all c.start-s.result (records_in b)) c.chunks_exact-place-items.ensures.rest
          ∙ ap (λ (s : Seen). see_all s (records_in row)) c.start-s.ensures ∙ see_whole c.args.name (records_in row),
    )

pub loop-place-preserved : goal.loop-place-preserved
loop-place-preserved c =
    let inv = c.loop-place.invariant in
    let step = c.in-Some.ensures.steps in
    let rest = c.next.new.self.rest.now in
    let long = step.1.1 ∙ inv.0 in (
      step.0 ∙ inv.0,
      ap (λ (s : Seen). see_all s (records_in rest)) c.see-s.ensures
          ∙ sym (ap (λ (b : List ℕ). see_all c.loop-place.s (records_in b)) step.1.0 ∙ see_more c.loop-place.s _ rest long) ∙ inv.1,
    )

pub returns : goal.returns
returns c =
    let inv = c.loop-place.invariant in
    let size : c.loop-place.place-iterator.size ≡ record_bytes = inv.0 in
    let short = c.in-None.ensures.steps.1.0 in
    sym (see_end c.loop-place.s c.loop-place.place-iterator.rest.now (omega (arith, size, short))) ∙ inv.1
