-- `rowimage::images_fit` meets its contract: the images fit if those that are left do.
-- Assumes nothing.
use Prim.Native.Nat.{ℕ}
use mathlib.Core.Path.{◌≡◌, sym, ap, ◌∙◌}
use mathlib.Core.Bool.{Bool, true, false, ◌&&◌}
use mathlib.Core.List.{List}
use native.Mathlib.Omega.{arith}
use lib.Dec.{eqb}
use borrow.Author.Tests.{eq-eqb, ne_eqb}
use Rattle.rowimage.specs.Row.{record_bytes, record_count, images_fit}
use Rattle.rowimage.proofs.Walks.{fit_more, fit_none}
use Rattle.rowimage.proofs.images_fit.Goals as goal

pub loop-record-preserved : goal.loop-record-preserved
loop-record-preserved c =
    let inv = c.loop-record.invariant in
    let step = c.in-Some.ensures.steps in
    let rest = c.next.new.self.rest.now in
    let long = step.1.1 ∙ inv.0 in
    let fits = sym c.is_good.ensures ∙ c.if-not-is_good.false in (
      step.0 ∙ inv.0,
      sym (ap (λ (b : List ℕ). images_fit (record_count b) b) step.1.0 ∙ fit_more _ rest long
          ∙ ap (λ (b : Bool). b && images_fit (record_count rest) rest) fits) ∙ inv.1,
    )

pub returns-then-not-is_good : goal.returns-then-not-is_good
returns-then-not-is_good c =
    let inv = c.loop-record.invariant in
    let step = c.in-Some.ensures.steps in
    let rest = c.next.new.self.rest.now in
    let long = step.1.1 ∙ inv.0 in
    let fits = sym c.is_good.ensures ∙ c.if-not-is_good.true in
    sym (ap (λ (b : List ℕ). images_fit (record_count b) b) step.1.0 ∙ fit_more _ rest long
    ∙ ap (λ (b : Bool). b && images_fit (record_count rest) rest) fits) ∙ inv.1

pub returns : goal.returns
returns c =
    let inv = c.loop-record.invariant in
    let size : c.loop-record.record-iterator.size ≡ record_bytes = inv.0 in
    let short = c.in-None.ensures.steps.1.0 in
    sym (fit_none c.loop-record.record-iterator.rest.now (omega (arith, size, short))) ∙ inv.1
