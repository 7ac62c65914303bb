-- `advance::leap` meets its contract: what is left to reach stays the same.
-- Assumes nothing.
use Prim.Native.Nat.{◌+◌}
use mathlib.Core.Path.{refl, ap, ◌∙◌}
use native.Mathlib.Omega.{arith}
use Rattle.quiet.specs.Quiet.{ticks}
use Rattle.advance.specs.declared.Way.{Way}
use Rattle.advance.specs.Advance.{changing}
use Rattle.advance.proofs.Onward.{onward_kept, arrived}
use Rattle.advance.proofs.leap.Goals as goal

pub loop-w-init : goal.loop-w-init
loop-w-init c =
    let e = c.way_with-w.ensures in (
      refl,
      refl,
      omega (arith, ap (λ (w : Way). w.reported) e, ap (λ (w : Way). w.left) e),
    )

pub go_on-w-requires : goal.go_on-w-requires
go_on-w-requires c = (c.loop-w-test.true, c.loop-w.invariant.2)

pub loop-w-smaller : goal.loop-w-smaller
loop-w-smaller c = rw c.go_on-w.ensures (onward_kept _ c.loop-w-test.true).2

pub loop-w-preserved : goal.loop-w-preserved
loop-w-preserved c =
    let e = c.go_on-w.ensures in
    let kept = onward_kept _ c.loop-w-test.true in
    let inv = c.loop-w.invariant in (
      ap (λ (w : Way). ticks w.left w.device) e ∙ kept.0 ∙ inv.0,
      ap (λ (w : Way). w.reported + changing w.left w.device) e ∙ kept.1 ∙ inv.1,
      omega (arith, ap (λ (w : Way). w.reported + w.left) e, kept.3, inv.2),
    )

pub returns : goal.returns
returns c =
    let start = c.way_with-w.ensures in
    let at = c.loop-w in
    arrived _ _ at.w _ start at.invariant.0 at.invariant.1 (omega (arith, c.loop-w-test.false))
