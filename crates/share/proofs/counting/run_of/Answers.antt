-- `share::counting::run_of` meets its contract.
-- Assumes nothing.
use mathlib.Core.Path.{◌≡◌, refl, sym, ◌∙◌}
use mathlib.Core.Bool.{Bool, true, false, not, beq}
use native.Mathlib.Nat.{le_refl}
use native.Mathlib.Omega.{arith}
use Rattle.share.proofs.Others.{such_more}
use Rattle.share.proofs.counting.run_of.Goals as goal

same : (x y : Bool) → not (beq x y) ≡ false → x ≡ y
same true true h = refl
same false false h = refl
same true false h = h
same false true h = sym h

pub loop-k-init : goal.loop-k-init
loop-k-init c = λ k h. absurd (omega (arith, h))

pub returns-then-is_tick-ticks : goal.returns-then-is_tick-ticks
returns-then-is_tick-ticks c = (c.loop-k.auto.k-end, c.loop-k.invariant)

pub loop-k-preserved : goal.loop-k-preserved
loop-k-preserved c =
    such_more _ _ _ _ _ c.loop-k.invariant c.event_at.ensures (sym c.is_tick.ensures ∙ same _ _ c.if-is_tick-ticks.false)

pub returns : goal.returns
returns c = (le_refl _, λ k h. c.loop-k.invariant k (omega (arith, h, c.loop-k-test.false)))
