-- `format::copy_bytes` meets its contract: after i turns the first i bytes stand at their places.
-- Assumes nothing.
use Prim.Native.Nat.{ℕ, ◌+◌}
use mathlib.Core.Path.{◌≡◌, refl, sym, ap, ◌∙◌}
use mathlib.Core.List.{List}
use native.Mathlib.Numerals.{add-one}
use native.Mathlib.Omega.{arith}
use lib.ListN.{length, get_or, set, length-set}
use lib.Seq.{paste, paste-zero, paste-suc}
use Rattle.format.proofs.copy_bytes.Goals as goal

pub loop-i-init : goal.loop-i-init
loop-i-init c = (refl, paste-zero c.args.out.now c.args.at c.args.bytes.now)

pub loop-i-preserved : goal.loop-i-preserved
loop-i-preserved c =
    let here = c.loop-i in
    let start = c.args in
    let out₀ = start.out.now in
    let bytes = start.bytes.now in (
      simp length-set here.invariant.0,
      ap (λ (l : List ℕ). set l (start.at + here.i) (get_or bytes here.i 0)) here.invariant.1
          ∙ paste-suc out₀ start.at bytes here.i 0 (omega arith) (omega arith)
          ∙ ap (paste out₀ start.at bytes) (sym (add-one here.i)),
    )

pub returns : goal.returns
returns c =
    let start = c.args in
    let e : c.loop-i.i ≡ length start.bytes.now = omega arith in
    c.loop-i.invariant.1 ∙ ap (paste start.out.now start.at start.bytes.now) e
