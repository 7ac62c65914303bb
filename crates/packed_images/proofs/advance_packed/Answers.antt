-- `packed_images::advance_packed` meets its contract. An advance goes 65,535 ticks at most, so the product fits.
-- Assumes nothing.
use mathlib.Core.Path.{subst, sym}
use Prim.Native.Nat.{◌≤◌}
use native.Mathlib.Omega.{arith}
use Rattle.advance.specs.Advance.{most_ticks}
use Rattle.imaging.specs.Advancing.{Told, told_by}
use Rattle.imaging.proofs.OnImages.{told_few}
use Rattle.packed_images.proofs.advance_packed.Goals as goal

pub overflow_mul-result : goal.overflow_mul-result
unfolding told_by
overflow_mul-result c =
    let few = subst (λ (t : Told). t.reported ≤ most_ticks) (sym c.in-Ok.ensures.0) (told_few _ _) in
    omega (arith, few)
