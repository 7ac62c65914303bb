-- `packed_watches::listen_packed` meets its contract. A call takes at most 4,294,967,295 samples, so the product fits.
-- Assumes nothing.
use Prim.Native.Nat.{ℕ, ◌≤◌}
use mathlib.Core.Path.{subst, sym, ap, ◌∙◌}
use native.Mathlib.Omega.{arith}
use lib.ListN.{take}
use Rattle.watchlayout.specs.Refusals.{Heeded, heeded_of}
use Rattle.watchlayout.specs.Calls.{heeded}
use Rattle.packed_watches.specs.Packed.{most_at_once}
use Rattle.packed_watches.proofs.Few.{at_once_few}
use Rattle.packed_watches.proofs.listen_packed.Goals as goal

pub overflow_mul-result : goal.overflow_mul-result
unfolding heeded_of
overflow_mul-result c =
    let start = c.args in
    let xs = start.samples.now in
    let told = c.in-Ok.ensures.0 ∙ ap (λ (n : ℕ). heeded (take n xs) start.watch.now) c.count_at_once-n.ensures in
    let few = subst (λ (r : Heeded). r.taken ≤ most_at_once) (sym told) (at_once_few xs start.watch.now) in
    omega (arith, few)
