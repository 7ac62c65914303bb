-- `packed_orders::list_packed` meets its contract. At most 924 orders are listed, so the sum fits.
-- Assumes nothing.
use mathlib.Core.Path.{subst, sym}
use Prim.Native.Nat.{◌≤◌}
use native.Mathlib.Omega.{arith}
use Rattle.orders.specs.Call.{Listed}
use Rattle.orders.proofs.Calls.{listed_few}
use Rattle.packed_orders.proofs.list_packed.Goals as goal

pub overflow_mul-result : goal.overflow_mul-result
overflow_mul-result c =
    let few : c.in-Ok.count ≤ 924 = subst (λ (r : Listed). r.count ≤ 924) (sym c.in-Ok.ensures.0) (listed_few _ _ _ _) in
    omega (arith, few)
