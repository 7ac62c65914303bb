-- `orders::orders_of` meets its contract. Each call of itself has one event less.
-- Assumes nothing.
use mathlib.Core.Path.{sym, ap, ap₂, ◌∙◌}
use Prim.Native.Nat.{ℕ, ◌+◌, ◌-◌}
use native.Mathlib.Omega.{arith}
use Rattle.orders.specs.Orders.{number_of_orders}
use Rattle.orders.proofs.Numbers.{none_of_0, none_of_1, by_next, at_most}
use Rattle.orders.proofs.+orders_of.Goals as goal

pub returns-then-m-eq0 : goal.returns-then-m-eq0
returns-then-m-eq0 t c = let n = c.args.n in sym (ap (λ (m : ℕ). number_of_orders m n) c.if-m-eq0.true ∙ none_of_0 n)

pub returns-then-n-eq0 : goal.returns-then-n-eq0
returns-then-n-eq0 t c = let m = c.args.m in sym (ap (number_of_orders m) c.if-n-eq0.true ∙ none_of_1 m)

pub overflow_add-result : goal.overflow_add-result
overflow_add-result t c =
    let s = c.args in
    let a = at_most (s.m - 1) s.n (omega arith) (omega arith) in
    let b = at_most s.m (s.n - 1) (omega arith) (omega arith) in
    omega (arith, a, b, c.orders_of.ensures, c.orders_of-2.ensures)

pub returns : goal.returns
returns t c =
    let s = c.args in
    ap₂ ◌+◌ c.orders_of.ensures c.orders_of-2.ensures
    ∙ by_next s.m s.n c.if-m-eq0.false c.if-n-eq0.false
