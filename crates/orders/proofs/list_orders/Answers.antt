-- `orders::list_orders` meets its contract: refused and nothing written, or listed to the limit.
-- Assumes nothing.
use Prim.Native.Nat.{ℕ, ◌<◌}
use mathlib.Core.Path.{ap, subst, ◌∙◌}
use lib.ListN.{length}
use Rattle.orders.specs.Call.{smaller}
use Rattle.orders.proofs.Calls.{min_smaller, odd_bytes, long-script, no_room, all_listed}
use Rattle.orders.proofs.Pouring.{poured_before}
use Rattle.orders.proofs.list_orders.Goals as goal

pub returns-then-m-n : goal.returns-then-m-n
returns-then-m-n c =
    let s = c.args in
    long-script s.script0.now s.script1.now s.limit s.out.now c.if-script0-script1.true c.if-m-n.true

pub returns-then-out-count : goal.returns-then-out-count
returns-then-out-count c =
    let s = c.args in
    let count = c.min-count.ensures ∙ min_smaller s.limit c.orders_of.result ∙ ap (smaller s.limit) c.orders_of.ensures in
    no_room s.script0.now s.script1.now s.limit s.out.now c.if-script0-script1.true c.if-m-n.false
    (subst (λ (n : ℕ). length s.out.now < n) count c.if-out-count.true)

pub returns-else-out-count : goal.returns-else-out-count
returns-else-out-count c =
    let s = c.args in
    let count = c.min-count.ensures ∙ min_smaller s.limit c.orders_of.result ∙ ap (smaller s.limit) c.orders_of.ensures in
    let poured = poured_before c.min-count.result _ s.out.now _ _ c.if-out-count.false c.list_from.ensures.listed in
    all_listed s.script0.now s.script1.now s.limit s.out.now c.if-script0-script1.true c.if-m-n.false
    _ _ _ _ count c.if-out-count.false c.start.ensures poured

pub returns-else-script0-script1 : goal.returns-else-script0-script1
returns-else-script0-script1 c =
    let s = c.args in
    odd_bytes s.script0.now s.script1.now s.limit s.out.now c.if-script0-script1.false
