-- `orders::list_from` meets its contract. Each call of itself has one event less in both scripts together.
-- Assumes nothing.
use Prim.Native.Nat.{ℕ, ◌≤◌}
use mathlib.Core.Path.{◌≡◌, refl, ap, ◌∙◌}
use native.Mathlib.Omega.{arith}
use lib.ListN.{length}
use Rattle.orders.specs.Call.{script_in}
use Rattle.orders.specs.Walk.{bytes_from, pour}
use Rattle.orders.proofs.Pouring.{rest, pour_full, poured_on, by-0, by_1, by_both, by_none}
use Rattle.orders.proofs.+list_from.Goals as goal

pub returns-then-out-eq0-clause-listed : goal.returns-then-out-eq0-clause-listed
returns-then-out-eq0-clause-listed t c = pour_full _ _ _ (omega arith)

pub returns-then-script1-ge-EVENT_BYTES-clause-listed : goal.returns-then-script1-ge-EVENT_BYTES-clause-listed
returns-then-script1-ge-EVENT_BYTES-clause-listed t c =
    let s = c.args in
    let first = c.list_from-next.new.out in
    let next = c.list_from-next.result in
    let l = length s.out.now in
    let same : length first ≡ l = c.list_from-next.auto.out in
    let within : next ≤ l = c.list_from-next.ensures.within in
    let second =
    poured_on (length first) next _ first _ _ refl (omega (arith, same, within)) c.list_from.ensures.listed
    ∙ ap (λ (k : ℕ). pour k (first, next) (bytes_from c.reach-by1.result (script_in s.script0.now) (script_in (rest s.script1.now)))) same
    in
    by_both s.c s.script0.now s.script1.now l (s.out.now, 0)
    c.if-script0-ge-EVENT_BYTES.true _ c.reach-by0.ensures _ _ _
    c.if-script1-ge-EVENT_BYTES.true c.reach-by1.ensures
    c.list_from-next.ensures.listed second

pub returns-then-script0-ge-EVENT_BYTES-clause-listed : goal.returns-then-script0-ge-EVENT_BYTES-clause-listed
returns-then-script0-ge-EVENT_BYTES-clause-listed t c =
    let s = c.args in
    by-0 s.c s.script0.now s.script1.now (length s.out.now) (s.out.now, 0)
    c.if-script0-ge-EVENT_BYTES.true _ c.reach-by0.ensures _ c.if-script1-ge-EVENT_BYTES.false c.list_from-next.ensures.listed

pub returns-then-script1-lt-EVENT_BYTES-clause-listed : goal.returns-then-script1-lt-EVENT_BYTES-clause-listed
returns-then-script1-lt-EVENT_BYTES-clause-listed t c =
    let s = c.args in
    by_none s.c s.script0.now s.script1.now (length s.out.now) (s.out.now, 0) c.if-script0-ge-EVENT_BYTES.false c.if-script1-lt-EVENT_BYTES.true (omega arith)

pub returns-clause-listed : goal.returns-clause-listed
returns-clause-listed t c =
    let s = c.args in
    by_1 s.c s.script0.now s.script1.now (length s.out.now) (s.out.now, 0) _ _
    c.if-script0-ge-EVENT_BYTES.false c.if-script1-lt-EVENT_BYTES.false c.reach-by1-2.ensures c.list_from-2.ensures.listed
