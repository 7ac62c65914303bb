-- `format::events_in` meets its contract.
-- Assumes nothing.
use mathlib.Core.Path.{◌≡◌, ap, ◌∙◌}
use mathlib.Core.List.{List}
use Prim.Native.Nat.{ℕ, ◌*◌, ◌-◌, ◌≤◌}
use native.Mathlib.Omega.{arith}
use lib.ListN.{length, take, drop}
use borrow.Author.Tests.{le-ltb, lt-ltb}
use Rattle.arbiter.specs.Traces.{head_bytes, event_bytes, events_end, count_in}
use Rattle.format.specs.Places.{events_part}
use Rattle.format.proofs.events_in.Goals as goal

part : (t : List ℕ) (end : ℕ) → end ≡ events_end (count_in t) → end ≤ length t → take (end - head_bytes) (drop head_bytes t) ≡ events_part t
unfolding events_part
part t end e h =
    let size : end - head_bytes ≡ event_bytes * count_in t = omega arith in
    simp (size, le-ltb (length t) (events_end (count_in t)) (omega arith))

pub returns-then-t-end : goal.returns-then-t-end
unfolding events_part
returns-then-t-end c = simp (lt-ltb _ _ c.if-t-end.true, ← c.events_end-end.ensures, ← c.count_in.ensures)

pub returns : goal.returns
returns c =
    let end = c.events_end-end.ensures ∙ ap events_end c.count_in.ensures in
    part _ _ end c.if-t-end.false
