-- `format::put_kind` meets its contract.
-- Assumes nothing.
use mathlib.Core.Path.{◌≡◌}
use mathlib.Core.List.{List}
use Prim.Native.Nat.{ℕ, ◌+◌, ◌≤◌, ◌<◌}
use native.Mathlib.Numerals.{add-one}
use native.Mathlib.Omega.{arith}
use lib.ListN.{length, set}
use lib.Seq.{sets-eq}
use borrow.Author.Tests.{le-ltb, lt-ltb}
use Rattle.arbiter.specs.Traces.{events_end, whole_bytes, kind_count, kind_number, kind_section}
use Rattle.arbiter.specs.declared.Kind.{Kind}
use Rattle.format.specs.Places.{with_kind}
use Rattle.format.proofs.put_kind.Goals as goal

module _ (l : List ℕ) (n whole : ℕ) (k : Kind) (size : whole ≡ whole_bytes n) where
  stored : (at b : ℕ) → at ≡ events_end n → b ≡ kind_number k → whole ≤ length l → set (set l at kind_count) (at + 1) b ≡ with_kind l n k
  unfolding with_kind
  stored at b place number room =
      simp (number, place, add-one, le-ltb (length l) (whole_bytes n) (omega arith)) (sets-eq (kind_section k) l (events_end n) (omega arith))

  no_room : length l < whole → l ≡ with_kind l n k
  unfolding with_kind
  no_room short = simp (lt-ltb (length l) (whole_bytes n) (omega arith))

pub returns-then-whole_bytes-out : goal.returns-then-whole_bytes-out
returns-then-whole_bytes-out c =
    stored _ _ _ _ c.whole_bytes.ensures _ _ c.events_end-at.ensures c.kind_number.ensures c.if-whole_bytes-out.true

pub returns-else-whole_bytes-out : goal.returns-else-whole_bytes-out
returns-else-whole_bytes-out c = no_room _ _ _ _ c.whole_bytes.ensures c.if-whole_bytes-out.false
