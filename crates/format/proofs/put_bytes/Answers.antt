-- `format::put_bytes` meets its contract: the bytes are copied where there is room for them.
-- Assumes nothing.
use mathlib.Core.Path.{◌≡◌, ◌∙◌, ap}
use mathlib.Core.List.{List, ◌++◌}
use Prim.Native.Nat.{ℕ, ◌+◌, ◌-◌, ◌≤◌, ◌<◌}
use native.Mathlib.Omega.{arith}
use lib.ListN.{length, take, drop}
use lib.Seq.{paste, take-length}
use borrow.Author.Tests.{le-ltb, lt-ltb}
use Rattle.format.specs.Places.{with_bytes}
use Rattle.format.proofs.put_bytes.Goals as goal

module _ (buffer : List ℕ) (at : ℕ) (bytes : List ℕ) where
  copied : length bytes ≤ length buffer → at ≤ length buffer - length bytes → paste buffer at bytes (length bytes) ≡ with_bytes buffer at bytes
  unfolding with_bytes
  copied some fits =
      simp (le-ltb (length buffer) (at + length bytes) (omega arith))
      (ap (λ (l : List ℕ). take at buffer ++ l ++ drop (at + length bytes) buffer) (take-length bytes))

  no_room : length buffer < at + length bytes → buffer ≡ with_bytes buffer at bytes
  unfolding with_bytes
  no_room short = simp (lt-ltb (length buffer) (at + length bytes) short)

pub returns-then-at-out : goal.returns-then-at-out
returns-then-at-out c = c.copy_bytes.ensures ∙ copied _ _ _ (omega arith) (omega arith)

pub returns-else-at-out : goal.returns-else-at-out
returns-else-at-out c = no_room _ _ _ (omega arith)

pub returns-else-bytes-out : goal.returns-else-bytes-out
returns-else-bytes-out c = no_room _ _ _ (omega arith)
