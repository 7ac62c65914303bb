-- The first event of a script that has one.
-- Assumes nothing.
use mathlib.Core.Path.{◌≡◌}
use mathlib.Core.List.{List}
use Prim.Native.Nat.{ℕ, ◌≤◌}
use native.Mathlib.Omega.{arith}
use lib.ListN.{length}
use borrow.Author.Tests.{lt-ltb}
use Rattle.arbiter.specs.Traces.{event_bytes, raw_in, event_count}
use Rattle.format.specs.Places.{event_at}

pub at_first : (s : List ℕ) → event_bytes ≤ length s → event_at 0 s ≡ raw_in s
unfolding event_at
at_first s more = simp (lt-ltb 0 (event_count s) (omega (arith, more)))
