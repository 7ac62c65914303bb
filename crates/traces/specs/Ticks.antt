-- Request #114: the TICKs that the loop over events takes together.
-- Assumes nothing.
use Rattle.std.specs.Prelude.{ℕ, zero, suc, ◌+◌, ◌≤◌, ◌<◌, ◌≡◌, Bool, true, ◌&&◌, List, eqb}
use Rattle.arbiter.specs.declared.Raw.{Raw}
use Rattle.arbiter.specs.declared.Answer.{Answer}
use Rattle.format.specs.Places.{event_at, with_answer}

-- the four bytes of a TICK: 6 and unused fields that are 0
abbrev pub is_tick_raw : Raw → Bool
is_tick_raw r = eqb r.kind 6 && eqb r.x 0 && eqb r.y 0 && eqb r.z 0

-- each event from one place to before another is a TICK
abbrev pub AllTicks : ℕ → ℕ → List ℕ → Type 0
AllTicks from to events = (k : ℕ) → from ≤ k → k < to → is_tick_raw (event_at k events) ≡ true

-- a buffer with the same answer at the places of k events from event i on
unfoldable pub with_same : List ℕ → ℕ → ℕ → Answer → List ℕ
with_same answers i zero a = answers
with_same answers i (suc k) a = with_answer (with_same answers i k a) (i + k) a
