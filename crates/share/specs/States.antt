-- Request #112, "Bus share report": "Each total is defined from the list of states after each TICK". That list, and what is counted in it.
-- Assumes nothing.
use Rattle.std.specs.Prelude.{ℕ, ◌+◌, Bool, true, false, not, ◌&&◌, List, [], ◌∷◌, if◌then◌else◌}
use Rattle.arbiter.specs.Words.{worth}
use Rattle.arbiter.specs.State.{owns}
use Rattle.arbiter.specs.Effects.{power_up}
use Rattle.arbiter.specs.AuditWords.{next, requests, tick}
use Rattle.arbiter.specs.declared.Master.{Master}
use Rattle.arbiter.specs.declared.Master.TheVariants.{Zero, One}
use Rattle.arbiter.specs.declared.Kind.{Kind}
use Rattle.arbiter.specs.declared.Device.{Device}
use Rattle.arbiter.specs.declared.Raw.{Raw}
use Rattle.share.specs.Numbers.{larger}

-- ---- the list of states

-- a state put before others if it belongs to the list
abbrev pub listed_if : Bool → Device → List Device → List Device
listed_if true d ds = d ∷ ds
listed_if false d ds = ds

-- the state after each accepted TICK of the events rs from d on
unfoldable pub states_from : Device → List Raw → List Device
states_from d [] = []
states_from d (r ∷ rs) = listed_if (tick r d) (next d r) (states_from (next d r) rs)

-- the same of a run from power-up
abbrev pub tick_states : Kind → List Raw → List Device
tick_states k rs = states_from (power_up k) rs

-- ---- what is said of a state, beside `owns` and `connected` of arbiter/specs/State

-- "waited (request standing, no grant)"
abbrev pub waits : Master → Device → Bool
waits m d = requests m d && not (owns m d)

-- "owned by none"
abbrev pub unowned : Device → Bool
unowned d = not (owns Zero d) && not (owns One d)

-- ---- counted in a list of states

-- how many are such
unfoldable pub count : (Device → Bool) → List Device → ℕ
count such [] = 0
count such (d ∷ ds) = worth 1 (such d) + count such ds

-- how many are such from the first on, without a gap
unfoldable pub front : (Device → Bool) → List Device → ℕ
front such [] = 0
front such (d ∷ ds) = if such d then 1 + front such ds else 0

-- the longest run of neighbours that are such: of those from each state on, the longest
unfoldable pub longest : (Device → Bool) → List Device → ℕ
longest such [] = 0
longest such (d ∷ ds) = larger (front such (d ∷ ds)) (longest such ds)
