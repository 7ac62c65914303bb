-- The events of a run: a run gone on is a run, and what never comes or holds throughout is said of the first event and of the rest.
-- Assumes nothing.
use mathlib.Core.Path.{◌≡◌, refl}
use mathlib.Core.Bool.{and-eq-true_iff}
use native.Mathlib.Omega.{arith}
use Rattle.std.specs.Prelude.{◌+◌, ◌∷◌, ◌++◌}
use Rattle.arbiter.specs.Types.{Bool, true, false, not, List, [], Device, Raw}
use Rattle.arbiter.specs.Words.{worth}
use Rattle.arbiter.specs.Effects.{power_up}
use Rattle.arbiter.specs.Steps.{step, run_from, run}
use Rattle.arbiter.specs.AuditWords.{next, tick, ticks_in, never, throughout}
use Rattle.arbiter.specs.Audit.{RunsOn}
use Rattle.arbiter.proofs.Choice.{not_true}

-- From any device: the events xs and then ys are one list of events.
pub from_append : (xs ys : List Raw) (d : Device) → run_from d (xs ++ ys) ≡ run_from (run_from d xs) ys
unfolding run_from
from_append [] ys d = refl
from_append (x ∷ xs) ys d = from_append xs ys (step d x).device

pub runs_on : RunsOn
unfolding run run_from
runs_on k rs r later = from_append rs (r ∷ later) (power_up k)

-- ---- of the events of a run

-- What never comes does not come first, nor after that.
pub never_comes : (such : Raw → Device → Bool) (r : Raw) (rs : List Raw) (d : Device) → never such d (r ∷ rs) ≡ true
    → (such r d ≡ false) × (never such (next d r) rs ≡ true)
unfolding never
never_comes such r rs d h =
    let both = (and-eq-true_iff (not (such r d)) (never such (next d r) rs)).0 h in
    (not_true (such r d) both.0, both.1)

-- What holds throughout holds at once,
pub now : (holds : Device → Bool) (rs : List Raw) (d : Device) → throughout holds d rs ≡ true → holds d ≡ true
unfolding throughout
now holds [] d h = h
now holds (r ∷ rs) d h = ((and-eq-true_iff (holds d) (throughout holds (next d r) rs)).0 h).0

-- and after the first event.
pub hence : (holds : Device → Bool) (r : Raw) (rs : List Raw) (d : Device) → throughout holds d (r ∷ rs) ≡ true → throughout holds (next d r) rs ≡ true
unfolding throughout
hence holds r rs d h = ((and-eq-true_iff (holds d) (throughout holds (next d r) rs)).0 h).1

-- The ticks of some events and one more.
pub ticks_last : (rs : List Raw) (e : Raw) (d : Device) → ticks_in d (rs ++ e ∷ []) ≡ ticks_in d rs + worth 1 (tick e (run_from d rs))
unfolding ticks_in run_from
ticks_last [] e d = omega arith
ticks_last (r ∷ rs) e d =
    let n : Device = next d r in
    let more = ticks_last rs e n in
    omega arith
