-- The longest wait that the bus share report of #112 counts, held against the worst wait that is proved of the run.
-- proofs/Longest.antt proves it.
-- Assumes nothing.
use Rattle.std.specs.Prelude.{ℕ, ◌+◌, ◌≤◌, ◌<◌, ◌≡◌, Bool, true, false, not, ◌&&◌, ◌||◌, List, [], ◌∷◌, eqb, if◌then◌else◌}
use Rattle.arbiter.specs.Words.{partner, of}
use Rattle.arbiter.specs.State.{is_idle}
use Rattle.arbiter.specs.Effects.{power_up}
use Rattle.arbiter.specs.AuditWords.{next, requests, resting, reset, tick, never, throughout}
use Rattle.arbiter.specs.Traces.{events_in, accepted_with}
use Rattle.arbiter.specs.declared.Master.{Master}
use Rattle.arbiter.specs.declared.Kind.{Kind}
use Rattle.arbiter.specs.declared.Device.{Device}
use Rattle.arbiter.specs.declared.Raw.{Raw}
use Rattle.audit.specs.WorstWait.{reserves_within, sends_stops}
use Rattle.share.specs.declared.Totals.{Totals}
use Rattle.share.specs.States.{tick_states, waits, longest}
use Rattle.share.specs.Share.{read_alone, totals_of}

-- ---- what is asked of the one that waits, p

-- From a TICK after which p waits to the next its request stands: it neither withdraws nor is reset. (The report looks at the states after TICKs
-- alone, and would take two waits with nothing but that between them for one.) `waited` says whether p waited after the last TICK.
unfoldable pub keeps_asking : Master → Bool → Device → List Raw → Bool
keeps_asking p waited d [] = true
keeps_asking p waited d (r ∷ rs) =
    (not waited || requests p d) && keeps_asking p (if tick r d then waits p (next d r) else waited) (next d r) rs

-- p waits with no hold running, and the bus is not idle or its own port not at rest: in such a state nobody promises it its turn. (While a hold
-- runs the bus is not idle either. Its ticks stand in the figure, and are not counted a second time here.)
abbrev pub waits_unready : Master → Device → Bool
waits_unready p d = waits p d && eqb d.bus.hold 0 && not (is_idle d.bus && resting p d)

-- ---- the statements

-- m, the other, reserves 1 to `most` whenever it owns and sends its STOPs within a tick and `more`; p keeps asking; and p is at most `busy` TICKs in
-- a row waiting with no hold running and the bus not idle or its port not at rest.
pub record Meets (k : Kind) (rs : List Raw) (m : Master) (most more busy : ℕ) : Type 0 where
  pub some : 1 ≤ most
  pub reserves : throughout (reserves_within most m) (power_up k) rs ≡ true
  pub stops : sends_stops more m (power_up k) rs ≡ true
  pub asks : keeps_asking (partner m) false (power_up k) rs ≡ true
  pub ready : longest (waits_unready (partner m)) (tick_states k rs) ≤ busy

-- Then the longest wait of p that is counted is within the worst wait and so many more.
abbrev pub LongestWaitBounded : Type 0
LongestWaitBounded =
    (k : Kind) (rs : List Raw) (m : Master) (most more busy : ℕ) → Meets k rs m most more busy
    → longest (waits (partner m)) (tick_states k rs) ≤ 35 + most + more + busy

-- Without a reset no hold runs.
abbrev pub LongestWaitUnheld : Type 0
LongestWaitUnheld =
    (k : Kind) (rs : List Raw) (m : Master) (most more busy : ℕ) → Meets k rs m most more busy → never reset (power_up k) rs ≡ true
    → longest (waits (partner m)) (tick_states k rs) ≤ most + 1 + more + busy

-- The TICK by which a wait ends is none of those that are waited: the figure itself is not reached. One less is, as the runs of Witnesses show.
abbrev pub LongestWaitBelow : Type 0
LongestWaitBelow =
    (k : Kind) (rs : List Raw) (m : Master) (most more busy : ℕ) → Meets k rs m most more busy
    → (longest (waits (partner m)) (tick_states k rs) < 35 + most + more + busy)
    × (never reset (power_up k) rs ≡ true → longest (waits (partner m)) (tick_states k rs) < most + 1 + more + busy)

-- ---- for a trace's own bytes and its totals

-- the longest wait of p among totals
abbrev pub longest_of : Master → Totals → ℕ
longest_of p x = of p x.longest0 x.longest1

abbrev pub TraceWaitBounded : Type 0
TraceWaitBounded =
    (t : List ℕ) (address n : ℕ) (k : Kind) (m : Master) (most more busy : ℕ) → read_alone t ≡ accepted_with address n k
    → Meets k (events_in n t) m most more busy → longest_of (partner m) (totals_of (read_alone t) t) ≤ 35 + most + more + busy
