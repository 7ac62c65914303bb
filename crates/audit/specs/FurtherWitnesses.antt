-- Runs and traces that meet the premises of further statements of the arbiter: the ground of a claim (Grounds), a clock that runs (Hung), and
-- traces from before the kind of part (OldTraces). proofs/FurtherWitnesses.antt proves them.
-- Assumes nothing.
use Rattle.std.specs.Prelude.{◌≡◌, leb, ◌*◌, ◌∷◌, ◌++◌}
use Rattle.ranges.specs.Names.{ℕ, Bool, true, false, not, List, [], eqb, Master, Kind, Device, Raw}
use Rattle.std.specs.Prelude.{Option, Some, None}
use Rattle.arbiter.specs.Words.{partner, of}
use Rattle.arbiter.specs.Straps.{address_of}
use Rattle.arbiter.specs.Steps.{run_from, run}
use Rattle.arbiter.specs.AuditWords.{next, throughout}
use Rattle.arbiter.specs.Grounds.{ground_shown, has_claim, claim_made, chosen_by}
use Rattle.arbiter.specs.Hung.{ClockRuns}
use Rattle.arbiter.specs.HungRows.{slow_clock}
use Rattle.arbiter.specs.Traces.{event_bytes, pins_in, count_in}
use Rattle.arbiter.specs.OldTraces.{old_number}
use Rattle.arbiter.specs.Marks.{command, write, pair, lines, tick, both_at_contr, old_m1, times}
use Rattle.arbiter.specs.Witnesses.{number, sets_contr, stop_on, both_masters, all_met}

-- ---- the premises of each statement, in its order, as tests

-- and the choice is by this ground
abbrev pub ground_of_choice : ℕ → Kind → Master → List Raw → Raw → List Bool
ground_of_choice g k m rs r = eqb (chosen_by m (next (run k rs) r)) g ∷ claim_made m r (run k rs) ∷ []

abbrev pub ground_stays : Kind → Master → List Raw → Raw → List Raw → Raw → List Bool
ground_stays k m rs r later t =
    let d : Device = next (run k rs) r in
    throughout (has_claim m) d later ∷ has_claim m (next (run_from d later) t) ∷ []

abbrev pub contest_is_pair : Kind → Master → List Raw → Raw → List Bool
contest_is_pair k m rs r = claim_made m r (run k rs) ∷ not (eqb (ground_shown r (run k rs)) 1) ∷ []

abbrev pub is_address : ℕ → Option ℕ → Bool
is_address a (Some b) = eqb a b
is_address a None = false

abbrev pub converted_accepted : List ℕ → ℕ → ℕ → List Bool
converted_accepted t room a = eqb (old_number t) 0 ∷ is_address a (address_of (pins_in t)) ∷ leb (event_bytes * count_in t) room ∷ []

abbrev pub old_refused : List ℕ → List Bool
old_refused t = eqb (old_number t) 0 ∷ []

-- ---- events

-- both ask in one PAIR: m wins by its priority; or, with equal ones and nobody granted before, as the table has it
abbrev pub by_priority : Master → Raw
by_priority m = pair (of m 0x81 0x01) (of m 0x01 0x81)

abbrev pub by_last : Master → Raw
by_last m = pair (of m 0x01 0x81) (of m 0x01 0x81)

-- ---- the rows

unfoldable pub ground_rows : Kind → List Bool
ground_rows k =
    -- m asks alone; both ask in a PAIR
    both_masters (λ m. ground_of_choice 1 k m (command (number m) 1 ∷ []) (write (number m) 0x01))
    ++ both_masters (λ m. ground_of_choice 2 k m both_at_contr (by_priority m))
    ++ both_masters (λ m. ground_of_choice 3 k m both_at_contr (by_last m))
    -- m claims for ten ticks while its partner asks with priority, and stops; m owns, drops its priority and connects, and its partner takes it
    ++ both_masters
    (λ m. ground_stays k m (command (number m) 1 ∷ []) (write (number m) 0x01) (sets_contr (partner m) 0x81 ++ times 10 tick) (stop_on m))
    ++ both_masters
    (λ m. ground_stays k m both_at_contr (by_priority m)
    (stop_on m ∷ stop_on (partner m) ∷ sets_contr m 0x05 ++ sets_contr (partner m) 0x81 ++ times 20 tick) tick)
    ++ both_masters (λ m. contest_is_pair k m both_at_contr (by_priority m))
    ++ both_masters (λ m. contest_is_pair k m both_at_contr (by_last m))

-- M1's trace as it was before, with its four events; and the shortest, without an event
abbrev pub no_events : List ℕ
no_events = 0x04 ∷ 0 ∷ 0 ∷ 0 ∷ 1 ∷ 0 ∷ 0 ∷ []

unfoldable pub old_rows : List Bool
old_rows = converted_accepted old_m1 16 0x70 ++ converted_accepted no_events 0 0x71 ++ old_refused old_m1 ++ old_refused no_events

-- ---- the statements: every premise of every row is met

abbrev pub FurtherWitnessesMeet : Type 0
FurtherWitnessesMeet = ((k : Kind) → all_met (ground_rows k) ≡ true) × (all_met old_rows ≡ true)

-- and the fan monitor's clock runs, which is the premise of ClockNotHung: SDA low over 2,994 ticks, SCL changing after each 499
abbrev pub SlowClockRuns : Type 0
SlowClockRuns = (k : Kind) → ClockRuns k (lines 1 0 1 ∷ slow_clock ++ slow_clock ++ slow_clock)
