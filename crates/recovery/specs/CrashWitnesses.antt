-- Runs that meet the premises of Crash, for both masters of a part of each kind: each way in which p gets the bus, with the tick at which it does and
-- without it one tick before, each way in which it never does, and each way in which m keeps it out. proofs/CrashWitnesses.antt computes them all.
-- Assumes nothing.
use Rattle.std.specs.Prelude.{leb, ◌≡◌, ◌+◌, ◌-◌, ◌&&◌, ◌∷◌, ◌++◌}
use Rattle.ranges.specs.Names.{ℕ, Bool, true, not, List, [], eqb, Master, Kind, Device, Raw}
use Rattle.arbiter.specs.Rules.{limit_of}
use Rattle.arbiter.specs.Words.{partner}
use Rattle.arbiter.specs.State.{owns, claims}
use Rattle.arbiter.specs.Steps.{run_from, run}
use Rattle.arbiter.specs.AuditWords.{requests, resting, reset, ticks_in, never, throughout}
use Rattle.arbiter.specs.Marks.{tick, times, lines, sets, general_call}
use Rattle.arbiter.specs.Witnesses.{number, sets_contr, writes_contr, all_met}
use Rattle.recovery.specs.Crash.{sent_by, endless, stalled_inside, pulls_low, crash_ticks, gets_bus, blocks_bus, idle_under}

-- ---- what m does last

-- a soft reset of m's, with the hold
abbrev pub held : Master → List Raw
held m = sets_contr m 0x10 ++ general_call (number m) 0x06 ∷ []

abbrev pub reserves : Master → ℕ → List Raw
reserves m n = sets (number m) 3 n

-- SDA falls outside, and rises
abbrev pub starts : List Raw
starts = lines 1 0 1 ∷ []

abbrev pub ends : List Raw
ends = lines 1 1 1 ∷ []

-- ---- nothing but ticks

-- p asks, and owns at once
abbrev pub at_once : Kind → Master → List Bool
at_once k m =
    let p : Master = partner m in
    let d : Device = run k (sets_contr p 0x01) in
    requests p d ∷ resting p d ∷ gets_bus m d ∷ owns p d ∷ []

-- p asks after these and waits; it gets the bus at this tick, which the figure is not below
abbrev pub reaches : Kind → Master → List Raw → ℕ → List Bool
reaches k m rs n =
    let p : Master = partner m in
    let d : Device = run k (rs ++ sets_contr p 0x01) in
    requests p d ∷ resting p d ∷ gets_bus m d ∷ leb n (crash_ticks k m d) ∷ throughout (λ (x : Device). not (owns p x)) d (times (n - 1) tick)
    ∷ owns p (run_from d (times n tick)) ∷ []

-- and this tick is the figure
abbrev pub exactly : Kind → Master → List Raw → ℕ → List Bool
exactly k m rs n = eqb (crash_ticks k m (run k (rs ++ sets_contr (partner m) 0x01))) n ∷ reaches k m rs n

-- p asks after these and waits, and the figure is within so many ticks, over which it does not own
abbrev pub waits : Kind → Master → List Raw → List Bool
waits k m rs =
    let p : Master = partner m in
    let d : Device = run k (rs ++ sets_contr p 0x81) in
    requests p d ∷ resting p d ∷ not (gets_bus m d) ∷ leb (crash_ticks k m d) 300 ∷ throughout (λ (x : Device). not (owns p x)) d (times 300 tick) ∷ []

-- ---- whatever p and the bus outside do

-- m keeps p out in this way, with these events after it
abbrev pub keeps_out : (Master → Device → Bool) → Kind → Master → List Raw → List Bool
keeps_out way k m rs =
    let d : Device = run k rs in
    let later : List Raw = sets_contr (partner m) 0x81 ++ starts ++ ends ++ times 300 tick in
    way m d ∷ blocks_bus m d ∷ never reset d later ∷ never (sent_by m) d later ∷ not (owns (partner m) (run_from d later)) ∷ []

-- m does not: here are events after which p owns
abbrev pub lets_in : Kind → Master → List Raw → ℕ → List Bool
lets_in k m rs ticks =
    let p : Master = partner m in
    let d : Device = run k rs in
    let later : List Raw = sets_contr p 0x01 ++ starts ++ ends ++ times ticks tick in
    not (blocks_bus m d) ∷ not (owns p d) ∷ never reset d later ∷ never (sent_by m) d later ∷ owns p (run_from d later) ∷ []

-- p asks after these; at the end of so many ticks it is at rest and does not own
abbrev pub stalls : (Master → Device → Bool) → Kind → Master → List Raw → List Bool
stalls why k m rs =
    let p : Master = partner m in
    let d : Device = run k (rs ++ sets_contr p 0x81) in
    let later : List Raw = times 300 tick in
    why m d ∷ never reset d later ∷ never (sent_by m) d later ∷ throughout (requests p) d later ∷ throughout (idle_under m) d later
    ∷ leb (crash_ticks k m d) (ticks_in d later) ∷ resting p (run_from d later) ∷ not (owns p (run_from d later)) ∷ []

-- ---- the tables

unfoldable pub crash_witnesses : Kind → Master → List Bool
crash_witnesses k m =
    -- p owns; p claims, under a hold
    at_once k m
    ++ reaches k m (held m) 35
    -- m owns on an idle bus, with RT 20, and with RT 00h and its timer on
    ++ exactly k m (reserves m 20 ++ sets_contr m 0x01) 20
    ++ exactly k m (sets_contr m 0x21) (limit_of k)
    -- the same of a claim at rest, under a hold
    ++ exactly k m (held m ++ reserves m 20 ++ sets_contr m 0x01) 55
    ++ exactly k m (held m ++ sets_contr m 0x21) (35 + limit_of k)
    -- never: m claims with its port open; owns or claims with nothing that ends its grant; owns or claims with the bus not quiet outside
    ++ waits k m (reserves m 20 ++ writes_contr m 0x01)
    ++ waits k m (sets_contr m 0x01)
    ++ waits k m (held m ++ sets_contr m 0x01)
    ++ waits k m (reserves m 20 ++ sets_contr m 0x01 ++ starts)
    ++ waits k m (held m ++ reserves m 20 ++ sets_contr m 0x01 ++ starts)

unfoldable pub kept_out_witnesses : Kind → Master → List Bool
kept_out_witnesses k m =
    -- inside a transfer; nothing that ends the grant, as a claimant and as the owner; SDA pulled low
    keeps_out (λ (j : Master) (d : Device). stalled_inside j d) k m (reserves m 20 ++ writes_contr m 0x01)
    ++ keeps_out (λ (j : Master) (d : Device). claims j d && endless j d) k m (held m ++ sets_contr m 0x01)
    ++ keeps_out (λ (j : Master) (d : Device). owns j d && endless j d) k m (sets_contr m 0x01)
    ++ keeps_out (λ (j : Master) (d : Device). pulls_low j d) k m (reserves m 20 ++ sets_contr m 0x01 ++ sets (number m) 2 0x40)
    -- a busy bus that ends its transfer; nobody's turn
    ++ lets_in k m (reserves m 20 ++ sets_contr m 0x01 ++ starts) 20
    ++ lets_in k m [] 0
    -- the two conclusions of StalledOnlyIf, each alone
    ++ stalls (λ (j : Master) (d : Device). endless j d) k m (sets_contr m 0x01)
    ++ stalls (λ (j : Master) (d : Device). stalled_inside j d) k m (reserves m 20 ++ writes_contr m 0x01)

abbrev pub CrashWitnessesMeet : Type 0
CrashWitnessesMeet = (k : Kind) (m : Master) → (all_met (crash_witnesses k m) ≡ true) × (all_met (kept_out_witnesses k m) ≡ true)
