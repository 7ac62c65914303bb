-- A controller that crashes: m sends nothing more. When does its partner p get the bus all the same, and by when? proofs/ has Exact.antt, Free.antt
-- and Passes.antt.
-- Assumes nothing.
use Rattle.std.specs.Prelude.{◌≤◌, ◌≡◌, ◌+◌, ◌&&◌, ◌||◌, if◌then◌else◌}
use Rattle.ranges.specs.Names.{ℕ, Bool, true, false, not, List, eqb, Master, Kind, Bus, Device, Raw, Event, Command, Write, Read, Stop, Pair, Lines, Tick, Pulse, Reset, GeneralCall}
use Rattle.arbiter.specs.Rules.{limit_of}
use Rattle.arbiter.specs.Words.{partner, same_master}
use Rattle.arbiter.specs.State.{owns, claims, is_idle}
use Rattle.arbiter.specs.Steps.{run_from, run}
use Rattle.arbiter.specs.AuditWords.{requests, resting, reserve_of, idle_timer_on, accepted, reset, ticks_in, never, throughout}
use Rattle.arbiter.specs.Marks.{tick, times}

-- ---- words

-- an event of m's: one on its port, a PAIR, or its GENERAL CALL
abbrev pub is_of : Master → Event → Bool
is_of m (Command k c) = same_master m k
is_of m (Write k v) = same_master m k
is_of m (Read k) = same_master m k
is_of m (Stop k) = same_master m k
is_of m (Pair v0 v1) = true
is_of m (Lines scl sda intin) = false
is_of m Tick = false
is_of m (Pulse sda) = false
is_of m Reset = false
is_of m (GeneralCall k b) = same_master m k

abbrev pub sent_by : Master → Raw → Device → Bool
sent_by m r d = accepted (λ (e : Event) (x : Device). is_of m e) r d

-- m has nothing that ends a grant of its own: RT 00h, and its idle timer off
abbrev pub endless : Master → Device → Bool
endless m d = eqb (reserve_of m d) 0 && not (idle_timer_on m d)

-- m claims with its port open: it stalled inside a transfer to the arbiter
abbrev pub stalled_inside : Master → Device → Bool
stalled_inside m d = claims m d && not (resting m d)

-- m owns and pulls a line low through its STATUS
abbrev pub pulls_low : Master → Device → Bool
pulls_low m d = owns m d && not (d.bus.drivescl && d.bus.drivesda)

-- Once m has sent its last, its own grant lasts so long at the most, after a hold that still runs: its reserve, or the idle limit where that is 0.
abbrev pub crash_ticks : Kind → Master → Device → ℕ
crash_ticks k m d = d.bus.hold + (if eqb (reserve_of m d) 0 then limit_of k else reserve_of m d)

-- ---- nothing but ticks

-- the outside lines are high and the bus is not busy, so it is idle once no hold runs
abbrev pub quiet_outside : Bus → Bool
quiet_outside b = b.outscl && b.outsda && not b.busy

-- p owns or claims already; or m owns on an idle bus, or claims at rest (so under a hold) with the bus quiet outside, and has something that ends
-- its grant.
abbrev pub gets_bus : Master → Device → Bool
gets_bus m d =
    let p : Master = partner m in
    owns p d || claims p d || owns m d && is_idle d.bus && not (endless m d)
    || claims m d && resting m d && quiet_outside d.bus && not (endless m d)

-- p asks, and its port is at rest. If only ticks come, p gets the bus exactly then, and by that tick: over as many or more, p is without it
-- throughout exactly if not.
abbrev pub CrashExact : Type 0
CrashExact =
    (k : Kind) (m : Master) (rs : List Raw) (n : ℕ) → let d : Device = run k rs in
    let p : Master = partner m in
    requests p d ≡ true → resting p d ≡ true → crash_ticks k m d ≤ n → throughout (λ (x : Device). not (owns p x)) d (times n tick) ≡ not (gets_bus m d)

-- ---- whatever p and the bus outside do, short of a reset

-- m keeps p out for ever: it stalled inside a transfer to the arbiter, or has the turn with nothing that ends its grant, or pulls a line low
abbrev pub blocks_bus : Master → Device → Bool
blocks_bus m d = stalled_inside m d || (claims m d || owns m d) && endless m d || pulls_low m d

-- some events without a reset and without one of m's, after which p owns
pub record LetsIn (d : Device) (m : Master) : Type 0 where
  pub later : List Raw
  pub unreset : never reset d later ≡ true
  pub silent : never (sent_by m) d later ≡ true
  pub granted : owns (partner m) (run_from d later) ≡ true

-- Where m keeps p out, p owns after no such events; where not, there are some after which it does.
abbrev pub CrashFree : Type 0
CrashFree =
    (k : Kind) (m : Master) (rs : List Raw) → let d : Device = run k rs in
    (blocks_bus m d ≡ true → (later : List Raw) → never reset d later ≡ true → never (sent_by m) d later ≡ true → owns (partner m) (run_from d later) ≡ false)
    × (blocks_bus m d ≡ false → LetsIn d m)

-- ---- in the incident's words

-- the bus is idle as long as m owns
abbrev pub idle_under : Master → Device → Bool
idle_under m d = not (owns m d) || is_idle d.bus

-- m sends nothing more, no reset comes, p asks throughout, the bus is idle as long as m owns, and as many ticks come as above. If p, at rest, does not
-- own then, m has RT 00h with its timer off, or stalled inside a transfer to the arbiter.
abbrev pub StalledOnlyIf : Type 0
StalledOnlyIf =
    (k : Kind) (m : Master) (rs later : List Raw) → let d : Device = run k rs in
    let p : Master = partner m in
    let end : Device = run_from d later in
    never reset d later ≡ true → never (sent_by m) d later ≡ true → throughout (requests p) d later ≡ true → throughout (idle_under m) d later ≡ true
    → crash_ticks k m d ≤ ticks_in d later → resting p end ≡ true → owns p end ≡ false → endless m d || stalled_inside m d ≡ true
