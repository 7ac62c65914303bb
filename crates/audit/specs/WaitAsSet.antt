-- The worst wait from what a master's RT was set to: over events that store nothing else in it, its reserve stays within that, and so does the
-- wait of its partner. proofs/WaitAsSet.antt proves it.
-- Assumes nothing.
use Rattle.std.specs.Prelude.{◌≤◌, ◌≡◌, ◌+◌, ◌&&◌, ◌++◌}
use Rattle.ranges.specs.Names.{ℕ, Bool, true, not, List, ltb, Master, Zero, One, Kind, Device, Raw, Event}
use Rattle.arbiter.specs.Words.{partner}
use Rattle.arbiter.specs.State.{owns, is_idle}
use Rattle.arbiter.specs.Steps.{run_from, run}
use Rattle.arbiter.specs.AuditWords.{requests, resting, reserve_of, accepted, reset, ticks_in, never, throughout}
use Rattle.audit.specs.WorstWait.{reserves_within, sends_stops}
use Rattle.audit.specs.SettingsKept.{byte_by, stores, stores_rt}

-- a reserve of 1 to `most`
abbrev pub is_within : ℕ → ℕ → Bool
is_within most n = ltb 0 n && ltb n (most + 1)

-- m stores another in its RT
abbrev pub stores_beyond : ℕ → Master → Raw → Device → Bool
stores_beyond most m r d = accepted (λ (e : Event) (x : Device). stores m e x && not (is_within most (byte_by m e))) r d

-- ---- the reserve, from any device

-- From a device in which m's RT is 1 to `most`, over events of which none is a reset and none stores another in it, m reserves so throughout.
abbrev pub ReservesKept : Type 0
ReservesKept =
    (m : Master) (d : Device) (rs : List Raw) (most : ℕ) → is_within most (reserve_of m d) ≡ true → never reset d rs ≡ true
    → never (stores_beyond most m) d rs ≡ true → throughout (reserves_within most m) d rs ≡ true

-- If none stores anything in it, within the RT that it has.
abbrev pub ReservesAsSet : Type 0
ReservesAsSet =
    (m : Master) (d : Device) (rs : List Raw) → 1 ≤ reserve_of m d → never reset d rs ≡ true → never (stores_rt m) d rs ≡ true
    → throughout (reserves_within (reserve_of m d) m) d rs ≡ true

-- ---- the wait

-- From d on through `later` the request of m's partner stands and m sends its STOPs. If then the bus is idle and the partner's port at rest, the
-- partner owns.
abbrev pub Served : ℕ → Master → Device → List Raw → Type 0
Served more m d later =
    let p : Master = partner m in
    let end : Device = run_from d later in
    throughout (requests p) d later ≡ true → sends_stops more m d later ≡ true → is_idle end.bus ≡ true → resting p end ≡ true → owns p end ≡ true

-- The settings are made by `rs`, after which no hold runs and m's RT is 1 to `most`. Then anything comes but a reset or another reserve of m's.
-- A wait of its partner that begins there, at any time, is over after `most` ticks and one, or so many more as m takes for its STOP.
abbrev pub WaitAsSet : Type 0
WaitAsSet =
    (k : Kind) (m : Master) (rs before later : List Raw) (most more : ℕ) → let start : Device = run k rs in
    let d : Device = run_from start before in
    is_within most (reserve_of m start) ≡ true → start.bus.hold ≡ 0 → never reset start (before ++ later) ≡ true
    → never (stores_beyond most m) start (before ++ later) ≡ true → most + 1 + more ≤ ticks_in d later → Served more m d later

-- ---- both masters

-- With R0 and R1 in the two RTs, none of them 0, and no reset and no byte stored in an RT, both reserve so throughout.
abbrev pub BothReserve : Type 0
BothReserve =
    (d : Device) (rs : List Raw) → 1 ≤ d.side0.rt → 1 ≤ d.side1.rt → never reset d rs ≡ true
    → never (stores_rt Zero) d rs ≡ true → never (stores_rt One) d rs ≡ true
    → (throughout (reserves_within d.side0.rt Zero) d rs ≡ true) × (throughout (reserves_within d.side1.rt One) d rs ≡ true)
