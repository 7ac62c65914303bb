-- A worst wait, in one figure. proofs/WorstWait.antt proves it, and WaitWitnesses has runs that reach it.
-- Assumes nothing.
use Rattle.std.specs.Prelude.{◌≤◌, ◌≡◌, ◌+◌, ◌&&◌, ◌||◌, ◌∷◌, if◌then◌else◌}
use Rattle.ranges.specs.Names.{ℕ, Bool, true, not, List, [], ltb, Master, Kind, Device, Raw}
use Rattle.arbiter.specs.Words.{worth, partner}
use Rattle.arbiter.specs.State.{owns, claims, is_idle}
use Rattle.arbiter.specs.Steps.{run_from, run}
use Rattle.arbiter.specs.AuditWords.{next, requests, resting, reserve_of, reset, tick, ticks_in, never, throughout}

-- ---- what is asked of the other master, m

-- if it owns, its reserve is 1 to `most`
abbrev pub reserves_within : ℕ → Master → Device → Bool
reserves_within most m d = not (owns m d) || ltb 0 (reserve_of m d) && ltb (reserve_of m d) (most + 1)

-- if it owns, its reserve is 1 to 255
abbrev pub reserves_well : Master → Device → Bool
reserves_well m d = reserves_within 255 m d

-- it has the claim and has not sent its STOP
abbrev pub delays : Master → Device → Bool
delays m d = claims m d && not (resting m d)

-- the ticks for which it has delayed at a stretch, n up to d, and r counted if the stretch goes on over r
abbrev pub delayed : Master → ℕ → Raw → Device → ℕ
delayed m n r d = if delays m d && delays m (next d r) then n + worth 1 (tick r d) else 0

-- It sends its STOPs: it delays over one tick at most at a stretch, or over so many more as are allowed.
unfoldable pub stops_after : Master → ℕ → ℕ → Device → List Raw → Bool
stops_after m more n d [] = true
stops_after m more n d (r ∷ rs) = ltb (delayed m n r d) (more + 2) && stops_after m more (delayed m n r d) (next d r) rs

abbrev pub sends_stops : ℕ → Master → Device → List Raw → Bool
sends_stops more m d rs = stops_after m more 0 d rs

-- ---- the statement

-- From d on through `later` the request of m's partner stands, no reset comes, and m reserves no more than `most` and sends its STOPs. If then
-- the bus is idle and the partner's port at rest, the partner owns.
abbrev pub WaitIsOverWithin : ℕ → ℕ → Master → Device → List Raw → Type 0
WaitIsOverWithin most more m d later =
    let p : Master = partner m in
    let end : Device = run_from d later in
    throughout (requests p) d later ≡ true → never reset d later ≡ true → throughout (reserves_within most m) d later ≡ true
    → sends_stops more m d later ≡ true → is_idle end.bus ≡ true → resting p end ≡ true → owns p end ≡ true

-- It is so after 35 ticks for a hold that still runs, `most` for the reserve of a master that had the claim before, and as many more as
-- the claimant takes for its STOP, whatever the run was before. (The reserve of the waiting one itself does not matter.)
abbrev pub WorstWaitWithin : Type 0
WorstWaitWithin =
    (k : Kind) (m : Master) (rs : List Raw) (later : List Raw) (most more : ℕ) → 1 ≤ most → 35 + most + more ≤ ticks_in (run k rs) later
    → WaitIsOverWithin most more m (run k rs) later

-- Where no hold runs, after `most` and one in which the claimant sends its STOP, or so many more.
abbrev pub WorstWaitWithinUnheld : Type 0
WorstWaitWithinUnheld =
    (k : Kind) (m : Master) (rs : List Raw) (later : List Raw) (most more : ℕ) → 1 ≤ most → (run k rs).bus.hold ≡ 0
    → most + 1 + more ≤ ticks_in (run k rs) later → WaitIsOverWithin most more m (run k rs) later

-- ---- at the longest reserve there is, 255

abbrev pub WaitIsOver : ℕ → Master → Device → List Raw → Type 0
WaitIsOver more m d later = WaitIsOverWithin 255 more m d later

-- After 290 ticks: 35 and 255.
abbrev pub WorstWait : Type 0
WorstWait = (k : Kind) (m : Master) (rs : List Raw) (later : List Raw) → 290 ≤ ticks_in (run k rs) later → WaitIsOver 0 m (run k rs) later

-- Where no hold runs, after 256.
abbrev pub WorstWaitUnheld : Type 0
WorstWaitUnheld =
    (k : Kind) (m : Master) (rs : List Raw) (later : List Raw) → (run k rs).bus.hold ≡ 0 → 256 ≤ ticks_in (run k rs) later
    → WaitIsOver 0 m (run k rs) later

-- And a claimant that takes so many ticks more for its STOP makes it so many ticks longer.
abbrev pub WorstWaitLate : Type 0
WorstWaitLate =
    (k : Kind) (m : Master) (rs : List Raw) (later : List Raw) (more : ℕ) → 290 + more ≤ ticks_in (run k rs) later → WaitIsOver more m (run k rs) later
