-- How long can one controller keep the bus from the other? Statements over every run of either kind of part.
-- proofs/Blocking.antt, proofs/IdleAnywhere.antt and proofs/Overtaking.antt prove them.
-- Assumes nothing.
use Rattle.std.specs.Prelude.{◌≤◌, ◌≡◌, ◌+◌, ◌&&◌, ◌||◌, ◌∷◌}
use Rattle.ranges.specs.Names.{ℕ, Bool, true, false, not, List, [], Master, Kind, Device, Raw}
use Rattle.arbiter.specs.Rules.{limit_of}
use Rattle.arbiter.specs.Words.{worth, partner}
use Rattle.arbiter.specs.State.{owns, claims, is_idle}
use Rattle.arbiter.specs.Steps.{run_from, run}
use Rattle.arbiter.specs.AuditWords.{next, requests, resting, reserve_of, idle_timer_on, reset, withdrawal_of, stop_of, grant_taken, ticks_in, never, throughout}
use Rattle.arbiter.specs.Audit.{IsNext}

-- ---- words

-- how many of the events rs from d on are such ones, each in the state that it meets
unfoldable pub times_in : (Raw → Device → Bool) → Device → List Raw → ℕ
times_in such d [] = 0
times_in such d (r ∷ rs) = worth 1 (such r d) + times_in such (next d r) rs

-- as long as m owns, its idle timer is on and the bus is idle
abbrev pub idles_as_owner : Master → Device → Bool
idles_as_owner m d = not (owns m d) || idle_timer_on m d && is_idle d.bus

-- ---- Can a claimant that never sends its STOP be got round?

-- No. m claims with its port open. As long as no STOP of m's comes, no withdrawal of m's and no reset, it stays the claimant and nobody owns,
-- however many ticks pass, whatever either RT is, and whatever the partner does short of a reset.
abbrev pub ClaimantBlocks : Type 0
ClaimantBlocks =
    (k : Kind) (m : Master) (rs : List Raw) (later : List Raw) → let d : Device = run k rs in
    claims m d ≡ true → resting m d ≡ false → never reset d later ≡ true → never (withdrawal_of m) d later ≡ true → never (stop_of m) d later ≡ true
    → (claims m (run_from d later) ≡ true) × ((p : Master) → owns p (run_from d later) ≡ false)

-- Its withdrawal lets the partner in: r is that withdrawal, no hold runs, and the partner's request stands after r. Then the partner is next.
abbrev pub ClaimantYields : Type 0
ClaimantYields =
    (k : Kind) (m : Master) (rs : List Raw) (r : Raw) → let d : Device = run k rs in
    claims m d ≡ true → d.bus.hold ≡ 0 → withdrawal_of m r d ≡ true → requests (partner m) (next d r) ≡ true → IsNext (partner m) (next d r)

-- ---- Can a holder whose bus stays busy be got rid of?

-- A loss comes only in an event after which the bus is idle, whatever RT is: m owns, and r is no reset and no withdrawal of m's. If the bus is
-- not idle after r (busy, or a line low), m owns still.
abbrev pub LostIdle : Type 0
LostIdle =
    (k : Kind) (m : Master) (rs : List Raw) (r : Raw) → let d : Device = run k rs in
    owns m d ≡ true → reset r d ≡ false → withdrawal_of m r d ≡ false → is_idle (next d r).bus ≡ false → owns m (next d r) ≡ true

-- So it cannot: from any point of m's grant on, as long as the bus is not idle and neither a reset nor m's withdrawal comes, m owns, with any RT
-- and however many ticks pass. Neither BUS_HUNG nor the cut after 35 ticks takes the grant.
abbrev pub StalledHolderKeeps : Type 0
StalledHolderKeeps =
    (k : Kind) (m : Master) (rs : List Raw) (later : List Raw) → let d : Device = run k rs in
    owns m d ≡ true → never reset d later ≡ true → never (withdrawal_of m) d later ≡ true
    → throughout (λ (x : Device). not (is_idle x.bus)) d later ≡ true → owns m (run_from d later) ≡ true

-- ---- Does the idle timer end a grant with RT 00h, whenever the bus falls idle?

-- It does. From any point of such a grant on, as many ticks as the part's idle limit are accepted, and as long as m owns its timer is on and the
-- bus is idle: then m has not owned all the while. (It may own again, by a new grant.)
abbrev pub IdleTimerFromAnywhere : Type 0
IdleTimerFromAnywhere =
    (k : Kind) (m : Master) (rs : List Raw) (later : List Raw) → let d : Device = run k rs in
    owns m d ≡ true → reserve_of m d ≡ 0 → throughout (idles_as_owner m) d later ≡ true → limit_of k ≤ ticks_in d later
    → throughout (owns m) d later ≡ false

-- And the partner owns at the end of these events, if its request has stood all the while and its port is at rest. (If it asked later, but
-- before the grant ended, see PartnerNext.)
abbrev pub IdleTimerToPartner : Type 0
IdleTimerToPartner =
    (k : Kind) (m : Master) (rs : List Raw) (later : List Raw) → let d : Device = run k rs in
    owns m d ≡ true → reserve_of m d ≡ 0 → throughout (idles_as_owner m) d later ≡ true → limit_of k ≤ ticks_in d later
    → throughout (requests (partner m)) d later ≡ true → resting (partner m) (run_from d later) ≡ true → owns (partner m) (run_from d later) ≡ true

-- ---- How often can a waiting one be overtaken?

-- While the request of m's partner stands, m is newly granted at most once, and not at all unless m is the claimant already; whatever the
-- priorities, and with PAIRs. (A reset would take the request away. Once the partner claims or owns, m is not granted until the request falls.)
abbrev pub OvertakenOnce : Type 0
OvertakenOnce =
    (k : Kind) (m : Master) (rs : List Raw) (later : List Raw) → let d : Device = run k rs in
    throughout (requests (partner m)) d later ≡ true → times_in (grant_taken m) d later ≤ worth 1 (claims m d)
