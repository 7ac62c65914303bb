-- The auditor's questions, as statements over every run: any list of raw four-byte events from power-up of a part of either kind, refused
-- ones included. Those that name a device and no run hold of every device. Each is proved in proofs/, under the same name in small
-- letters; Answers has them all.
-- Assumes nothing.
use Rattle.std.specs.Prelude.{◌<◌, ◌≤◌, ◌≡◌, ◌+◌, ◌/◌, ◌%◌, ◌&&◌, ◌||◌, ◌∷◌, ◌++◌}
use Rattle.arbiter.specs.Types.{ℕ, true, false, not, List, [], eqb, ltb, Master, Contr, Status, Apart, NoClock, Kind, Device, Raw, Stop, Ok}
use Rattle.arbiter.specs.Rules.{limit_of}
use Rattle.arbiter.specs.Words.{bit, partner, side}
use Rattle.arbiter.specs.State.{owns, claims, connected, is_initialising, is_idle}
use Rattle.arbiter.specs.Registers.{reads_at}
use Rattle.arbiter.specs.Events.{decode}
use Rattle.arbiter.specs.Order.{levels, losses, cut, claim, grant, connect}
use Rattle.arbiter.specs.Steps.{master_number, step, run_from, run}
use Rattle.arbiter.specs.AuditWords.{next, requests, resting, reserve_of, idle_timer_on, is_accepted, reset, tick, withdrawal_of, stop_of, grant_taken, grant_ended, ticks_in, never, throughout, levelled}

-- ---- A run gone on is a run: what is said below of `later` after an event after a run is said of runs.

abbrev pub RunsOn : Type 0
RunsOn = (k : Kind) (rs : List Raw) (r : Raw) (later : List Raw) → run k (rs ++ r ∷ later) ≡ run_from (next (run k rs) r) later

-- ---- Every run is one of a kind of part

-- "every step keeps it, resets included"
abbrev pub KeepsKind : Type 0
KeepsKind = (d : Device) (r : Raw) → (next d r).kind ≡ d.kind

abbrev pub RunsOfKind : Type 0
RunsOfKind = (k : Kind) (rs : List Raw) → (run k rs).kind ≡ k

-- ---- Can both controllers ever be connected at once?

-- Connected is read off the switch alone. At most one master is connected, and it holds the grant.
abbrev pub OneConnected : Type 0
OneConnected = (k : Kind) (rs : List Raw) (m : Master) → connected m (run k rs) ≡ true → (owns m (run k rs) ≡ true) × (connected (partner m) (run k rs) ≡ false)

-- With nobody granted the switch is open, and no initialisation runs.
abbrev pub ApartUnowned : Type 0
ApartUnowned = (k : Kind) (rs : List Raw) → ((m : Master) → owns m (run k rs) ≡ false) → (run k rs).arb.switch ≡ Apart

-- As the answers show it: bits 0 and 1 of the third byte are the owner, bits 2 and 3 the connected one.
abbrev pub owner_bits : ℕ → ℕ
owner_bits b = b % 4

abbrev pub switch_bits : ℕ → ℕ
switch_bits b = b / 4 % 4

abbrev pub AnswersShow : Type 0
AnswersShow =
    (k : Kind) (rs : List Raw) (r : Raw) (m : Master) → let b : ℕ = (step (run k rs) r).answer.owner in
    (eqb (owner_bits b) (master_number m) ≡ owns m (next (run k rs) r)) × (eqb (switch_bits b) (master_number m) ≡ connected m (next (run k rs) r))

-- Every answer shows one owner or none, and no connected one but the owner.
abbrev pub AnswersShowOne : Type 0
AnswersShowOne =
    (k : Kind) (rs : List Raw) (r : Raw) → let b : ℕ = (step (run k rs) r).answer.owner in
    ltb (owner_bits b) 3 && (eqb (switch_bits b) 0 || eqb (switch_bits b) (owner_bits b)) ≡ true

-- As the registers show it: m is connected exactly if its CONTR shows LOCK_GRANT (bit 1) and BUS_CONNECT (bit 2) and no initialisation
-- runs; LOCK_GRANT is the grant, and so is STATUS bit 0 of the partner's.
abbrev pub RegistersShow : Type 0
RegistersShow =
    (k : Kind) (rs : List Raw) (m : Master) → let d : Device = run k rs in
    (connected m d ≡ bit 1 (reads_at Contr m d) && bit 2 (reads_at Contr m d) && not (is_initialising d.arb.switch))
    × (bit 1 (reads_at Contr m d) ≡ owns m d)
    × (bit 0 (reads_at Status (partner m) d) ≡ owns m d)

-- The two CONTR bytes never show LOCK_GRANT at once, and the two STATUS bytes never show it of both partners.
abbrev pub RegistersShowOne : Type 0
RegistersShowOne =
    (k : Kind) (rs : List Raw) (m : Master) → let d : Device = run k rs in
    (bit 1 (reads_at Contr m d) && bit 1 (reads_at Contr (partner m) d) ≡ false) × (bit 0 (reads_at Status m d) && bit 0 (reads_at Status (partner m) d) ≡ false)

-- ---- Can a reserved transfer be cut short?

-- By a reset it can, the pin's or the soft reset of either master: after it nobody owns.
abbrev pub ResetEnds : Type 0
ResetEnds = (m : Master) (d : Device) (r : Raw) → reset r d ≡ true → owns m (next d r) ≡ false

-- r gives m the grant. While fewer ticks have been accepted since than the reserve that it was taken with, no reset has come and m has not
-- withdrawn, m owns. (A reserve of 00h has no fewer: see below.)
abbrev pub ReserveLasts : Type 0
ReserveLasts =
    (k : Kind) (m : Master) (rs : List Raw) (r : Raw) (later : List Raw) → let d : Device = next (run k rs) r in
    grant_taken m r (run k rs) ≡ true → ticks_in d later < reserve_of m d → never reset d later ≡ true → never (withdrawal_of m) d later ≡ true
    → owns m (run_from d later) ≡ true

-- And no longer than that on an idle bus: still without reset and withdrawal, t is the tick that makes as many as the reserve. If the bus is
-- idle after t, m does not own.
abbrev pub ReserveEnds : Type 0
ReserveEnds =
    (k : Kind) (m : Master) (rs : List Raw) (r : Raw) (later : List Raw) (t : Raw) → let d : Device = next (run k rs) r in
    let end : Device = next (run_from d later) t in
    grant_taken m r (run k rs) ≡ true → ticks_in d later + 1 ≡ reserve_of m d → tick t (run_from d later) ≡ true → never reset d later ≡ true
    → never (withdrawal_of m) d later ≡ true → is_idle end.bus ≡ true → owns m end ≡ false

-- From that tick on, the grant is kept in an event exactly if the bus is not idle after it, and so ends in the first event after which the
-- bus is idle. m has owned all the while since r, so that it is the same grant; as many ticks as its reserve, or more, have been accepted
-- since, e counted; and e is no reset and no withdrawal of m.
abbrev pub ReserveExact : Type 0
ReserveExact =
    (k : Kind) (m : Master) (rs : List Raw) (r : Raw) (later : List Raw) (e : Raw) → let d : Device = next (run k rs) r in
    let x : Device = run_from d later in
    grant_taken m r (run k rs) ≡ true → throughout (owns m) d later ≡ true → 0 < reserve_of m d → reserve_of m d ≤ ticks_in d (later ++ e ∷ [])
    → reset e x ≡ false → withdrawal_of m e x ≡ false → owns m (next x e) ≡ not (is_idle (next x e).bus)

-- ---- When does the waiting one get its turn?

-- p is next in d: it owns at once if its port is at rest. Else, until its withdrawal, its STOP or a reset, it stays the claimant, and its
-- STOP makes it the owner.
abbrev pub IsNext : Master → Device → Type 0
IsNext p d =
    (resting p d ≡ true → owns p d ≡ true)
    × (resting p d ≡ false → (later : List Raw) → never reset d later ≡ true → never (withdrawal_of p) d later ≡ true → never (stop_of p) d later ≡ true
    → (claims p (run_from d later) ≡ true) × ((r : Raw) → decode r ≡ Ok (Stop p) → owns p (next (run_from d later) r) ≡ true))

-- r, no reset, ends m's grant, and the partner's request stands after it: the partner is next.
abbrev pub PartnerNext : Type 0
PartnerNext =
    (k : Kind) (m : Master) (rs : List Raw) (r : Raw) → let d : Device = next (run k rs) r in
    grant_ended m r (run k rs) ≡ true → reset r (run k rs) ≡ false → requests (partner m) d ≡ true → IsNext (partner m) d

-- In sum: r gives m the grant, and t is the tick that makes as many as its reserve. No reset has come and m has not withdrawn. If after t
-- the partner's request stands, whenever it was made, the bus is idle and the partner's port at rest, then the partner owns.
abbrev pub PartnerInTime : Type 0
PartnerInTime =
    (k : Kind) (m : Master) (rs : List Raw) (r : Raw) (later : List Raw) (t : Raw) → let d : Device = next (run k rs) r in
    let end : Device = next (run_from d later) t in
    grant_taken m r (run k rs) ≡ true → ticks_in d later + 1 ≡ reserve_of m d → tick t (run_from d later) ≡ true
    → never reset d later ≡ true → never (withdrawal_of m) d later ≡ true
    → requests (partner m) end ≡ true → is_idle end.bus ≡ true → resting (partner m) end ≡ true → owns (partner m) end ≡ true

-- Where the partner's request stands all the while from the grant on, m may withdraw as well, and the partner owns after t just so.
abbrev pub PartnerInTimeThroughout : Type 0
PartnerInTimeThroughout =
    (k : Kind) (m : Master) (rs : List Raw) (r : Raw) (later : List Raw) (t : Raw) → let d : Device = next (run k rs) r in
    let end : Device = next (run_from d later) t in
    grant_taken m r (run k rs) ≡ true → ticks_in d later + 1 ≡ reserve_of m d → tick t (run_from d later) ≡ true
    → never reset d later ≡ true → throughout (requests (partner m)) d (later ++ t ∷ []) ≡ true
    → is_idle end.bus ≡ true → resting (partner m) end ≡ true → owns (partner m) end ≡ true

-- ---- What does a reserve of 00h mean?

-- With the idle timer off the grant never ends but by withdrawal or reset, however many ticks pass.
abbrev pub HeldUntilLetGo : Type 0
HeldUntilLetGo =
    (k : Kind) (m : Master) (rs : List Raw) (r : Raw) (later : List Raw) → let d : Device = next (run k rs) r in
    grant_taken m r (run k rs) ≡ true → reserve_of m d ≡ 0 → never reset d later ≡ true → never (withdrawal_of m) d later ≡ true
    → throughout (λ (x : Device). not (idle_timer_on m x)) d later ≡ true → owns m (run_from d later) ≡ true

-- With the timer on it ends exactly at the part's idle limit, as the timer and the count stand after parts 1 and 2 of the event's step.
abbrev pub IdleTimerExact : Type 0
IdleTimerExact =
    (k : Kind) (m : Master) (rs : List Raw) (r : Raw) → let d : Device = run k rs in
    owns m d ≡ true → reserve_of m d ≡ 0 → reset r d ≡ false → withdrawal_of m r d ≡ false
    → owns m (next d r) ≡ not (idle_timer_on m (levelled r d) && eqb (levelled r d).bus.idle (limit_of k))

-- So with the timer on and the bus idle throughout, it lasts as many ticks as the limit less one, and ends at the tick after them.
abbrev pub IdleTimerEnds : Type 0
IdleTimerEnds =
    (k : Kind) (m : Master) (rs : List Raw) (r : Raw) (later : List Raw) → let d : Device = next (run k rs) r in
    grant_taken m r (run k rs) ≡ true → reserve_of m d ≡ 0 → never reset d later ≡ true → never (withdrawal_of m) d later ≡ true
    → throughout (λ (x : Device). idle_timer_on m x && is_idle x.bus) d later ≡ true → ticks_in d later < limit_of k
    → (owns m (run_from d later) ≡ true)
    × ((t : Raw) → tick t (run_from d later) ≡ true → ticks_in d later + 1 ≡ limit_of k → owns m (next (run_from d later) t) ≡ false)

-- ---- How a grant begins and ends

-- A grant is given only to a master whose port is at rest, and while no hold runs.
abbrev pub GrantedAtRest : Type 0
GrantedAtRest = (m : Master) (d : Device) (r : Raw) → grant_taken m r d ≡ true → (resting m (next d r) ≡ true) × ((next d r).bus.hold ≡ 0)

-- Whatever ends a grant, the holder's BUS_CONNECT is 0 after it.
abbrev pub EndsDisconnected : Type 0
EndsDisconnected = (m : Master) (d : Device) (r : Raw) → grant_ended m r d ≡ true → (side m (next d r)).contr.busconnect ≡ false

-- ---- What a step leaves

-- A refused event changes nothing.
abbrev pub RefusedUnchanged : Type 0
RefusedUnchanged = (d : Device) (r : Raw) → is_accepted r d ≡ false → next d r ≡ d

-- parts 2 to 7 done again, with no event
abbrev pub parts_again : Device → Device
parts_again d = connect NoClock (grant (claim (cut false (losses (levels false d.bus d)))))

-- Every step of a run leaves the device settled: that changes nothing.
abbrev pub AllSettled : Type 0
AllSettled = (k : Kind) (rs : List Raw) → parts_again (run k rs) ≡ run k rs
