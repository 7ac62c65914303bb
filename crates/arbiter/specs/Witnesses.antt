-- Runs that meet the premises of the auditor's statements (Audit), each for both masters of a part of each kind: what is said
-- there is said of runs that there are.
-- proofs/Witnesses.antt proves the table whole. GrantedAtRest and EndsDisconnected ask for a grant taken and for a grant ended, which stand
-- among the premises of ReserveLasts and PartnerNext.
-- Assumes nothing.
use Rattle.std.specs.Prelude.{◌≡◌, leb, ◌+◌, ◌-◌, ◌&&◌, ◌∷◌, ◌++◌}
use Rattle.arbiter.specs.Types.{ℕ, Bool, true, not, List, [], eqb, ltb, Master, Zero, One, Kind, Device, Raw}
use Rattle.arbiter.specs.Rules.{limit_of}
use Rattle.arbiter.specs.Words.{partner, of}
use Rattle.arbiter.specs.State.{owns, connected, is_idle}
use Rattle.arbiter.specs.Steps.{step, run_from, run}
use Rattle.arbiter.specs.AuditWords.{next, requests, resting, reserve_of, idle_timer_on, is_accepted, reset, tick, withdrawal_of, stop_of, grant_taken, grant_ended, ticks_in, never, throughout}
use Rattle.arbiter.specs.Marks.{raw, command, write, stop, pair, lines, tick as aTick, pulse, reset as pinReset, general_call, sets, times}

-- ---- the premises of each statement, in its order, as tests

abbrev pub one_connected : Kind → Master → List Raw → List Bool
one_connected k m rs = connected m (run k rs) ∷ []

abbrev pub apart_unowned : Kind → List Raw → List Bool
apart_unowned k rs = not (owns Zero (run k rs)) ∷ not (owns One (run k rs)) ∷ []

-- m owns, and r is a reset
abbrev pub reset_ends : Master → Device → Raw → List Bool
reset_ends m d r = owns m d ∷ reset r d ∷ []

abbrev pub reserve_lasts : Kind → Master → List Raw → Raw → List Raw → List Bool
reserve_lasts k m rs r later =
    let d : Device = next (run k rs) r in
    grant_taken m r (run k rs) ∷ ltb (ticks_in d later) (reserve_of m d) ∷ never reset d later ∷ never (withdrawal_of m) d later ∷ []

abbrev pub reserve_ends : Kind → Master → List Raw → Raw → List Raw → Raw → List Bool
reserve_ends k m rs r later t =
    let d : Device = next (run k rs) r in
    grant_taken m r (run k rs) ∷ eqb (ticks_in d later + 1) (reserve_of m d) ∷ tick t (run_from d later) ∷ never reset d later
    ∷ never (withdrawal_of m) d later ∷ is_idle (next (run_from d later) t).bus ∷ []

abbrev pub reserve_exact : Kind → Master → List Raw → Raw → List Raw → Raw → List Bool
reserve_exact k m rs r later e =
    let d : Device = next (run k rs) r in
    let x : Device = run_from d later in
    grant_taken m r (run k rs) ∷ throughout (owns m) d later ∷ ltb 0 (reserve_of m d) ∷ leb (reserve_of m d) (ticks_in d (later ++ e ∷ []))
    ∷ not (reset e x) ∷ not (withdrawal_of m e x) ∷ []

-- with the bus idle after e, or not
abbrev pub exact_idle : Kind → Master → List Raw → Raw → List Raw → Raw → List Bool
exact_idle k m rs r later e = is_idle (next (run_from (next (run k rs) r) later) e).bus ∷ reserve_exact k m rs r later e

abbrev pub exact_busy : Kind → Master → List Raw → Raw → List Raw → Raw → List Bool
exact_busy k m rs r later e = not (is_idle (next (run_from (next (run k rs) r) later) e).bus) ∷ reserve_exact k m rs r later e

abbrev pub partner_next : Kind → Master → List Raw → Raw → List Bool
partner_next k m rs r = grant_ended m r (run k rs) ∷ not (reset r (run k rs)) ∷ requests (partner m) (next (run k rs) r) ∷ []

-- next, and at rest: it owns at once
abbrev pub next_at_rest : Kind → Master → List Raw → Raw → List Bool
next_at_rest k m rs r = resting (partner m) (next (run k rs) r) ∷ partner_next k m rs r

-- next, and not at rest: it waits through `later`, and t is its STOP
abbrev pub next_at_stop : Kind → Master → List Raw → Raw → List Raw → Raw → List Bool
next_at_stop k m rs r later t =
    let d : Device = next (run k rs) r in
    let p : Master = partner m in
    not (resting p d)
    ∷ never reset d later ∷ never (withdrawal_of p) d later ∷ never (stop_of p) d later ∷ stop_of p t (run_from d later)
    ∷ partner_next k m rs r

abbrev pub partner_in_time : Kind → Master → List Raw → Raw → List Raw → Raw → List Bool
partner_in_time k m rs r later t =
    let d : Device = next (run k rs) r in
    let end : Device = next (run_from d later) t in
    grant_taken m r (run k rs) ∷ eqb (ticks_in d later + 1) (reserve_of m d) ∷ tick t (run_from d later) ∷ never reset d later
    ∷ never (withdrawal_of m) d later ∷ requests (partner m) end ∷ is_idle end.bus ∷ resting (partner m) end ∷ []

abbrev pub partner_in_time_throughout : Kind → Master → List Raw → Raw → List Raw → Raw → List Bool
partner_in_time_throughout k m rs r later t =
    let d : Device = next (run k rs) r in
    let end : Device = next (run_from d later) t in
    grant_taken m r (run k rs) ∷ eqb (ticks_in d later + 1) (reserve_of m d) ∷ tick t (run_from d later) ∷ never reset d later
    ∷ throughout (requests (partner m)) d (later ++ t ∷ []) ∷ is_idle end.bus ∷ resting (partner m) end ∷ []

abbrev pub held_until_let_go : Kind → Master → List Raw → Raw → List Raw → List Bool
held_until_let_go k m rs r later =
    let d : Device = next (run k rs) r in
    grant_taken m r (run k rs) ∷ eqb (reserve_of m d) 0 ∷ never reset d later ∷ never (withdrawal_of m) d later
    ∷ throughout (λ (x : Device). not (idle_timer_on m x)) d later ∷ []

abbrev pub idle_timer_exact : Kind → Master → List Raw → Raw → List Bool
idle_timer_exact k m rs r =
    let d : Device = run k rs in
    owns m d ∷ eqb (reserve_of m d) 0 ∷ not (reset r d) ∷ not (withdrawal_of m r d) ∷ []

abbrev pub idle_timer_ends : Kind → Master → List Raw → Raw → List Raw → Raw → List Bool
idle_timer_ends k m rs r later t =
    let d : Device = next (run k rs) r in
    grant_taken m r (run k rs) ∷ eqb (reserve_of m d) 0 ∷ never reset d later ∷ never (withdrawal_of m) d later
    ∷ throughout (λ (x : Device). idle_timer_on m x && is_idle x.bus) d later ∷ ltb (ticks_in d later) (limit_of k)
    ∷ tick t (run_from d later) ∷ eqb (ticks_in d later + 1) (limit_of k) ∷ []

-- and refused with this number
abbrev pub refused_unchanged : ℕ → Device → Raw → List Bool
refused_unchanged number d r = not (is_accepted r d) ∷ eqb (step d r).answer.outcome number ∷ []

-- ---- the events of a master, and of the bus outside

abbrev pub number : Master → ℕ
number m = of m 0 1

-- m sets its RT, or its CONTR, from COMMAND to STOP
abbrev pub sets_rt : Master → ℕ → List Raw
sets_rt m v = sets (number m) 3 v

abbrev pub sets_contr : Master → ℕ → List Raw
sets_contr m v = sets (number m) 1 v

-- m writes its CONTR and keeps its port open
abbrev pub writes_contr : Master → ℕ → List Raw
writes_contr m v = command (number m) 1 ∷ write (number m) v ∷ []

abbrev pub stop_on : Master → Raw
stop_on m = stop (number m)

-- a START, and the STOP after it
abbrev pub bus_start : Raw
bus_start = lines 1 0 1

abbrev pub bus_stop : Raw
bus_stop = lines 1 1 1

-- of box14-rt50, what comes after the grant: a transfer, the partner p that sets its RT and asks, and so many ticks
abbrev pub box14_waits : Master → ℕ → List Raw
box14_waits p ticks = bus_start ∷ bus_stop ∷ sets_rt p 50 ++ sets_contr p 0x05 ++ times ticks aTick

-- ---- the rows

abbrev pub both_masters : (Master → List Bool) → List Bool
both_masters f = f Zero ++ f One

-- master 0 owns and is connected
abbrev pub in_use : Kind → Device
in_use k = run k (sets_contr Zero 0x05)

unfoldable pub witnesses_of : Kind → List Bool
witnesses_of k =
    -- connected at once, and by an initialisation
    both_masters (λ m. one_connected k m (sets_contr m 0x05))
    ++ both_masters (λ m. one_connected k m (sets_contr m 0x0D ++ pulse 1 ∷ []))
    -- nobody owns: before any event, after the withdrawal of a connected owner, and after the loss of one that was initialising
    ++ apart_unowned k []
    ++ both_masters (λ m. apart_unowned k (sets_contr m 0x05 ++ writes_contr m 0x04))
    ++ both_masters (λ m. apart_unowned k (sets_rt m 2 ++ sets_contr m 0x0D ++ times 2 aTick))
    -- the partner's soft reset and the pin reset, before an owner with RT 50 has had a tick
    ++ both_masters (λ m. reset_ends m (run k (sets_rt m 50 ++ sets_contr m 0x05)) (general_call (number (partner m)) 0x06))
    ++ both_masters (λ m. reset_ends m (run k (sets_rt m 50 ++ sets_contr m 0x05)) pinReset)
    -- RT 50, 49 ticks: the partner asks, the bus is busy for a while, and an RT of 1 is written in vain
    ++ both_masters
    (λ m. reserve_lasts k m (sets_rt m 50 ++ writes_contr m 0x01) (stop_on m) (sets_contr (partner m) 0x81 ++ bus_start ∷ times 20 aTick ++ bus_stop ∷ sets_rt m 1 ++ times 29 aTick))
    -- RT 1, no tick but a refused STOP; RT 255, 254 ticks, timer on
    ++ both_masters (λ m. reserve_lasts k m (sets_rt m 1 ++ writes_contr m 0x01) (stop_on m) (sets_contr (partner m) 0x81 ++ stop_on m ∷ []))
    ++ both_masters (λ m. reserve_lasts k m (sets_rt m 255 ++ writes_contr m 0x21) (stop_on m) (sets_contr (partner m) 0x01 ++ times 254 aTick))
    -- lost at the tick that makes as many as the reserve: box14-rt50's own; RT 1; RT 255, the bus busy for a while and nobody else asking
    ++ both_masters (λ m. reserve_ends k m (sets_rt m 50 ++ writes_contr m 0x05) (stop_on m) (box14_waits (partner m) 49) aTick)
    ++ both_masters (λ m. reserve_ends k m (sets_rt m 1 ++ writes_contr m 0x01) (stop_on m) [] aTick)
    ++ both_masters
    (λ m. reserve_ends k m (sets_rt m 255 ++ writes_contr m 0x21) (stop_on m) (bus_start ∷ times 200 aTick ++ bus_stop ∷ times 54 aTick) aTick)
    -- RT 2, a transfer over five ticks: kept at the second tick and at the fifth, lost in the LINES event that is the STOP; and lost at the
    -- second tick on an idle bus
    ++ both_masters (λ m. exact_busy k m (sets_rt m 2 ++ writes_contr m 0x05) (stop_on m) (aTick ∷ bus_start ∷ []) aTick)
    ++ both_masters (λ m. exact_busy k m (sets_rt m 2 ++ writes_contr m 0x05) (stop_on m) (aTick ∷ bus_start ∷ times 3 aTick) aTick)
    ++ both_masters (λ m. exact_idle k m (sets_rt m 2 ++ writes_contr m 0x05) (stop_on m) (aTick ∷ bus_start ∷ times 4 aTick) bus_stop)
    ++ both_masters (λ m. exact_idle k m (sets_rt m 2 ++ writes_contr m 0x05) (stop_on m) (aTick ∷ []) aTick)
    -- a loss, and a withdrawal, with the partner at rest
    ++ both_masters (λ m. next_at_rest k m (sets_rt m 5 ++ sets_contr m 0x01 ++ sets_contr (partner m) 0x01 ++ times 4 aTick) aTick)
    ++ both_masters (λ m. next_at_rest k m (sets_contr m 0x81 ++ sets_contr (partner m) 0x01 ++ command (number m) 1 ∷ []) (write (number m) 0x00))
    -- a withdrawal with the partner's port open: the one that let go asks again and stops before the partner's STOP
    ++ both_masters
    (λ m. next_at_stop k m (sets_contr m 0x81 ++ writes_contr (partner m) 0x01 ++ command (number m) 1 ∷ []) (write (number m) 0x00)
    (write (number m) 0x81 ∷ stop_on m ∷ times 3 aTick) (stop_on (partner m)))
    -- a PAIR in which the owner withdraws and its partner asks
    ++ both_masters
    (λ m. next_at_stop k m (sets_contr m 0x01 ++ command 0 1 ∷ command 1 1 ∷ []) (pair (of m 0x00 0x01) (of m 0x01 0x00)) (aTick ∷ []) (stop_on (partner m)))
    -- traces/box14-rt50: RT 50, a transfer; then the partner sets its own RT and asks, and waits; t is the 50th tick
    ++ both_masters (λ m. partner_in_time k m (sets_rt m 50 ++ writes_contr m 0x05) (stop_on m) (box14_waits (partner m) 49) aTick)
    -- RT 3: the partner asks after the second tick, and its STOP is the last event before t
    ++ both_masters
    (λ m. partner_in_time k m (sets_rt m 3 ++ writes_contr m 0x01) (stop_on m) (times 2 aTick ++ writes_contr (partner m) 0x81 ++ stop_on (partner m) ∷ []) aTick)
    -- RT 5, the partner asks before the grant: on an idle bus, and on one that is busy for a while
    ++ both_masters
    (λ m. partner_in_time_throughout k m (sets_rt m 5 ++ writes_contr m 0x01 ++ sets_contr (partner m) 0x01) (stop_on m) (times 4 aTick) aTick)
    ++ both_masters
    (λ m. partner_in_time_throughout k m (sets_rt m 5 ++ writes_contr m 0x01 ++ sets_contr (partner m) 0x01) (stop_on m)
    (aTick ∷ bus_start ∷ aTick ∷ aTick ∷ bus_stop ∷ aTick ∷ []) aTick)
    -- and m withdraws after two ticks and asks again
    ++ both_masters
    (λ m. partner_in_time_throughout k m (sets_rt m 5 ++ writes_contr m 0x01 ++ sets_contr (partner m) 0x01) (stop_on m)
    (times 2 aTick ++ sets_contr m 0x00 ++ sets_contr m 0x81 ++ times 2 aTick) aTick)
    -- RT 00h, timer off, the partner waits for 300 ticks
    ++ both_masters (λ m. held_until_let_go k m (writes_contr m 0x01) (stop_on m) (sets_contr (partner m) 0x81 ++ times 300 aTick))
    -- RT 00h, timer on: the last tick but one and the last on an idle bus; and the timer turned on when the count has long been at its limit
    ++ both_masters (λ m. idle_timer_exact k m (sets_contr m 0x21 ++ times (limit_of k - 2) aTick) aTick)
    ++ both_masters (λ m. idle_timer_exact k m (sets_contr m 0x21 ++ times (limit_of k - 1) aTick) aTick)
    ++ both_masters (λ m. idle_timer_exact k m (sets_contr m 0x01 ++ times 170 aTick ++ command (number m) 1 ∷ []) (write (number m) 0x21))
    ++ both_masters (λ m. idle_timer_ends k m (writes_contr m 0x21) (stop_on m) (sets_contr (partner m) 0x01 ++ times (limit_of k - 1) aTick) aTick)
    -- refused: an unknown kind; a master out of range, and an unused field not 0; a WRITE, a PAIR, a STOP and a PULSE out of sequence
    ++ refused_unchanged 2 (in_use k) (raw 10 0 0 0)
    ++ refused_unchanged 3 (in_use k) (command 2 1)
    ++ refused_unchanged 3 (in_use k) (raw 6 0 0 1)
    ++ refused_unchanged 4 (in_use k) (write 0 0x00)
    ++ refused_unchanged 4 (next (in_use k) (command 0 1)) (pair 0x00 0x01)
    ++ refused_unchanged 4 (in_use k) (stop 0)
    ++ refused_unchanged 4 (in_use k) (pulse 1)

-- ---- the one statement: every premise of every row is met

abbrev pub all_met : List Bool → Bool
all_met [] = true
all_met (b ∷ bs) = b && all_met bs

abbrev pub WitnessesMeet : Type 0
WitnessesMeet = (k : Kind) → all_met (witnesses_of k) ≡ true
