-- Runs that meet the premises of the statements of Blocking, Freed and Connection, each for both masters of a part of each kind.
-- proofs/MoreWitnesses.antt proves the table whole.
-- Assumes nothing.
use Rattle.std.specs.Prelude.{◌≡◌, leb, ◌+◌, ◌-◌, ◌∷◌, ◌++◌}
use Rattle.ranges.specs.Names.{ℕ, Bool, true, not, List, [], eqb, ltb, Master, Zero, One, Kind, Device, Raw}
use Rattle.arbiter.specs.Rules.{limit_of}
use Rattle.arbiter.specs.Words.{partner, of, side}
use Rattle.arbiter.specs.State.{owns, claims, connected, is_idle, bus_hung}
use Rattle.arbiter.specs.Steps.{run_from, run}
use Rattle.arbiter.specs.AuditWords.{next, requests, resting, reserve_of, reset, tick, withdrawal_of, stop_of, grant_taken, ticks_in, never, throughout}
use Rattle.arbiter.specs.Marks.{command, write, read, pair, lines, tick as aTick, reset as pinReset, general_call, sets, both_at_contr, times}
use Rattle.audit.specs.Blocking.{times_in, idles_as_owner}
use Rattle.audit.specs.Freed.{held_reset}
use Rattle.audit.specs.Connection.{disconnection_of, cut_of}
use Rattle.arbiter.specs.Witnesses.{number, sets_rt, sets_contr, writes_contr, stop_on, bus_start, bus_stop, both_masters, all_met}

-- ---- the premises of each statement, in its order, as tests

abbrev pub claimant_blocks : Kind → Master → List Raw → List Raw → List Bool
claimant_blocks k m rs later =
    let d : Device = run k rs in
    claims m d ∷ not (resting m d) ∷ never reset d later ∷ never (withdrawal_of m) d later ∷ never (stop_of m) d later ∷ []

abbrev pub claimant_yields : Kind → Master → List Raw → Raw → List Bool
claimant_yields k m rs r =
    let d : Device = run k rs in
    claims m d ∷ eqb d.bus.hold 0 ∷ withdrawal_of m r d ∷ requests (partner m) (next d r) ∷ []

-- with the partner's port at rest, or not
abbrev pub yields_at_rest : Kind → Master → List Raw → Raw → List Bool
yields_at_rest k m rs r = resting (partner m) (next (run k rs) r) ∷ claimant_yields k m rs r

abbrev pub yields_open : Kind → Master → List Raw → Raw → List Bool
yields_open k m rs r = not (resting (partner m) (next (run k rs) r)) ∷ claimant_yields k m rs r

abbrev pub lost_idle : Kind → Master → List Raw → Raw → List Bool
lost_idle k m rs r =
    let d : Device = run k rs in
    owns m d ∷ not (reset r d) ∷ not (withdrawal_of m r d) ∷ not (is_idle (next d r).bus) ∷ []

abbrev pub stalled_holder : Kind → Master → List Raw → List Raw → List Bool
stalled_holder k m rs later =
    let d : Device = run k rs in
    owns m d ∷ never reset d later ∷ never (withdrawal_of m) d later ∷ throughout (λ (x : Device). not (is_idle x.bus)) d later ∷ []

-- and BUS_HUNG in the end
abbrev pub hung_holder : Kind → Master → List Raw → List Raw → List Bool
hung_holder k m rs later = bus_hung (run_from (run k rs) later).bus ∷ stalled_holder k m rs later

abbrev pub idle_timer_anywhere : Kind → Master → List Raw → List Raw → List Bool
idle_timer_anywhere k m rs later =
    let d : Device = run k rs in
    owns m d ∷ eqb (reserve_of m d) 0 ∷ throughout (idles_as_owner m) d later ∷ leb (limit_of k) (ticks_in d later) ∷ []

abbrev pub idle_timer_to_partner : Kind → Master → List Raw → List Raw → List Bool
idle_timer_to_partner k m rs later =
    let d : Device = run k rs in
    throughout (requests (partner m)) d later ∷ resting (partner m) (run_from d later) ∷ idle_timer_anywhere k m rs later

-- and m is newly granted so often
abbrev pub overtaken : ℕ → Kind → Master → List Raw → List Raw → List Bool
overtaken n k m rs later =
    let d : Device = run k rs in
    throughout (requests (partner m)) d later ∷ eqb (times_in (grant_taken m) d later) n ∷ []

-- with m the claimant, or the owner on a bus that is not idle: it is blocked for its partner
abbrev pub reset_frees : Device → Raw → List Bool
reset_frees d r = reset r d ∷ []

abbrev pub claimant_reset : Kind → Master → List Raw → Raw → List Bool
claimant_reset k m rs r = claims m (run k rs) ∷ reset_frees (run k rs) r

abbrev pub holder_reset : Kind → Master → List Raw → Raw → List Bool
holder_reset k m rs r = owns m (run k rs) ∷ not (is_idle (run k rs).bus) ∷ reset_frees (run k rs) r

abbrev pub reset_remedies : Kind → Master → List Raw → List Bool
reset_remedies k p rs = not (side p (run k rs)).contr.swrst ∷ []

-- with a hold running before it
abbrev pub reset_unheld : Kind → List Raw → Raw → List Raw → List Bool
reset_unheld k rs r later =
    let d : Device = run k rs in
    ltb 0 d.bus.hold ∷ reset r d ∷ not (held_reset r d) ∷ never reset (next d r) later ∷ []

-- up to its last tick t, at which p is granted
abbrev pub reset_holds : Kind → Master → List Raw → Raw → List Raw → Raw → List Bool
reset_holds k p rs r later t =
    let d : Device = next (run k rs) r in
    let x : Device = run_from d later in
    held_reset r (run k rs) ∷ never reset d later ∷ ltb (ticks_in d later) 35
    ∷ tick t x ∷ eqb (ticks_in d later + 1) 35 ∷ claims p x ∷ resting p x ∷ []

-- kept over r; ended by m's own byte; ended by the cut: the grant stays each time
abbrev pub connection_kept : Kind → Master → List Raw → Raw → List Bool
connection_kept k m rs r =
    let d : Device = run k rs in
    connected m d ∷ owns m (next d r) ∷ not (disconnection_of m r d) ∷ not (cut_of m r d) ∷ []

abbrev pub connection_left : Kind → Master → List Raw → Raw → List Bool
connection_left k m rs r = connected m (run k rs) ∷ owns m (next (run k rs) r) ∷ disconnection_of m r (run k rs) ∷ []

abbrev pub connection_cut : Kind → Master → List Raw → Raw → List Bool
connection_cut k m rs r = connected m (run k rs) ∷ owns m (next (run k rs) r) ∷ cut_of m r (run k rs) ∷ []

abbrev pub stays_connected : Kind → Master → List Raw → List Raw → List Bool
stays_connected k m rs later =
    let d : Device = run k rs in
    connected m d ∷ throughout (owns m) d later ∷ never (disconnection_of m) d later ∷ never (cut_of m) d later ∷ []

abbrev pub transfer_lasts : Kind → Master → List Raw → Raw → List Raw → List Raw → List Bool
transfer_lasts k m rs r before later =
    let d : Device = next (run k rs) r in
    let x : Device = run_from d before in
    grant_taken m r (run k rs) ∷ connected m x ∷ ltb (ticks_in d (before ++ later)) (reserve_of m d)
    ∷ never reset d (before ++ later) ∷ never (withdrawal_of m) d (before ++ later)
    ∷ never (disconnection_of m) x later ∷ never (cut_of m) x later ∷ []

-- after rs the drives pull both lines; what is asked is asked after r
abbrev pub pulls : Kind → List Raw → List Bool
pulls k rs = not (run k rs).bus.drivescl ∷ not (run k rs).bus.drivesda ∷ []

abbrev pub unowned_released : Kind → List Raw → Raw → List Bool
unowned_released k rs r =
    let d : Device = run k (rs ++ r ∷ []) in
    not (owns Zero d) ∷ not (owns One d) ∷ pulls k rs

abbrev pub connected_released : Kind → Master → List Raw → Raw → List Bool
connected_released k m rs r =
    let d : Device = run k (rs ++ r ∷ []) in
    owns m d ∷ (side m d).contr.busconnect ∷ pulls k rs

-- ---- events

-- m's soft reset
abbrev pub soft_reset_of : Master → Raw
soft_reset_of m = general_call (number m) 0x06

-- m's byte at its pointer
abbrev pub write_of : Master → ℕ → Raw
write_of m v = write (number m) v

-- SCL held low outside, and let go
abbrev pub clock_low : Raw
clock_low = lines 0 1 1

abbrev pub clock_high : Raw
clock_high = lines 1 1 1

-- m pulls both lines by its STATUS, and leaves its port at CONTR
abbrev pub pulls_both : Master → List Raw
pulls_both m = sets_contr m 0x01 ++ sets (number m) 2 0x00 ++ command (number m) 1 ∷ []

-- both ask in one PAIR, m with priority
abbrev pub pair_won_by : Master → List Raw
pair_won_by m = both_at_contr ++ pair (of m 0x81 0x01) (of m 0x01 0x81) ∷ []

-- ---- the rows

unfoldable pub blocking_rows : Kind → List Bool
blocking_rows k =
    -- m asks and does not stop: its partner sets RT 1, asks with priority and waits for 260 ticks; the same with RT 2 of m's, COMMANDs and
    -- READs of m's and a transfer outside; and after a PAIR
    both_masters (λ m. claimant_blocks k m (writes_contr m 0x01) (sets_rt (partner m) 1 ++ sets_contr (partner m) 0x81 ++ times 260 aTick))
    ++ both_masters
    (λ m. claimant_blocks k m (sets_rt m 2 ++ writes_contr m 0x21)
    (sets_contr (partner m) 0x81 ++ command (number m) 3 ∷ read (number m) ∷ bus_start ∷ times 5 aTick ++ bus_stop ∷ times 60 aTick))
    ++ both_masters (λ m. claimant_blocks k m (pair_won_by m) (stop_on (partner m) ∷ times 100 aTick))
    -- then m withdraws: its partner is at rest, or has its port open
    ++ both_masters (λ m. yields_at_rest k m (writes_contr m 0x01 ++ sets_contr (partner m) 0x01 ++ times 40 aTick) (write_of m 0x00))
    ++ both_masters (λ m. yields_open k m (writes_contr m 0x01 ++ writes_contr (partner m) 0x01) (write_of m 0x80))
    -- RT 2 used up while the bus is busy; RT 00h, timer on, a START one tick before the limit
    ++ both_masters (λ m. lost_idle k m (sets_rt m 2 ++ sets_contr m 0x05 ++ aTick ∷ bus_start ∷ []) aTick)
    ++ both_masters (λ m. lost_idle k m (sets_contr m 0x25 ++ times (limit_of k - 1) aTick) bus_start)
    -- a transfer that does not end, RT 1: 260 ticks; SCL low from there on, RT 00h, timer on, SMBUS_DIS set: 505 ticks. The partner waits.
    ++ both_masters
    (λ m. stalled_holder k m (sets_rt m 1 ++ sets_contr m 0x05 ++ bus_start ∷ []) (sets_contr (partner m) 0x81 ++ times 260 aTick))
    ++ both_masters (λ m. hung_holder k m (sets_contr m 0x65 ++ clock_low ∷ []) (sets_contr (partner m) 0x81 ++ times 505 aTick))
    -- RT 00h, timer on: after a transfer, and with seven idle ticks counted; and the timer turned on when 50 are
    ++ both_masters (λ m. idle_timer_anywhere k m (sets_contr m 0x25 ++ bus_start ∷ times 20 aTick ++ bus_stop ∷ []) (times (limit_of k) aTick))
    ++ both_masters (λ m. idle_timer_anywhere k m (sets_contr m 0x25 ++ bus_start ∷ times 9 aTick ++ bus_stop ∷ times 7 aTick) (times (limit_of k) aTick))
    ++ both_masters (λ m. idle_timer_anywhere k m (sets_contr m 0x01 ++ times 50 aTick ++ sets_contr m 0x21) (times (limit_of k) aTick))
    -- the partner waits all the while; and has a transfer of its own at the end
    ++ both_masters
    (λ m. idle_timer_to_partner k m (sets_contr m 0x25 ++ sets_contr (partner m) 0x01 ++ bus_start ∷ times 20 aTick ++ bus_stop ∷ [])
    (times (limit_of k) aTick ++ bus_start ∷ aTick ∷ bus_stop ∷ []))
    -- m claims, stops, owns, withdraws and asks again with priority: granted once; the same after a PAIR; and m owns, loses and asks again:
    -- not granted
    ++ both_masters
    (λ m. overtaken 1 k m (writes_contr m 0x01 ++ sets_contr (partner m) 0x01)
    (stop_on m ∷ times 3 aTick ++ sets_contr m 0x80 ++ sets_contr m 0x81 ++ times 9 aTick))
    ++ both_masters
    (λ m. overtaken 1 k m (pair_won_by m) (stop_on m ∷ stop_on (partner m) ∷ times 3 aTick ++ sets_contr m 0x80 ++ sets_contr m 0x81 ++ times 9 aTick))
    ++ both_masters
    (λ m. overtaken 0 k m (sets_rt m 2 ++ sets_contr m 0x81 ++ sets_contr (partner m) 0x01) (times 2 aTick ++ sets_contr m 0x81 ++ times 9 aTick))

unfoldable pub freed_rows : Kind → List Bool
freed_rows k =
    -- a claimant that does not stop, and a holder in a transfer that does not end: the partner's soft reset, and the pin
    both_masters (λ m. claimant_reset k m (writes_contr m 0x01 ++ sets_contr (partner m) 0x81) (soft_reset_of (partner m)))
    ++ both_masters (λ m. claimant_reset k m (writes_contr m 0x01 ++ sets_contr (partner m) 0x81) pinReset)
    ++ both_masters (λ m. holder_reset k m (sets_rt m 50 ++ sets_contr m 0x05 ++ bus_start ∷ []) (soft_reset_of (partner m)))
    ++ both_masters (λ m. holder_reset k m (sets_rt m 50 ++ sets_contr m 0x05 ++ bus_start ∷ []) pinReset)
    -- each blocks its partner, which helps itself
    ++ both_masters (λ m. reset_remedies k (partner m) (writes_contr m 0x01 ++ sets_contr (partner m) 0x81))
    ++ both_masters (λ m. reset_remedies k (partner m) (sets_rt m 50 ++ sets_contr m 0x05 ++ bus_start ∷ []))
    -- the pin reset, and the soft reset of one that has not set SMBUS_SWRST, in a running hold
    ++ both_masters (λ m. reset_unheld k (sets_contr m 0x10 ++ soft_reset_of m ∷ times 3 aTick) pinReset (times 2 aTick))
    ++ both_masters (λ m. reset_unheld k (sets_contr m 0x10 ++ soft_reset_of m ∷ times 3 aTick) (soft_reset_of (partner m)) (sets_contr m 0x01))
    -- the hold: the partner, or the sender itself, asks and stops, and is granted at the 35th tick
    ++ both_masters (λ m. reset_holds k (partner m) (sets_contr m 0x10) (soft_reset_of m) (sets_contr (partner m) 0x01 ++ times 34 aTick) aTick)
    ++ both_masters (λ m. reset_holds k m (sets_contr m 0x11) (soft_reset_of m) (times 20 aTick ++ sets_contr m 0x81 ++ times 14 aTick) aTick)

unfoldable pub connection_rows : Kind → List Bool
connection_rows k =
    -- kept over m's byte that sets BUS_INIT, over the partner's request, and over the 35th tick with SCL low and SMBUS_DIS 0
    both_masters (λ m. connection_kept k m (sets_contr m 0x05 ++ command (number m) 1 ∷ []) (write_of m 0x0D))
    ++ both_masters (λ m. connection_kept k m (sets_contr m 0x05 ++ command (number (partner m)) 1 ∷ []) (write_of (partner m) 0x85))
    ++ both_masters (λ m. connection_kept k m (sets_contr m 0x05 ++ clock_low ∷ times 34 aTick) aTick)
    -- ended by m's own byte, alone and in a PAIR; and by the cut
    ++ both_masters (λ m. connection_left k m (sets_contr m 0x05 ++ command (number m) 1 ∷ []) (write_of m 0x01))
    ++ both_masters (λ m. connection_left k m (sets_contr m 0x05 ++ both_at_contr) (pair (of m 0x01 0x05) (of m 0x05 0x01)))
    ++ both_masters (λ m. connection_cut k m (sets_contr m 0x45 ++ clock_low ∷ times 34 aTick) aTick)
    -- SMBUS_DIS set, SCL low for 34 ticks twice; BUS_INIT set, an RT written, the partner's request
    ++ both_masters
    (λ m. stays_connected k m (sets_contr m 0x45)
    (clock_low ∷ times 34 aTick ++ clock_high ∷ clock_low ∷ times 34 aTick ++ clock_high ∷ sets_contr m 0x4D ++ sets_rt m 1 ++ sets_contr (partner m) 0x85))
    -- RT 50, connected after a tick: a transfer over 48 ticks, with the partner waiting
    ++ both_masters
    (λ m. transfer_lasts k m (sets_rt m 50 ++ writes_contr m 0x01) (stop_on m) (aTick ∷ sets_contr m 0x05)
    (bus_start ∷ sets_contr (partner m) 0x81 ++ times 48 aTick ++ bus_stop ∷ []))
    -- both lines pulled, and then m withdraws, or a reset comes, or m sets BUS_CONNECT
    ++ both_masters (λ m. unowned_released k (pulls_both m) (write_of m 0x00))
    ++ both_masters (λ m. unowned_released k (pulls_both m) (soft_reset_of (partner m)))
    ++ both_masters (λ m. connected_released k m (pulls_both m) (write_of m 0x05))

-- ---- the one statement: every premise of every row is met

abbrev pub MoreWitnessesMeet : Type 0
MoreWitnessesMeet = (k : Kind) → all_met (blocking_rows k ++ freed_rows k ++ connection_rows k) ≡ true
