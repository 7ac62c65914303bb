-- Runs that meet the premises of the statements of SettingsKept and WaitAsSet, for both masters of a part of each kind, each with what the statement says
-- of it. proofs/SettingsWitnesses.antt computes them all.
-- Assumes nothing.
use Rattle.std.specs.Prelude.{◌≡◌, ◌+◌, ◌&&◌, ◌∷◌, ◌++◌}
use Rattle.ranges.specs.Names.{ℕ, Bool, true, not, List, [], eqb, ltb, Master, Zero, One, Kind, Device, Raw, Event}
use Rattle.arbiter.specs.Words.{worth, partner, of, side}
use Rattle.arbiter.specs.State.{owns, is_idle}
use Rattle.arbiter.specs.Steps.{run_from, run}
use Rattle.arbiter.specs.AuditWords.{next, requests, resting, reserve_of, is_contr, accepted, reset, ticks_in, never, throughout}
use Rattle.arbiter.specs.Marks.{command, write, pair, tick, reset as pinReset, general_call, sets, times}
use Rattle.arbiter.specs.Witnesses.{number, sets_rt, sets_contr, writes_contr, stop_on, all_met}
use Rattle.audit.specs.WorstWait.{reserves_within, sends_stops}
use Rattle.audit.specs.SettingsKept.{mask_of, is_int_mask, writes_at, byte_by, stores, stores_rt, writes_to_contr, writes_to_mask}
use Rattle.audit.specs.WaitAsSet.{is_within, stores_beyond}

-- ---- what is seen of a master

-- PRIORITY, SMBUS_DIS, IDLE_TIMER_DIS and SMBUS_SWRST as a number, bits 3 to 0
abbrev pub bits_as : Master → Device → ℕ
bits_as m d =
    worth 8 (side m d).contr.priority + worth 4 (side m d).contr.smbusdis + worth 2 (side m d).contr.idletimer
    + worth 1 (side m d).contr.swrst

-- its RT, bits and INT_MSK are these
abbrev pub settings_are : ℕ → ℕ → ℕ → Master → Device → List Bool
settings_are rt bits mask m d = eqb (reserve_of m d) rt ∷ eqb (bits_as m d) bits ∷ eqb (mask_of m d) mask ∷ []

-- ---- one event: the premises of each statement as tests, and what it says

-- m's byte v is stored in its RT, which was another
abbrev pub rt_stored : Kind → Master → List Raw → Raw → ℕ → List Bool
rt_stored k m rs r v =
    let d : Device = run k rs in
    not (eqb (reserve_of m d) v) ∷ accepted (λ (e : Event) (x : Device). stores m e x && eqb (byte_by m e) v) r d ∷ eqb (reserve_of m (next d r)) v ∷ []

-- RT stays, with this value
abbrev pub rt_kept : Kind → Master → List Raw → Raw → ℕ → List Bool
rt_kept k m rs r v =
    let d : Device = run k rs in
    not (reset r d) ∷ not (stores_rt m r d) ∷ eqb (reserve_of m d) v ∷ eqb (reserve_of m (next d r)) v ∷ []

-- m's byte v comes to CONTR, and makes these bits of others
abbrev pub bits_written : Kind → Master → List Raw → Raw → ℕ → ℕ → List Bool
bits_written k m rs r v bits =
    let d : Device = run k rs in
    not (eqb (bits_as m d) bits) ∷ accepted (λ (e : Event) (x : Device). writes_at is_contr m e x && eqb (byte_by m e) v) r d ∷ eqb (bits_as m (next d r)) bits ∷ []

abbrev pub bits_kept : Kind → Master → List Raw → Raw → ℕ → List Bool
bits_kept k m rs r bits =
    let d : Device = run k rs in
    not (reset r d) ∷ not (writes_to_contr m r d) ∷ eqb (bits_as m d) bits ∷ eqb (bits_as m (next d r)) bits ∷ []

abbrev pub mask_written : Kind → Master → List Raw → Raw → ℕ → ℕ → List Bool
mask_written k m rs r v mask =
    let d : Device = run k rs in
    not (eqb (mask_of m d) mask) ∷ accepted (λ (e : Event) (x : Device). writes_at is_int_mask m e x && eqb (byte_by m e) v) r d ∷ eqb (mask_of m (next d r)) mask ∷ []

abbrev pub mask_kept : Kind → Master → List Raw → Raw → ℕ → List Bool
mask_kept k m rs r mask =
    let d : Device = run k rs in
    not (reset r d) ∷ not (writes_to_mask m r d) ∷ eqb (mask_of m d) mask ∷ eqb (mask_of m (next d r)) mask ∷ []

-- RT 50, all four bits set and INT_MSK 00h, and then a reset
abbrev pub settings_reset : Kind → Master → Raw → List Bool
settings_reset k m r =
    let d : Device = run k (sets_rt m 50 ++ sets_contr m 0xF0 ++ sets (number m) 5 0x00) in
    settings_are 50 15 0x00 m d ++ reset r d ∷ settings_are 0 0 0x7F m (next d r)

-- ---- many events

abbrev pub rt_throughout : Kind → Master → List Raw → List Raw → ℕ → List Bool
rt_throughout k m rs later v =
    let d : Device = run k rs in
    eqb (reserve_of m d) v ∷ never reset d later ∷ never (stores_rt m) d later ∷ eqb (reserve_of m (run_from d later)) v ∷ []

abbrev pub bits_throughout : Kind → Master → List Raw → List Raw → ℕ → List Bool
bits_throughout k m rs later bits =
    let d : Device = run k rs in
    eqb (bits_as m d) bits ∷ never reset d later ∷ never (writes_to_contr m) d later ∷ eqb (bits_as m (run_from d later)) bits ∷ []

abbrev pub reserves_kept : Kind → Master → List Raw → List Raw → ℕ → List Bool
reserves_kept k m rs later most =
    let d : Device = run k rs in
    is_within most (reserve_of m d) ∷ never reset d later ∷ never (stores_beyond most m) d later ∷ throughout (reserves_within most m) d later ∷ []

-- with m the owner at some time
abbrev pub both_reserve : Kind → Master → List Raw → List Raw → List Bool
both_reserve k m rs later =
    let d : Device = run k rs in
    not (throughout (λ (x : Device). not (owns m x)) d later) ∷ ltb 0 d.side0.rt ∷ ltb 0 d.side1.rt ∷ never reset d later
    ∷ never (stores_rt Zero) d later ∷ never (stores_rt One) d later ∷ throughout (reserves_within (reserve_of m d) m) d later ∷ []

-- the premises of WaitAsSet, with so many ticks
abbrev pub wait_as_set : Kind → Master → List Raw → List Raw → List Raw → ℕ → ℕ → ℕ → List Bool
wait_as_set k m rs before later most more ticks =
    let p : Master = partner m in
    let start : Device = run k rs in
    let d : Device = run_from start before in
    let end : Device = run_from d later in
    is_within most (reserve_of m start) ∷ eqb start.bus.hold 0 ∷ never reset start (before ++ later) ∷ never (stores_beyond most m) start (before ++ later)
    ∷ eqb (ticks_in d later) ticks ∷ throughout (requests p) d later ∷ sends_stops more m d later ∷ is_idle end.bus ∷ resting p end ∷ []

-- RT 20 is set; later m stores 50, asks, and has not sent its STOP when its partner asks
abbrev pub stores50 : Master → List Raw
stores50 m = sets_rt m 50 ++ writes_contr m 0x01 ++ sets_contr (partner m) 0x01

-- m's STOP comes after a tick, and so many more follow
abbrev pub stops_then : Master → ℕ → List Raw
stops_then m ticks = tick ∷ stop_on m ∷ times ticks tick

-- after 51 ticks its partner owns, and after 50 it still waits
abbrev pub waits_as_set : Kind → Master → List Bool
waits_as_set k m =
    let p : Master = partner m in
    let d : Device = run k (sets_rt m 20 ++ stores50 m) in
    wait_as_set k m (sets_rt m 20) (stores50 m) (stops_then m 50) 50 0 51 ++ owns p (run_from d (stops_then m 50))
    ∷ wait_as_set k m (sets_rt m 20) (stores50 m) (stops_then m 49) 50 0 50 ++ not (owns p (run_from d (stops_then m 49))) ∷ []

-- ---- the rows

-- both ports are open at RT
abbrev pub both_at_rt : List Raw
both_at_rt = command 0 3 ∷ command 1 3 ∷ []

unfoldable pub settings_rows : Kind → Master → List Bool
settings_rows k m =
    let p : Master = partner m in
    -- a WRITE of m's, and its half of a PAIR; a WRITE of the owner's, and one of its partner's
    rt_stored k m (command (number m) 3 ∷ []) (write (number m) 50) 50
    ++ rt_stored k m both_at_rt (pair (of m 50 7) (of m 7 50)) 50
    ++ rt_kept k m (sets_rt m 50 ++ sets_contr m 0x01 ++ command (number m) 3 ∷ []) (write (number m) 20) 50
    ++ rt_kept k m (sets_rt m 50 ++ command (number p) 3 ∷ []) (write (number p) 20) 50
    -- the tick at which m loses, with BUS_CONNECT and LOCK_REQ
    ++ bits_written k m (command (number m) 1 ∷ []) (write (number m) 0xB0) 0xB0 11
    ++ bits_kept k m (sets_rt m 1 ++ sets_contr m 0xE5) tick 14
    ++ bits_kept k m (sets_contr m 0xE0 ++ command (number p) 1 ∷ []) (write (number p) 0x10) 14
    ++ mask_written k m (command (number m) 5 ∷ []) (write (number m) 0xF9) 0xF9 0x79
    ++ mask_kept k m (sets (number m) 5 0x79 ++ command (number p) 5 ∷ []) (write (number p) 0x00) 0x79
    ++ settings_reset k m pinReset
    ++ settings_reset k m (general_call (number p) 0x06)
    -- RT 20 sent as the owner, another of the partner's, and the loss
    ++ rt_throughout k m (sets_rt m 50) (sets_contr m 0x01 ++ sets_rt m 20 ++ sets_rt p 7 ++ sets_contr p 0x01 ++ times 60 tick) 50
    ++ bits_throughout k m (sets_contr m 0xA1) (sets_contr p 0x51 ++ times 160 tick) 10
    -- RT 20, then 50, and 1 after the loss
    ++ reserves_kept k m (sets_rt m 20) (sets_rt m 50 ++ sets_contr m 0x01 ++ times 60 tick ++ sets_rt m 1 ++ sets_contr m 0x01) 50
    ++ both_reserve k m (sets_rt m 20 ++ sets_rt p 30) (sets_contr m 0x01 ++ sets_contr p 0x01 ++ sets_rt m 5 ++ times 60 tick)
    ++ waits_as_set k m

abbrev pub SettingsWitnessesMeet : Type 0
SettingsWitnessesMeet = (k : Kind) (m : Master) → all_met (settings_rows k m) ≡ true
