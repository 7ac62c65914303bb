-- For every field of the device record (Ranges) and each kind of part, a run along which it takes every value of its range: the ranges are
-- no wider than runs reach. proofs/RangeWitnesses.antt computes them all.
-- Assumes nothing.
use Rattle.std.specs.Prelude.{◌≤◌, ◌≡◌, ◌-◌, ◌&&◌, ◌∷◌, ◌++◌, if◌then◌else◌}
use Rattle.ranges.specs.Names.{ℕ, zero, suc, Bool, true, false, List, [], eqb, get_or, Master, Zero, One, Kind, Device, Raw}
use Rattle.arbiter.specs.Rules.{limit_of}
use Rattle.arbiter.specs.Words.{partner}
use Rattle.arbiter.specs.Effects.{power_up}
use Rattle.arbiter.specs.Steps.{run}
use Rattle.arbiter.specs.AuditWords.{next}
use Rattle.arbiter.specs.Marks.{command, write, read, stop, pair, lines, tick, pulse, reset, general_call, sets, times}
use Rattle.arbiter.specs.Witnesses.{number}
use Rattle.ranges.specs.Ranges.{Field, narrow, bytes, choices, are_bytes}

-- ---- what is shown: for each value of the range a run of events in bytes after which the field has it

abbrev pub Reached : Kind → Field → Type 0
Reached k f = (v : ℕ) → v ≤ f.top k → (rs : List Raw) × (are_bytes rs ≡ true) × (f.value (run k rs) ≡ v)

abbrev pub AllReached : Kind → List Field → Type 0
AllReached k [] = Unit {0}
AllReached k (f ∷ fs) = Reached k f × AllReached k fs

abbrev pub EveryValueReached : Type 0
EveryValueReached = (k : Kind) → AllReached k (narrow ++ bytes ++ choices)

-- ---- how: along one run the field takes 0, then 1, and so on; or its top, then one less, and so on

pub data Way : Type 0 where
  rises : List Raw → Way
  falls : List Raw → Way

-- how many of the wanted values have been met, where i were and the field now is n
abbrev pub met : (ℕ → ℕ) → ℕ → ℕ → ℕ
met want n i = if eqb n (want i) then suc i else i

unfoldable pub met_along : (ℕ → ℕ) → (Device → ℕ) → ℕ → Device → List Raw → ℕ
met_along want value i d [] = met want (value d) i
met_along want value i d (r ∷ rs) = met_along want value (met want (value d) i) (next d r) rs

-- all have been met, along events in bytes
abbrev pub meets_all : (ℕ → ℕ) → Kind → Field → List Raw → Bool
meets_all want k f rs = eqb (met_along want f.value 0 (power_up k) rs) (suc (f.top k)) && are_bytes rs

abbrev pub covers : Kind → Field → Way → Bool
covers k f (rises rs) = meets_all (λ (i : ℕ). i) k f rs
covers k f (falls rs) = meets_all (λ (i : ℕ). f.top k - i) k f rs

-- one way for each field
unfoldable pub all_cover : Kind → List Field → List Way → Bool
all_cover k [] [] = true
all_cover k [] (w ∷ ws) = false
all_cover k (f ∷ fs) [] = false
all_cover k (f ∷ fs) (w ∷ ws) = covers k f w && all_cover k fs ws

-- ---- the runs, in the order of the fields

-- so many lists of events, by a number that rises from 0
abbrev pub rising : ℕ → ℕ → (ℕ → List Raw) → List Raw
rising n zero to = []
rising n (suc more) to = to n ++ rising (suc n) more to

abbrev pub each : ℕ → (ℕ → List Raw) → List Raw
each many to = rising 0 many to

-- from a pin reset with all outside levels 1
abbrev pub anew : List Raw → List Raw
anew rs = lines 1 1 1 ∷ reset ∷ rs

-- every interrupt of m, with RT 1: a grant lost at the first tick, a fall of INT_IN, the test; then m sends mail and empties its own box,
-- and its partner sends mail and empties its own
abbrev pub all_ints : Master → List Raw
all_ints m =
    let n : ℕ = number m in
    let p : ℕ = number (partner m) in
    sets n 1 0x01
    ++ tick ∷ lines 1 1 1 ∷ lines 1 1 0 ∷ command n 2 ∷ write n 0x20 ∷ command n 7 ∷ write n 9 ∷ read n ∷ command p 7 ∷ write p 9 ∷ read p ∷ []

-- all interrupts and then all but v cleared; each mask
abbrev pub side_narrow_ways : Master → List Way
side_narrow_ways m =
    let n : ℕ = number m in
    rises (sets n 3 1 ++ each 64 (λ v. all_ints m ++ command n 4 ∷ write n (63 - v) ∷ []))
    ∷ rises (command n 5 ∷ each 128 (λ v. write n v ∷ []))
    ∷ []

-- a soft reset of master 0 with SMBUS_SWRST; an idle bus; SCL low; SDA low; an initialisation that fails
abbrev pub shared_narrow_ways : Kind → List Way
shared_narrow_ways k =
    falls (sets 0 1 0x10 ++ general_call 0 0x06 ∷ times 35 tick)
    ∷ rises (times (limit_of k) tick)
    ∷ rises (lines 0 1 1 ∷ times 500 tick)
    ∷ rises (lines 1 0 1 ∷ times 501 tick)
    ∷ rises (sets 0 1 0x0D ++ times 9 (pulse 0))
    ∷ []

-- each RT; each low byte of mail; each high byte, the box emptied after it
abbrev pub side_bytes_ways : Master → List Way
side_bytes_ways m =
    let n : ℕ = number m in
    let p : ℕ = number (partner m) in
    rises (command n 3 ∷ each 256 (λ v. write n v ∷ []))
    ∷ rises (command p 6 ∷ each 256 (λ v. write p v ∷ []))
    ∷ rises (command p 7 ∷ command n 7 ∷ each 256 (λ v. write p v ∷ read n ∷ []))
    ∷ []

-- a grant of master 0 with a reserve of 255, and as many ticks
abbrev pub reserve_way : Way
reserve_way = falls (sets 0 3 255 ++ sets 0 1 0x01 ++ times 255 tick)

-- a bit of CONTR written 1
abbrev pub contr_run : Master → ℕ → List Raw
contr_run m v = command (number m) 1 ∷ write (number m) v ∷ []

abbrev pub contr_way : Master → ℕ → Way
contr_way m v = rises (contr_run m v)

abbrev pub side_choices_ways : Master → List Way
side_choices_ways m =
    let n : ℕ = number m in
    let p : ℕ = number (partner m) in
    rises (each 8 (λ v. command n v ∷ []))
    ∷ contr_way m 0x80
    ∷ contr_way m 0x40
    ∷ contr_way m 0x20
    ∷ contr_way m 0x10
    ∷ contr_way m 0x08
    ∷ contr_way m 0x04
    ∷ contr_way m 0x01
    ∷ rises (sets p 7 9)
    ∷ rises (command n 0x80 ∷ [])
    ∷ rises (command n 8 ∷ command n 0 ∷ [])
    ∷ []

-- a drive pulled low by master 0, which owns
abbrev pub drive_run : ℕ → List Raw
drive_run v = sets 0 1 0x01 ++ command 0 2 ∷ write 0 v ∷ []

-- master 0 asks alone, has priority, and is not the last granted; so master 1; each of them once more with its STOP
abbrev pub turn_runs : List (List Raw)
turn_runs =
    let both : List Raw = command 0 1 ∷ command 1 1 ∷ [] in
    []
    ∷ contr_run Zero 0x01
    ∷ (both ++ pair 0x81 0x01 ∷ [])
    ∷ (both ++ pair 0x01 0x01 ∷ [])
    ∷ contr_run One 0x01
    ∷ (both ++ pair 0x01 0x81 ∷ [])
    ∷ (both ++ pair 0x81 0x81 ∷ [])
    ∷ sets 0 1 0x01
    ∷ (both ++ pair 0x81 0x01 ∷ stop 0 ∷ [])
    ∷ (both ++ pair 0x01 0x01 ∷ stop 0 ∷ [])
    ∷ sets 1 1 0x01
    ∷ (both ++ pair 0x01 0x81 ∷ stop 1 ∷ [])
    ∷ (both ++ pair 0x81 0x81 ∷ stop 1 ∷ [])
    ∷ []

-- the switch closed for master 0 and for master 1, and then an initialisation of each
abbrev pub switch_run : List Raw
switch_run =
    sets 0 1 0x05 ++ anew (sets 1 1 0x05) ++ anew (sets 0 1 0x0D ++ times 8 (pulse 0)) ++ anew (sets 1 1 0x0D ++ times 8 (pulse 0))

abbrev pub shared_choices_ways : List Way
shared_choices_ways =
    falls (lines 0 1 1 ∷ [])
    ∷ falls (lines 1 0 1 ∷ [])
    ∷ falls (lines 1 1 0 ∷ [])
    ∷ falls (drive_run 0x80)
    ∷ falls (drive_run 0x40)
    ∷ rises (lines 1 0 1 ∷ [])
    ∷ rises (sets 0 1 0x0D ++ times 9 (pulse 0))
    ∷ rises (sets 0 1 0x01 ++ sets 0 1 0x00 ++ sets 1 1 0x01)
    ∷ rises (each 13 (λ v. anew (get_or turn_runs v [])))
    ∷ rises switch_run
    ∷ []

abbrev pub ways_of : Kind → List Way
ways_of k =
    side_narrow_ways Zero ++ side_narrow_ways One ++ shared_narrow_ways k
    ++ (side_bytes_ways Zero ++ side_bytes_ways One ++ reserve_way ∷ [])
    ++ (side_choices_ways Zero ++ side_choices_ways One ++ shared_choices_ways)

-- ---- the one statement: every field takes every value of its range

abbrev pub AllCover : Type 0
AllCover = (k : Kind) → all_cover k (narrow ++ bytes ++ choices) (ways_of k) ≡ true
