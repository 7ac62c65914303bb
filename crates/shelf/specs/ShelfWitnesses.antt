-- Shelves and events that meet the premises of the statements of Runs: a shelf of two, with a part of each kind, looked at from either place, for
-- both masters there. proofs/ShelfWitnesses.antt computes them all.
-- Assumes nothing.
use Rattle.std.specs.Prelude.{◌+◌, ◌-◌, ◌≡◌, ◌∷◌, ◌++◌, if◌then◌else◌}
use Rattle.arbiter.specs.Words.{partner}
use Rattle.arbiter.specs.State.{connected, is_idle}
use Rattle.arbiter.specs.Events.{decode}
use Rattle.arbiter.specs.Steps.{run_from}
use Rattle.arbiter.specs.AuditWords.{next, requests, resting, reserve_of, reset, tick, withdrawal_of, stop_of, grant_taken, grant_ended, ticks_in, never, throughout}
use Rattle.arbiter.specs.Marks.{raw, command, write, lines, tick as aTick, times}
use Rattle.arbiter.specs.Witnesses.{number, sets_rt, sets_contr, writes_contr, stop_on, both_masters, all_met}
use Rattle.arbiter.specs.declared.Master.{Master}
use Rattle.arbiter.specs.declared.Master.TheVariants.{Zero}
use Rattle.arbiter.specs.declared.Kind.TheVariants.{Tpt29641}
use Rattle.arbiter.specs.declared.Unread.TheVariants.{UnknownKind}
use Rattle.shelf.specs.Names.{ℕ, Bool, true, false, not, List, [], eqb, ltb, length, Pca9641, Device, Raw, Record, NotInRow, At, Everyone, Ok, Err}
use Rattle.shelf.specs.Shelf.{addresses_of, device_at, reaches, reaches_place}
use Rattle.shelf.specs.Runs.{Named, Slot, shelf_after, reached_at, reaches_at, answers_at}
use Rattle.shelf.specs.Examples.{at}

-- ---- the shelves

-- 70h and 71h, a part of each kind; and the same two in the other order
abbrev pub pca : Slot
pca = record { address = 0x70; kind = Pca9641 }

abbrev pub tpt : Slot
tpt = record { address = 0x71; kind = Tpt29641 }

abbrev pub two : List Slot
two = pca ∷ tpt ∷ []

abbrev pub turned : List Slot
turned = tpt ∷ pca ∷ []

-- the address of place i of the first, and that of the other place
abbrev pub here : ℕ → ℕ
here i = 0x70 + i

abbrev pub there : ℕ → ℕ
there i = if eqb i 0 then 0x71 else 0x70

abbrev pub named : ℕ → Raw → Named
named name r = record { name = name; event = r }

-- ---- one event: a COMMAND to 71h, after master 0 there has asked for the bus

abbrev pub used : List Slot → List Record
used slots = shelf_after slots (at 0x71 (sets_contr Zero 0x05))

-- It reaches the one place and not the other, on both shelves, and the devices there are equal. One to 33h is refused. Bytes of no kind reach all.
abbrev pub OneEventMet : Type 0
OneEventMet =
    (reaches_place 0 (reaches (addresses_of (used two)) 0x71 (command 0 1)) ≡ false)
    × (reaches_place 1 (reaches (addresses_of (used two)) 0x71 (command 0 1)) ≡ true)
    × (reaches (addresses_of (used two)) 0x71 (command 0 1) ≡ Ok (At 1))
    × (reaches (addresses_of (used turned)) 0x71 (command 0 1) ≡ Ok (At 0))
    × (device_at (used two) 1 ≡ device_at (used turned) 0)
    × (reaches (addresses_of (used two)) 0x33 (command 0 1) ≡ Err NotInRow)
    × (decode (raw 77 0 0 0) ≡ Err UnknownKind)
    × (reaches (addresses_of (used two)) 0 (raw 77 0 0 0) ≡ Ok Everyone)

-- ---- a run of the first shelf: the premises of each statement, in its order, as tests

abbrev pub answer_at_place : ℕ → Named → List Bool
answer_at_place i e = ltb i (length two) ∷ answers_at i two e ∷ []

abbrev pub one_connected_at_place : ℕ → Master → List Named → List Bool
one_connected_at_place i m es = ltb i (length two) ∷ connected m (device_at (shelf_after two es) i) ∷ []

abbrev pub later_at_place : ℕ → Named → List Bool
later_at_place i e = ltb i (length two) ∷ reaches_at i two e ∷ []

abbrev pub reserve_lasts_at_place : ℕ → Master → List Named → Named → List Named → List Bool
reserve_lasts_at_place i m es e later =
    let before : Device = device_at (shelf_after two es) i in
    let d : Device = next before e.event in
    let rs : List Raw = reached_at i two later in
    ltb i (length two) ∷ reaches_at i two e ∷ grant_taken m e.event before ∷ ltb (ticks_in d rs) (reserve_of m d)
    ∷ never reset d rs ∷ never (withdrawal_of m) d rs ∷ []

abbrev pub partner_in_time_at_place : ℕ → Master → List Named → Named → List Named → Named → List Bool
partner_in_time_at_place i m es e later t =
    let before : Device = device_at (shelf_after two es) i in
    let d : Device = next before e.event in
    let rs : List Raw = reached_at i two later in
    let end : Device = device_at (shelf_after two (es ++ e ∷ (later ++ t ∷ []))) i in
    ltb i (length two) ∷ reaches_at i two e ∷ reaches_at i two t ∷ grant_taken m e.event before ∷ eqb (ticks_in d rs + 1) (reserve_of m d)
    ∷ tick t.event (run_from d rs) ∷ never reset d rs ∷ never (withdrawal_of m) d rs
    ∷ requests (partner m) end ∷ is_idle end.bus ∷ resting (partner m) end
    -- and for the second form: its request stands throughout
    ∷ throughout (requests (partner m)) d (rs ++ t.event ∷ []) ∷ []

abbrev pub partner_next_at_place : ℕ → Master → List Named → Named → List Bool
partner_next_at_place i m es e =
    let before : Device = device_at (shelf_after two es) i in
    ltb i (length two) ∷ reaches_at i two e ∷ grant_ended m e.event before ∷ not (reset e.event before)
    ∷ requests (partner m) (device_at (shelf_after two (es ++ e ∷ [])) i) ∷ []

-- next, its port open: it waits over `later`, and s is its STOP
abbrev pub next_at_stop : ℕ → Master → List Named → Named → List Named → Named → List Bool
next_at_stop i m es e later s =
    let d : Device = device_at (shelf_after two (es ++ e ∷ [])) i in
    let p : Master = partner m in
    let rs : List Raw = reached_at i two later in
    not (resting p d) ∷ never reset d rs ∷ never (withdrawal_of p) d rs ∷ never (stop_of p) d rs
    ∷ reaches_at i two s ∷ stop_of p s.event (run_from d rs) ∷ partner_next_at_place i m es e

-- ---- events

-- at place i: m takes the bus with RT 50 at its STOP, while its partner asks
abbrev pub contended : ℕ → Master → List Named
contended i m = at (here i) (sets_rt m 50 ++ writes_contr m 0x01 ++ sets_contr (partner m) 0x81)

-- 49 ticks, with a grant and a withdrawal of m's at the other place, and its line low
abbrev pub elsewhere : ℕ → Master → List Named
elsewhere i m =
    at (there i) (sets_contr m 0x05) ++ at 0 (times 20 aTick) ++ at (there i) (sets_contr m 0x00)
    ++ named (1 - i) (lines 1 0 1) ∷ at 0 (times 29 aTick)

-- at place i: m owns and its partner has asked; m's byte at CONTR comes next
abbrev pub owned : ℕ → Master → List Raw → List Named
owned i m asks = at (here i) (sets_contr m 0x05 ++ asks ++ command (number m) 1 ∷ [])

-- ---- the rows

abbrev pub at_place : ℕ → List Bool
at_place i =
    answer_at_place i (named (here i) (command 0 1))
    ++ later_at_place i (named (here i) (command 0 1))
    ++ later_at_place i (named 0 aTick)
    ++ both_masters (λ m. one_connected_at_place i m (at (here i) (sets_contr m 0x05)))
    ++ both_masters (λ m. reserve_lasts_at_place i m (contended i m) (named (here i) (stop_on m)) (elsewhere i m))
    ++ both_masters (λ m. partner_in_time_at_place i m (contended i m) (named (here i) (stop_on m)) (elsewhere i m) (named 0 aTick))
    ++ both_masters (λ m. partner_next_at_place i m (owned i m (sets_contr (partner m) 0x81)) (named (here i) (write (number m) 0x00)))
    ++ both_masters
    (λ m. next_at_stop i m (owned i m (writes_contr (partner m) 0x81)) (named (here i) (write (number m) 0x00)) (elsewhere i m)
    (named (here i) (stop_on (partner m))))

unfoldable pub shelf_rows : List Bool
shelf_rows = answer_at_place 0 (named 0 aTick) ++ at_place 0 ++ at_place 1

-- ---- every premise of every row is met

abbrev pub ShelfWitnessesMeet : Type 0
ShelfWitnessesMeet = all_met shelf_rows ≡ true
