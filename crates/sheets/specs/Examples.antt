-- Small pairs of sheets, with what is found on them, the events of one and the waits by several, as tables that antt computes: proofs/Examples.antt.
-- Assumes nothing.
use Rattle.std.specs.Prelude.{ℕ, ◌≡◌, List, [], ◌∷◌, ◌++◌, map, take, drop, replicate}
use Rattle.sheets.specs.declared.Place.{Place}
use Rattle.sheets.specs.Sheets.{OrFault, place_of, place_number, part_of}
use Rattle.sheets.specs.Settings.{ordered, ordered_buffer}
use Rattle.sheets.specs.Waits.{Wait, wait_of}

-- ---- sheets

-- a ticked box, and an empty one
abbrev pub filled : ℕ → List ℕ
filled value = 1 ∷ value ∷ []

abbrev pub empty : List ℕ
empty = 0 ∷ 0 ∷ []

-- the reserve boxes of controllers 0 and 1, their priority boxes, their idle boxes
abbrev pub sheet : List ℕ → List ℕ → List ℕ → List ℕ → List ℕ → List ℕ → List ℕ
sheet r0 r1 p0 p1 i0 i1 = (2 ∷ r0 ++ r1) ++ (2 ∷ p0 ++ p1) ++ (2 ∷ i0 ++ i1)

abbrev pub board : List ℕ
board = sheet (filled 30) empty (filled 0) empty (filled 1) empty

abbrev pub house : List ℕ
house = sheet (filled 50) (filled 20) (filled 1) (filled 1) (filled 0) (filled 1)

-- the sheet of the incident: every box filled in but the first reserve
abbrev pub box14_empty : List ℕ
box14_empty = sheet empty (filled 20) (filled 1) (filled 1) (filled 0) (filled 1)

abbrev pub bare : List ℕ
bare = sheet empty empty empty empty empty empty

-- ---- a box looked up: its number and its part

pub record Row : Type 0 where
  pub found : ℕ × List ℕ
  pub paper : ℕ × List ℕ

abbrev pub row : ℕ → ℕ → List ℕ → List ℕ → ℕ → List ℕ → Row
row section controller b h number part =
    let place : OrFault Place = place_of section controller b h in
    record { found = (place_number place, part_of place b h); paper = (number, part) }

unfoldable pub lookups : List Row
lookups =
    -- the board sheet's box if ticked, also with 0; else the house sheet's
    row 0 0 board house 0 (filled 30)
    ∷ row 1 0 board house 0 (filled 0)
    ∷ row 0 1 board house 0 (filled 20)
    ∷ row 2 1 board house 0 (filled 1)
    ∷ row 0 0 (sheet (filled 0) empty empty empty empty empty) house 0 (filled 0)
    -- unticked in both: 14, and the other boxes are found as before
    ∷ row 0 0 box14_empty bare 14 []
    ∷ row 0 1 box14_empty bare 0 (filled 20)
    -- no such section or controller: 15, before 14
    ∷ row 3 0 board house 15 []
    ∷ row 0 2 bare bare 15 []
    -- 14 bytes; a count of 3; a tick of 2, a priority of 2, an unticked value; 16 bytes
    ∷ row 0 0 (take 14 board) house 5 []
    ∷ row 0 0 (3 ∷ drop 1 board) house 10 []
    ∷ row 0 0 board (sheet (2 ∷ 50 ∷ []) empty empty empty empty empty) 3 []
    ∷ row 0 0 board (sheet empty empty (filled 2) empty empty empty) 3 []
    ∷ row 0 0 board (sheet (0 ∷ 50 ∷ []) empty empty empty empty empty) 3 []
    ∷ row 0 0 board (house ++ 0 ∷ []) 7 []
    -- within a sheet in this order, the board sheet first, and both before 15
    ∷ row 0 0 (3 ∷ 7 ∷ drop 2 board) house 10 []
    ∷ row 0 0 (2 ∷ 7 ∷ drop 2 board ++ 0 ∷ []) house 3 []
    ∷ row 0 0 (board ++ 0 ∷ []) [] 7 []
    ∷ row 3 2 board [] 5 []
    ∷ []

-- ---- events

-- master 0: reserve 30, idle; master 1: reserve 20, priority and idle
abbrev pub events : List ℕ
events =
    (0 ∷ 0 ∷ 0x03 ∷ 0 ∷ []) ++ (1 ∷ 0 ∷ 30 ∷ 0 ∷ []) ++ (3 ∷ 0 ∷ 0 ∷ 0 ∷ [])
    ++ (0 ∷ 0 ∷ 0x01 ∷ 0 ∷ []) ++ (1 ∷ 0 ∷ 0x21 ∷ 0 ∷ []) ++ (3 ∷ 0 ∷ 0 ∷ 0 ∷ [])
    ++ (0 ∷ 1 ∷ 0x03 ∷ 0 ∷ []) ++ (1 ∷ 1 ∷ 20 ∷ 0 ∷ []) ++ (3 ∷ 1 ∷ 0 ∷ 0 ∷ [])
    ++ (0 ∷ 1 ∷ 0x01 ∷ 0 ∷ []) ++ (1 ∷ 1 ∷ 0xA1 ∷ 0 ∷ []) ++ (3 ∷ 1 ∷ 0 ∷ 0 ∷ [])

-- what the call reports with so much room, and what it leaves in a buffer of 9s
pub record Call : Type 0 where
  pub found : ℕ × ℕ × List ℕ
  pub paper : ℕ × ℕ × List ℕ

abbrev pub nines : ℕ → List ℕ
nines n = replicate n 9

abbrev pub call : List ℕ → List ℕ → ℕ → ℕ → ℕ → List ℕ → Call
call b h room number count buffer =
    record {
      found = ((ordered b h (nines room)).number, (ordered b h (nines room)).count, ordered_buffer b h (nines room));
      paper = (number, count, buffer);
    }

unfoldable pub calls : List Call
calls =
    -- a complete pair, with the room exact and with a byte more, which stays
    call board house 48 0 12 events
    ∷ call board house 49 0 12 (events ++ nines 1)
    -- an empty box 14, and no room: 14 comes first; no room alone; a faulty sheet before both
    ∷ call box14_empty bare 48 14 0 (nines 48)
    ∷ call box14_empty bare 47 14 0 (nines 47)
    ∷ call board house 47 9 0 (nines 47)
    ∷ call bare (take 14 house) 0 5 0 []
    ∷ []

-- ---- waits

-- by these sheets, of a controller, on a part of this kind: number, grade and ticks
pub record Told : Type 0 where
  pub found : Wait
  pub paper : Wait

abbrev pub told : List ℕ → List ℕ → ℕ → ℕ → ℕ → ℕ → ℕ → Told
told b h controller kind number grade ticks =
    record { found = wait_of controller kind b h; paper = record { number = number; grade = grade; ticks = ticks } }

-- this reserve and idle setting for controller 0, and 20 with the idle timer on for controller 1
abbrev pub holding : List ℕ → List ℕ → List ℕ
holding reserve idle = sheet reserve (filled 20) (filled 1) (filled 1) idle (filled 1)

unfoldable pub waits : List Told
waits =
    -- each controller waits behind the other's box: the board sheet's 30, the house sheet's 20
    told board house 1 0 0 1 31
    ∷ told board house 0 0 0 1 21
    ∷ told board house 1 1 0 1 31
    -- the least and the most reserve, whatever the idle box says
    ∷ told (holding (filled 1) (filled 0)) bare 1 0 0 1 2
    ∷ told (holding (filled 255) (filled 1)) bare 1 1 0 1 256
    -- 00h: the idle limit of the part with the idle timer on, and no figure with it off
    ∷ told (holding (filled 0) (filled 1)) bare 1 0 0 2 101
    ∷ told (holding (filled 0) (filled 1)) bare 1 1 0 2 151
    ∷ told (holding (filled 0) (filled 0)) bare 1 0 0 3 0
    ∷ told (holding (filled 0) (filled 0)) bare 0 0 0 1 21
    -- an empty box: 14, and of the controller behind whom the boxes are whole too
    ∷ told box14_empty bare 1 0 14 0 0
    ∷ told box14_empty bare 0 0 14 0 0
    -- no such controller before no such kind, that before an empty box, and a faulty sheet before all
    ∷ told box14_empty bare 2 2 15 0 0
    ∷ told box14_empty bare 1 2 3 0 0
    ∷ told board (take 14 house) 2 2 5 0 0
    ∷ []

-- ---- the one statement

abbrev pub ExamplesHold : Type 0
ExamplesHold =
    (map (λ (r : Row). r.found) lookups ≡ map (λ (r : Row). r.paper) lookups)
    × (map (λ (c : Call). c.found) calls ≡ map (λ (c : Call). c.paper) calls)
    × (map (λ (t : Told). t.found) waits ≡ map (λ (t : Told). t.paper) waits)
