-- Document 02, request #106: what bytes are a sheet, with the refusals in their order, and the looking up of a box on two sheets.
-- Assumes nothing.
use Rattle.std.specs.Prelude.{ℕ, ◌+◌, ◌*◌, Bool, not, ◌&&◌, ◌||◌, List, [], eqb, ltb, length, take, drop, if◌then◌else◌, Result, Ok, Err}
use Rattle.arbiter.specs.Events.{zero_or_one}
use Rattle.arbiter.specs.Traces.{byte_at}
use Rattle.sheets.specs.declared.Fault.{Fault}
use Rattle.sheets.specs.declared.Fault.TheVariants.{TooShort, WrongCount, BadBox, BytesAfterEnd, NoSuchBox, Unticked, NoRoom}
use Rattle.sheets.specs.declared.Place.{Place}
use Rattle.sheets.specs.declared.Place.TheVariants.{Board, House}

-- ---- the sheet: "three sections in order, each after its count byte 2: reserve boxes, priority boxes, idle boxes, one for each controller.
-- A box is two bytes, ticked (0 or 1) and value". Sections count from 0, and so do controllers.

abbrev pub reserve_section : ℕ
reserve_section = 0

abbrev pub priority_section : ℕ
priority_section = 1

abbrev pub idle_section : ℕ
idle_section = 2

abbrev pub sheet_bytes : ℕ
sheet_bytes = 15

-- where a section's count byte stands, and where a controller's box starts
abbrev pub count_place : ℕ → ℕ
count_place section = 5 * section

abbrev pub box_place : ℕ → ℕ → ℕ
box_place section controller = 5 * section + 1 + 2 * controller

-- the box that starts at this place: whether it is ticked, and its value
abbrev pub ticked : ℕ → List ℕ → Bool
ticked place sheet = eqb (byte_at place sheet) 1

abbrev pub value_on : ℕ → List ℕ → ℕ
value_on place sheet = byte_at (place + 1) sheet

-- what is found, or why it is refused: of bytes as a sheet or two of them as a pair, of a box, of an order
abbrev pub OrFault : Type 0 → Type 0
OrFault A = Result A Fault

-- ---- which bytes are a sheet

-- "each after its count byte 2"
abbrev pub count_is2 : ℕ → List ℕ → Bool
count_is2 section sheet = eqb (byte_at (count_place section) sheet) 2

unfoldable pub counts_right : List ℕ → Bool
counts_right sheet = count_is2 reserve_section sheet && count_is2 priority_section sheet && count_is2 idle_section sheet

-- "ticked (0 or 1) .., a reserve is any byte, and an unticked box has value 0"
unfoldable pub box_right : ℕ → List ℕ → Bool
box_right place sheet = zero_or_one (byte_at place sheet) && (ticked place sheet || eqb (value_on place sheet) 0)

-- "priority and idle values are 0 or 1"
unfoldable pub flag_right : ℕ → List ℕ → Bool
flag_right place sheet = box_right place sheet && zero_or_one (value_on place sheet)

unfoldable pub boxes_right : List ℕ → Bool
boxes_right sheet =
    box_right (box_place reserve_section 0) sheet
    && box_right (box_place reserve_section 1) sheet
    && flag_right (box_place priority_section 0) sheet
    && flag_right (box_place priority_section 1) sheet
    && flag_right (box_place idle_section 0) sheet
    && flag_right (box_place idle_section 1) sheet

-- "Refusals, in order: 5 under 15 bytes, 10 wrong count, 3 a tick or value out of range or an unticked value not 0, 7 bytes after the end"
unfoldable pub check_sheet : List ℕ → OrFault (Unit {0})
check_sheet sheet =
    if ltb (length sheet) sheet_bytes then Err TooShort
    else if not (counts_right sheet) then Err WrongCount
    else if not (boxes_right sheet) then Err BadBox
    else if ltb sheet_bytes (length sheet) then Err BytesAfterEnd
    else Ok tt

-- "board sheet first", and then all of the house sheet
abbrev pub and_then : OrFault (Unit {0}) → OrFault (Unit {0}) → OrFault (Unit {0})
and_then (Ok tt) second = second
and_then (Err f) second = Err f

unfoldable pub check_pair : List ℕ → List ℕ → OrFault (Unit {0})
check_pair board house = and_then (check_sheet board) (check_sheet house)

-- ---- looking up a box

-- "Looking up a box takes the board sheet's if ticked, else the house sheet's"; "14 unticked in both"
unfoldable pub place_at : ℕ → List ℕ → List ℕ → OrFault Place
place_at place board house =
    if ticked place board then Ok (Board place)
    else if ticked place house then Ok (House place)
    else Err Unticked

abbrev pub is_box : ℕ → ℕ → Bool
is_box section controller = ltb section 3 && ltb controller 2

-- "then 15 no such section or controller"
unfoldable pub box_on : ℕ → ℕ → List ℕ → List ℕ → OrFault Place
box_on section controller board house =
    if is_box section controller then place_at (box_place section controller) board house else Err NoSuchBox

abbrev pub once_checked : OrFault (Unit {0}) → OrFault Place → OrFault Place
once_checked (Ok tt) found = found
once_checked (Err f) found = Err f

-- where the box of a section and a controller is taken from
unfoldable pub place_of : ℕ → ℕ → List ℕ → List ℕ → OrFault Place
place_of section controller board house = once_checked (check_pair board house) (box_on section controller board house)

-- ---- the paper's numbers: "5 under 15 bytes, 10 wrong count, 3 a tick or value out of range .., 7 bytes after the end ..; 15 no such section
-- or controller, then 14 unticked in both"; "9 .., under 48 bytes"

abbrev pub fault_number : Fault → ℕ
fault_number TooShort = 5
fault_number WrongCount = 10
fault_number BadBox = 3
fault_number BytesAfterEnd = 7
fault_number NoSuchBox = 15
fault_number Unticked = 14
fault_number NoRoom = 9

abbrev pub checked_number : OrFault (Unit {0}) → ℕ
checked_number (Ok tt) = 0
checked_number (Err f) = fault_number f

abbrev pub place_number : OrFault Place → ℕ
place_number (Ok (Board at)) = 0
place_number (Ok (House at)) = 0
place_number (Err f) = fault_number f

-- the same, said of the bytes: the first refusal that is due, or 0
abbrev pub first_refusal : ℕ → ℕ → ℕ
first_refusal n later = if eqb n 0 then later else n

unfoldable pub sheet_number : List ℕ → ℕ
sheet_number sheet =
    if ltb (length sheet) sheet_bytes then 5
    else if not (counts_right sheet) then 10
    else if not (boxes_right sheet) then 3
    else if ltb sheet_bytes (length sheet) then 7
    else 0

unfoldable pub pair_number : List ℕ → List ℕ → ℕ
pair_number board house = first_refusal (sheet_number board) (sheet_number house)

unfoldable pub box_number : ℕ → ℕ → List ℕ → List ℕ → ℕ
box_number section controller board house =
    let place : ℕ = box_place section controller in
    if not (is_box section controller) then 15
    else if not (ticked place board || ticked place house) then 14
    else 0

unfoldable pub look_up_number : ℕ → ℕ → List ℕ → List ℕ → ℕ
look_up_number section controller board house = first_refusal (pair_number board house) (box_number section controller board house)

-- ---- the part that is handed back: "that box's part of the sheet it came from"; on a refusal it is "empty, the front of the board sheet"

-- its bytes, tick and value
abbrev pub box_bytes : ℕ
box_bytes = 2

unfoldable pub part_of : OrFault Place → List ℕ → List ℕ → List ℕ
part_of (Ok (Board at)) board house = take box_bytes (drop at board)
part_of (Ok (House at)) board house = take box_bytes (drop at house)
part_of (Err f) board house = []

-- where it starts. A pointer is a block of memory and a place in it, so this says of which sheet the part is, and from which byte on.
unfoldable pub start_of : OrFault Place → ℕ × ℕ → ℕ × ℕ → ℕ × ℕ
start_of (Ok (Board at)) board house = (board.0, at + board.1)
start_of (Ok (House at)) board house = (house.0, at + house.1)
start_of (Err f) board house = board
