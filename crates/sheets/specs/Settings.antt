-- Document 02, request #106: the settings that a complete pair of sheets orders, its twelve events, and what the call that writes them leaves.
-- Assumes nothing.
use Rattle.std.specs.Prelude.{ℕ, ◌+◌, Bool, not, ◌&&◌, ◌||◌, List, [], ◌∷◌, ◌++◌, eqb, ltb, length, drop, if◌then◌else◌, Result, Ok, Err}
use Rattle.arbiter.specs.Words.{worth}
use Rattle.arbiter.specs.Writing.{raws_bytes}
use Rattle.arbiter.specs.Marks.{command, write, stop}
use Rattle.arbiter.specs.declared.Raw.{Raw}
use Rattle.sheets.specs.declared.Fault.{Fault}
use Rattle.sheets.specs.declared.Fault.TheVariants.{Unticked, NoRoom}
use Rattle.sheets.specs.declared.Setting.{Setting}
use Rattle.sheets.specs.declared.Order.{Order}
use Rattle.sheets.specs.Sheets.{OrFault, reserve_section, priority_section, idle_section, box_place, ticked, value_on, check_pair, fault_number}

-- ---- the order

-- complete: each of the six boxes is ticked on one sheet or the other
unfoldable pub ticked_on_either : ℕ → List ℕ → List ℕ → Bool
ticked_on_either place board house = ticked place board || ticked place house

unfoldable pub is_complete : List ℕ → List ℕ → Bool
is_complete board house =
    ticked_on_either (box_place reserve_section 0) board house
    && ticked_on_either (box_place reserve_section 1) board house
    && ticked_on_either (box_place priority_section 0) board house
    && ticked_on_either (box_place priority_section 1) board house
    && ticked_on_either (box_place idle_section 0) board house
    && ticked_on_either (box_place idle_section 1) board house

-- the value of a box ticked on either: "the board sheet's if ticked, else the house sheet's"
unfoldable pub value_at : ℕ → List ℕ → List ℕ → ℕ
value_at place board house = if ticked place board then value_on place board else value_on place house

-- what a complete pair orders for a controller's master, and for both
unfoldable pub setting_of : ℕ → List ℕ → List ℕ → Setting
setting_of controller board house =
    record {
      reserve = value_at (box_place reserve_section controller) board house;
      priority = eqb (value_at (box_place priority_section controller) board house) 1;
      idle = eqb (value_at (box_place idle_section controller) board house) 1;
    }

unfoldable pub order_of : List ℕ → List ℕ → Order
order_of board house = record { master0 = setting_of 0 board house; master1 = setting_of 1 board house }

-- ---- its events: "for master 0, then 1, COMMAND 03h, WRITE of its reserve, STOP, COMMAND 01h, WRITE of 01h plus 80h if priority and 20h
-- if idle, STOP"

unfoldable pub control_byte : Setting → ℕ
control_byte s = 0x01 + worth 0x80 s.priority + worth 0x20 s.idle

abbrev pub setting_events : ℕ → Setting → List Raw
setting_events m s =
    command m 0x03 ∷ write m s.reserve ∷ stop m
    ∷ command m 0x01 ∷ write m (control_byte s) ∷ stop m
    ∷ []

unfoldable pub order_events : Order → List Raw
order_events o = setting_events 0 o.master0 ++ setting_events 1 o.master1

-- twelve, four bytes each
abbrev pub order_count : ℕ
order_count = 12

abbrev pub order_bytes : ℕ
order_bytes = 48

-- the order that a pair of sheets gives, or why it gives none
-- ---- the refusals: those of the two sheets; "then 14 unticked in both"; "For the events 9 comes last, under 48 bytes". `room` is the
-- length of the lent buffer.

unfoldable pub read_complete : List ℕ → List ℕ → ℕ → OrFault Order
read_complete board house room =
    if not (is_complete board house) then Err Unticked
    else if ltb room order_bytes then Err NoRoom
    else Ok (order_of board house)

abbrev pub once_sound : OrFault (Unit {0}) → OrFault Order → OrFault Order
once_sound (Ok tt) read = read
once_sound (Err f) read = Err f

unfoldable pub read_order : List ℕ → List ℕ → ℕ → OrFault Order
read_order board house room = once_sound (check_pair board house) (read_complete board house room)

-- ---- what the call leaves: 0 and twelve events, their bytes at the buffer's front; "a refusal writes nothing"

-- what the call reports beside the events: the number, and how many events there are
pub record Ordered : Type 0 where
  pub number : ℕ
  pub count : ℕ

unfoldable pub ordered_of : OrFault Order → Ordered
ordered_of (Ok o) = record { number = 0; count = order_count }
ordered_of (Err f) = record { number = fault_number f; count = 0 }

unfoldable pub buffer_of : OrFault Order → List ℕ → List ℕ
buffer_of (Ok o) buffer = raws_bytes (order_events o) ++ drop order_bytes buffer
buffer_of (Err f) buffer = buffer

unfoldable pub ordered : List ℕ → List ℕ → List ℕ → Ordered
ordered board house buffer = ordered_of (read_order board house (length buffer))

unfoldable pub ordered_buffer : List ℕ → List ℕ → List ℕ → List ℕ
ordered_buffer board house buffer = buffer_of (read_order board house (length buffer)) buffer

-- ---- what the call hands back: how many events, or why there are none

abbrev pub order_told : Result ℕ Fault → Ordered
order_told (Ok n) = record { number = 0; count = n }
order_told (Err f) = record { number = fault_number f; count = 0 }
