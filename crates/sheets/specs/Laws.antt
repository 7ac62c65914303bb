-- Laws of `sheets`: what holds of every pair of sheets: which box is found, that no value comes from a box that is not ticked, and that an empty
-- box yields no event. Each is proved in proofs/, under the same name in small letters.
-- Assumes nothing.
use Rattle.std.specs.Prelude.{ℕ, ◌≡◌, true, false, List, [], ◌∷◌, eqb, length, Ok, Err}
use Rattle.arbiter.specs.Words.{worth}
use Rattle.arbiter.specs.Traces.{raws_in}
use Rattle.sheets.specs.declared.Place.{Place}
use Rattle.sheets.specs.declared.Fault.TheVariants.{Unticked}
use Rattle.sheets.specs.declared.Place.TheVariants.{Board, House}
use Rattle.sheets.specs.declared.Setting.{Setting}
use Rattle.sheets.specs.Sheets.{OrFault, reserve_section, priority_section, idle_section, box_place, ticked, value_on, check_pair, is_box, fault_number, place_of, place_number, box_bytes, part_of}
use Rattle.sheets.specs.Settings.{ticked_on_either, order_of, order_events, order_count, ordered, ordered_buffer}

-- ---- looking up a box

-- A box ticked on the board sheet is what is found, whatever the house sheet says: a ticked 0 too.
abbrev pub BoardFirst : Type 0
BoardFirst =
    (section controller : ℕ) (board house : List ℕ) → let place : ℕ = box_place section controller in
    check_pair board house ≡ Ok tt → is_box section controller ≡ true → ticked place board ≡ true → place_of section controller board house ≡ Ok (Board place)

-- One that is not is the house sheet's, if it is ticked there,
abbrev pub HouseElse : Type 0
HouseElse =
    (section controller : ℕ) (board house : List ℕ) → let place : ℕ = box_place section controller in
    check_pair board house ≡ Ok tt → is_box section controller ≡ true → ticked place board ≡ false → ticked place house ≡ true
    → place_of section controller board house ≡ Ok (House place)

-- and is refused with 14 if it is not. An unticked box never becomes 0.
abbrev pub EmptyRefused : Type 0
EmptyRefused =
    (section controller : ℕ) (board house : List ℕ) → check_pair board house ≡ Ok tt → is_box section controller ≡ true
    → ticked_on_either (box_place section controller) board house ≡ false → place_of section controller board house ≡ Err Unticked

-- What is handed back is the tick 1 and the value that stands beside it on the same sheet, or nothing: over every two byte sequences, no
-- value is handed back that was not ticked on the sheet that it came from.
abbrev pub HandedBack : OrFault Place → List ℕ → List ℕ → Type 0
HandedBack (Ok (Board at)) board house = part_of (Ok (Board at)) board house ≡ 1 ∷ value_on at board ∷ []
HandedBack (Ok (House at)) board house = part_of (Ok (House at)) board house ≡ 1 ∷ value_on at house ∷ []
HandedBack (Err f) board house = part_of (Err f) board house ≡ []

abbrev pub AlwaysTicked : Type 0
AlwaysTicked = (section controller : ℕ) (board house : List ℕ) → HandedBack (place_of section controller board house) board house

-- The number is 0 exactly if a box is handed back.
abbrev pub NumberTells : Type 0
NumberTells =
    (section controller : ℕ) (board house : List ℕ) → let place : OrFault Place = place_of section controller board house in
    eqb (place_number place) 0 ≡ eqb (length (part_of place board house)) box_bytes

-- ---- the events

-- The values of an order are those that the lookup hands back, each ticked. A setting is on where its value is 1.
abbrev pub Handed : ℕ → ℕ → ℕ → List ℕ → List ℕ → Type 0
Handed section controller value board house = part_of (place_of section controller board house) board house ≡ 1 ∷ value ∷ []

abbrev pub SettingFound : ℕ → Setting → List ℕ → List ℕ → Type 0
SettingFound controller s board house =
    Handed reserve_section controller s.reserve board house
    × Handed priority_section controller (worth 1 s.priority) board house
    × Handed idle_section controller (worth 1 s.idle) board house

abbrev pub OrderFound : Type 0
OrderFound =
    (board house buffer : List ℕ) → (ordered board house buffer).number ≡ 0
    → SettingFound 0 (order_of board house).master0 board house × SettingFound 1 (order_of board house).master1 board house

-- The bytes that are written read back as the twelve events.
abbrev pub EventsRead : Type 0
EventsRead =
    (board house buffer : List ℕ) → (ordered board house buffer).number ≡ 0
    → raws_in order_count (ordered_buffer board house buffer) ≡ order_events (order_of board house)

-- A pair with an empty box, a reserve's or any other, yields no event at all: the number is 14, and nothing is written.
abbrev pub EmptyNoEvents : Type 0
EmptyNoEvents =
    (section controller : ℕ) (board house buffer : List ℕ) → check_pair board house ≡ Ok tt → is_box section controller ≡ true
    → ticked_on_either (box_place section controller) board house ≡ false
    → (ordered board house buffer ≡ record { number = fault_number Unticked; count = 0 }) × (ordered_buffer board house buffer ≡ buffer)
