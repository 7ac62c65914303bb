-- What is found and handed back: the board sheet's box if it is ticked, else the house sheet's, and never a value without its tick.
-- Assumes nothing.
use Prim.Native.Nat.{ℕ, suc, ◌+◌, ◌-◌, ◌≤◌, ◌<◌}
use mathlib.Core.Path.{◌≡◌, refl, sym, ap, ◌∙◌}
use mathlib.Core.Bool.{Bool, true, false, ◌||◌, true≢false}
use mathlib.Core.List.{List, [], ◌∷◌}
use native.Mathlib.Nat.{zero-add}
use native.Mathlib.Numerals.{add-one}
use native.Mathlib.Omega.{arith}
use lib.Dec.{eqb}
use lib.ListN.{length, take, drop}
use lib.Seq.{drop-cons}
use borrow.Author.Tests.{eqb-true}
use Rattle.std.specs.Prelude.{if◌then◌else◌, Ok, Err}
use Rattle.arbiter.specs.Traces.{byte_at}
use Rattle.sheets.specs.declared.Fault.TheVariants.{TooShort, WrongCount, BadBox, BytesAfterEnd, NoSuchBox, Unticked, NoRoom}
use Rattle.sheets.specs.declared.Fault.{Fault}
use Rattle.sheets.specs.declared.Place.TheVariants.{Board, House}
use Rattle.sheets.specs.declared.Place.{Place}
use Rattle.sheets.specs.Sheets.{OrFault, box_place, ticked, value_on, check_pair}
use Rattle.sheets.specs.Sheets.{place_at, is_box, box_on, once_checked, place_of, fault_number, place_number}
use Rattle.sheets.specs.Sheets.{box_bytes}
use Rattle.sheets.specs.Sheets.{part_of, start_of}
use Rattle.sheets.specs.Settings.{ticked_on_either}
use Rattle.sheets.specs.Laws.{BoardFirst, HouseElse, EmptyRefused, HandedBack, AlwaysTicked, NumberTells}
use Rattle.sheets.proofs.Sound.{Known, known, in_board, in_house}

-- ---- which box is found

-- On a sound pair a box that there is is looked for on the two sheets.
pub box_placed : (section controller : ℕ) (board house : List ℕ) → check_pair board house ≡ Ok tt → is_box section controller ≡ true
    → place_of section controller board house ≡ place_at (box_place section controller) board house
unfolding place_of box_on
box_placed section controller board house e q =
    ap (λ (x : OrFault (Unit {0})). once_checked x (box_on section controller board house)) e
    ∙ ap (λ (b : Bool). if b then place_at (box_place section controller) board house else Err NoSuchBox) q

abbrev by_ticks : Bool → Bool → ℕ → OrFault Place
by_ticks b h at = if b then Ok (Board at) else if h then Ok (House at) else Err Unticked

pub board_first : BoardFirst
unfolding place_at
board_first section controller board house e q t =
    let at : ℕ = box_place section controller in
    box_placed section controller board house e q ∙ ap (λ (b : Bool). by_ticks b (ticked at house) at) t

pub house_else : HouseElse
unfolding place_at
house_else section controller board house e q t u =
    let at : ℕ = box_place section controller in
    box_placed section controller board house e q
    ∙ ap (λ (b : Bool). by_ticks b (ticked at house) at) t
    ∙ ap (λ (h : Bool). by_ticks false h at) u

neither : (x y : Bool) → x || y ≡ false → (at : ℕ) → by_ticks x y at ≡ Err Unticked
neither true y h at = absurd (true≢false h)
neither false true h at = absurd (true≢false h)
neither false false h at = refl

pub empty_refused : EmptyRefused
unfolding place_at ticked_on_either
empty_refused section controller board house e q n =
    let at : ℕ = box_place section controller in
    box_placed section controller board house e q ∙ neither (ticked at board) (ticked at house) n at

-- ---- what is handed back

-- The two bytes of a box in its sheet.
box_bytes_lem : (at : ℕ) (s : List ℕ) → at + 2 ≤ length s → take 2 (drop at s) ≡ byte_at at s ∷ value_on at s ∷ []
box_bytes_lem at s h =
    let first : at < length s = omega arith in
    let second : suc at < length s = omega arith in
    rw (add-one, drop-cons s at 0, drop-cons s (suc at) 0)

-- Of a ticked box they are 1 and its value.
ticked_bytes : (at : ℕ) (s : List ℕ) → at + 2 ≤ length s → ticked at s ≡ true → take 2 (drop at s) ≡ 1 ∷ value_on at s ∷ []
ticked_bytes at s h t = box_bytes_lem at s h ∙ ap (λ (v : ℕ). v ∷ value_on at s ∷ []) (eqb-true (byte_at at s) 1 t)

handed_back : (section controller : ℕ) (board house : List ℕ) (p : OrFault Place) → place_of section controller board house ≡ p
    → Known section controller board house p → HandedBack p board house
unfolding part_of
handed_back section controller board house (Ok (Board at)) e k = ticked_bytes at board (in_board section controller board house at e) k.3
handed_back section controller board house (Ok (House at)) e k = ticked_bytes at house (in_house section controller board house at e) k.3
handed_back section controller board house (Err f) e k = refl

pub always_ticked : AlwaysTicked
always_ticked section controller board house =
    handed_back section controller board house (place_of section controller board house) refl (known section controller board house)

-- ---- its number

pub fault_told : (f : Fault) → eqb (fault_number f) 0 ≡ false
fault_told TooShort = refl
fault_told WrongCount = refl
fault_told BadBox = refl
fault_told BytesAfterEnd = refl
fault_told NoSuchBox = refl
fault_told Unticked = refl
fault_told NoRoom = refl

number_of : (board house : List ℕ) (p : OrFault Place) → HandedBack p board house → eqb (place_number p) 0 ≡ eqb (length (part_of p board house)) box_bytes
unfolding part_of
number_of board house (Ok (Board at)) h = sym (ap (λ (l : List ℕ). eqb (length l) 2) h)
number_of board house (Ok (House at)) h = sym (ap (λ (l : List ℕ). eqb (length l) 2) h)
number_of board house (Err f) h = fault_told f

pub number_tells : NumberTells
number_tells section controller board house =
    number_of board house (place_of section controller board house) (always_ticked section controller board house)

-- ---- the part of a place: its bytes and where it starts

module _ (p : OrFault Place) (board house : List ℕ) (b h : ℕ × ℕ) where
  pub of_board : (at : ℕ) → p ≡ Ok (Board at) → (take (at + 2 - at) (drop at board) ≡ part_of p board house) × ((b.0, at + b.1) ≡ start_of p b h)
  unfolding part_of start_of
  of_board at e =
      let two : at + 2 - at ≡ 2 = omega arith in (
        ap (λ (k : ℕ). take k (drop at board)) two ∙ sym (ap (λ (x : OrFault Place). part_of x board house) e),
        sym (ap (λ (x : OrFault Place). start_of x b h) e),
      )

  pub of_house : (at : ℕ) → p ≡ Ok (House at) → (take (at + 2 - at) (drop at house) ≡ part_of p board house) × ((h.0, at + h.1) ≡ start_of p b h)
  unfolding part_of start_of
  of_house at e =
      let two : at + 2 - at ≡ 2 = omega arith in (
        ap (λ (k : ℕ). take k (drop at house)) two ∙ sym (ap (λ (x : OrFault Place). part_of x board house) e),
        sym (ap (λ (x : OrFault Place). start_of x b h) e),
      )

  pub of_none : (f : Fault) → p ≡ Err f → ([] ≡ part_of p board house) × ((b.0, 0 + b.1) ≡ start_of p b h)
  unfolding part_of start_of
  of_none f e = (
    sym (ap (λ (x : OrFault Place). part_of x board house) e),
    ap (λ (k : ℕ). (b.0, k)) (zero-add b.1) ∙ sym (ap (λ (x : OrFault Place). start_of x b h) e),
  )
