-- The paper's numbers: whoever answers by the map of a pair of sheets, or of a box looked up, answers by its number too.
-- Assumes nothing.
use Prim.Native.Nat.{ℕ}
use mathlib.Core.Path.{◌≡◌, refl, sym, ap, ◌∙◌}
use mathlib.Core.Bool.{Bool, true, false, not, ◌||◌}
use mathlib.Core.List.{List}
use lib.Dec.{ltb}
use lib.ListN.{length}
use Rattle.std.specs.Prelude.{if◌then◌else◌, Ok, Err}
use Rattle.sheets.specs.declared.Fault.{Fault}
use Rattle.sheets.specs.declared.Fault.TheVariants.{TooShort, WrongCount, BadBox, BytesAfterEnd, NoSuchBox, Unticked, NoRoom}
use Rattle.sheets.specs.declared.Place.TheVariants.{Board, House}
use Rattle.sheets.specs.declared.Place.{Place}
use Rattle.sheets.specs.Sheets.{OrFault, sheet_bytes, box_place, ticked, is_box}
use Rattle.sheets.specs.Sheets.{counts_right, boxes_right, check_sheet, and_then, check_pair, place_at, box_on}
use Rattle.sheets.specs.Sheets.{once_checked}
use Rattle.sheets.specs.Sheets.{place_of}
use Rattle.sheets.specs.Sheets.{fault_number, checked_number, place_number, first_refusal, sheet_number, pair_number, box_number, look_up_number}

-- ---- a sheet, and a pair

checked_number_lem : (short counts boxes long : Bool) →
    checked_number (if short then Err TooShort else if not counts then Err WrongCount else if not boxes then Err BadBox else if long
    then Err BytesAfterEnd else Ok tt)
    ≡ (if short then 5 else if not counts then 10 else if not boxes then 3 else if long then 7 else 0)
checked_number_lem true counts boxes long = refl
checked_number_lem false false boxes long = refl
checked_number_lem false true false long = refl
checked_number_lem false true true true = refl
checked_number_lem false true true false = refl

sheet_number_lem : (s : List ℕ) → checked_number (check_sheet s) ≡ sheet_number s
unfolding check_sheet sheet_number
sheet_number_lem s = checked_number_lem (ltb (length s) sheet_bytes) (counts_right s) (boxes_right s) (ltb sheet_bytes (length s))

-- no refusal has the number 0, so the first of two is told
refused_first : (f : Fault) (n : ℕ) → fault_number f ≡ first_refusal (fault_number f) n
refused_first TooShort n = refl
refused_first WrongCount n = refl
refused_first BadBox n = refl
refused_first BytesAfterEnd n = refl
refused_first NoSuchBox n = refl
refused_first Unticked n = refl
refused_first NoRoom n = refl

both_number : (x y : OrFault (Unit {0})) → checked_number (and_then x y) ≡ first_refusal (checked_number x) (checked_number y)
both_number (Ok tt) y = refl
both_number (Err f) y = refused_first f (checked_number y)

pair_number_lem : (board house : List ℕ) → checked_number (check_pair board house) ≡ pair_number board house
unfolding check_pair pair_number
pair_number_lem board house = both_number (check_sheet board) (check_sheet house) ∙ simp sheet_number_lem

pub pair_passed : (board house : List ℕ) → check_pair board house ≡ Ok tt → 0 ≡ pair_number board house
pair_passed board house e = ap checked_number (sym e) ∙ pair_number_lem board house

pub pair_refused : (board house : List ℕ) (f : Fault) → check_pair board house ≡ Err f → fault_number f ≡ pair_number board house
pair_refused board house f e = ap checked_number (sym e) ∙ pair_number_lem board house

-- ---- a box looked up

once_number : (x : OrFault (Unit {0})) (p : OrFault Place) → place_number (once_checked x p) ≡ first_refusal (checked_number x) (place_number p)
once_number (Ok tt) p = refl
once_number (Err f) p = refused_first f (place_number p)

found_number : (is onBoard onHouse : Bool) (at : ℕ) →
    place_number (if is then (if onBoard then Ok (Board at) else if onHouse then Ok (House at) else Err Unticked) else Err NoSuchBox)
    ≡ (if not is then 15 else if not (onBoard || onHouse) then 14 else 0)
found_number false onBoard onHouse at = refl
found_number true true onHouse at = refl
found_number true false true at = refl
found_number true false false at = refl

box_number_lem : (section controller : ℕ) (board house : List ℕ) → place_number (box_on section controller board house)
    ≡ box_number section controller board house
unfolding box_on place_at box_number
box_number_lem section controller board house =
    let place : ℕ = box_place section controller in
    found_number (is_box section controller) (ticked place board) (ticked place house) place

place_number_lem : (section controller : ℕ) (board house : List ℕ) → place_number (place_of section controller board house)
    ≡ look_up_number section controller board house
unfolding place_of look_up_number
place_number_lem section controller board house = once_number (check_pair board house) (box_on section controller board house)
    ∙ simp (pair_number_lem, box_number_lem)

pub place_told : (section controller : ℕ) (board house : List ℕ) (r : OrFault Place) → r ≡ place_of section controller board house
    → place_number r ≡ look_up_number section controller board house
place_told section controller board house r e = ap place_number e ∙ place_number_lem section controller board house
