-- What a sound sheet and a sound pair have passed, and where a box that is found lies.
-- Assumes nothing.
use Prim.Native.Nat.{ℕ, ◌+◌, ◌≤◌}
use mathlib.Core.Path.{◌≡◌, refl, subst}
use mathlib.Core.Bool.{Bool, true, false, not, and-eq-true_iff}
use mathlib.Core.List.{List}
use native.Mathlib.Omega.{arith}
use lib.Dec.{ltb}
use lib.ListN.{length}
use borrow.Author.Tests.{ltb-true, ltb-false, not-false}
use Rattle.std.specs.Prelude.{if◌then◌else◌, Ok, Err}
use Rattle.arbiter.proofs.Choice.{either}
use Rattle.sheets.specs.declared.Fault.{Fault}
use Rattle.sheets.specs.declared.Fault.TheVariants.{TooShort, WrongCount, BadBox, BytesAfterEnd}
use Rattle.sheets.specs.declared.Place.TheVariants.{Board, House}
use Rattle.sheets.specs.declared.Place.{Place}
use Rattle.sheets.specs.Sheets.{OrFault, sheet_bytes, box_place, ticked, counts_right}
use Rattle.sheets.specs.Sheets.{boxes_right, check_sheet, and_then, check_pair, place_at, is_box, box_on}
use Rattle.sheets.specs.Sheets.{once_checked}
use Rattle.sheets.specs.Sheets.{place_of}

-- ---- a sound sheet has passed every test

pub not_sound : (f : Fault) → ◌≡◌ {A = OrFault (Unit {0})} (Err f) (Ok tt) → ⊥
not_sound f h = let z : ◌≡◌ {A = ℕ} 0 1 = cc in omega arith

passed : (b : Bool) (f : Fault) (y : OrFault (Unit {0})) → (if b then Err f else y) ≡ Ok tt → (b ≡ false) × (y ≡ Ok tt)
passed true f y h = absurd (not_sound f h)
passed false f y h = (refl, h)

pub sheet_sound : (s : List ℕ) → check_sheet s ≡ Ok tt → (length s ≡ 15) × (boxes_right s ≡ true)
unfolding check_sheet
sheet_sound s h =
    let p1 = passed (ltb (length s) sheet_bytes) TooShort _ h in
    let p2 = passed (not (counts_right s)) WrongCount _ p1.1 in
    let p3 = passed (not (boxes_right s)) BadBox _ p2.1 in
    let p4 = passed (ltb sheet_bytes (length s)) BytesAfterEnd (Ok tt) p3.1 in
    let low : 15 ≤ length s = ltb-false _ _ p1.0 in
    let high : length s ≤ 15 = ltb-false _ _ p4.0 in
    (omega arith, not-false (boxes_right s) p3.0)

both_sound : (x y : OrFault (Unit {0})) → and_then x y ≡ Ok tt → (x ≡ Ok tt) × (y ≡ Ok tt)
both_sound (Ok tt) y h = (refl, h)
both_sound (Err f) y h = absurd (not_sound f h)

pub pair_sound : (board house : List ℕ) → check_pair board house ≡ Ok tt → (check_sheet board ≡ Ok tt) × (check_sheet house ≡ Ok tt)
unfolding check_pair
pair_sound board house h = both_sound (check_sheet board) (check_sheet house) h

pub pair_long : (board house : List ℕ) → check_pair board house ≡ Ok tt → (15 ≤ length board) × (15 ≤ length house)
pair_long board house h =
    let two = pair_sound board house h in
    let b = sheet_sound board two.0 in
    let e = sheet_sound house two.1 in
    (omega arith, omega arith)

-- ---- a box that is found

-- A box's two bytes lie in 15.
pub box_inside : (section controller : ℕ) → is_box section controller ≡ true → box_place section controller + 2 ≤ 15
box_inside section controller h =
    let two = (and-eq-true_iff (ltb section 3) (ltb controller 2)).0 h in
    omega (arith, ltb-true section 3 two.0, ltb-true controller 2 two.1)

-- What is known of the place of a box: the pair is sound, there is such a box, and it is ticked there.
abbrev pub Known : ℕ → ℕ → List ℕ → List ℕ → OrFault Place → Type 0
Known section controller board house (Ok (Board at)) =
    (check_pair board house ≡ Ok tt) × (is_box section controller ≡ true) × (at ≡ box_place section controller) × (ticked at board ≡ true)
Known section controller board house (Ok (House at)) =
    (check_pair board house ≡ Ok tt) × (is_box section controller ≡ true) × (at ≡ box_place section controller) × (ticked at house ≡ true)
Known section controller board house (Err f) = Unit {0}

module _ (section controller : ℕ) (board house : List ℕ) where
  abbrev K : OrFault Place → Type 0
  K p = Known section controller board house p

  known_on : check_pair board house ≡ Ok tt → K (box_on section controller board house)
  unfolding box_on place_at
  known_on e =
      let at : ℕ = box_place section controller in
      either K (is_box section controller)
      (λ q. either K (ticked at board) (λ t. (e, q, refl, t)) (λ _. either K (ticked at house) (λ t. (e, q, refl, t)) (λ _. tt)))
      (λ _. tt)

  checked : (x : OrFault (Unit {0})) → check_pair board house ≡ x → K (once_checked x (box_on section controller board house))
  checked (Ok tt) e = known_on e
  checked (Err f) e = tt

  pub known : K (place_of section controller board house)
  unfolding place_of
  known = checked (check_pair board house) refl

  -- It starts at such a place of 15, so its two bytes are the sheet's.
  pub board_inside : (at : ℕ) → place_of section controller board house ≡ Ok (Board at) → at + 2 ≤ 15
  board_inside at h =
      let (e, q, p, t) = subst K h known in
      let inside = box_inside section controller q in
      omega arith

  pub house_inside : (at : ℕ) → place_of section controller board house ≡ Ok (House at) → at + 2 ≤ 15
  house_inside at h =
      let (e, q, p, t) = subst K h known in
      let inside = box_inside section controller q in
      omega arith

  pub in_board : (at : ℕ) → place_of section controller board house ≡ Ok (Board at) → at + 2 ≤ length board
  in_board at h =
      let (e, q, p, t) = subst K h known in
      let long = pair_long board house e in
      let inside = board_inside at h in
      omega arith

  pub in_house : (at : ℕ) → place_of section controller board house ≡ Ok (House at) → at + 2 ≤ length house
  in_house at h =
      let (e, q, p, t) = subst K h known in
      let long = pair_long board house e in
      let inside = house_inside at h in
      omega arith
