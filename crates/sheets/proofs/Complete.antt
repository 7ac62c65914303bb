-- The order of a complete pair: its values are those that the lookup hands back, its events are what is stored, and an empty box gives none.
-- Assumes nothing.
use Prim.Native.Nat.{ℕ, zero, suc, ◌+◌, ◌≤◌, ◌<◌}
use mathlib.Core.Path.{◌≡◌, refl, sym, ap, subst, ◌∙◌}
use mathlib.Core.Bool.{Bool, true, false, not, ◌&&◌, ◌||◌, and-eq-true_iff, false≢true, true≢false}
use mathlib.Core.List.{List, [], ◌∷◌, ◌++◌}
use native.Mathlib.Omega.{arith}
use lib.Dec.{eqb, ltb}
use lib.ListN.{length, drop}
use lib.Seq.{sets-eq}
use borrow.Author.Tests.{ltb-true, ltb-false, not-false}
use Rattle.std.specs.Prelude.{if◌then◌else◌, Ok, Err}
use Rattle.arbiter.specs.Words.{worth}
use Rattle.arbiter.specs.Writing.{raws_bytes}
use Rattle.arbiter.specs.Marks.{command, write, stop}
use Rattle.arbiter.specs.Traces.{raws_in}
use Rattle.arbiter.proofs.Choice.{either, split}
use Rattle.sheets.specs.declared.Fault.{Fault}
use Rattle.sheets.specs.declared.Fault.TheVariants.{Unticked, NoRoom}
use Rattle.sheets.specs.declared.Setting.{Setting}
use Rattle.sheets.specs.declared.Order.{Order}
use Rattle.sheets.specs.declared.Place.{Place}
use Rattle.sheets.specs.Sheets.{OrFault, box_place, ticked, value_on, box_right}
use Rattle.sheets.specs.Sheets.{flag_right, boxes_right, check_sheet, check_pair, is_box, fault_number, part_of}
use Rattle.sheets.specs.Settings.{ticked_on_either, is_complete, value_at, setting_of, order_of, control_byte, order_events, order_count, order_bytes}
use Rattle.sheets.specs.Settings.{read_complete}
use Rattle.sheets.specs.Settings.{once_sound, read_order, ordered_of, buffer_of, ordered, ordered_buffer}
use Rattle.sheets.specs.Laws.{HandedBack, Handed, SettingFound, OrderFound, EventsRead, EmptyNoEvents}
use Rattle.sheets.proofs.Sound.{pair_sound, sheet_sound}
use Rattle.sheets.proofs.Found.{board_first, house_else, always_ticked, fault_told}

-- ---- what an order that is given has passed

-- An order that is given has a sound pair, complete, with room, and is the pair's.
pub record Passed (board house : List ℕ) (room : ℕ) (o : Order) : Type 0 where
  pub sound : check_pair board house ≡ Ok tt
  pub complete : is_complete board house ≡ true
  pub room_for : 48 ≤ room
  pub same : order_of board house ≡ o

not_given : (f : Fault) (o : Order) → Err f ≡ Ok o → ⊥
not_given f o h = let z : ◌≡◌ {A = ℕ} 0 1 = cc in omega arith

went_on : (b : Bool) (f : Fault) (y : OrFault Order) (o : Order) → (if b then Err f else y) ≡ Ok o → (b ≡ false) × (y ≡ Ok o)
went_on true f y o h = absurd (not_given f o h)
went_on false f y o h = (refl, h)

once_given : (x : OrFault (Unit {0})) (y : OrFault Order) (o : Order) → once_sound x y ≡ Ok o → (x ≡ Ok tt) × (y ≡ Ok o)
once_given (Ok tt) y o h = (refl, h)
once_given (Err f) y o h = absurd (not_given f o h)

pub given_passed : (board house : List ℕ) (room : ℕ) (o : Order) → read_order board house room ≡ Ok o → Passed board house room o
unfolding read_order read_complete
given_passed board house room o h =
    let p1 = once_given (check_pair board house) _ o h in
    let p2 = went_on (not (is_complete board house)) Unticked _ o p1.1 in
    let p3 = went_on (ltb room order_bytes) NoRoom (Ok (order_of board house)) o p2.1 in
    let last : Ok (order_of board house) ≡ Ok o = p3.1 in
    record {
      sound = p1.0;
      complete = not-false (is_complete board house) p2.0;
      room_for = ltb-false room order_bytes p3.0;
      same = cc;
    }

-- The number is 0 only where an order is given.
zero_given : (r : OrFault Order) → (ordered_of r).number ≡ 0 → (o : Order) × (r ≡ Ok o)
unfolding ordered_of
zero_given (Ok o) h = (o, refl)
zero_given (Err f) h = absurd (false≢true (sym (fault_told f) ∙ ap (λ (n : ℕ). eqb n 0) h))

pub zero_passed : (board house buffer : List ℕ) → (ordered board house buffer).number ≡ 0
    → (read_order board house (length buffer) ≡ Ok (order_of board house)) × Passed board house (length buffer) (order_of board house)
unfolding ordered
zero_passed board house buffer h =
    let (o, e) = zero_given (read_order board house (length buffer)) h in
    let p = given_passed board house (length buffer) o e in
    (e ∙ ap Ok (sym p.same), record { sound = p.sound; complete = p.complete; room_for = p.room_for; same = refl })

pub events_read : EventsRead
unfolding ordered_buffer buffer_of order_events raws_in
events_read board house buffer h =
    ap (λ (r : OrFault Order). raws_in 12 (buffer_of r buffer)) (zero_passed board house buffer h).0

-- ---- six tests at once

all_six : (a b c d e f : Bool) → a && b && c && d && e && f ≡ true
    → (a ≡ true) × (b ≡ true) × (c ≡ true) × (d ≡ true) × (e ≡ true) × (f ≡ true)
all_six a b c d e f h =
    let p5 = (and-eq-true_iff (a && b && c && d && e) f).0 h in
    let p4 = (and-eq-true_iff (a && b && c && d) e).0 p5.0 in
    let p3 = (and-eq-true_iff (a && b && c) d).0 p4.0 in
    let p2 = (and-eq-true_iff (a && b) c).0 p3.0 in
    let p1 = (and-eq-true_iff a b).0 p2.0 in
    (p1.0, p1.1, p2.1, p3.1, p4.1, p5.1)

-- There are three sections and two controllers.
no_section : (section controller : ℕ) → is_box (suc (suc (suc section))) controller ≡ true → ⊥
no_section section controller q =
    omega (arith, ltb-true (suc (suc (suc section))) 3 ((and-eq-true_iff (ltb (suc (suc (suc section))) 3) (ltb controller 2)).0 q).0)

no_controller : (section controller : ℕ) → is_box section (suc (suc controller)) ≡ true → ⊥
no_controller section controller q =
    omega (arith, ltb-true (suc (suc controller)) 2 ((and-eq-true_iff (ltb section 3) (ltb (suc (suc controller)) 2)).0 q).1)

-- Each box of a complete pair is ticked on one sheet or the other.
module _ (board house : List ℕ) (h : is_complete board house ≡ true) where
  six : (ticked_on_either 1 board house ≡ true) × (ticked_on_either 3 board house ≡ true) × (ticked_on_either 6 board house ≡ true)
      × (ticked_on_either 8 board house ≡ true) × (ticked_on_either 11 board house ≡ true) × (ticked_on_either 13 board house ≡ true)
  unfolding is_complete
  six =
      all_six (ticked_on_either 1 board house) (ticked_on_either 3 board house) (ticked_on_either 6 board house) (ticked_on_either 8 board house)
      (ticked_on_either 11 board house) (ticked_on_either 13 board house) h

  complete_ticked : (section controller : ℕ) → is_box section controller ≡ true → ticked_on_either (box_place section controller) board house ≡ true
  complete_ticked zero zero q = six.0
  complete_ticked zero (suc zero) q = six.1
  complete_ticked zero (suc (suc c)) q = absurd (no_controller 0 c q)
  complete_ticked (suc zero) zero q = six.2
  complete_ticked (suc zero) (suc zero) q = six.3
  complete_ticked (suc zero) (suc (suc c)) q = absurd (no_controller 1 c q)
  complete_ticked (suc (suc zero)) zero q = six.4
  complete_ticked (suc (suc zero)) (suc zero) q = six.5
  complete_ticked (suc (suc zero)) (suc (suc c)) q = absurd (no_controller 2 c q)
  complete_ticked (suc (suc (suc s))) c q = absurd (no_section s c q)

-- ---- the values of an order are those that the lookup hands back

either_ticked : (x y : Bool) → x || y ≡ true → x ≡ false → y ≡ true
either_ticked true y h e = absurd (true≢false e)
either_ticked false y h e = h

-- A box ticked on either sheet is handed back with the value that the order takes.
handed : (section controller : ℕ) (board house : List ℕ) → check_pair board house ≡ Ok tt → is_box section controller ≡ true
    → ticked_on_either (box_place section controller) board house ≡ true
    → Handed section controller (value_at (box_place section controller) board house) board house
unfolding ticked_on_either value_at
handed section controller board house e q t =
    let place : ℕ = box_place section controller in
    let back = always_ticked section controller board house in
    let part : OrFault Place → List ℕ = λ p. part_of p board house in
    let value : Bool → List ℕ = λ b. 1 ∷ (if b then value_on place board else value_on place house) ∷ [] in
    split (ticked place board)
    (λ y.
    (let p = board_first section controller board house e q y in
    ap part p ∙ subst (λ (x : OrFault Place). HandedBack x board house) p back ∙ ap value (sym y)))
    (λ n.
    (let p = house_else section controller board house e q n (either_ticked (ticked place board) (ticked place house) t n) in
    ap part p ∙ subst (λ (x : OrFault Place). HandedBack x board house) p back ∙ ap value (sym n)))

-- A value of 0 or 1 is the setting's.
flag : (v : ℕ) → v < 2 → v ≡ worth 1 (eqb v 1)
flag zero h = refl
flag (suc zero) h = refl
flag (suc (suc v)) h = absurd (omega arith)

on_small : (place : ℕ) (sheet : List ℕ) → flag_right place sheet ≡ true → value_on place sheet < 2
unfolding flag_right
on_small place sheet h = ltb-true (value_on place sheet) 2 ((and-eq-true_iff (box_right place sheet) (ltb (value_on place sheet) 2)).0 h).1

flag_handed : (section controller : ℕ) (board house : List ℕ) → check_pair board house ≡ Ok tt → is_box section controller ≡ true
    → ticked_on_either (box_place section controller) board house ≡ true
    → flag_right (box_place section controller) board ≡ true → flag_right (box_place section controller) house ≡ true
    → Handed section controller (worth 1 (eqb (value_at (box_place section controller) board house) 1)) board house
unfolding value_at
flag_handed section controller board house e q t b h =
    let place : ℕ = box_place section controller in
    let small : value_at place board house < 2 = either (λ (v : ℕ). v < 2) (ticked place board) (λ _. on_small place board b) (λ _. on_small place house h) in
    handed section controller board house e q t ∙ ap (λ (v : ℕ). 1 ∷ v ∷ []) (flag (value_at place board house) small)

-- The settings' boxes of a sound sheet are right.
abbrev Flags : ℕ → List ℕ → Type 0
Flags controller sheet = (flag_right (box_place 1 controller) sheet ≡ true) × (flag_right (box_place 2 controller) sheet ≡ true)

sheet_flags : (sheet : List ℕ) → check_sheet sheet ≡ Ok tt → Flags 0 sheet × Flags 1 sheet
unfolding boxes_right
sheet_flags sheet h =
    let all =
    all_six (box_right 1 sheet) (box_right 3 sheet) (flag_right 6 sheet) (flag_right 8 sheet) (flag_right 11 sheet) (flag_right 13 sheet)
    (sheet_sound sheet h).1 in
    ((all.2, all.4), (all.3, all.5))

setting_found : (controller : ℕ) (board house : List ℕ) → check_pair board house ≡ Ok tt → is_complete board house ≡ true
    → is_box 0 controller ≡ true → Flags controller board → Flags controller house → SettingFound controller (setting_of controller board house) board house
unfolding setting_of
setting_found controller board house e c q b h = (
  handed 0 controller board house e q (complete_ticked board house c 0 controller q),
  flag_handed 1 controller board house e q (complete_ticked board house c 1 controller q) b.0 h.0,
  flag_handed 2 controller board house e q (complete_ticked board house c 2 controller q) b.1 h.1,
)

pub order_found : OrderFound
unfolding order_of
order_found board house buffer h =
    let p = (zero_passed board house buffer h).1 in
    let two = pair_sound board house p.sound in
    let b = sheet_flags board two.0 in
    let e = sheet_flags house two.1 in
    (setting_found 0 board house p.sound p.complete refl b.0 e.0, setting_found 1 board house p.sound p.complete refl b.1 e.1)

-- ---- what the call leaves

-- Where it is withheld, the number, and nothing written.
pub withheld_left : (board house buffer : List ℕ) (f : Fault) → read_order board house (length buffer) ≡ Err f
    → (record { number = fault_number f; count = 0 } ≡ ordered board house buffer) × (buffer ≡ ordered_buffer board house buffer)
unfolding ordered ordered_of ordered_buffer buffer_of
withheld_left board house buffer f h = (ap ordered_of (sym h), ap (λ (r : OrFault Order). buffer_of r buffer) (sym h))

empty_withheld : (section controller : ℕ) (board house : List ℕ) (room : ℕ) → check_pair board house ≡ Ok tt → is_box section controller ≡ true
    → ticked_on_either (box_place section controller) board house ≡ false → read_order board house room ≡ Err Unticked
unfolding read_order read_complete
empty_withheld section controller board house room e q n =
    let short : is_complete board house ≡ false =
    split (is_complete board house) (λ y. absurd (true≢false (sym (complete_ticked board house y section controller q) ∙ n))) (λ x. x) in
    ap (λ (x : OrFault (Unit {0})). once_sound x (read_complete board house room)) e
    ∙ ap (λ (b : Bool). if not b then Err Unticked else if ltb room order_bytes then Err NoRoom else Ok (order_of board house)) short

pub empty_no_events : EmptyNoEvents
empty_no_events section controller board house buffer e q n =
    let left = withheld_left board house buffer Unticked (empty_withheld section controller board house (length buffer) e q n) in
    (sym left.0, sym left.1)

-- ---- the count that is answered is 12 or 0

few_of : (o : OrFault Order) → (ordered_of o).count ≤ order_count
unfolding ordered_of
few_of (Ok o) = omega arith
few_of (Err f) = omega arith

pub ordered_few : (board house buffer : List ℕ) → (ordered board house buffer).count ≤ order_count
unfolding ordered
ordered_few board house buffer = few_of (read_order board house (length buffer))
