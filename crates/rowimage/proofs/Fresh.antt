-- The slots of a fresh row, one after the other, and their records in the buffer.
-- Assumes nothing.
use Prim.Native.Nat.{ℕ, zero, suc, ◌+◌, ◌*◌, ◌/◌, ◌%◌, ◌<◌, ◌≤◌}
use native.Mathlib.Numerals.{add-one}
use native.Mathlib.Omega.{arith}
use mathlib.Core.Path.{◌≡◌, refl, sym, ap, ap₂, ◌∙◌}
use mathlib.Core.Bool.{Bool, true, false, ◌&&◌, and-eq-true_iff}
use mathlib.Core.List.{List, [], ◌∷◌, ◌++◌, append_assoc, append-nil}
use lib.Dec.{eqb}
use lib.ListN.{length, get_or, take, drop, set, length-append, length-drop, drop_of_length-le, length-map}
use lib.Seq.{drop-drop, drop-cons, drop_at, get_or-drop, take-append-add, drop-append-add, set_at, length-take-le}
use borrow.Author.Tests.{eq-eqb, ne_eqb, eqb-true, eqb-false}
use Rattle.std.specs.Prelude.{Result, Ok, Err, if◌then◌else◌}
use Rattle.arbiter.specs.Effects.{power_up}
use Rattle.arbiter.specs.Traces.{byte_at, is_kind, kind_of}
use Rattle.arbiter.proofs.Choice.{split, if_true, if_false}
use Rattle.layout.specs.Layout.{image_length, image_of}
use Rattle.layout.specs.Images.{fresh_number, fresh_after}
use Rattle.shelf.specs.declared.Record.{Record}
use Rattle.shelf.specs.declared.Naming.TheVariants.{Nothing}
use Rattle.shelf.specs.declared.Fault.TheVariants.{EmptyRow, TooMany, EqualAddresses, NotInRow}
use Rattle.shelf.specs.declared.Fault.{Fault}
use Rattle.shelf.specs.declared.Reach.{Reach}
use Rattle.shelf.specs.declared.Reach.TheVariants.{At, Everyone}
use Rattle.shelf.specs.Shelf.{addresses_of, reach_of}
use Rattle.shelf.specs.Runs.{Slot, fresh_record, fresh_row}
use Rattle.routing.specs.declared.Seen.{Seen}
use Rattle.routing.specs.Deciding.{see_of, seen_of, reach_for}
use Rattle.routing.proofs.Told.{reach_for_is}
use Rattle.rowimage.specs.Row.{record_bytes, bytes_of_record, bytes_of_row, image_in}
use Rattle.rowimage.specs.Slots.{slot_bytes, slot_count, slot_in, slots_to, kinds_known, row_of_slots, number_by, slots_number, is_laid_for, fresh_row_number}
use Rattle.rowimage.specs.Slots.{fresh_row_buffer}
use Rattle.rowimage.specs.Walk.{with_image}
use Rattle.rowimage.proofs.Bytes.{row_long}
use Rattle.rowimage.proofs.Seeing.{see_all}

-- ---- slots

next_slot : (i : ℕ) (b : List ℕ) → drop (slot_bytes * i) (drop slot_bytes b) ≡ drop (slot_bytes * suc i) b
next_slot i b = drop-drop (slot_bytes * i) slot_bytes b ∙ ap (λ (n : ℕ). drop n b) (further i)
  where
    further : (i : ℕ) → slot_bytes + slot_bytes * i ≡ slot_bytes * suc i
    further i = omega arith

slots_length : (n : ℕ) (b : List ℕ) → length (slots_to n b) ≡ n
unfolding slots_to
slots_length zero b = refl
slots_length (suc n) b = ap suc (slots_length n (drop slot_bytes b))

slots_more : (k : ℕ) (b : List ℕ) → slots_to (suc k) b ≡ slots_to k b ++ (slot_in (drop (slot_bytes * k) b) ∷ [])
unfolding slots_to
slots_more zero b = refl
slots_more (suc k) b =
    ap (λ (l : List Slot). slot_in b ∷ l)
    (slots_more k (drop slot_bytes b) ∙ ap (λ (l : List ℕ). slots_to k (drop slot_bytes b) ++ (slot_in l ∷ [])) (next_slot k b))

second_byte : (i : ℕ) (b : List ℕ) → get_or b (slot_bytes * i + 1) 0 ≡ byte_at 1 (drop (slot_bytes * i) b)
second_byte i b = sym (get_or-drop (slot_bytes * i) b 1 0)

first_byte : (i : ℕ) (b : List ℕ) → get_or b (slot_bytes * i) 0 ≡ byte_at 0 (drop (slot_bytes * i) b)
first_byte i b = ap (λ (n : ℕ). get_or b n 0) (none (slot_bytes * i)) ∙ sym (get_or-drop (slot_bytes * i) b 0 0)
  where
    none : (n : ℕ) → n ≡ n + 0
    none n = omega arith

-- what is left has one slot more
count_more : (x rest : List ℕ) → length x ≡ slot_bytes → slot_count (x ++ rest) ≡ suc (slot_count rest)
count_more x rest e = let both = length-append x rest in omega (arith, both, e)

rest_of : (x rest : List ℕ) → length x ≡ slot_bytes → drop slot_bytes (x ++ rest) ≡ rest
rest_of x rest e = drop_at x rest slot_bytes e

bytes_of_slot : (x rest : List ℕ) → length x ≡ slot_bytes → (byte_at 0 (x ++ rest) ≡ get_or x 0 0) × (byte_at 1 (x ++ rest) ≡ get_or x 1 0)
bytes_of_slot [] rest e = absurd (omega arith)
bytes_of_slot (a ∷ []) rest e = absurd (omega arith)
bytes_of_slot (a ∷ b ∷ x) rest e = (refl, refl)

pub kinds_first : (x rest : List ℕ) → length x ≡ slot_bytes
    → kinds_known (slot_count (x ++ rest)) (x ++ rest) ≡ (is_kind (get_or x 1 0) && kinds_known (slot_count rest) rest)
unfolding kinds_known
kinds_first x rest e =
    ap (λ (n : ℕ). kinds_known n (x ++ rest)) (count_more x rest e)
    ∙ ap₂ (λ (k : ℕ) (l : List ℕ). is_kind k && kinds_known (slot_count rest) l) (bytes_of_slot x rest e).1 (rest_of x rest e)

pub kinds_none : (b : List ℕ) → length b < slot_bytes → kinds_known (slot_count b) b ≡ true
unfolding kinds_known
kinds_none b h = let none : slot_count b ≡ 0 = omega (arith, h) in ap (λ (n : ℕ). kinds_known n b) none

kind_at : (n i : ℕ) (b : List ℕ) → kinds_known n b ≡ true → i < n → is_kind (byte_at 1 (drop (slot_bytes * i) b)) ≡ true
unfolding kinds_known
kind_at zero i b h l = absurd (omega arith)
kind_at (suc n) zero b h l = ((and-eq-true_iff (is_kind (byte_at 1 b)) (kinds_known n (drop slot_bytes b))).0 h).0
kind_at (suc n) (suc i) b h l =
    ap (λ (x : List ℕ). is_kind (byte_at 1 x)) (sym (next_slot i b))
    ∙ kind_at n i (drop slot_bytes b) ((and-eq-true_iff (is_kind (byte_at 1 b)) (kinds_known n (drop slot_bytes b))).0 h).1 (omega arith)

-- ---- their addresses looked at

pub slots_first : (s : Seen) (x rest : List ℕ) → length x ≡ slot_bytes
    → see_all s (row_of_slots (x ++ rest)) ≡ see_all (see_of s (get_or x 0 0)) (row_of_slots rest)
unfolding row_of_slots slots_to
slots_first s x rest e =
    ap (λ (n : ℕ). see_all s (fresh_row (slots_to n (x ++ rest)))) (count_more x rest e)
    ∙ ap₂ (λ (a : ℕ) (l : List ℕ). see_all (see_of s a) (fresh_row (slots_to (slot_count rest) l))) (bytes_of_slot x rest e).0 (rest_of x rest e)

pub slots_end : (s : Seen) (b : List ℕ) → length b < slot_bytes → see_all s (row_of_slots b) ≡ s
unfolding row_of_slots slots_to
slots_end s b h = let none : slot_count b ≡ 0 = omega (arith, h) in ap (λ (n : ℕ). see_all s (fresh_row (slots_to n b))) none

-- what is known of them tells the number
pub number_told : (b : List ℕ) (s : Seen) (w : Result Reach Fault) → s ≡ seen_of 0 (row_of_slots b) → w ≡ reach_for s Nothing → number_by w b ≡ slots_number b
unfolding slots_number
number_told b s w seen reached =
    ap (λ (x : Result Reach Fault). number_by x b) (reached ∙ ap (λ (x : Seen). reach_for x Nothing) seen ∙ reach_for_is Nothing 0 (row_of_slots b))

-- where the shelf refuses none of them
pub number_passed : (b : List ℕ) (s : Seen) (w : Reach) → s ≡ seen_of 0 (row_of_slots b) → Ok w ≡ reach_for s Nothing
    → (if kinds_known (slot_count b) b then 0 else 3) ≡ slots_number b
number_passed b s (At i) seen reached = number_told b s (Ok (At i)) seen reached
number_passed b s Everyone seen reached = number_told b s (Ok Everyone) seen reached

-- ---- room for them

pub laid : (row n : ℕ) → (eqb (row % record_bytes) 0 && eqb (row / record_bytes) n) ≡ eqb row (record_bytes * n)
laid row n = split (eqb row (record_bytes * n))
    (λ q. let e : row ≡ record_bytes * n = eqb-true row (record_bytes * n) q in
    ap₂ ◌&&◌ (eq-eqb (row % record_bytes) 0 (omega (arith, e))) (eq-eqb (row / record_bytes) n (omega (arith, e))) ∙ sym q)
    (λ q. split (eqb (row % record_bytes) 0)
    (λ u. let v : row % record_bytes ≡ 0 = eqb-true (row % record_bytes) 0 u in
    ap₂ ◌&&◌ u (ne_eqb (row / record_bytes) n (λ x. eqb-false row (record_bytes * n) q (omega (arith, v, x)))) ∙ sym q)
    (λ u. ap (λ (x : Bool). x && eqb (row / record_bytes) n) u ∙ sym q))

-- ---- one record more in the buffer

bytes_more : (row : List Record) (c : Record) → bytes_of_row (row ++ c ∷ []) ≡ bytes_of_row row ++ bytes_of_record c
unfolding bytes_of_row
bytes_more [] c = append-nil (bytes_of_record c)
bytes_more (a ∷ row) c = ap (λ (l : List ℕ). bytes_of_record a ++ l) (bytes_more row c)
    ∙ sym (append_assoc (bytes_of_record a) (bytes_of_row row) (bytes_of_record c))

map_more : (slots : List Slot) (s : Slot) → fresh_row (slots ++ s ∷ []) ≡ fresh_row slots ++ fresh_record s ∷ []
map_more [] s = refl
map_more (x ∷ slots) s = ap (λ (l : List Record). fresh_record x ∷ l) (map_more slots s)

-- the bytes of the first i slots
abbrev first_bytes : ℕ → List ℕ → List ℕ
first_bytes i slots = bytes_of_row (fresh_row (slots_to i slots))

first_more : (i : ℕ) (slots : List ℕ) → first_bytes (i + 1) slots ≡ first_bytes i slots
    ++ bytes_of_record (fresh_record (slot_in (drop (slot_bytes * i) slots)))
first_more i slots =
    ap (λ (n : ℕ). first_bytes n slots) (add-one i) ∙ ap (λ (l : List Slot). bytes_of_row (fresh_row l)) (slots_more i slots)
    ∙ ap bytes_of_row (map_more (slots_to i slots) _) ∙ bytes_more (fresh_row (slots_to i slots)) _

first_long : (i : ℕ) (slots : List ℕ) → length (first_bytes i slots) ≡ record_bytes * i
first_long i slots =
    row_long (fresh_row (slots_to i slots)) ∙ ap (λ (n : ℕ). record_bytes * n) (length-map (slots_to i slots) fresh_record ∙ slots_length i slots)

fresh_image_is : (kind : ℕ) (b : List ℕ) → is_kind kind ≡ true → length b ≡ image_length → fresh_after kind b ≡ image_of (power_up (kind_of kind))
unfolding fresh_after fresh_number
fresh_image_is kind b h e = simp (eq-eqb _ _ e, h)

part_long : (i : ℕ) (row : List ℕ) → record_bytes * i + record_bytes ≤ length row → length (image_in (drop (record_bytes * i) row)) ≡ image_length
part_long i row h =
    let e = length-drop (record_bytes * i) row in
    let f = length-drop 1 (drop (record_bytes * i) row) in
    length-take-le image_length (drop 1 (drop (record_bytes * i) row)) (omega (arith, e, f, h))

-- an image, and then the address before it, right after the bytes p that stand already
placed : (p l image : List ℕ) (a i : ℕ) → length p ≡ record_bytes * i → record_bytes * i + record_bytes ≤ length l
    → set (with_image i image (p ++ drop (record_bytes * i) l)) (record_bytes * i) a ≡ (p ++ (a ∷ image)) ++ drop (record_bytes * i + record_bytes) l
placed p l image a i e h =
    ap (λ (r : List ℕ). set (with_image i image (p ++ r)) n a) (drop-cons l n 0 (omega (arith, h)))
    ∙ ap (λ (k : ℕ). set (take k (p ++ rest) ++ (image ++ drop image_length (drop k (p ++ rest)))) n a) (sym (ap (λ (k : ℕ). k + 1) e))
    ∙ ap₂ (λ (x y : List ℕ). set (x ++ (image ++ drop image_length y)) n a) (take-append-add p rest 1) (drop-append-add p rest 1)
    ∙ ap (λ (x : List ℕ). set x n a) (append_assoc p (get_or l n 0 ∷ []) (image ++ drop image_length (drop (suc n) l)))
    ∙ set_at p (get_or l n 0) (image ++ drop image_length (drop (suc n) l)) a n e
    ∙ ap (λ (x : List ℕ). p ++ a ∷ (image ++ x)) (drop-drop image_length (suc n) l ∙ ap (λ (k : ℕ). drop k l) (sum n))
    ∙ sym (append_assoc p (a ∷ image) (drop (n + record_bytes) l))
  where
    n : ℕ
    n = record_bytes * i

    rest : List ℕ
    rest = get_or l n 0 ∷ drop (suc n) l

    sum : (n : ℕ) → suc n + image_length ≡ n + record_bytes
    sum n = omega arith

module _ (slots l : List ℕ) (n i : ℕ) (known : kinds_known n slots ≡ true) (more : i < n) (room : length l ≡ record_bytes * n) where
  pub slot_again : (row put : List ℕ) → length row ≡ length l → row ≡ bytes_of_row (fresh_row (slots_to i slots)) ++ drop (record_bytes * i) l
      → put ≡ with_image i (fresh_after (get_or slots (slot_bytes * i + 1) 0) (image_in (drop (record_bytes * i) row))) row
      → set put (record_bytes * i) (get_or slots (slot_bytes * i) 0) ≡ bytes_of_row (fresh_row (slots_to (i + 1) slots)) ++ drop (record_bytes * (i + 1)) l
  slot_again row put same at e =
      let inside : record_bytes * i + record_bytes ≤ length l = omega (arith, room, more) in
      let within : record_bytes * i + record_bytes ≤ length row = omega (arith, inside, same) in
      let image =
      ap (λ (k : ℕ). fresh_after k (image_in (drop (record_bytes * i) row))) (second_byte i slots)
      ∙ fresh_image_is _ _ (kind_at n i slots known more) (part_long i row within)
      in
      ap (λ (x : List ℕ). set x (record_bytes * i) (get_or slots (slot_bytes * i) 0)) (e ∙ ap₂ (λ (x y : List ℕ). with_image i x y) image at)
      ∙ placed (first_bytes i slots) l _ _ i (first_long i slots) inside
      ∙ ap (λ (a : ℕ). (first_bytes i slots ++ (a ∷ image_of (power_up (slot_in (drop (slot_bytes * i) slots)).kind)))
      ++ drop (record_bytes * i + record_bytes) l)
      (first_byte i slots)
      ∙ ap₂ (λ (x : List ℕ) (k : ℕ). x ++ drop k l) (sym (first_more i slots)) (further i)
    where
      further : (i : ℕ) → record_bytes * i + record_bytes ≡ record_bytes * (i + 1)
      further i = omega arith

pub slots_done : (slots l row : List ℕ) (n i : ℕ) → length l ≡ record_bytes * n → i ≡ n → row ≡ bytes_of_row (fresh_row (slots_to i slots))
    ++ drop (record_bytes * i) l
    → row ≡ bytes_of_row (fresh_row (slots_to n slots))
slots_done slots l row n i room e at =
    at ∙ ap (λ (k : ℕ). bytes_of_row (fresh_row (slots_to k slots)) ++ drop (record_bytes * k) l) e
    ∙ ap (λ (x : List ℕ). first_bytes n slots ++ x) (drop_of_length-le l {i = record_bytes * n} (omega (arith, room))) ∙ append-nil (first_bytes n slots)

-- ---- the whole call

pub laid_room : (slots row : ℕ) → is_laid_for slots row ≡ true → row ≡ record_bytes * (slots / slot_bytes)
laid_room slots row h =
    eqb-true row (record_bytes * (slots / slot_bytes)) ((and-eq-true_iff (eqb (slots % slot_bytes) 0) (eqb row (record_bytes * (slots / slot_bytes)))).0 h).1

known_by : (w : Result Reach Fault) (b : List ℕ) → number_by w b ≡ 0 → kinds_known (slot_count b) b ≡ true
known_by w b = by w
  where
    kinds : (x : Bool) → ◌≡◌ {A = ℕ} (if x then 0 else 3) 0 → x ≡ true
    kinds true e = refl
    kinds false e = absurd (omega arith)

    by : (w : Result Reach Fault) → number_by w b ≡ 0 → kinds_known (slot_count b) b ≡ true
    by (Ok (At i)) e = kinds (kinds_known (slot_count b) b) e
    by (Ok Everyone) e = kinds (kinds_known (slot_count b) b) e
    by (Err EmptyRow) e = absurd (omega arith)
    by (Err TooMany) e = absurd (omega arith)
    by (Err EqualAddresses) e = absurd (omega arith)
    by (Err NotInRow) e = absurd (omega arith)

pub number_known : (b : List ℕ) → slots_number b ≡ 0 → kinds_known (slot_count b) b ≡ true
unfolding slots_number
number_known b e = known_by (reach_of Nothing 0 (addresses_of (row_of_slots b))) b e

module _ (slots row : List ℕ) where
  pub fresh_done : (after : List ℕ) → is_laid_for (length slots) (length row) ≡ true → slots_number slots ≡ 0
      → after ≡ bytes_of_row (fresh_row (slots_to (slot_count slots) slots)) → (0 ≡ fresh_row_number slots row) × (after ≡ fresh_row_buffer slots row)
  unfolding fresh_row_number fresh_row_buffer row_of_slots
  fresh_done after h e made =
      let number : fresh_row_number slots row ≡ 0 = if_true _ _ h ∙ e in
      (sym number, made ∙ sym (if_true _ _ (eq-eqb (fresh_row_number slots row) 0 number)))

  pub fresh_refused : (number : ℕ) → is_laid_for (length slots) (length row) ≡ true → number ≡ slots_number slots → (number ≡ 0 → ⊥)
      → (number ≡ fresh_row_number slots row) × (row ≡ fresh_row_buffer slots row)
  unfolding fresh_row_number fresh_row_buffer
  fresh_refused number h e bad =
      let told : fresh_row_number slots row ≡ number = if_true _ _ h ∙ sym e in
      (sym told, sym (if_false _ _ (ne_eqb (fresh_row_number slots row) 0 (λ z. bad (sym told ∙ z)))))

  pub fresh_unlaid : is_laid_for (length slots) (length row) ≡ false → (9 ≡ fresh_row_number slots row) × (row ≡ fresh_row_buffer slots row)
  unfolding fresh_row_number fresh_row_buffer
  fresh_unlaid h =
      let told : fresh_row_number slots row ≡ 9 = if_false _ _ h in
      (sym told, sym (if_false _ _ (ap (λ (n : ℕ). eqb n 0) told)))
