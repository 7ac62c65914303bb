-- The bytes of a row, record by record: read back, laid out again, the record at a place, and one image replaced.
-- Assumes nothing.
use Prim.Native.Nat.{ℕ, zero, suc, ◌+◌, ◌-◌, ◌*◌, ◌%◌, ◌<◌, ◌≤◌}
use native.Mathlib.Omega.{arith}
use mathlib.Core.Path.{◌≡◌, refl, sym, ap, ap₂, ◌∙◌}
use mathlib.Core.Bool.{true, false, ◌&&◌, and-eq-true_iff}
use mathlib.Core.List.{List, [], ◌∷◌, ◌++◌, append_assoc}
use lib.Dec.{eqb}
use lib.ListN.{length, take, drop, set, length-append, length-drop, take-append-drop}
use lib.Seq.{take_at, drop_at, drop-drop, take-append-add, drop-append-add}
use borrow.Author.Tests.{eq-eqb, eqb-true}
use Rattle.arbiter.specs.declared.Device.{Device}
use Rattle.arbiter.proofs.Choice.{split, if_true, if_false}
use Rattle.ranges.specs.Ranges.{in_range}
use Rattle.layout.specs.Layout.{image_length, image_of, device_in}
use Rattle.layout.specs.Images.{is_image}
use Rattle.layout.proofs.Fits.{whole, record_fits, image_fits}
use Rattle.layout.proofs.Back.{read_back, laid_out_back}
use Rattle.shelf.specs.declared.Record.{Record}
use Rattle.shelf.specs.Shelf.{record_at, device_at}
use Rattle.rowimage.specs.Row.{record_bytes, record_count, bytes_of_record, bytes_of_row, image_in, record_in, records_to, records_in, images_fit, row_number}
use Rattle.rowimage.specs.Row.{is_row}
use Rattle.rowimage.specs.Walk.{image_place, with_image}
use Rattle.rowimage.specs.Laws.{row_in_range, RowReadBack, RowLaidOutBack}

-- ---- one record

pub record_long : (c : Record) → length (bytes_of_record c) ≡ record_bytes
record_long c = ap suc (whole c.device)

image_first : (c : Record) (rest : List ℕ) → image_in (bytes_of_record c ++ rest) ≡ image_of c.device
image_first c rest = take_at (image_of c.device) rest image_length (whole c.device)

rest_after : (c : Record) (rest : List ℕ) → drop record_bytes (bytes_of_record c ++ rest) ≡ rest
rest_after c rest = drop_at (bytes_of_record c) rest record_bytes (record_long c)

record_first : (c : Record) (rest : List ℕ) → in_range c.device ≡ true → record_in (bytes_of_record c ++ rest) ≡ c
record_first c rest h =
    ap (λ (d : Device). let x : Record = record { address = c.address; device = d } in x) (ap device_in (image_first c rest) ∙ read_back c.device h)

-- ---- a row in range comes back from its bytes

pub row_long : (row : List Record) → length (bytes_of_row row) ≡ record_bytes * length row
unfolding bytes_of_row
row_long [] = refl
row_long (c ∷ row) =
    let e = row_long row in
    let h = record_long c in
    let both = length-append (bytes_of_record c) (bytes_of_row row) in
    omega (arith, e, h, both)

records_back : (row : List Record) → row_in_range row ≡ true → records_to (length row) (bytes_of_row row) ≡ row
unfolding bytes_of_row records_to row_in_range
records_back [] h = refl
records_back (c ∷ row) h =
    let two = (and-eq-true_iff (in_range c.device) (row_in_range row)).0 h in
    ap₂ ◌∷◌ (record_first c (bytes_of_row row) two.0)
    (ap (λ (b : List ℕ). records_to (length row) b) (rest_after c (bytes_of_row row)) ∙ records_back row two.1)

images_back : (row : List Record) → row_in_range row ≡ true → images_fit (length row) (bytes_of_row row) ≡ true
unfolding bytes_of_row images_fit row_in_range
images_back [] h = refl
images_back (c ∷ row) h =
    let two = (and-eq-true_iff (in_range c.device) (row_in_range row)).0 h in
    ap₂ ◌&&◌ (ap (λ (b : List ℕ). is_image b) (image_first c (bytes_of_row row)) ∙ record_fits c.device two.0)
    (ap (λ (b : List ℕ). images_fit (length row) b) (rest_after c (bytes_of_row row)) ∙ images_back row two.1)

-- ---- the test of a buffer

pub row_good : (b : List ℕ) → length b % record_bytes ≡ 0 → images_fit (record_count b) b ≡ true → is_row b ≡ true
unfolding row_number
row_good b e h = simp (eq-eqb _ _ e, h)

pub good_row : (b : List ℕ) → is_row b ≡ true → (length b ≡ record_bytes * record_count b) × (images_fit (record_count b) b ≡ true)
unfolding row_number
good_row b h = split (eqb (length b % record_bytes) 0)
    (λ q. let e : length b % record_bytes ≡ 0 = eqb-true (length b % record_bytes) 0 q in
    (omega arith, split (images_fit (record_count b) b) (λ f. f) (λ f. absurd (refused 15 (if_true _ _ q ∙ if_false _ _ f)))))
    (λ q. absurd (refused 8 (if_false _ _ q)))
  where
    refused : (n : ℕ) → row_number b ≡ suc n → ⊥
    refused n e = let none : row_number b ≡ 0 = eqb-true (row_number b) 0 h in omega (arith, e, none)

pub row_read_back : RowReadBack
unfolding records_in
row_read_back row h =
    let long = row_long row in
    let count : record_count (bytes_of_row row) ≡ length row = omega (arith, long) in
    let rest : length (bytes_of_row row) % record_bytes ≡ 0 = omega (arith, long) in (
      row_good (bytes_of_row row) rest (ap (λ (n : ℕ). images_fit n (bytes_of_row row)) count ∙ images_back row h),
      ap (λ (n : ℕ). records_to n (bytes_of_row row)) count ∙ records_back row h,
    )

-- ---- a good buffer comes back from its records

first_again : (b : List ℕ) → record_bytes ≤ length b → is_image (image_in b) ≡ true → bytes_of_record (record_in b) ++ drop record_bytes b ≡ b
first_again [] l h = absurd (omega arith)
first_again (x ∷ b) l h =
    ap (λ (i : List ℕ). x ∷ (i ++ drop image_length b)) (laid_out_back (image_in (x ∷ b)) h) ∙ ap (λ (i : List ℕ). x ∷ i) (take-append-drop image_length b)

none_left : (b : List ℕ) → length b ≡ 0 → [] ≡ b
none_left [] e = refl
none_left (x ∷ b) e = absurd (omega arith)

laid_out : (n : ℕ) (b : List ℕ) → length b ≡ record_bytes * n → images_fit n b ≡ true
    → (row_in_range (records_to n b) ≡ true) × (bytes_of_row (records_to n b) ≡ b)
unfolding bytes_of_row records_to images_fit row_in_range
laid_out zero b e h = (refl, none_left b e)
laid_out (suc n) b e h =
    let two = (and-eq-true_iff (is_image (image_in b)) (images_fit n (drop record_bytes b))).0 h in
    let rest = laid_out n (drop record_bytes b) (shorter (length-drop record_bytes b)) two.1 in (
      (and-eq-true_iff (in_range (device_in (image_in b))) (row_in_range (records_to n (drop record_bytes b)))).1 (image_fits (image_in b) two.0, rest.0),
      ap (λ (l : List ℕ). bytes_of_record (record_in b) ++ l) rest.1 ∙ first_again b (omega (arith, e)) two.0,
    )
  where
    shorter : length (drop record_bytes b) ≡ length b - record_bytes → length (drop record_bytes b) ≡ record_bytes * n
    shorter d = omega (arith, d, e)

pub row_laid_out_back : RowLaidOutBack
unfolding records_in
row_laid_out_back b h = let good = good_row b h in laid_out (record_count b) b good.0 good.1

-- ---- the record at a place

next_place : (i : ℕ) (b : List ℕ) → drop (record_bytes * i) (drop record_bytes b) ≡ drop (record_bytes * suc i) b
next_place i b = drop-drop (record_bytes * i) record_bytes b ∙ ap (λ (n : ℕ). drop n b) (further i)
  where
    further : (i : ℕ) → record_bytes + record_bytes * i ≡ record_bytes * suc i
    further i = omega arith

pub record_at_lem : (n i : ℕ) (b : List ℕ) → i < n → record_at (records_to n b) i ≡ record_in (drop (record_bytes * i) b)
unfolding records_to
record_at_lem zero i b h = absurd (omega arith)
record_at_lem (suc n) zero b h = refl
record_at_lem (suc n) (suc i) b h = record_at_lem n i (drop record_bytes b) (omega arith) ∙ ap record_in (next_place i b)

pub records_length : (n : ℕ) (b : List ℕ) → length (records_to n b) ≡ n
unfolding records_to
records_length zero b = refl
records_length (suc n) b = ap suc (records_length n (drop record_bytes b))

-- ---- the image at a place of a row's bytes, and another in its stead

further_place : (c : Record) (i : ℕ) → image_place (suc i) ≡ length (bytes_of_record c) + image_place i
further_place c i = let h = record_long c in omega (arith, h)

pub image_at : (row : List Record) (i : ℕ) → i < length row → take image_length (drop (image_place i) (bytes_of_row row)) ≡ image_of (device_at row i)
unfolding bytes_of_row
image_at [] i h = absurd (omega arith)
image_at (c ∷ row) zero h = image_first c (bytes_of_row row)
image_at (c ∷ row) (suc i) h =
    ap (λ (n : ℕ). take image_length (drop n (bytes_of_record c ++ bytes_of_row row))) (further_place c i)
    ∙ ap (λ (l : List ℕ). take image_length l) (drop-append-add (bytes_of_record c) (bytes_of_row row) (image_place i))
    ∙ image_at row i (omega arith)

pub image_put : (row : List Record) (i : ℕ) (c : Record) → i < length row → c.address ≡ (record_at row i).address
    → with_image i (image_of c.device) (bytes_of_row row) ≡ bytes_of_row (set row i c)
unfolding bytes_of_row
image_put [] i c h e = absurd (omega arith)
image_put (a ∷ row) zero c h e =
    ap (λ (l : List ℕ). a.address ∷ (image_of c.device ++ l)) (drop_at (image_of a.device) (bytes_of_row row) image_length (whole a.device))
    ∙ ap (λ (n : ℕ). n ∷ (image_of c.device ++ bytes_of_row row)) (sym e)
image_put (a ∷ row) (suc i) c h e =
    ap (λ (n : ℕ). take n l ++ (image_of c.device ++ drop image_length (drop n l))) (further_place a i)
    ∙ ap₂ (λ (x y : List ℕ). x ++ (image_of c.device ++ drop image_length y)) (take-append-add (bytes_of_record a) (bytes_of_row row) (image_place i))
    (drop-append-add (bytes_of_record a) (bytes_of_row row) (image_place i))
    ∙ append_assoc (bytes_of_record a) (take (image_place i) (bytes_of_row row)) _
    ∙ ap (λ (x : List ℕ). bytes_of_record a ++ x) (image_put row i c (omega arith) e)
  where
    l : List ℕ
    l = bytes_of_record a ++ bytes_of_row row
