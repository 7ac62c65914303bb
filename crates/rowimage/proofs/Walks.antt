-- One turn of each walk through a row's bytes: a part of the buffer is the image at its place, one address more is seen, one record more has
-- made the step.
-- Assumes nothing.
use Prim.Native.Nat.{ℕ, zero, suc, ◌+◌, ◌-◌, ◌*◌, ◌<◌, ◌≤◌}
use native.Mathlib.Omega.{arith}
use mathlib.Core.Path.{◌≡◌, refl, sym, ap, ap₂, subst, ◌∙◌}
use mathlib.Core.Bool.{true, ◌&&◌}
use mathlib.Core.List.{List, [], ◌∷◌, ◌++◌}
use lib.Dec.{eqb}
use lib.ListN.{length, get_or, take, drop, length-append}
use lib.Seq.{drop-drop, get_or-set_other, take_at, drop_at, take-length}
use Rattle.std.specs.Prelude.{Option, None, Ok, Err}
use Rattle.std.specs.Option.{unwrap_or}
use Rattle.std.specs.declared.ops.Range.{Range}
use Rattle.arbiter.specs.Steps.{step}
use Rattle.arbiter.specs.declared.Device.{Device}
use Rattle.arbiter.specs.declared.Raw.{Raw}
use Rattle.arbiter.specs.declared.Answer.{Answer}
use Rattle.ranges.specs.Ranges.{in_range}
use Rattle.layout.specs.Layout.{image_length, image_of}
use Rattle.layout.specs.Images.{is_image, image_number, image_answer, image_after}
use Rattle.layout.proofs.Steps.{steps_alike}
use Rattle.shelf.specs.declared.Record.{Record}
use Rattle.shelf.specs.declared.Fault.{Fault}
use Rattle.shelf.specs.Shelf.{no_record, record_at, device_at, step_record, fault_answer, shelf_row}
use Rattle.shelf.specs.Shelf.{shelf_answer}
use Rattle.routing.specs.declared.Seen.{Seen}
use Rattle.routing.specs.Deciding.{see_of, seen_of, plan_of}
use Rattle.rows.specs.Sweeps.{turn, place_after, sweep_of, carried_out}
use Rattle.rows.proofs.Carried.{place_sum, sweep_none, sweep_length, plan_does, plan_refused}
use Rattle.rowimage.specs.Row.{record_bytes, record_count, bytes_of_row, image_in, records_to, records_in, images_fit, is_row}
use Rattle.rowimage.specs.Walk.{image_place, with_image, told_by}
use Rattle.rowimage.specs.Laws.{row_in_range}
use Rattle.rowimage.proofs.Seeing.{see_all}
use Rattle.rowimage.proofs.Bytes.{records_length, image_at, image_put, row_laid_out_back}
use Rattle.rowimage.proofs.Laws.{device_fits}

-- ---- the part of the buffer at a place

pub part_size : (i : ℕ) → image_place i + image_length - image_place i ≡ image_length
part_size i = omega arith

pub part_is : (i : ℕ) (b : List ℕ) → take (image_place i + image_length - image_place i) (drop (image_place i) b) ≡ image_in (drop (record_bytes * i) b)
part_is i b =
    ap (λ (n : ℕ). take n (drop (image_place i) b)) (part_size i)
    ∙ ap (λ (l : List ℕ). take image_length l) (sym (drop-drop 1 (record_bytes * i) b))

pub image_in_place : (row : List Record) (i : ℕ) → i < length row → image_in (drop (record_bytes * i) (bytes_of_row row)) ≡ image_of (device_at row i)
image_in_place row i h = ap (λ (l : List ℕ). take image_length l) (drop-drop 1 (record_bytes * i) (bytes_of_row row)) ∙ image_at row i h

-- ---- the records one after the other, as the loops have what is left of the buffer

-- what is left has one record more
count_more : (x rest : List ℕ) → length x ≡ record_bytes → record_count (x ++ rest) ≡ suc (record_count rest)
count_more x rest e = let both = length-append x rest in omega (arith, both, e)

first_of : (x rest : List ℕ) → length x ≡ record_bytes → image_in (x ++ rest) ≡ take (length x - 1) (drop 1 x)
first_of [] rest e = absurd (omega arith)
first_of (a ∷ x) rest e = take_at x rest image_length (omega (arith, e)) ∙ sym (ap (λ (n : ℕ). take n x) (one_less (length x)) ∙ take-length x)
  where
    one_less : (n : ℕ) → suc n - 1 ≡ n
    one_less n = omega arith

rest_of : (x rest : List ℕ) → length x ≡ record_bytes → drop record_bytes (x ++ rest) ≡ rest
rest_of x rest e = drop_at x rest record_bytes e

pub fit_more : (x rest : List ℕ) → length x ≡ record_bytes
    → images_fit (record_count (x ++ rest)) (x ++ rest) ≡ (eqb (image_number (take (length x - 1) (drop 1 x))) 0 && images_fit (record_count rest) rest)
unfolding images_fit
fit_more x rest e =
    ap (λ (n : ℕ). images_fit n (x ++ rest)) (count_more x rest e)
    ∙ ap₂ (λ (l m : List ℕ). is_image l && images_fit (record_count rest) m) (first_of x rest e) (rest_of x rest e)

pub fit_none : (b : List ℕ) → length b < record_bytes → images_fit (record_count b) b ≡ true
unfolding images_fit
fit_none b h = let none : record_count b ≡ 0 = omega (arith, h) in ap (λ (n : ℕ). images_fit n b) none

pub see_more : (s : Seen) (x rest : List ℕ) → length x ≡ record_bytes
    → see_all s (records_in (x ++ rest)) ≡ see_all (see_of s (get_or x 0 0)) (records_in rest)
unfolding records_in records_to
see_more s x rest e =
    ap (λ (n : ℕ). see_all s (records_to n (x ++ rest))) (count_more x rest e)
    ∙ ap₂ (λ (a : ℕ) (l : List ℕ). see_all (see_of s a) (records_to (record_count rest) l)) (address_first x e) (rest_of x rest e)
  where
    address_first : (x : List ℕ) → length x ≡ record_bytes → get_or (x ++ rest) 0 0 ≡ get_or x 0 0
    address_first [] e = absurd (omega arith)
    address_first (a ∷ x) e = refl

pub see_end : (s : Seen) (b : List ℕ) → length b < record_bytes → see_all s (records_in b) ≡ s
unfolding records_in records_to
see_end s b h = let none : record_count b ≡ 0 = omega (arith, h) in ap (λ (n : ℕ). see_all s (records_to n b)) none

-- ---- a step at a place

-- the records that are still ahead are as they were
ahead : (r : Raw) (from k : ℕ) (s : List Record × Option Answer) (j : ℕ) → place_after from k ≤ j → record_at (sweep_of r from k s).0 j ≡ record_at s.0 j
unfolding sweep_of
ahead r from zero s j h = refl
ahead r from (suc k) s j h =
    get_or-set_other (sweep_of r from k s).0 (place_after from k) j _ no_record (λ e. omega (arith, h, e)) ∙ ahead r from k s j (omega arith)

module _ (row : List Record) (r : Raw) (from k i : ℕ) (fits : row_in_range row ≡ true) (place : i ≡ place_after from k) (inside : i < length row)
    (b : List ℕ) (t : Option Answer) (at_b : b ≡ bytes_of_row (sweep_of r from k (row, None)).0) (at-t : t ≡ (sweep_of r from k (row, None)).1) where
  abbrev s : List Record × Option Answer
  s = sweep_of r from k (row, None)

  abbrev d : Device
  d = device_at (sweep_of r from k (row, None)).0 i

  there : i < length (sweep_of r from k (row, None)).0
  there = subst (λ (n : ℕ). i < n) (sym (sweep_length r from k (row, None))) inside

  d_fits : in_range (device_at (sweep_of r from k (row, None)).0 i) ≡ true
  d_fits = ap (λ (c : Record). in_range c.device) (ahead r from k (row, None) i (omega (arith, place))) ∙ device_fits row i fits

  image : image_in (drop (record_bytes * i) b) ≡ image_of (device_at (sweep_of r from k (row, None)).0 i)
  image = ap (λ (l : List ℕ). image_in (drop (record_bytes * i) l)) at_b ∙ image_in_place (sweep_of r from k (row, None)).0 i there

  row_again : (after : List ℕ) → after ≡ with_image i (image_after (image_in (drop (record_bytes * i) b)) r) b
      → after ≡ bytes_of_row (sweep_of r from (suc k) (row, None)).0
  unfolding sweep_of step_record
  row_again after e =
      e ∙ ap (λ (l : List ℕ). with_image i (image_after l r) b) image
      ∙ ap (λ (l : List ℕ). with_image i l b) (steps_alike d r d_fits).1
      ∙ ap (λ (l : List ℕ). with_image i (image_of (step d r).device) l) at_b
      ∙ image_put s.0 i (step_record r (record_at s.0 i)) there refl
      ∙ ap (λ (j : ℕ). bytes_of_row (turn r j s).0) place

  told_again : (a : Answer) (now : Option Answer) → a ≡ image_answer (image_in (drop (record_bytes * i) b)) r → now ≡ told_by t a
      → now ≡ (sweep_of r from (suc k) (row, None)).1
  unfolding sweep_of
  told_again a now e p =
      p ∙ ap (λ (x : Answer). told_by t x) (e ∙ ap (λ (l : List ℕ). image_answer l r) image ∙ (steps_alike d r d_fits).0)
      ∙ ap (λ (x : Option Answer). told_by x (step d r).answer) at-t
      ∙ ap (λ (j : ℕ). (turn r j s).1) place

-- ---- the places of a plan, on a good buffer b

module _ (b : List ℕ) (good : is_row b ≡ true) where
  abbrev row : List Record
  row = records_in b

  count : length (records_in b) ≡ record_count b
  unfolding records_in
  count = records_length (record_count b) b

  -- before the first
  pub carry_none : (r : Raw) (from : ℕ)
      → (b ≡ bytes_of_row (sweep_of r from (from - from) (records_in b, None)).0) × (None ≡ (sweep_of r from (from - from) (records_in b, None)).1)
  carry_none r from =
      let none : 0 ≡ from - from = omega arith in (
        sym (row_laid_out_back b good).1 ∙ ap (λ (s : List Record × Option Answer). bytes_of_row s.0) (sym (sweep_none r from (row, None)))
            ∙ ap (λ (k : ℕ). bytes_of_row (sweep_of r from k (row, None)).0) none,
        ap (λ (s : List Record × Option Answer). s.1) (sym (sweep_none r from (row, None))) ∙ ap (λ (k : ℕ). (sweep_of r from k (row, None)).1) none,
      )

  -- one more
  pub carry_again : (r : Raw) (from i : ℕ) → from ≤ i → i < record_count b
      → (l after : List ℕ) (t now : Option Answer) (a : Answer)
      → l ≡ bytes_of_row (sweep_of r from (i - from) (records_in b, None)).0 → t ≡ (sweep_of r from (i - from) (records_in b, None)).1
      → a ≡ image_answer (image_in (drop (record_bytes * i) l)) r
      → after ≡ with_image i (image_after (image_in (drop (record_bytes * i) l)) r) l
      → now ≡ told_by t a
      → (after ≡ bytes_of_row (sweep_of r from (i + 1 - from) (records_in b, None)).0) × (now ≡ (sweep_of r from (i + 1 - from) (records_in b, None)).1)
  carry_again r from i h inside l after t now a at-l at-t answered stepped told =
      let fits = (row_laid_out_back b good).0 in
      let sum = place_sum from (i - from) in
      let place : i ≡ place_after from (i - from) = omega (arith, sum, h) in
      let there : i < length (records_in b) = omega (arith, count, inside) in
      let next : suc (i - from) ≡ i + 1 - from = omega (arith, h) in (
        row_again row r from (i - from) i fits place there l t at-l at-t after stepped ∙ ap (λ (k : ℕ). bytes_of_row (sweep_of r from k (row, None)).0) next,
        told_again row r from (i - from) i fits place there l t at-l at-t a now answered told ∙ ap (λ (k : ℕ). (sweep_of r from k (row, None)).1) next,
      )

  -- all of them
  pub plan_fits : (name : ℕ) (r : Raw) (p : Range ℕ) → Ok p ≡ plan_of (seen_of name (records_in b)) r.kind → (p.start ≤ p.end) × (p.end ≤ record_count b)
  plan_fits name r p e =
      let does = plan_does name r row p e in
      (does.ordered, subst (λ (n : ℕ). p.end ≤ n) count does.fits)

  pub plan_done : (name : ℕ) (r : Raw) (p : Range ℕ) (after : List ℕ) (t : Option Answer) (a : Answer) → Ok p ≡ plan_of (seen_of name (records_in b)) r.kind
      → after ≡ bytes_of_row (carried_out r p (records_in b)).0 → t ≡ (carried_out r p (records_in b)).1
      → (unwrap_or t a ≡ shelf_answer (records_in b) name r) × (after ≡ bytes_of_row (shelf_row (records_in b) name r))
  plan_done name r p after t a e left told =
      let does = plan_does name r row p e in (
        ap (λ (x : Option Answer). unwrap_or x a) (told ∙ does.answers),
        left ∙ ap bytes_of_row does.leaves,
      )

  pub plan_none : (name : ℕ) (r : Raw) (f : Fault) (a : Answer) → Err f ≡ plan_of (seen_of name (records_in b)) r.kind → a ≡ fault_answer f
      → (a ≡ shelf_answer (records_in b) name r) × (b ≡ bytes_of_row (shelf_row (records_in b) name r))
  plan_none name r f a e told =
      let refused = plan_refused name r row f e in
      (told ∙ refused.1, sym (row_laid_out_back b good).1 ∙ ap bytes_of_row refused.0)
