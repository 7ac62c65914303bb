-- A plan carried out does to the row what the event does, and answers as the event does.
-- Assumes nothing.
use Prim.Native.Nat.{ℕ, zero, suc, ◌+◌, ◌-◌, ◌<◌, ◌≤◌}
use native.Mathlib.Omega.{arith}
use mathlib.Core.Path.{◌≡◌, refl, sym, ap, ◌∙◌, subst}
use mathlib.Core.Bool.{Bool, true, false, false≢true}
use mathlib.Core.List.{List, [], ◌∷◌, ◌++◌, map}
use lib.Dec.{eqb, ltb}
use lib.ListN.{length, take, drop, set, length-set, length-drop}
use lib.Seq.{take-length, drop-length, length-take-le}
use Rattle.std.proofs.lemmas.List.{append-nil}
use borrow.Author.Tests.{eqb-false, ltb-false}
use borrow.Rule.Slice.PartMut.{put_mid}
use Rattle.std.specs.Prelude.{Option, Some, None, Result, Ok, Err, if◌then◌else◌}
use Rattle.std.specs.declared.ops.Range.{Range}
use Rattle.arbiter.specs.Steps.{step}
use Rattle.arbiter.specs.declared.Raw.{Raw}
use Rattle.arbiter.specs.declared.Answer.{Answer}
use Rattle.shelf.specs.declared.Record.{Record}
use Rattle.shelf.specs.declared.Fault.{Fault}
use Rattle.shelf.specs.declared.Fault.TheVariants.{EmptyRow, TooMany}
use Rattle.shelf.specs.declared.Reach.{Reach}
use Rattle.shelf.specs.declared.Reach.TheVariants.{At, Everyone}
use Rattle.shelf.specs.Shelf.{addresses_of, record_at, device_at, reaches, step_record, row_after, answer_after, fault_answer, shelf_row}
use Rattle.shelf.specs.Shelf.{shelf_answer}
use Rattle.shelf.proofs.Rows.{addresses_length}
use Rattle.shelf.proofs.Found.{reached_in_row}
use Rattle.routing.specs.Deciding.{seen_of, places, plan_by, plan_in, plan_of, first_answer}
use Rattle.routing.proofs.Told.{reach_is, count_is}
use Rattle.rows.specs.Sweeps.{turn, place_after, sweep_of, carried_out}

-- ---- a sweep, as the loop has it

pub place_sum : (from k : ℕ) → place_after from k ≡ from + k
place_sum from zero = omega arith
place_sum from (suc k) = let e = place_sum from k in omega arith

place_later : (from k : ℕ) → place_after (suc from) k ≡ suc (place_after from k)
place_later from zero = refl
place_later from (suc k) = ap suc (place_later from k)

pub sweep_none : (r : Raw) (from : ℕ) (s : List Record × Option Answer) → sweep_of r from 0 s ≡ s
unfolding sweep_of
sweep_none r from s = refl

pub sweep_length : (r : Raw) (from k : ℕ) (s : List Record × Option Answer) → length (sweep_of r from k s).0 ≡ length s.0
unfolding sweep_of
sweep_length r from zero s = refl
sweep_length r from (suc k) s = length-set (sweep_of r from k s).0 (place_after from k) _ ∙ sweep_length r from k s

-- one turn more of a loop over all of them
pub visited_next : (r : Raw) (i : ℕ) (s : List Record × Option Answer) (row : List Record) (t : Option Answer) (c : Record) (a : Answer)
    → (row, t) ≡ sweep_of r 0 i s → c ≡ step_record r (record_at row i) → a ≡ first_answer t (step (device_at row i) r).answer
    → (set row i c, Some a) ≡ sweep_of r 0 (suc i) s
unfolding sweep_of
visited_next r i s row t c a before stepped told =
    ap (λ (x : Record). (set row i x, Some a)) stepped
    ∙ ap (λ (x : Answer). (set row i (step_record r (record_at row i)), Some x)) told
    ∙ ap (turn r i) before ∙ ap (λ (n : ℕ). turn r n (sweep_of r 0 i s)) here
  where
    here : i ≡ place_after 0 i
    here = let e = place_sum 0 i in omega arith

-- ---- every record

-- the first of them first
peel : (r : Raw) (from k : ℕ) (s : List Record × Option Answer) → sweep_of r from (suc k) s ≡ sweep_of r (suc from) k (turn r from s)
unfolding sweep_of
peel r from zero s = refl
peel r from (suc k) s =
    ap (λ (x : List Record × Option Answer). turn r (place_after from (suc k)) x) (peel r from k s)
    ∙ ap (λ (n : ℕ). turn r n (sweep_of r (suc from) k (turn r from s))) (sym (place_later from k))

-- a record before them is left alone
shift : (r : Raw) (from k : ℕ) (c : Record) (row : List Record) (t : Option Answer)
    → sweep_of r (suc from) k (c ∷ row, t) ≡ (c ∷ (sweep_of r from k (row, t)).0, (sweep_of r from k (row, t)).1)
unfolding sweep_of
shift r from zero c row t = refl
shift r from (suc k) c row t =
    ap (λ (n : ℕ). turn r n (sweep_of r (suc from) k (c ∷ row, t))) (place_later from k)
    ∙ ap (λ (x : List Record × Option Answer). turn r (suc (place_after from k)) x) (shift r from k c row t)

all_rows : (r : Raw) (row : List Record) (t : Option Answer) → (sweep_of r 0 (length row) (row, t)).0 ≡ map (step_record r) row
unfolding sweep_of
all_rows r [] t = refl
all_rows r (c ∷ row) t =
    ap (λ (x : List Record × Option Answer). x.0) (peel r 0 (length row) (c ∷ row, t) ∙ shift r 0 (length row) (step_record r c) row _)
    ∙ ap (λ (l : List Record). step_record r c ∷ l) (all_rows r row _)

-- one that has answered is not overruled
kept : (r : Raw) (from k : ℕ) (row : List Record) (a : Answer) → (sweep_of r from k (row, Some a)).1 ≡ Some a
unfolding sweep_of
kept r from zero row a = refl
kept r from (suc k) row a =
    let s : List Record × Option Answer = sweep_of r from k (row, Some a) in
    ap (λ (t : Option Answer). Some (first_answer t (step (device_at s.0 (place_after from k)) r).answer)) (kept r from k row a)

first_answers : (r : Raw) (c : Record) (row : List Record) → (sweep_of r 0 (length (c ∷ row)) (c ∷ row, None)).1 ≡ Some (step c.device r).answer
unfolding sweep_of
first_answers r c row =
    ap (λ (x : List Record × Option Answer). x.1) (peel r 0 (length row) (c ∷ row, None))
    ∙ kept r 1 (length row) (step_record r c ∷ row) (step c.device r).answer

-- ---- an event that reaches all has a row of 1 to 16 records

abbrev is_everyone : Result Reach Fault → Bool
is_everyone (Ok (At i)) = false
is_everyone (Ok Everyone) = true
is_everyone (Err f) = false

past : (b : Bool) (f : Fault) (w : Result Reach Fault) → (if b then Err f else w) ≡ Ok Everyone → (b ≡ false) × (w ≡ Ok Everyone)
past true f w h = absurd (false≢true (ap is_everyone h))
past false f w h = (refl, h)

everyone_in_row : (roll : List ℕ) (name : ℕ) (r : Raw) → reaches roll name r ≡ Ok Everyone → (length roll ≡ 0 → ⊥) × (length roll ≤ 16)
unfolding reaches
everyone_in_row roll name r h =
    let (q₁, h₁) = past (eqb (length roll) 0) EmptyRow _ h in
    let (q₂, h₂) = past (ltb 16 (length roll)) TooMany _ h₁ in
    (eqb-false (length roll) 0 q₁, ltb-false 16 (length roll) q₂)

-- ---- a plan

-- the part of a row at its places, swept over by itself
abbrev pub part_swept : Raw → Range ℕ → List Record → List Record × Option Answer
part_swept r p row = sweep_of r 0 (p.end - p.start) (take (p.end - p.start) (drop p.start row), None)

-- what is said of it: its places lie in the row, and it does what the event does, to the row and to its part that holds them
pub record Does (r : Raw) (p : Range ℕ) (row : List Record) (after : List Record) (a : Answer) : Type 0 where
  pub ordered : p.start ≤ p.end
  pub fits : p.end ≤ length row
  pub leaves : (carried_out r p row).0 ≡ after
  pub answers : (carried_out r p row).1 ≡ Some a
  pub part_leaves : put_mid p.start (p.end - p.start) row (part_swept r p row).0 ≡ after
  pub part_answers : (part_swept r p row).1 ≡ Some a

-- the part that is one place
one_at : (i : ℕ) (row : List Record) → i < length row → take 1 (drop i row) ≡ record_at row i ∷ []
one_at i [] h = absurd (omega arith)
one_at zero (c ∷ row) h = refl
one_at (suc i) (c ∷ row) h = one_at i row (omega arith)

one_put : (i : ℕ) (row : List Record) (c : Record) → i < length row → put_mid i 1 row (c ∷ []) ≡ set row i c
one_put i [] c h = absurd (omega arith)
one_put zero (b ∷ row) c h = refl
one_put (suc i) (b ∷ row) c h = ap (λ (l : List Record). b ∷ l) (one_put i row c (omega arith))

does_at : (i count : ℕ) (r : Raw) (row : List Record) → i < length row
    → Does r (plan_by (At i) count) row (row_after (Ok (At i)) r row) (answer_after (Ok (At i)) r row)
unfolding carried_out sweep_of
does_at i count r row h = record {
  ordered = omega arith;
  fits = omega arith;
  leaves = ap (λ (k : ℕ). (sweep_of r i k (row, None)).0) (once i);
  answers = ap (λ (k : ℕ). (sweep_of r i k (row, None)).1) (once i);
  part_leaves =
      ap (λ (k : ℕ). put_mid i k row (sweep_of r 0 k (take k (drop i row), None)).0) (once i)
      ∙ ap (λ (l : List Record). put_mid i 1 row (sweep_of r 0 1 (l, None)).0) (one_at i row h)
      ∙ one_put i row (step_record r (record_at row i)) h;
  part_answers =
      ap (λ (k : ℕ). (sweep_of r 0 k (take k (drop i row), None)).1) (once i)
      ∙ ap (λ (l : List Record). (sweep_of r 0 1 (l, None)).1) (one_at i row h);
}
  where
    once : (i : ℕ) → i + 1 - i ≡ 1
    once i = omega arith

does_all : (count : ℕ) (r : Raw) (row : List Record) → (length row ≡ 0 → ⊥) → count ≡ length row
    → Does r (plan_by Everyone count) row (row_after (Ok Everyone) r row) (answer_after (Ok Everyone) r row)
unfolding carried_out
does_all count r [] n e = absurd (n refl)
does_all count r (c ∷ row) n e = record {
  ordered = omega arith;
  fits = omega (arith, e);
  leaves = ap (λ (k : ℕ). (sweep_of r 0 k (c ∷ row, None)).0) (so count e) ∙ all_rows r (c ∷ row) None;
  answers = ap (λ (k : ℕ). (sweep_of r 0 k (c ∷ row, None)).1) (so count e) ∙ first_answers r c row;
  part_leaves =
      ap (λ (k : ℕ). put_mid 0 k (c ∷ row) (sweep_of r 0 k (take k (c ∷ row), None)).0) (so count e)
      ∙ ap (λ (l : List Record). put_mid 0 (length (c ∷ row)) (c ∷ row) (sweep_of r 0 (length (c ∷ row)) (l, None)).0) (take-length (c ∷ row))
      ∙ ap (λ (l : List Record). put_mid 0 (length (c ∷ row)) (c ∷ row) l) (all_rows r (c ∷ row) None)
      ∙ ap (λ (l : List Record). map (step_record r) (c ∷ row) ++ l) (drop-length (c ∷ row)) ∙ append-nil (map (step_record r) (c ∷ row));
  part_answers =
      ap (λ (k : ℕ). (sweep_of r 0 k (take k (c ∷ row), None)).1) (so count e)
      ∙ ap (λ (l : List Record). (sweep_of r 0 (length (c ∷ row)) (l, None)).1) (take-length (c ∷ row)) ∙ first_answers r c row;
}
  where
    so : (count : ℕ) → count ≡ length (c ∷ row) → count - 0 ≡ length (c ∷ row)
    so count e = omega (arith, e)

-- what is planned where the shelf refuses the event, and where it does not
abbrev Planned : Result (Range ℕ) Fault → ℕ → Raw → List Record → List Record → Answer → Type 0
Planned (Ok p) name r row after a = Does r p row after a
Planned (Err f) name r row after a = (row ≡ after) × (fault_answer f ≡ a)

by_reach : (w : Result Reach Fault) (name : ℕ) (r : Raw) (row : List Record) → reaches (addresses_of row) name r ≡ w
    → Planned (plan_in w (seen_of name row).count) name r row (row_after w r row) (answer_after w r row)
by_reach (Ok (At i)) name r row e =
    does_at i (seen_of name row).count r row (subst (λ (n : ℕ). i < n) (addresses_length row) (reached_in_row (addresses_of row) name r i e).0)
by_reach (Ok Everyone) name r row e =
    let (some, few) = everyone_in_row (addresses_of row) name r e in
    does_all (seen_of name row).count r row (λ z. some (addresses_length row ∙ z)) (count_is name row (subst (λ (n : ℕ). n ≤ 16) (addresses_length row) few))
by_reach (Err f) name r row e = (refl, refl)

planned : (name : ℕ) (r : Raw) (row : List Record)
    → Planned (plan_of (seen_of name row) r.kind) name r row (shelf_row row name r) (shelf_answer row name r)
unfolding plan_of shelf_row shelf_answer
planned name r row =
    subst (λ (w : Result Reach Fault). Planned (plan_in w (seen_of name row).count) name r row (row_after (reaches (addresses_of row) name r) r row)
    (answer_after (reaches (addresses_of row) name r) r row))
    (sym (reach_is name r row)) (by_reach (reaches (addresses_of row) name r) name r row refl)

pub plan_does : (name : ℕ) (r : Raw) (row : List Record) (p : Range ℕ) → Ok p ≡ plan_of (seen_of name row) r.kind
    → Does r p row (shelf_row row name r) (shelf_answer row name r)
plan_does name r row p e =
    subst (λ (w : Result (Range ℕ) Fault). Planned w name r row (shelf_row row name r) (shelf_answer row name r)) (sym e) (planned name r row)

pub plan_refused : (name : ℕ) (r : Raw) (row : List Record) (f : Fault) → Err f ≡ plan_of (seen_of name row) r.kind
    → (row ≡ shelf_row row name r) × (fault_answer f ≡ shelf_answer row name r)
plan_refused name r row f e =
    subst (λ (w : Result (Range ℕ) Fault). Planned w name r row (shelf_row row name r) (shelf_answer row name r)) (sym e) (planned name r row)

-- the part of the row at the places of a plan, carried out by itself
pub swept : (r : Raw) (p : Range ℕ) (row : List Record) {s : List Record × Option Answer} → p.start ≤ p.end → p.end ≤ length row
    → s ≡ carried_out r (places 0 (length (take (p.end - p.start) (drop p.start row)))) (take (p.end - p.start) (drop p.start row)) → s ≡ part_swept r p row
unfolding carried_out
swept r p row h k e = e ∙ ap (λ (n : ℕ). sweep_of r 0 n (take (p.end - p.start) (drop p.start row), None)) so
  where
    so : length (take (p.end - p.start) (drop p.start row)) - 0 ≡ p.end - p.start
    so = let a = length-take-le (p.end - p.start) (drop p.start row) in let b = length-drop p.start row in omega (arith, h, k, a, b)
