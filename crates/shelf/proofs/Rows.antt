-- What one event does to a row: to its addresses, to the record that it reaches and to the others.
-- Assumes nothing.
use Prim.Native.Nat.{ℕ, zero, suc, ◌<◌}
use native.Mathlib.Omega.{arith}
use mathlib.Core.Path.{◌≡◌, refl, sym, ap, ◌∙◌, subst}
use mathlib.Core.Bool.{true, false, true≢false, false≢true}
use mathlib.Core.List.{List, [], ◌∷◌, map}
use lib.ListN.{length, set}
use borrow.Author.Tests.{eqb-true, eqb-false}
use Rattle.arbiter.specs.Steps.{step}
use Rattle.shelf.specs.Names.{Device, Raw, Record}
use Rattle.shelf.specs.Names.{Fault, Reach, At, Everyone, Result, Ok, Err}
use Rattle.shelf.specs.Shelf.{addresses_of, record_at, reaches, reaches_place}
use Rattle.shelf.specs.Shelf.{step_record, row_after, answer_after, shelf_row, shelf_answer}
use Rattle.shelf.specs.Runs.{KeepsAddresses, OthersSame, ReachedSteps, AnswerAlone, RefusedSame}

-- ---- who makes a step

set_other : (row : List Record) (i j : ℕ) (c : Record) → (i ≡ j → ⊥) → record_at (set row i c) j ≡ record_at row j
set_other [] i j c n = refl
set_other (x ∷ row) zero zero c n = absurd (n refl)
set_other (x ∷ row) zero (suc j) c n = refl
set_other (x ∷ row) (suc i) zero c n = refl
set_other (x ∷ row) (suc i) (suc j) c n = set_other row i j c (λ e. n (ap suc e))

set_there : (row : List Record) (i : ℕ) (c : Record) → i < length row → record_at (set row i c) i ≡ c
set_there [] i c l = absurd (omega arith)
set_there (x ∷ row) zero c l = refl
set_there (x ∷ row) (suc i) c l = set_there row i c (omega arith)

map_there : (row : List Record) (i : ℕ) (r : Raw) → i < length row → record_at (map (step_record r) row) i ≡ step_record r (record_at row i)
map_there [] i r l = absurd (omega arith)
map_there (x ∷ row) zero r l = refl
map_there (x ∷ row) (suc i) r l = map_there row i r (omega arith)

pub after_other : (w : Result Reach Fault) (r : Raw) (row : List Record) (j : ℕ) → reaches_place j w ≡ false → record_at (row_after w r row) j ≡ record_at row j
after_other (Ok (At i)) r row j h = set_other row i j (step_record r (record_at row i)) (eqb-false i j h)
after_other (Ok Everyone) r row j h = absurd (true≢false h)
after_other (Err f) r row j h = refl

pub after_there : (w : Result Reach Fault) (r : Raw) (row : List Record) (j : ℕ) → j < length row → reaches_place j w ≡ true
    → record_at (row_after w r row) j ≡ step_record r (record_at row j)
after_there (Ok (At i)) r row j l h =
    subst (λ (k : ℕ). record_at (set row i (step_record r (record_at row i))) k ≡ step_record r (record_at row k)) (eqb-true i j h)
    (set_there row i (step_record r (record_at row i)) (subst (λ (k : ℕ). k < length row) (sym (eqb-true i j h)) l))
after_there (Ok Everyone) r row j l h = map_there row j r l
after_there (Err f) r row j l h = absurd (false≢true h)

pub others_same : OthersSame
unfolding shelf_row
others_same row name r j h = after_other (reaches (addresses_of row) name r) r row j h

pub reached_steps : ReachedSteps
unfolding shelf_row
reached_steps row name r j l h = after_there (reaches (addresses_of row) name r) r row j l h

-- ---- the addresses stay

set_addresses : (row : List Record) (i : ℕ) (r : Raw) → addresses_of (set row i (step_record r (record_at row i))) ≡ addresses_of row
unfolding step_record
set_addresses [] i r = refl
set_addresses (c ∷ row) zero r = refl
set_addresses (c ∷ row) (suc i) r = ap (λ (roll : List ℕ). c.address ∷ roll) (set_addresses row i r)

map_addresses : (row : List Record) (r : Raw) → addresses_of (map (step_record r) row) ≡ addresses_of row
unfolding step_record
map_addresses [] r = refl
map_addresses (c ∷ row) r = ap (λ (roll : List ℕ). c.address ∷ roll) (map_addresses row r)

after_addresses : (w : Result Reach Fault) (r : Raw) (row : List Record) → addresses_of (row_after w r row) ≡ addresses_of row
after_addresses (Ok (At i)) r row = set_addresses row i r
after_addresses (Ok Everyone) r row = map_addresses row r
after_addresses (Err f) r row = refl

pub keeps_addresses : KeepsAddresses
unfolding shelf_row
keeps_addresses row name r = after_addresses (reaches (addresses_of row) name r) r row

pub addresses_length : (row : List Record) → length (addresses_of row) ≡ length row
addresses_length [] = refl
addresses_length (c ∷ row) = ap suc (addresses_length row)

-- ---- the answer

pub answer_alone : AnswerAlone
unfolding shelf_answer
answer_alone row other name r i j p q e =
    let one = ap (λ (w : Result Reach Fault). answer_after w r row) p in
    let two = ap (λ (w : Result Reach Fault). answer_after w r other) q in
    (one, one ∙ ap (λ (d : Device). (step d r).answer) e ∙ sym two)

pub refused_same : RefusedSame
unfolding shelf_row shelf_answer
refused_same row name r f p = (ap (λ (w : Result Reach Fault). row_after w r row) p, ap (λ (w : Result Reach Fault). answer_after w r row) p)
