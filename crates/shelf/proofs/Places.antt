-- A run of a shelf seen from one place: it is the run of the events that reach it, so what holds of every run of one device holds there.
-- Assumes nothing.
use Prim.Native.Nat.{ℕ, zero, suc, ◌+◌, ◌<◌}
use native.Mathlib.Omega.{arith}
use mathlib.Core.Path.{◌≡◌, refl, sym, ap, ◌∙◌, subst}
use mathlib.Core.Bool.{true, false, false≢true}
use mathlib.Core.List.{List, [], ◌∷◌, ◌++◌}
use lib.ListN.{length}
use borrow.Author.Tests.{eqb-true}
use Rattle.arbiter.specs.Words.{partner}
use Rattle.arbiter.specs.State.{owns, connected, is_idle}
use Rattle.arbiter.specs.Effects.{power_up}
use Rattle.arbiter.specs.Steps.{step, run_from, run}
use Rattle.arbiter.specs.AuditWords.{next, requests, resting, reserve_of, reset, tick, withdrawal_of, grant_taken, ticks_in, never}
use Rattle.arbiter.proofs.Choice.{split, if_true, if_false}
use Rattle.arbiter.proofs.Runs.{from_append}
use Rattle.arbiter.proofs.Connected.{one_connected}
use Rattle.arbiter.proofs.Reserve.{reserve_lasts}
use Rattle.arbiter.proofs.InTime.{partner_in_time}
use Rattle.shelf.specs.Names.{Kind, Device, Raw, Record, Fault, Reach, At, Everyone, Result, Ok, Err}
use Rattle.shelf.specs.Shelf.{addresses_of, device_at, reaches, reaches_place, step_record, answer_after, shelf_row, shelf_answer}
use Rattle.shelf.specs.Runs.{Named, shelf_run, Slot, fresh_row, kind_at, shelf_after, reached, reached_at, reaches_at, answers_for}
use Rattle.shelf.specs.Runs.{AtPlace, AnswerAtPlace, EveryRunAtPlace, OneConnectedAtPlace, LaterAtPlace, ReserveLastsAtPlace, PartnerInTimeAtPlace}
use Rattle.shelf.proofs.Rows.{keeps_addresses, addresses_length, others_same, reached_steps}

-- ---- a run keeps the addresses

row_length : (row : List Record) (name : ℕ) (r : Raw) → length (shelf_row row name r) ≡ length row
row_length row name r =
    sym (addresses_length (shelf_row row name r)) ∙ ap (λ (roll : List ℕ). length roll) (keeps_addresses row name r) ∙ addresses_length row

run_addresses : (es : List Named) (row : List Record) → addresses_of (shelf_run row es) ≡ addresses_of row
unfolding shelf_run
run_addresses [] row = refl
run_addresses (e ∷ es) row = run_addresses es (shelf_row row e.name e.event) ∙ keeps_addresses row e.name e.event

run_length : (es : List Named) (row : List Record) → length (shelf_run row es) ≡ length row
run_length es row = sym (addresses_length (shelf_run row es)) ∙ ap (λ (roll : List ℕ). length roll) (run_addresses es row) ∙ addresses_length row

run_append : (xs ys : List Named) (row : List Record) → shelf_run row (xs ++ ys) ≡ shelf_run (shelf_run row xs) ys
unfolding shelf_run
run_append [] ys row = refl
run_append (x ∷ xs) ys row = run_append xs ys (shelf_row row x.name x.event)

-- ---- the events that reach a place

pub reached_first : (i : ℕ) (roll : List ℕ) (e : Named) (es : List Named) → reaches_place i (reaches roll e.name e.event) ≡ true
    → reached i roll (e ∷ es) ≡ e.event ∷ reached i roll es
unfolding reached
reached_first i roll e es h = if_true (e.event ∷ reached i roll es) (reached i roll es) h

reached_past : (i : ℕ) (roll : List ℕ) (e : Named) (es : List Named) → reaches_place i (reaches roll e.name e.event) ≡ false
    → reached i roll (e ∷ es) ≡ reached i roll es
unfolding reached
reached_past i roll e es h = if_false (e.event ∷ reached i roll es) (reached i roll es) h

pub reached_append : (xs ys : List Named) (i : ℕ) (roll : List ℕ) → reached i roll (xs ++ ys) ≡ reached i roll xs ++ reached i roll ys
unfolding reached
reached_append [] ys i roll = refl
reached_append (x ∷ xs) ys i roll = split (reaches_place i (reaches roll x.name x.event))
    (λ q. reached_first i roll x (xs ++ ys) q ∙ ap (λ (l : List Raw). x.event ∷ l) (reached_append xs ys i roll)
    ∙ ap (λ (l : List Raw). l ++ reached i roll ys) (sym (reached_first i roll x xs q)))
    (λ q. reached_past i roll x (xs ++ ys) q ∙ reached_append xs ys i roll
    ∙ ap (λ (l : List Raw). l ++ reached i roll ys) (sym (reached_past i roll x xs q)))

-- ---- a run from any row, at a place of it

from_place : (es : List Named) (row : List Record) (i : ℕ) → i < length row
    → device_at (shelf_run row es) i ≡ run_from (device_at row i) (reached i (addresses_of row) es)
unfolding shelf_run run_from reached step_record
from_place [] row i l = refl
from_place (e ∷ es) row i l =
    from_place es after i (subst (λ (n : ℕ). i < n) (sym (row_length row e.name e.event)) l)
    ∙ ap (λ (roll : List ℕ). run_from (device_at after i) (reached i roll es)) (keeps_addresses row e.name e.event)
    ∙ split (reaches_place i (reaches (addresses_of row) e.name e.event))
    (λ q. ap (λ (c : Record). run_from c.device rest) (reached_steps row e.name e.event i l q)
    ∙ ap (λ (l : List Raw). run_from (device_at row i) l) (sym (reached_first i (addresses_of row) e es q)))
    (λ q. ap (λ (c : Record). run_from c.device rest) (others_same row e.name e.event i q)
    ∙ ap (λ (l : List Raw). run_from (device_at row i) l) (sym (reached_past i (addresses_of row) e es q)))
  where
    after : List Record
    after = shelf_row row e.name e.event

    rest : List Raw
    rest = reached i (addresses_of row) es

-- ---- from power-up

fresh_length : (slots : List Slot) → length (fresh_row slots) ≡ length slots
fresh_length [] = refl
fresh_length (s ∷ slots) = ap suc (fresh_length slots)

fresh_device : (slots : List Slot) (i : ℕ) → i < length slots → device_at (fresh_row slots) i ≡ power_up (kind_at slots i)
fresh_device [] i l = absurd (omega arith)
fresh_device (s ∷ slots) zero l = refl
fresh_device (s ∷ slots) (suc i) l = fresh_device slots i (omega arith)

fresh_in : (slots : List Slot) (i : ℕ) → i < length slots → i < length (fresh_row slots)
fresh_in slots i l = subst (λ (n : ℕ). i < n) (sym (fresh_length slots)) l

pub at_place : AtPlace
unfolding run
at_place slots es i l =
    from_place es (fresh_row slots) i (fresh_in slots i l)
    ∙ ap (λ (d : Device). run_from d (reached_at i slots es)) (fresh_device slots i l)

answer_of : (w : Result Reach Fault) (row : List Record) (r : Raw) (i : ℕ) → answers_for i w ≡ true → answer_after w r row ≡ (step (device_at row i) r).answer
answer_of (Ok (At j)) row r i h = ap (λ (k : ℕ). (step (device_at row k) r).answer) (eqb-true j i h)
answer_of (Ok Everyone) row r i h = ap (λ (k : ℕ). (step (device_at row k) r).answer) (eqb-true 0 i h)
answer_of (Err f) row r i h = absurd (false≢true h)

pub answer_at_place : AnswerAtPlace
unfolding shelf_answer
answer_at_place slots es e i l h =
    ap (λ (roll : List ℕ). answer_after (reaches roll e.name e.event) e.event (shelf_after slots es)) (run_addresses es (fresh_row slots))
    ∙ answer_of (reaches (addresses_of (fresh_row slots)) e.name e.event) (shelf_after slots es) e.event i h
    ∙ ap (λ (d : Device). (step d e.event).answer) (at_place slots es i l)

pub every_run_at_place : EveryRunAtPlace
every_run_at_place Holds all slots es i l =
    subst (Holds (kind_at slots i) (reached_at i slots es)) (sym (at_place slots es i l)) (all (kind_at slots i) (reached_at i slots es))

pub one_connected_at_place : OneConnectedAtPlace
one_connected_at_place slots es i m l =
    every_run_at_place (λ (k : Kind) (rs : List Raw) (d : Device). connected m d ≡ true → (owns m d ≡ true) × (connected (partner m) d ≡ false))
    (λ k rs. one_connected k rs m) slots es i l

-- ---- events before, and events after them

pub after_at_place : (slots : List Slot) (es later : List Named) (i : ℕ) → i < length slots
    → device_at (shelf_after slots (es ++ later)) i ≡ run_from (device_at (shelf_after slots es) i) (reached_at i slots later)
after_at_place slots es later i l =
    ap (λ (row : List Record). device_at row i) (run_append es later (fresh_row slots))
    ∙ from_place later (shelf_after slots es) i (subst (λ (n : ℕ). i < n) (sym (run_length es (fresh_row slots))) (fresh_in slots i l))
    ∙ ap (λ (roll : List ℕ). run_from (device_at (shelf_after slots es) i) (reached i roll later)) (run_addresses es (fresh_row slots))

-- ---- events before, one event, and events after it

pub later_at_place : LaterAtPlace
unfolding run_from
later_at_place slots es e later i l h =
    after_at_place slots es (e ∷ later) i l
    ∙ ap (λ (rs : List Raw). run_from (device_at (shelf_after slots es) i) rs) (reached_first i (addresses_of (fresh_row slots)) e later h)

pub reserve_lasts_at_place : ReserveLastsAtPlace
reserve_lasts_at_place slots i m es e later l h taken few resets withdrawals =
    ap (owns m) (later_at_place slots es e later i l h)
    ∙ subst (λ (x : Device). grant_taken m e.event x ≡ true → ticks_in (next x e.event) here < reserve_of m (next x e.event)
    → never reset (next x e.event) here ≡ true → never (withdrawal_of m) (next x e.event) here ≡ true
    → owns m (run_from (next x e.event) here) ≡ true)
    (sym (at_place slots es i l)) (reserve_lasts (kind_at slots i) m (reached_at i slots es) e.event here) taken few resets withdrawals
  where
    here : List Raw
    here = reached_at i slots later

-- The last of the events after it reaches the place too.
pub end_at_place : (slots : List Slot) (es : List Named) (e : Named) (later : List Named) (t : Named) (i : ℕ) → i < length slots
    → reaches_at i slots e ≡ true → reaches_at i slots t ≡ true
    → device_at (shelf_after slots (es ++ e ∷ (later ++ t ∷ []))) i
    ≡ next (run_from (next (device_at (shelf_after slots es) i) e.event) (reached_at i slots later)) t.event
unfolding run_from reached
end_at_place slots es e later t i l h k =
    later_at_place slots es e (later ++ t ∷ []) i l h
    ∙ ap (run_from d) (reached_append later (t ∷ []) i roll ∙ ap (λ (rs : List Raw). reached i roll later ++ rs) (reached_first i roll t [] k))
    ∙ from_append (reached i roll later) (t.event ∷ []) d
  where
    roll : List ℕ
    roll = addresses_of (fresh_row slots)

    d : Device
    d = next (device_at (shelf_after slots es) i) e.event

pub partner_in_time_at_place : PartnerInTimeAtPlace
partner_in_time_at_place slots i m es e later t l h k taken last ticks resets withdrawals asks idle rests =
    ap (owns (partner m)) end_is
    ∙ subst (λ (x : Device). grant_taken m e.event x ≡ true → ticks_in (next x e.event) here + 1 ≡ reserve_of m (next x e.event)
    → tick t.event (run_from (next x e.event) here) ≡ true
    → never reset (next x e.event) here ≡ true → never (withdrawal_of m) (next x e.event) here ≡ true
    → requests (partner m) (ends x) ≡ true → is_idle (ends x).bus ≡ true → resting (partner m) (ends x) ≡ true → owns (partner m) (ends x) ≡ true)
    (sym (at_place slots es i l)) (partner_in_time (kind_at slots i) m (reached_at i slots es) e.event here t.event) taken last ticks resets withdrawals
    (sym (ap (requests (partner m)) end_is) ∙ asks) (sym (ap (λ (x : Device). is_idle x.bus) end_is) ∙ idle) (sym (ap (resting (partner m)) end_is) ∙ rests)
  where
    here : List Raw
    here = reached_at i slots later

    ends : Device → Device
    ends x = next (run_from (next x e.event) here) t.event

    end_is : device_at (shelf_after slots (es ++ e ∷ (later ++ t ∷ []))) i ≡ ends (device_at (shelf_after slots es) i)
    end_is = end_at_place slots es e later t i l h k
