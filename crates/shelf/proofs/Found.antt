-- Whom an event reaches: one that reaches a place has passed every refusal, and the place has the address that was named. And what an event
-- of unknown kind does.
-- Assumes nothing.
use Prim.Native.Nat.{ℕ, suc, ◌<◌}
use native.Mathlib.Omega.{arith}
use mathlib.Core.Path.{◌≡◌, refl, sym, ap, ◌∙◌}
use mathlib.Core.Bool.{Bool, true, false, false≢true}
use mathlib.Core.List.{List, [], ◌∷◌, map}
use lib.Dec.{eqb, ltb}
use lib.ListN.{length, get_or}
use borrow.Author.Tests.{eqb-true, ltb-true, ltb-false}
use Rattle.arbiter.specs.Events.{decode, decoded_number}
use Rattle.arbiter.specs.Steps.{step, step_decoded, refused}
use Rattle.std.specs.Prelude.{Result}
use Rattle.arbiter.specs.declared.Event.{Event}
use Rattle.std.specs.Prelude.{Err}
use Rattle.arbiter.specs.declared.Unread.TheVariants.{UnknownKind}
use Rattle.arbiter.specs.declared.Unread.{Unread}
use Rattle.arbiter.specs.declared.Stepped.{Stepped}
use Rattle.arbiter.proofs.Choice.{split, if_true, if_false}
use Rattle.std.specs.Prelude.{if◌then◌else◌}
use Rattle.shelf.specs.Names.{Device, Raw, Record, Naming, AnAddress, APlace, Nothing, Fault, EmptyRow, TooMany, EqualAddresses, NotInRow}
use Rattle.shelf.specs.Names.{Reach, At, Everyone, Ok}
use Rattle.shelf.specs.Shelf.{most_records, device_at, naming, two_equal, further, place_of, reach_by, reaches, step_record, row_after, answer_after}
use Rattle.shelf.specs.Shelf.{shelf_row, shelf_answer}
use Rattle.shelf.specs.Runs.{ReachedInRow, UnknownChangesNone}

-- ---- a place that is reached

abbrev is_at : Result Reach Fault → Bool
is_at (Ok (At i)) = true
is_at (Ok Everyone) = false
is_at (Err f) = false

abbrev place_in : Result Reach Fault → ℕ
place_in (Ok (At i)) = i
place_in (Ok Everyone) = 0
place_in (Err f) = 0

no_place : {f : Fault} {i : ℕ} → Err f ≡ Ok (At i) → ⊥
no_place h = false≢true (ap is_at h)

all_no_place : {i : ℕ} → ◌≡◌ {A = Result Reach Fault} (Ok Everyone) (Ok (At i)) → ⊥
all_no_place h = false≢true (ap is_at h)

-- The test of a refusal has failed.
past : (b : Bool) (f : Fault) (w : Result Reach Fault) (i : ℕ) → (if b then Err f else w) ≡ Ok (At i) → (b ≡ false) × (w ≡ Ok (At i))
past true f w i h = absurd (no_place h)
past false f w i h = (refl, h)

one_further : (w : Result Reach Fault) (i : ℕ) → further w ≡ Ok (At i) → (k : ℕ) × ((w ≡ Ok (At k)) × (i ≡ suc k))
one_further (Ok (At k)) i h = (k, (refl, sym (ap place_in h)))
one_further (Ok Everyone) i h = absurd (all_no_place h)
one_further (Err f) i h = absurd (no_place h)

pub place_found : (a : ℕ) (roll : List ℕ) (i : ℕ) → place_of a roll ≡ Ok (At i) → (i < length roll) × (get_or roll i 0 ≡ a)
place_found a [] i h = absurd (no_place h)
place_found a (b ∷ bs) i h =
    split (eqb b a)
    (λ q. let e : 0 ≡ i = ap place_in (sym (if_true (Ok (At 0)) (further (place_of a bs)) q) ∙ h) in
    (omega arith, ap (λ (k : ℕ). get_or (b ∷ bs) k 0) (sym e) ∙ eqb-true b a q))
    (λ q. let (k, (p, e)) = one_further (place_of a bs) i (sym (if_false (Ok (At 0)) (further (place_of a bs)) q) ∙ h) in
    let there = place_found a bs k p in
    let l : k < length bs = there.0 in
    (omega (arith, e, l), ap (λ (n : ℕ). get_or (b ∷ bs) n 0) e ∙ there.1))

abbrev is_address_lem : Naming → Bool
is_address_lem AnAddress = true
is_address_lem APlace = false
is_address_lem Nothing = false

no_address : APlace ≡ AnAddress → ⊥
no_address e = false≢true (ap is_address_lem e)

by_name : (n : Naming) (name : ℕ) (roll : List ℕ) (i : ℕ) → reach_by n name roll ≡ Ok (At i) → (i < length roll) × (n ≡ AnAddress → get_or roll i 0 ≡ name)
by_name AnAddress name roll i h = let there = place_found name roll i h in (there.0, λ _. there.1)
by_name APlace name roll i h =
    split (ltb name (length roll))
    (λ q. let e : name ≡ i = ap place_in (sym (if_true (Ok (At name)) (Err NotInRow) q) ∙ h) in
    let l : name < length roll = ltb-true name (length roll) q in
    (omega (arith, e, l), λ n. absurd (no_address n)))
    (λ q. absurd (no_place (sym (if_false (Ok (At name)) (Err NotInRow) q) ∙ h)))
by_name Nothing name roll i h = absurd (all_no_place h)

pub reached_in_row : ReachedInRow
unfolding reaches
reached_in_row roll name r i h =
    let (q₁, h₁) = past (eqb (length roll) 0) EmptyRow _ i h in
    let (q₂, h₂) = past (ltb most_records (length roll)) TooMany _ i h₁ in
    let (q₃, h₃) = past (two_equal roll) EqualAddresses _ i h₂ in
    let there = by_name (naming r.kind) name roll i h₃ in
    (there.0, ltb-false most_records (length roll) q₂, q₃, there.1)

-- ---- an unknown kind

step_unknown : (d : Device) (r : Raw) → decode r ≡ Err UnknownKind → step d r ≡ refused (decoded_number (Err UnknownKind)) d
unfolding step step_decoded
step_unknown d r h = ap (λ (x : Result Event Unread). step_decoded x d) h

record_unknown : (c : Record) (r : Raw) → decode r ≡ Err UnknownKind → step_record r c ≡ c
unfolding step_record refused
record_unknown c r h =
    ap (λ (s : Stepped). let x : Record = record { address = c.address; device = s.device } in x) (step_unknown c.device r h)

map_unknown : (row : List Record) (r : Raw) → decode r ≡ Err UnknownKind → map (step_record r) row ≡ row
map_unknown [] r h = refl
map_unknown (c ∷ row) r h =
    ap (λ (x : Record). x ∷ map (step_record r) row) (record_unknown c r h) ∙ ap (λ (l : List Record). c ∷ l) (map_unknown row r h)

pub unknown_changes_none : UnknownChangesNone
unfolding shelf_row shelf_answer
unknown_changes_none row name r h p = (
  ap (λ (w : Result Reach Fault). row_after w r row) p ∙ map_unknown row r h,
  ap (λ (w : Result Reach Fault). answer_after w r row) p ∙ ap (λ (s : Stepped). s.answer) (step_unknown (device_at row 0) r h),
)
