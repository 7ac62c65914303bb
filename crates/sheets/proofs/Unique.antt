-- What each public call of `sheets` promises leaves room for one result.
-- Assumes nothing.
use mathlib.Core.Path.{◌≡◌, refl, sym, ap, ◌∙◌}
use mathlib.Core.List.{List}
use Prim.Native.Nat.{ℕ}
use lib.Dec.{eqb}
use denote.Ref.{Bor}
use Rattle.std.specs.Prelude.{Result, Ok, Err, if◌then◌else◌}
use Rattle.arbiter.proofs.Once.{OneResult, OneLeft, once}
use Rattle.sheets.specs.declared.Fault.{Fault}
use Rattle.sheets.specs.declared.Fault.TheVariants.{TooShort, WrongCount, BadBox, BytesAfterEnd, NoSuchBox, Unticked, NoRoom}
use Rattle.sheets.specs.declared.Bound.{Bound}
use Rattle.sheets.specs.declared.Bound.TheVariants.{BehindLive, BehindSilent, Unbounded}
use Rattle.sheets.specs.Sheets.{fault_number}
use Rattle.sheets.specs.Settings.{Ordered, order_told}
use Rattle.sheets.specs.Waits.{Wait, live, silent, wait_told}
use Rattle.sheets.proofs.lookup.look_up.Reads as look_up
use Rattle.sheets.proofs.lookup.look_up_number.Reads as look-up-number
use Rattle.sheets.proofs.lookup.place_of.Reads as place_of
use Rattle.sheets.proofs.settings.order_events.Reads as order-events
use Rattle.sheets.proofs.sheet.check_pair.Reads as check-pair
use Rattle.sheets.proofs.sheet.fault_number.Reads as fault-number
use Rattle.sheets.proofs.waits.wait_of.Reads as wait-of

-- Of a part that is handed back, where it lies and its bytes: its ghost name, by which the prover follows it, is nothing of the program's.
module _ {ℓ₁ ℓ₂ ℓ₃} {K : Type ℓ₁} {A : K → Type ℓ₂} {S : K → Type ℓ₃} where
  abbrev OnePart : ((κ : K) → A κ → Bor (List ℕ) → S κ → Type 0) → Type (ℓ₁ ⊔ ℓ₂ ⊔ ℓ₃)
  OnePart Post = (κ : K) (a : A κ) (x y : Bor (List ℕ)) (s t : S κ) → Post κ a x s → Post κ a y t → (x.now ≡ y.now) × (x.ref_ptr ≡ y.ref_ptr)

pub look_up_once : OnePart look_up.Post
look_up_once κ a x y s t p q = (once p.0 q.0, once p.1 q.1)

pub look_up_number_once : OneResult look-up-number.Post
look_up_number_once κ a x y s t p q = once p q

pub place_of_once : OneResult place_of.Post
place_of_once κ a x y s t p q = once p.0 q.0

pub check_pair_once : OneResult check-pair.Post
check_pair_once κ a x y s t p q = once p.0 q.0

pub fault_number_once : OneResult fault-number.Post
fault_number_once κ a x y s t p q = once p q

-- ---- what is told leaves room for one answer: each refusal has a number of its own, and no refusal has 0

fault_of : ℕ → Fault
fault_of n =
    if eqb n 5 then TooShort
    else if eqb n 10 then WrongCount
    else if eqb n 3 then BadBox
    else if eqb n 7 then BytesAfterEnd
    else if eqb n 15 then NoSuchBox
    else if eqb n 14 then Unticked
    else NoRoom

order_from : Ordered → Result ℕ Fault
order_from o = if eqb o.number 0 then Ok o.count else Err (fault_of o.number)

order_back : (r : Result ℕ Fault) → order_from (order_told r) ≡ r
unfolding order_from fault_of
order_back (Ok n) = refl
order_back (Err TooShort) = refl
order_back (Err WrongCount) = refl
order_back (Err BadBox) = refl
order_back (Err BytesAfterEnd) = refl
order_back (Err NoSuchBox) = refl
order_back (Err Unticked) = refl
order_back (Err NoRoom) = refl

wait_from : Wait → Result Bound Fault
wait_from w =
    if eqb w.number 0 then (if eqb w.grade live then Ok (BehindLive w.ticks) else if eqb w.grade silent then Ok (BehindSilent w.ticks) else Ok Unbounded)
    else Err (fault_of w.number)

wait_back : (r : Result Bound Fault) → wait_from (wait_told r) ≡ r
unfolding wait_from fault_of
wait_back (Ok (BehindLive n)) = refl
wait_back (Ok (BehindSilent n)) = refl
wait_back (Ok Unbounded) = refl
wait_back (Err TooShort) = refl
wait_back (Err WrongCount) = refl
wait_back (Err BadBox) = refl
wait_back (Err BytesAfterEnd) = refl
wait_back (Err NoSuchBox) = refl
wait_back (Err Unticked) = refl
wait_back (Err NoRoom) = refl

pub order_events_once : OneLeft (λ κ s. s.1.1.0.now) order-events.Post
order_events_once κ a x y s t p q =
    (sym (order_back x) ∙ ap order_from (once p.0 q.0) ∙ order_back y, once p.1 q.1)

pub wait_of_once : OneResult wait-of.Post
wait_of_once κ a x y s t p q = sym (wait_back x) ∙ ap wait_from (once p q) ∙ wait_back y
