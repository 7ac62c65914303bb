-- A device to which a short transfer after a tick leads back: what then holds over any number of them.
-- Assumes nothing.
use Prim.Native.Nat.{ℕ, zero, suc, ◌+◌}
use mathlib.Core.Path.{◌≡◌, refl, ap, ap₂, ◌∙◌}
use mathlib.Core.Bool.{Bool, true, false, not, ◌&&◌, false≢true, and-eq-true_iff}
use mathlib.Core.List.{List, [], ◌∷◌, ◌++◌}
use native.Mathlib.Omega.{arith}
use lib.Dec.{ltb}
use borrow.Author.Tests.{lt-ltb}
use Rattle.std.specs.Prelude.{if◌then◌else◌}
use Rattle.arbiter.specs.Words.{worth}
use Rattle.arbiter.specs.State.{owns, owns_turn, claims_turn}
use Rattle.arbiter.specs.Steps.{run_from}
use Rattle.arbiter.specs.AuditWords.{next, resting, tick as aTick, ticks_in, never, throughout}
use Rattle.arbiter.specs.declared.Master.{Master}
use Rattle.arbiter.specs.declared.Turn.{Turn}
use Rattle.arbiter.specs.declared.Turn.TheVariants.{Nobody, Claims, Owns}
use Rattle.arbiter.specs.declared.Device.{Device}
use Rattle.arbiter.specs.declared.Raw.{Raw}
use Rattle.audit.specs.WorstWait.{delayed, delays, stops_after}
use Rattle.guarantee.specs.Necessary.{short_transfer, short_transfers}
use Rattle.arbiter.proofs.Runs.{from_append, now, hence}

-- ---- events one after the other

pub never_append : (such : Raw → Device → Bool) (xs ys : List Raw) (d : Device) → never such d xs ≡ true → never such (run_from d xs) ys ≡ true
    → never such d (xs ++ ys) ≡ true
unfolding never run_from
never_append such [] ys d h k = k
never_append such (x ∷ xs) ys d h k =
    let both = (and-eq-true_iff (not (such x d)) (never such (next d x) xs)).0 h in
    ap₂ ◌&&◌ both.0 (never_append such xs ys (next d x) both.1 k)

pub ticks_append : (xs ys : List Raw) (d : Device) → ticks_in d (xs ++ ys) ≡ ticks_in d xs + ticks_in (run_from d xs) ys
unfolding ticks_in run_from
ticks_append [] ys d = omega arith
ticks_append (x ∷ xs) ys d =
    let more = ticks_append xs ys (next d x) in
    omega arith

pub throughout_append : (holds : Device → Bool) (xs ys : List Raw) (d : Device) → throughout holds d xs ≡ true
    → throughout holds (run_from d xs) ys ≡ true → throughout holds d (xs ++ ys) ≡ true
unfolding throughout run_from
throughout_append holds [] ys d h k = k
throughout_append holds (x ∷ xs) ys d h k =
    let both = (and-eq-true_iff (holds d) (throughout holds (next d x) xs)).0 h in
    ap₂ ◌&&◌ both.0 (throughout_append holds xs ys (next d x) both.1 k)

-- ---- round and round

module _ (d : Device) (same : run_from d short_transfer ≡ d) where
  pub rounds_same : (n : ℕ) → run_from d (short_transfers n) ≡ d
  unfolding run_from short_transfers
  rounds_same zero = refl
  rounds_same (suc n) =
      from_append short_transfer (short_transfers n) d ∙ ap (λ (x : Device). run_from x (short_transfers n)) same ∙ rounds_same n

  pub rounds_never : (such : Raw → Device → Bool) → never such d short_transfer ≡ true → (n : ℕ) → never such d (short_transfers n) ≡ true
  unfolding never short_transfers
  rounds_never such h zero = refl
  rounds_never such h (suc n) =
      never_append such short_transfer (short_transfers n) d h
      (ap (λ (x : Device). never such x (short_transfers n)) same ∙ rounds_never such h n)

  pub rounds_throughout : (holds : Device → Bool) → throughout holds d short_transfer ≡ true → (n : ℕ) → throughout holds d (short_transfers n) ≡ true
  unfolding throughout short_transfers
  rounds_throughout holds h zero = now holds short_transfer d h
  rounds_throughout holds h (suc n) =
      throughout_append holds short_transfer (short_transfers n) d h
      (ap (λ (x : Device). throughout holds x (short_transfers n)) same ∙ rounds_throughout holds h n)

  pub rounds_ticks : ticks_in d short_transfer ≡ 1 → (n : ℕ) → ticks_in d (short_transfers n) ≡ n
  unfolding ticks_in short_transfers
  rounds_ticks h zero = refl
  rounds_ticks h (suc n) =
      let parts = ticks_append short_transfer (short_transfers n) d in
      let more : ticks_in (run_from d short_transfer) (short_transfers n) ≡ n = ap (λ (x : Device). ticks_in x (short_transfers n)) same ∙ rounds_ticks h n in
      omega arith

-- ---- an owner is no claimant, so it delays nothing

unclaimed : (m : Master) (t : Turn) → owns_turn m t ≡ true → claims_turn m t ≡ false
unclaimed m Nobody h = refl
unclaimed m (Claims k g) h = absurd (false≢true h)
unclaimed m (Owns k g) h = refl

pub owner_stops : (m : Master) (more : ℕ) (rs : List Raw) (d : Device) → throughout (owns m) d rs ≡ true → stops_after m more 0 d rs ≡ true
unfolding stops_after
owner_stops m more [] d h = refl
owner_stops m more (r ∷ rs) d h =
    let none : delayed m 0 r d ≡ 0 =
    ap (λ (c : Bool). if (c && not (resting m d)) && delays m (next d r) then 0 + worth 1 (aTick r d) else 0)
    (unclaimed m d.arb.turn (now (owns m) (r ∷ rs) d h)) in
    ap₂ (λ (n : ℕ) (b : Bool). ltb n (more + 2) && b) none refl
    ∙ ap (λ (n : ℕ). ltb 0 (more + 2) && stops_after m more n (next d r) rs) none
    ∙ ap₂ ◌&&◌ (lt-ltb 0 (more + 2) (omega arith)) (owner_stops m more rs (next d r) (hence (owns m) r rs d h))
