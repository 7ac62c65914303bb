-- Events of which none is a TICK are run together: no state is noted, and what is still to come stays the same.
-- Assumes nothing.
use Prim.Native.Nat.{ℕ, zero, suc, ◌+◌, ◌-◌, ◌*◌, ◌≤◌, ◌<◌}
use mathlib.Core.Path.{◌≡◌, refl, sym, ap, subst, ◌∙◌}
use mathlib.Core.Bool.{Bool, false}
use mathlib.Core.List.{List, [], ◌∷◌}
use native.Mathlib.Omega.{arith}
use lib.Dec.{eqb}
use lib.ListN.{length, length-drop, take, drop}
use lib.Seq.{drop-drop, length-take-le}
use borrow.Author.Tests.{eqb-true, eqb-false}
use Rattle.std.specs.Prelude.{if◌then◌else◌}
use Rattle.arbiter.specs.Steps.{step, run_from}
use Rattle.arbiter.specs.Traces.{event_bytes, raw_in, raws_in, ran}
use Rattle.arbiter.specs.declared.Device.{Device}
use Rattle.arbiter.specs.Types.{Ran}
use Rattle.arbiter.specs.declared.Raw.{Raw}
use Rattle.arbiter.proofs.Choice.{split}
use Rattle.format.specs.Places.{event_at}
use Rattle.light.specs.Light.{Settled}
use Rattle.light.proofs.Settles.{runs_settled}
use Rattle.traces.proofs.Runs.{all-ran}
use Rattle.share.specs.declared.Tally.{Tally}
use Rattle.share.specs.declared.Point.{Point}
use Rattle.share.specs.States.{states_from}
use Rattle.traces.specs.Ticks.{is_tick_raw}
use Rattle.share.specs.Walk.{AllSuch, seen_of, noted, tally_from, Within, NoTicks, others_taken, left, Onward}
use Rattle.share.proofs.Rounds.{again, event_is, within_more}

-- one more in a row that is no TICK
pub such_more : (ticks : Bool) (k at : ℕ) (b : List ℕ) (r : Raw) → AllSuch ticks k at b → r ≡ event_at (at + k) b → is_tick_raw r ≡ ticks
    → AllSuch ticks (k + 1) at b
such_more ticks k at b r all e h i l =
    split (eqb i k)
    (λ t. ap (λ (x : ℕ). is_tick_raw (event_at (at + x) b)) (eqb-true i k t) ∙ ap is_tick_raw (sym e) ∙ h)
    (λ f. let other = eqb-false i k f in all i (omega (arith, l, other)))

-- ---- a part of the bytes has the same events

-- four and m more
abbrev past : ℕ → ℕ
past m = suc (suc (suc (suc m)))

raw_front : (m : ℕ) (l : List ℕ) → raw_in (take (past m) l) ≡ raw_in l
raw_front m [] = refl
raw_front m (a ∷ []) = refl
raw_front m (a ∷ c ∷ []) = refl
raw_front m (a ∷ c ∷ d ∷ []) = refl
raw_front m (a ∷ c ∷ d ∷ e ∷ l) = refl

nothing : (k : ℕ) → ◌≡◌ {A = List ℕ} [] (take k [])
nothing zero = refl
nothing (suc k) = refl

drop_front : (m : ℕ) (l : List ℕ) → drop event_bytes (take (past m) l) ≡ take m (drop event_bytes l)
drop_front m [] = nothing m
drop_front m (a ∷ []) = nothing m
drop_front m (a ∷ c ∷ []) = nothing m
drop_front m (a ∷ c ∷ d ∷ []) = nothing m
drop_front m (a ∷ c ∷ d ∷ e ∷ l) = refl

pub raws_front : (k : ℕ) (l : List ℕ) → raws_in k (take (event_bytes * k) l) ≡ raws_in k l
unfolding raws_in
raws_front zero l = refl
raws_front (suc k) l =
    let more : event_bytes * suc k ≡ past (event_bytes * k) = omega arith in
    ap (λ (n : ℕ). raws_in (suc k) (take n l)) more
    ∙ ap (λ (r : Raw). r ∷ raws_in k (drop event_bytes (take (past (event_bytes * k)) l))) (raw_front (event_bytes * k) l)
    ∙ ap (λ (m : List ℕ). raw_in l ∷ raws_in k m) (drop_front (event_bytes * k) l)
    ∙ ap (λ (rs : List Raw). raw_in l ∷ rs) (raws_front k (drop event_bytes l))

-- k events of these bytes from number i on, run with room for their answers
pub others_ran : (d : Device) (i k : ℕ) (b buffer : List ℕ) → event_bytes * (i + k) ≤ length b → event_bytes * k ≤ length buffer
    → (ran d (take (event_bytes * (i + k) - event_bytes * i) (drop (event_bytes * i) b)) buffer).device ≡ run_from d (raws_in k (drop (event_bytes * i) b))
others_ran d i k b buffer enough room =
    let from : List ℕ = drop (event_bytes * i) b in
    let size : event_bytes * (i + k) - event_bytes * i ≡ event_bytes * k = omega arith in
    let more : event_bytes * k ≤ length from = subst (λ (x : ℕ). event_bytes * k ≤ x) (sym (length-drop (event_bytes * i) b)) (omega (arith, enough)) in
    ap (λ (n : ℕ). (ran d (take n from) buffer).device) size
    ∙ ap (λ (x : Ran). x.device) (sym (all-ran d (take (event_bytes * k) from) buffer k (length-take-le (event_bytes * k) from more) room))
    ∙ ap (run_from d) (raws_front k from)

-- ---- the events one by one

module _ (b : List ℕ) (n : ℕ) (whole : event_bytes * n ≤ length b) where
  abbrev counts : Tally → Device → ℕ → Tally
  counts t d i = tally_from t (states_from d (left b n i))

  rest_at : (i : ℕ) → drop event_bytes (drop (event_bytes * i) b) ≡ drop (event_bytes * (i + 1)) b
  rest_at i =
      let e : event_bytes * i + event_bytes ≡ event_bytes * (i + 1) = omega arith in
      drop-drop event_bytes (event_bytes * i) b ∙ ap (λ (k : ℕ). drop k b) e

  walk : (k i : ℕ) (t : Tally) (d : Device) → NoTicks k i b → i + k ≤ n → counts t (run_from d (raws_in k (drop (event_bytes * i) b))) (i + k) ≡ counts t d i
  unfolding run_from raws_in
  walk zero i t d none more = let z : i + 0 ≡ i = omega arith in ap (λ (x : ℕ). counts t d x) z
  walk (suc k) i t d none more =
      let here : i < n = omega arith in
      let z : i + 0 ≡ i = omega arith in
      let s : i + suc k ≡ i + 1 + k = omega arith in
      let r : Raw = event_at i b in
      let next : Device = (step d r).device in
      let first : is_tick_raw r ≡ false = ap (λ (x : ℕ). is_tick_raw (event_at x b)) (sym z) ∙ none 0 (omega arith) in
      ap (λ (x : ℕ). counts t (run_from (step d (raw_in (drop (event_bytes * i) b))).device (raws_in k (drop event_bytes (drop (event_bytes * i) b)))) x) s
      ∙ ap (λ (l : List ℕ). counts t (run_from (step d (raw_in (drop (event_bytes * i) b))).device (raws_in k l)) (i + 1 + k)) (rest_at i)
      ∙ ap (λ (x : Raw). counts t (run_from (step d x).device (raws_in k (drop (event_bytes * (i + 1)) b))) (i + 1 + k)) (sym (event_is b n i here whole))
      ∙ walk k (i + 1) t next (later none) (omega arith)
      ∙ again b n i here whole t t d next r refl refl (ap (λ (c : Bool). if c then noted 1 (seen_of next) t else t) (sym first))
    where
      later : NoTicks (suc k) i b → NoTicks k (i + 1) b
      later a j h = let e : i + 1 + j ≡ i + suc j = omega arith in ap (λ (x : ℕ). is_tick_raw (event_at x b)) e ∙ a (suc j) (omega arith)

  pub others_onward : (p q : Point) (k : ℕ) → (k ≡ 0 → ⊥) → Within p.at p.tally → Settled p.device → p.at + k ≤ n → NoTicks k p.at b
      → q ≡ others_taken p k b → Onward b n p q
  others_onward p q k some within settled more none e =
      subst (λ (x : Point). Onward b n p x) (sym e) (
        omega (arith, some),
        more,
        within_more p.at k p.tally within,
        walk k p.at p.tally p.device none more,
        runs_settled p.device (raws_in k (drop (event_bytes * p.at) b)) settled,
      )
