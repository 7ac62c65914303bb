-- One round of the loop over a trace's events: the counts so far, and those of the states that are still to come. And no count is larger
-- than the number of events so far.
-- Assumes nothing.
use Prim.Native.Nat.{ℕ, suc, ◌+◌, ◌-◌, ◌*◌, ◌≤◌, ◌<◌}
use mathlib.Core.Path.{◌≡◌, refl, sym, ap, subst, ◌∙◌}
use mathlib.Core.Bool.{Bool, true, false}
use mathlib.Core.List.{List, ◌∷◌}
use native.Mathlib.Nat.{le_refl}
use native.Mathlib.Omega.{arith}
use lib.ListN.{length, drop}
use lib.Seq.{drop-drop}
use borrow.Author.Tests.{lt-ltb}
use Rattle.std.specs.Prelude.{if◌then◌else◌}
use Rattle.arbiter.specs.Words.{worth}
use Rattle.arbiter.specs.Steps.{step}
use Rattle.arbiter.specs.Traces.{event_bytes, raw_in, raws_in, event_count}
use Rattle.arbiter.specs.AuditWords.{next, tick}
use Rattle.arbiter.specs.declared.Device.{Device}
use Rattle.arbiter.specs.declared.Raw.{Raw}
use Rattle.format.specs.Places.{event_at}
use Rattle.share.specs.declared.Seen.{Seen}
use Rattle.share.specs.declared.Tally.{Tally}
use Rattle.share.specs.States.{listed_if, states_from}
use Rattle.traces.specs.Ticks.{is_tick_raw}
use Rattle.share.specs.Walk.{seen_of, waited_on, noted, tally_from, Within, left}
use Rattle.share.proofs.Numbers.{larger_most}
use Rattle.share.proofs.Ticks.{told_tick}

-- ---- a state that may be listed

listed : (c : Bool) (x : Device) (ds : List Device) (y : Tally) → tally_from y (listed_if c x ds) ≡ tally_from (if c then noted 1 (seen_of x) y else y) ds
unfolding tally_from
listed true x ds y = refl
listed false x ds y = refl

-- ---- the events that are still to come

module _ (b : List ℕ) (n i : ℕ) (more : i < n) (whole : event_bytes * n ≤ length b) where
  pub event_is : event_at i b ≡ raw_in (drop (event_bytes * i) b)
  unfolding event_at
  event_is = simp (lt-ltb i (event_count b) (omega arith))

  left_more : left b n i ≡ event_at i b ∷ left b n (i + 1)
  unfolding raws_in
  left_more =
      let less : n - i ≡ suc (n - (i + 1)) = omega arith in
      let next-at : event_bytes + event_bytes * i ≡ event_bytes * (i + 1) = omega arith in
      ap (λ (k : ℕ). raws_in k (drop (event_bytes * i) b)) less
      ∙ ap (λ (r : Raw). r ∷ raws_in (n - (i + 1)) (drop event_bytes (drop (event_bytes * i) b))) (sym event_is)
      ∙ ap (λ (l : List ℕ). event_at i b ∷ raws_in (n - (i + 1)) l) (drop_more next-at)
    where
      drop_more : event_bytes + event_bytes * i ≡ event_bytes * (i + 1) → drop event_bytes (drop (event_bytes * i) b) ≡ drop (event_bytes * (i + 1)) b
      drop_more e = drop-drop event_bytes (event_bytes * i) b ∙ ap (λ (k : ℕ). drop k b) (swapped ∙ e)
        where
          swapped : event_bytes * i + event_bytes ≡ event_bytes + event_bytes * i
          swapped = omega arith

  -- the counts t before event i, and t' after it
  pub again : (t t' : Tally) (d d' : Device) (r : Raw) → r ≡ event_at i b → d' ≡ (step d r).device → t' ≡ (if is_tick_raw r then noted 1 (seen_of d') t else t)
      → tally_from t' (states_from d' (left b n (i + 1))) ≡ tally_from t (states_from d (left b n i))
  unfolding states_from
  again t t' d d' r at stepped noted-is =
      let rest : List Raw = left b n (i + 1) in
      ap (λ (x : Tally). tally_from x (states_from d' rest)) noted-is
      ∙ ap (λ (x : Device). tally_from (if is_tick_raw r then noted 1 (seen_of x) t else t) (states_from x rest)) stepped
      ∙ ap (λ (c : Bool). tally_from (if c then noted 1 (seen_of (next d r)) t else t) (states_from (next d r) rest)) (sym (told_tick r d))
      ∙ sym (listed (tick r d) (next d r) (states_from (next d r) rest) t)
      ∙ ap (λ (rs : List Raw). tally_from t (states_from d rs)) (ap (λ (x : Raw). x ∷ rest) at ∙ sym left_more)

-- before the first there are all
pub all_left : (b : List ℕ) (n : ℕ) → left b n 0 ≡ raws_in n b
all_left b n = let all : n - 0 ≡ n = omega arith in ap (λ (k : ℕ). raws_in k b) all

-- after the last there is none
pub none_left : (b : List ℕ) (n i : ℕ) (t : Tally) (d : Device) → i ≡ n → tally_from t (states_from d (left b n i)) ≡ t
unfolding tally_from states_from raws_in
none_left b n i t d e = let none : n - i ≡ 0 = omega arith in ap (λ (k : ℕ). tally_from t (states_from d (raws_in k (drop (event_bytes * i) b)))) none

-- ---- no count is larger than the number of events

part_small : (j : ℕ) (b : Bool) → worth j b ≤ j
part_small j true = le_refl j
part_small j false = omega arith

waited_small : (j : ℕ) (b : Bool) (n : ℕ) → waited_on j b n ≤ n + j
unfolding waited_on
waited_small j true n = le_refl _
waited_small j false n = omega arith

pub within_noted : (n j : ℕ) (s : Seen) (t : Tally) → Within n t → Within (n + j) (noted j s t)
unfolding noted
within_noted n j s t h = (
  up t.ticks j h.0 (le_refl j),
  up t.owned0 _ h.1 (part_small j s.owns0),
  up t.owned1 _ h.2 (part_small j s.owns1),
  up t.unowned _ h.3 (part_small j s.free),
  up t.connected0 _ h.4 (part_small j s.closed0),
  up t.connected1 _ h.5 (part_small j s.closed1),
  up t.waited0 _ h.6 (part_small j s.waits0),
  up t.waited1 _ h.7 (part_small j s.waits1),
  on s.waits0 t.run0 h.8,
  on s.waits1 t.run1 h.9,
  larger_most _ _ (n + j) (let k = h.10 in omega arith) (on s.waits0 t.run0 h.8),
  larger_most _ _ (n + j) (let k = h.11 in omega arith) (on s.waits1 t.run1 h.9),
)
  where
    up : (a p : ℕ) → a ≤ n → p ≤ j → a + p ≤ n + j
    up a p q r = omega arith

    on : (b : Bool) (a : ℕ) → a ≤ n → waited_on j b a ≤ n + j
    on b a q = let w = waited_small j b a in omega arith

pub within_more : (n j : ℕ) (t : Tally) → Within n t → Within (n + j) t
within_more n j t h = omega (arith, h)

pub within_after : (i : ℕ) (c : Bool) (s : Seen) (t t' : Tally) → t' ≡ (if c then noted 1 s t else t) → Within i t → Within (i + 1) t'
within_after i true s t t' e h = subst (Within (i + 1)) (sym e) (within_noted i 1 s t h)
within_after i false s t t' e h = subst (Within (i + 1)) (sym e) (within_more i 1 t h)
