-- Totals put together: traces counted in two places have the totals of all of them counted in one.
-- Assumes nothing.
use Prim.Native.Nat.{ℕ, ◌+◌, ◌≤◌, ◌<◌}
use mathlib.Core.Path.{◌≡◌, refl, sym, ap, subst, ◌∙◌}
use mathlib.Core.List.{List, [], ◌∷◌, ◌++◌}
use native.Mathlib.Nat.{le_trans}
use native.Mathlib.Omega.{arith}
use lib.ListN.{length}
use borrow.Author.Tests.{lt-ltb, le-ltb}
use Rattle.arbiter.proofs.Choice.{if_true, if_false}
use Rattle.share.specs.declared.Totals.{Totals}
use Rattle.share.specs.Numbers.{top, plus}
use Rattle.std.specs.Prelude.{Ok, Err}
use Rattle.share.specs.declared.Uncounted.TheVariants.{PastMost}
use Rattle.share.specs.Share.{most_traces, no_totals, together, added, added_with, added_all, totals_after, joined, join_told}
use Rattle.share.specs.Laws.{AllWithin, most_total, JoinedAlike, JoinedPastMost}
use Rattle.share.proofs.Numbers.{plus_assoc, plus_exact, plus_over, plus_under, plus_none, larger_assoc, larger_none}
use Rattle.share.proofs.Sound.{totals_fit}
use Rattle.share.proofs.Order.{own, taken_totals, most_in, one_more}

-- ---- putting together, by itself

together_assoc : (x y z : Totals) → together x (together y z) ≡ together (together x y) z
unfolding together
together_assoc x y z = λ j.
    record {
      traces = plus_assoc x.traces y.traces z.traces j;
      ticks = plus_assoc x.ticks y.ticks z.ticks j;
      owned0 = plus_assoc x.owned0 y.owned0 z.owned0 j;
      owned1 = plus_assoc x.owned1 y.owned1 z.owned1 j;
      unowned = plus_assoc x.unowned y.unowned z.unowned j;
      connected0 = plus_assoc x.connected0 y.connected0 z.connected0 j;
      connected1 = plus_assoc x.connected1 y.connected1 z.connected1 j;
      waited0 = plus_assoc x.waited0 y.waited0 z.waited0 j;
      waited1 = plus_assoc x.waited1 y.waited1 z.waited1 j;
      longest0 = larger_assoc x.longest0 y.longest0 z.longest0 j;
      longest1 = larger_assoc x.longest1 y.longest1 z.longest1 j;
      refused3 = plus_assoc x.refused3 y.refused3 z.refused3 j;
      refused5 = plus_assoc x.refused5 y.refused5 z.refused5 j;
      refused6 = plus_assoc x.refused6 y.refused6 z.refused6 j;
      refused7 = plus_assoc x.refused7 y.refused7 z.refused7 j;
      refused8 = plus_assoc x.refused8 y.refused8 z.refused8 j;
      refused10 = plus_assoc x.refused10 y.refused10 z.refused10 j;
    }

together_none : (x : Totals) → AllWithin top x → together x no_totals ≡ x
unfolding together no_totals
together_none x within = λ j.
    record {
      traces = plus_none x.traces within.0 j;
      ticks = plus_none x.ticks within.1 j;
      owned0 = plus_none x.owned0 within.2 j;
      owned1 = plus_none x.owned1 within.3 j;
      unowned = plus_none x.unowned within.4 j;
      connected0 = plus_none x.connected0 within.5 j;
      connected1 = plus_none x.connected1 within.6 j;
      waited0 = plus_none x.waited0 within.7 j;
      waited1 = plus_none x.waited1 within.8 j;
      longest0 = larger_none x.longest0 j;
      longest1 = larger_none x.longest1 j;
      refused3 = plus_none x.refused3 within.11 j;
      refused5 = plus_none x.refused5 within.12 j;
      refused6 = plus_none x.refused6 within.13 j;
      refused7 = plus_none x.refused7 within.14 j;
      refused8 = plus_none x.refused8 within.15 j;
      refused10 = plus_none x.refused10 within.16 j;
    }

-- ---- traces added on the one side of what is put together

traces_together : (x y : Totals) → x.traces + y.traces ≤ most_traces → (together x y).traces ≡ x.traces + y.traces
unfolding together
traces_together x y h = let m = most_in in plus_exact x.traces y.traces (omega (arith, h, m))

added_beside : (x y : Totals) (t : List ℕ) → x.traces + y.traces < most_traces → together x (added y t).totals ≡ (added (together x y) t).totals
added_beside x y t h =
    let e = traces_together x y (omega (arith, h)) in
    ap (together x) (taken_totals y t (omega (arith, h)))
    ∙ together_assoc x y (own t)
    ∙ sym (taken_totals (together x y) t (omega (arith, h, e)))

one_added : (y : Totals) (t : List ℕ) → y.traces < most_traces → (added y t).totals.traces ≡ y.traces + 1
one_added y t h = ap (λ (z : Totals). z.traces) (taken_totals y t h) ∙ one_more y t h

all_beside : (x y : Totals) (us : List (List ℕ)) → x.traces + y.traces + length us ≤ most_traces → together x (added_all y us) ≡ added_all (together x y) us
unfolding added_all
all_beside x y [] h = refl
all_beside x y (u ∷ us) h =
    let e = one_added y u (omega (arith, h)) in
    all_beside x (added y u).totals us (omega (arith, h, e))
    ∙ ap (λ (z : Totals). added_all z us) (added_beside x y u (omega (arith, h)))

-- ---- all traces one after the other

traces_all : (y : Totals) (us : List (List ℕ)) → y.traces + length us ≤ most_traces → (added_all y us).traces ≡ y.traces + length us
unfolding added_all
traces_all y [] h = omega arith
traces_all y (u ∷ us) h =
    let e = one_added y u (omega (arith, h)) in
    let rest = traces_all (added y u).totals us (omega (arith, h, e)) in
    omega (arith, e, rest)

one_list : (x : Totals) (ts us : List (List ℕ)) → added_all x (ts ++ us) ≡ added_all (added_all x ts) us
unfolding added_all
one_list x [] us = refl
one_list x (t ∷ ts) us = one_list (added x t).totals ts us

traces_after : (ts : List (List ℕ)) → length ts ≤ most_traces → (totals_after ts).traces ≡ length ts
unfolding no_totals
traces_after ts h = let e = traces_all no_totals ts (omega (arith, h)) in omega (arith, e)

within_top : (ts : List (List ℕ)) → AllWithin top (totals_after ts)
within_top ts =
    let w = totals_fit.0 ts in
    let r : most_total ≤ top = let s = totals_fit.1 in omega (arith, s) in (
      le_trans w.0 r,
      le_trans w.1 r,
      le_trans w.2 r,
      le_trans w.3 r,
      le_trans w.4 r,
      le_trans w.5 r,
      le_trans w.6 r,
      le_trans w.7 r,
      le_trans w.8 r,
      le_trans w.9 r,
      le_trans w.10 r,
      le_trans w.11 r,
      le_trans w.12 r,
      le_trans w.13 r,
      le_trans w.14 r,
      le_trans w.15 r,
      le_trans w.16 r,
    )

-- ---- the laws

alike : (ts us : List (List ℕ)) → length ts + length us ≤ most_traces → together (totals_after ts) (totals_after us) ≡ totals_after (ts ++ us)
unfolding no_totals
alike ts us h =
    let e = traces_after ts (omega (arith, h)) in
    all_beside (totals_after ts) no_totals us (omega (arith, h, e))
    ∙ ap (λ (z : Totals). added_all z us) (together_none (totals_after ts) (within_top ts))
    ∙ sym (one_list no_totals ts us)

pub joined_in : (x y : Totals) → x.traces + y.traces ≤ most_traces → joined x y ≡ added_with (together x y) 0
unfolding joined
joined_in x y h = if_false _ _ (le-ltb most_traces (x.traces + y.traces) h)

pub joined_past_most : JoinedPastMost
unfolding joined
joined_past_most x y h = if_true _ _ (lt-ltb most_traces (x.traces + y.traces) h)

-- as the code has it, by the sum that stops at the top
most_below : most_traces < top
unfolding top
most_below = omega arith

module _ (x y : Totals) (n : ℕ) (e : n ≡ plus x.traces y.traces) where
  pub call_past : most_traces < n → (Err PastMost ≡ join_told x y) × (added_with x 6 ≡ joined x y)
  unfolding join_told
  call_past h =
      let past = plus_over most_traces x.traces y.traces most_below (subst (λ (m : ℕ). most_traces < m) e h) in
      (sym (if_true _ _ (lt-ltb _ _ past)), sym (joined_past_most x y past))

  pub call_in : n ≤ most_traces → (Ok tt ≡ join_told x y) × (added_with (together x y) 0 ≡ joined x y)
  unfolding join_told
  call_in h =
      let within = plus_under most_traces x.traces y.traces most_below (subst (λ (m : ℕ). m ≤ most_traces) e h) in
      (sym (if_false _ _ (le-ltb _ _ within)), sym (joined_in x y within))

pub joined_alike : JoinedAlike
joined_alike ts us h =
    let t = traces_after ts (omega (arith, h)) in
    let u = traces_after us (omega (arith, h)) in
    let same = alike ts us h in
    (same, joined_in (totals_after ts) (totals_after us) (omega (arith, h, t, u)) ∙ ap (λ (z : Totals). added_with z 0) same)
