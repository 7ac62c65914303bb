-- What holds of the totals after any traces: each trace's own meet it, and putting totals together keeps it.
-- Assumes nothing.
use Prim.Native.Nat.{ℕ, ◌+◌, ◌*◌, ◌≤◌, ◌<◌}
use mathlib.Core.Path.{◌≡◌, refl, sym, subst}
use mathlib.Core.List.{List, [], ◌∷◌}
use native.Mathlib.Nat.{le_refl}
use native.Mathlib.Omega.{arith}
use lib.Dec.{eqb, ltb}
use borrow.Author.Tests.{ltb-true}
use Rattle.arbiter.specs.Words.{worth}
use Rattle.arbiter.specs.Effects.{power_up}
use Rattle.arbiter.specs.Traces.{head_bytes, most_events, answer_room, events_in, refusal_number}
use Rattle.arbiter.specs.declared.Master.TheVariants.{Zero, One}
use Rattle.arbiter.specs.declared.Kind.{Kind}
use Rattle.arbiter.specs.declared.Raw.{Raw}
use Rattle.arbiter.specs.declared.Refusal.{Refusal}
use Rattle.std.specs.Prelude.{Result, Err, Ok}
use Rattle.arbiter.specs.declared.Accepted.{Accepted}
use Rattle.arbiter.proofs.Choice.{either}
use Rattle.traces.proofs.Accepted.{accepted_fits}
use lib.ListN.{length, drop}
use Rattle.share.specs.declared.Totals.{Totals}
use Rattle.share.specs.Numbers.{top, plus}
use Rattle.share.specs.States.{tick_states, waits}
use Rattle.share.specs.Share.{Added, most_traces, shares_in, refused_by, no_totals, read_alone, totals_of, together, added, added_all, totals_after}
use Rattle.share.specs.Laws.{AddUp, ConnectedOwned, WaitedOrOwned, LongestWaited, refusals, RefusedAreTraces, AllWithin, most_total, TotalsFit, TracesFit}
use Rattle.share.proofs.Numbers.{plus_exact, larger_most}
use Rattle.share.proofs.Runs.{few_states, raws_length, owned_add_up, waited_or_owned_in, connected_owned_in, longest_in_count}

-- what holds of all totals of so many traces
pub record Sound (n : ℕ) (x : Totals) : Type 0 where
  pub traces_are : x.traces ≡ n
  pub few : x.ticks ≤ most_events * n
  pub sum : x.owned0 + x.owned1 + x.unowned ≡ x.ticks
  pub joined0 : x.connected0 ≤ x.owned0
  pub joined1 : x.connected1 ≤ x.owned1
  pub apart0 : x.waited0 + x.owned0 ≤ x.ticks
  pub apart1 : x.waited1 + x.owned1 ≤ x.ticks
  pub long0 : x.longest0 ≤ x.waited0
  pub long1 : x.longest1 ≤ x.waited1
  pub refused : refusals x ≤ n

-- ---- before the first trace, and of one trace

none_sound : Sound 0 no_totals
unfolding no_totals
none_sound =
    record {
      traces_are = refl;
      few = omega arith;
      sum = refl;
      joined0 = le_refl 0;
      joined1 = le_refl 0;
      apart0 = le_refl 0;
      apart1 = le_refl 0;
      long0 = le_refl 0;
      long1 = le_refl 0;
      refused = le_refl 0;
    }

shares_sound : (k : Kind) (rs : List Raw) → length rs ≤ most_events → Sound 1 (shares_in (tick_states k rs))
unfolding shares_in
shares_sound k rs h =
    let ds = tick_states k rs in
    let f = few_states (power_up k) rs in
    record {
      traces_are = refl;
      few = omega (arith, f, h);
      sum = owned_add_up ds;
      joined0 = connected_owned_in Zero k rs;
      joined1 = connected_owned_in One k rs;
      apart0 = waited_or_owned_in Zero ds;
      apart1 = waited_or_owned_in One ds;
      long0 = longest_in_count (waits Zero) ds;
      long1 = longest_in_count (waits One) ds;
      refused = omega arith;
    }

-- a number is one of them at most
abbrev under : ℕ → ℕ
under n = worth 1 (eqb n 3) + worth 1 (eqb n 5) + worth 1 (eqb n 6) + worth 1 (eqb n 7) + worth 1 (eqb n 8) + worth 1 (eqb n 10)

one_number : (r : Refusal) → under (refusal_number r) ≤ 1
one_number Refusal.TraceCut = le_refl 1
one_number Refusal.TooManyEvents = le_refl 1
one_number Refusal.BytesAfterEnd = le_refl 1
one_number Refusal.BadStraps = le_refl 1
one_number Refusal.NoRoom = omega arith
one_number Refusal.BadCount = le_refl 1
one_number Refusal.UnknownPart = le_refl 1

refused_sound : (r : Refusal) → Sound 1 (refused_by (refusal_number r))
unfolding refused_by
refused_sound r =
    record {
      traces_are = refl;
      few = omega arith;
      sum = refl;
      joined0 = le_refl 0;
      joined1 = le_refl 0;
      apart0 = le_refl 0;
      apart1 = le_refl 0;
      long0 = le_refl 0;
      long1 = le_refl 0;
      refused = one_number r;
    }

pub own_sound : (t : List ℕ) → Sound 1 (totals_of (read_alone t) t)
unfolding totals_of
own_sound t = go (read_alone t) refl
  where
    go : (y : Result Accepted Refusal) → read_alone t ≡ y → Sound 1 (totals_of y t)
    go (Ok x) h =
        let n = x.events in
        let k = x.kind in
        let fit = (accepted_fits t answer_room x.address n k h).2 in
        let e = raws_length n (drop head_bytes t) in
        shares_sound k (events_in n t) (subst (λ (m : ℕ). m ≤ most_events) (sym e) fit)
    go (Err r) h = refused_sound r

-- ---- put together: below the top each sum is the sum

room_above : most_total + most_total < top
unfolding top
room_above = omega arith

module _ (n : ℕ) (x y : Totals) (fits : n < most_traces) (s : Sound n x) (o : Sound 1 y) where
  exact : (a b : ℕ) → a ≤ most_total → b ≤ most_total → plus a b ≡ a + b
  exact a b p q = let r = room_above in plus_exact a b (omega (arith, p, q, r))

  sound_together : Sound (n + 1) (together x y)
  unfolding together
  sound_together =
      let t = exact x.traces y.traces (omega (arith, s.traces_are)) (omega (arith, o.traces_are)) in
      let ti = exact x.ticks y.ticks (omega (arith, s.few)) (omega (arith, o.few)) in
      let o0 = exact x.owned0 y.owned0 (omega (arith, s.few, s.sum)) (omega (arith, o.few, o.sum)) in
      let o1 = exact x.owned1 y.owned1 (omega (arith, s.few, s.sum)) (omega (arith, o.few, o.sum)) in
      let un = exact x.unowned y.unowned (omega (arith, s.few, s.sum)) (omega (arith, o.few, o.sum)) in
      let c0 = exact x.connected0 y.connected0 (omega (arith, s.few, s.sum, s.joined0)) (omega (arith, o.few, o.sum, o.joined0)) in
      let c1 = exact x.connected1 y.connected1 (omega (arith, s.few, s.sum, s.joined1)) (omega (arith, o.few, o.sum, o.joined1)) in
      let w0 = exact x.waited0 y.waited0 (omega (arith, s.few, s.apart0)) (omega (arith, o.few, o.apart0)) in
      let w1 = exact x.waited1 y.waited1 (omega (arith, s.few, s.apart1)) (omega (arith, o.few, o.apart1)) in
      let r3 = exact x.refused3 y.refused3 (omega (arith, s.refused)) (omega (arith, o.refused)) in
      let r5 = exact x.refused5 y.refused5 (omega (arith, s.refused)) (omega (arith, o.refused)) in
      let r6 = exact x.refused6 y.refused6 (omega (arith, s.refused)) (omega (arith, o.refused)) in
      let r7 = exact x.refused7 y.refused7 (omega (arith, s.refused)) (omega (arith, o.refused)) in
      let r8 = exact x.refused8 y.refused8 (omega (arith, s.refused)) (omega (arith, o.refused)) in
      let r10 = exact x.refused10 y.refused10 (omega (arith, s.refused)) (omega (arith, o.refused)) in
      record {
        traces_are = omega (arith, t, s.traces_are, o.traces_are);
        few = omega (arith, ti, s.few, o.few);
        sum = omega (arith, ti, o0, o1, un, s.sum, o.sum);
        joined0 = omega (arith, c0, o0, s.joined0, o.joined0);
        joined1 = omega (arith, c1, o1, s.joined1, o.joined1);
        apart0 = omega (arith, w0, o0, ti, s.apart0, o.apart0);
        apart1 = omega (arith, w1, o1, ti, s.apart1, o.apart1);
        long0 = larger_most _ _ _ (omega (arith, w0, s.long0)) (omega (arith, w0, o.long0));
        long1 = larger_most _ _ _ (omega (arith, w1, s.long1)) (omega (arith, w1, o.long1));
        refused = omega (arith, r3, r5, r6, r7, r8, r10, s.refused, o.refused);
      }

-- ---- after any traces

abbrev Held : Totals → Type 0
Held x = (n : ℕ) × (n ≤ most_traces) × Sound n x

added_held : (x : Totals) (t : List ℕ) → Held x → Held (added x t).totals
unfolding added
added_held x t (n, few, s) =
    either (λ (y : Added). Held y.totals) (ltb x.traces most_traces)
    (λ h. let below = ltb-true x.traces most_traces h in
    (n + 1, omega (arith, below, s.traces_are), sound_together n x (totals_of (read_alone t) t) (omega (arith, below, s.traces_are)) s (own_sound t)))
    (λ h. (n, few, s))

all_held : (x : Totals) (ts : List (List ℕ)) → Held x → Held (added_all x ts)
unfolding added_all
all_held x [] h = h
all_held x (t ∷ ts) h = all_held (added x t).totals ts (added_held x t h)

pub totals_held : (ts : List (List ℕ)) → Held (totals_after ts)
totals_held ts = all_held no_totals ts (0, omega arith, none_sound)

-- ---- the laws

pub add_up : AddUp
add_up ts = (totals_held ts).2.sum

pub connected_owned : ConnectedOwned
connected_owned ts = let s = (totals_held ts).2 in (s.joined0, s.joined1)

pub waited_or_owned : WaitedOrOwned
waited_or_owned ts = let s = (totals_held ts).2 in (s.apart0, s.apart1)

pub longest_waited : LongestWaited
longest_waited ts = let s = (totals_held ts).2 in (s.long0, s.long1)

pub refused_are_traces : RefusedAreTraces
refused_are_traces ts = let s = (totals_held ts).2 in omega (arith, s.refused, s.traces_are)

pub traces_fit : TracesFit
traces_fit ts = let h = totals_held ts in omega (arith, h.1, h.2.traces_are)

all_within : (n : ℕ) (x : Totals) → n ≤ most_traces → Sound n x → AllWithin most_total x
all_within n x h s = (
  omega (arith, h, s.traces_are),
  omega (arith, h, s.few),
  omega (arith, h, s.few, s.sum),
  omega (arith, h, s.few, s.sum),
  omega (arith, h, s.few, s.sum),
  omega (arith, h, s.few, s.sum, s.joined0),
  omega (arith, h, s.few, s.sum, s.joined1),
  omega (arith, h, s.few, s.apart0),
  omega (arith, h, s.few, s.apart1),
  omega (arith, h, s.few, s.apart0, s.long0),
  omega (arith, h, s.few, s.apart1, s.long1),
  omega (arith, h, s.refused),
  omega (arith, h, s.refused),
  omega (arith, h, s.refused),
  omega (arith, h, s.refused),
  omega (arith, h, s.refused),
  omega (arith, h, s.refused),
)

pub totals_fit : TotalsFit
totals_fit = ((λ ts. let h = totals_held ts in all_within h.0 (totals_after ts) h.1 h.2), (let r = room_above in omega (arith, r)))
