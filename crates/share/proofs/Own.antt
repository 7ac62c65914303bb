-- What one trace has of each total, accepted or refused, as the code finds it.
-- Assumes nothing.
use Prim.Native.Nat.{ℕ, ◌-◌, ◌*◌, ◌≤◌, ◌<◌}
use mathlib.Core.Path.{◌≡◌, refl, sym, ap, ◌∙◌}
use mathlib.Core.List.{List}
use native.Mathlib.Nat.{le_of_eq}
use native.Mathlib.Omega.{arith}
use lib.ListN.{length, take, drop, length-drop}
use lib.Seq.{take_all}
use mathlib.Core.Bool.{true, false, ◌||◌}
use lib.Dec.{ltb}
use borrow.Author.Tests.{ltb-false, le-ltb, lt-ltb}
use Rattle.std.specs.Prelude.{Ok}
use Rattle.arbiter.specs.declared.Accepted.{Accepted}
use Rattle.std.specs.Prelude.{Result}
use Rattle.arbiter.proofs.Choice.{if_true, neither}
use Rattle.arbiter.specs.Effects.{power_up}
use Rattle.arbiter.specs.Traces.{head_bytes, event_bytes, most_events, answer_room, raws_in, event_count, refusal_number, read_number, accepted_with}
use Rattle.arbiter.specs.declared.Device.{Device}
use Rattle.arbiter.specs.declared.Kind.{Kind}
use Rattle.arbiter.specs.declared.Refusal.{Refusal}
use Rattle.std.specs.Prelude.{Err}
use Rattle.traces.proofs.Accepted.{Fits, accepted_fits}
use Rattle.share.specs.declared.Totals.{Totals}
use Rattle.share.specs.declared.Tally.{Tally}
use Rattle.share.specs.declared.Uncounted.{Uncounted}
use Rattle.share.specs.States.{states_from, tick_states}
use Rattle.share.specs.Share.{most_traces, shares_in, refused_by, read_alone, totals_of, together, added_with, added, told_number, read_told, trace_told}
use Rattle.share.specs.Walk.{no_tally, tally_from, counted_in, shares}
use Rattle.share.proofs.Tallied.{tallied}

-- ---- a trace added, from its reading

told_read : (y : Result Accepted Refusal) → told_number (read_told y) ≡ read_number y
told_read (Ok a) = refl
told_read (Err r) = refl

pub trace_added : (x z w : Totals) (t : List ℕ) (y : Result Accepted Refusal) (r : Result (Unit {0}) Uncounted) → x.traces < most_traces → y ≡ read_alone t
    → z ≡ totals_of (read_alone t) t → w ≡ together x z → r ≡ read_told y
    → (r ≡ trace_told x t) × (added_with w (told_number r) ≡ added x t)
unfolding added trace_told
trace_added x z w t y r h ey ez ew er =
    let e = lt-ltb x.traces most_traces h in
    let told = er ∙ ap read_told ey in (
      told ∙ sym (if_true _ _ e),
      ap (λ (n : ℕ). added_with w n) (ap told_number told ∙ told_read (read_alone t))
          ∙ ap (λ (v : Totals). added_with v (read_number (read_alone t))) (ew ∙ ap (together x) ez)
          ∙ sym (if_true _ _ e),
    )

-- ---- what it has of each total

-- with enough events, and no more than a trace has, all are counted; else none
pub counted_all : (d : Device) (b : List ℕ) (n : ℕ) → n ≤ most_events → event_bytes * n ≤ length b → counted_in d b n
    ≡ tally_from no_tally (states_from d (raws_in n b))
unfolding counted_in
counted_all d b n h k = simp (le-ltb most_events n h, le-ltb (event_count b) n (omega (arith, k)))

pub counted_none : (d : Device) (b : List ℕ) (n : ℕ) → ltb most_events n || ltb (event_count b) n ≡ true → counted_in d b n ≡ no_tally
unfolding counted_in
counted_none d b n h = if_true _ _ h

pub counted_enough : (b : List ℕ) (n : ℕ) → ltb most_events n || ltb (event_count b) n ≡ false → (event_bytes * n ≤ length b) × (n ≤ most_events)
counted_enough b n h =
    let p = neither (ltb most_events n) (ltb (event_count b) n) h in
    let enough = ltb-false (event_count b) n p.1 in
    (omega (arith, enough), ltb-false most_events n p.0)

pub own_refused : (t : List ℕ) (r : Refusal) → read_alone t ≡ Err r → refused_by (refusal_number r) ≡ totals_of (read_alone t) t
unfolding totals_of
own_refused t r h = ap (λ (y : Result Accepted Refusal). totals_of y t) (sym h)

module _ (t : List ℕ) (a n : ℕ) (k : Kind) (h : read_alone t ≡ accepted_with a n k) where
  fits : Fits t answer_room n k
  fits = accepted_fits t answer_room a n k h

  pub few : n ≤ most_events
  few = fits.2

  pub has_head : head_bytes ≤ length t
  has_head = let whole = fits.0 in omega (arith, whole)

  -- the bytes after the head, as a part of the trace
  abbrev pub rest : List ℕ
  rest = take (length t - 7) (drop 7 t)

  rest_is : rest ≡ drop head_bytes t
  rest_is = take_all (length t - 7) (drop 7 t) (le_of_eq (length-drop 7 t))

  pub rest_long : event_bytes * n ≤ length rest
  rest_long = let whole = fits.0 in let e : length rest ≡ length t - 7 = ap length rest_is ∙ length-drop 7 t in omega (arith, whole, e)

  pub own_accepted : (d : Device) (x : Tally) (y : Totals) → d ≡ power_up k → x ≡ counted_in d rest n → y ≡ shares x → y ≡ totals_of (read_alone t) t
  unfolding totals_of
  own_accepted d x y new counted shared =
      shared
      ∙ ap shares (counted ∙ counted_all d rest n few rest_long ∙ ap (λ (z : Device). tally_from no_tally (states_from z (raws_in n rest))) new)
      ∙ tallied (states_from (power_up k) (raws_in n rest))
      ∙ ap (λ (l : List ℕ). shares_in (tick_states k (raws_in n l))) rest_is
      ∙ ap (λ (z : Result Accepted Refusal). totals_of z t) (sym h)
