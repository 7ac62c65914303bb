-- Adding a trace: what a refused one leaves, that 9 does not come, and that the order of the traces is all one.
-- Assumes nothing.
use Prim.Native.Nat.{ℕ, suc, ◌+◌, ◌*◌, ◌≤◌, ◌<◌}
use mathlib.Core.Path.{◌≡◌, refl, sym, ap, subst, ◌∙◌}
use mathlib.Core.Bool.{not}
use mathlib.Core.List.{List, Permᴰ}
use native.Mathlib.Omega.{arith}
use lib.Dec.{eqb, ltb}
use lib.ListN.{length}
use borrow.Author.Tests.{ltb-true, ltb-false, le-ltb, lt-ltb}
use Rattle.arbiter.specs.Straps.{address_of}
use Rattle.arbiter.specs.Traces.{pin_count, pin_bytes, head_bytes, event_bytes, most_events, events_end, kind_count, whole_bytes, answer_room, byte_at, pins_in}
use Rattle.arbiter.specs.Traces.{count_in}
use Rattle.arbiter.specs.Traces.{is_kind, kind_at, read_kind, read_counted, read_strapped, read_trace, refusal_number, read_number}
use Rattle.std.specs.Prelude.{Option, Some, None, Result}
use Rattle.arbiter.specs.declared.Accepted.{Accepted}
use Rattle.arbiter.specs.declared.Refusal.{Refusal}
use Rattle.arbiter.proofs.Choice.{either, if_true, if_false}
use Rattle.share.specs.declared.Totals.{Totals}
use Rattle.share.specs.Numbers.{top, plus}
use Rattle.share.specs.Share.{Added, most_traces, refused_by, no_totals, read_alone, totals_of, together, added_with, added, added_all}
use Rattle.share.specs.Laws.{SameShares, OneMoreRefused, RefusedAddsOne, NeverNoRoom, PastMost, Reordered, AnyOrder, AnyOrderFrom}
use Rattle.share.proofs.Numbers.{plus_swap, plus_exact, plus_none, larger_swap, larger_none}
use Rattle.share.proofs.Sound.{own_sound}

-- ---- the number of traces decides

pub past_most : PastMost
unfolding added
past_most x t h = if_false _ _ (le-ltb x.traces most_traces h)

-- what a trace has of each total
abbrev pub own : List ℕ → Totals
own t = totals_of (read_alone t) t

taken : (x : Totals) (t : List ℕ) → x.traces < most_traces → added x t ≡ added_with (together x (own t)) (read_number (read_alone t))
unfolding added
taken x t h = if_true _ _ (lt-ltb x.traces most_traces h)

pub taken_totals : (x : Totals) (t : List ℕ) → x.traces < most_traces → (added x t).totals ≡ together x (own t)
taken_totals x t h = ap (λ (y : Added). y.totals) (taken x t h)

pub most_in : most_traces ≤ top
unfolding top
most_in = omega arith

-- one trace more
pub one_more : (x : Totals) (t : List ℕ) → x.traces < most_traces → (together x (own t)).traces ≡ x.traces + 1
unfolding together
one_more x t h =
    let one = (own_sound t).traces_are in
    let m = most_in in
    ap (plus x.traces) one ∙ plus_exact x.traces 1 (omega (arith, h, m))

-- ---- a refused trace

pub refused_adds_one : RefusedAddsOne
unfolding together refused_by totals_of
refused_adds_one x t r within h e =
    let a = taken x t h ∙ ap (λ (y : Result Accepted Refusal). added_with (together x (totals_of y t)) (read_number y)) e in
    subst (λ (y : Added). SameShares y.totals x × OneMoreRefused (refusal_number r) y.totals x × (y.number ≡ refusal_number r)) (sym a) (
      (
        plus_none _ within.1,
        plus_none _ within.2,
        plus_none _ within.3,
        plus_none _ within.4,
        plus_none _ within.5,
        plus_none _ within.6,
        plus_none _ within.7,
        plus_none _ within.8,
        larger_none _,
        larger_none _,
      ),
      ((let m = most_in in plus_exact x.traces 1 (omega (arith, h, m))), refl, refl, refl, refl, refl, refl),
      refl,
    )

-- ---- 9 does not come

abbrev NotNine : Result Accepted Refusal → Type 0
NotNine y = read_number y ≡ 9 → ⊥

kind_not_nine : (a n : ℕ) (t : List ℕ) → n ≤ most_events → NotNine (read_kind a n t answer_room)
unfolding read_kind
kind_not_nine a n t few =
    either NotNine (ltb (length t) (events_end n + 1)) (λ b e. omega arith) λ f1.
    either NotNine (not (eqb (byte_at (events_end n) t) kind_count)) (λ b e. omega arith) λ f2.
    either NotNine (ltb (length t) (whole_bytes n)) (λ b e. omega arith) λ f3.
    either NotNine (not (is_kind (kind_at n t))) (λ b e. omega arith) λ f4.
    either NotNine (ltb (whole_bytes n) (length t)) (λ b e. omega arith) λ f5.
    either NotNine (ltb answer_room (event_bytes * n))
    (λ b e. let past = ltb-true answer_room (event_bytes * n) b in omega (arith, past, few)) λ f6 e. omega arith

counted_not_nine : (a : ℕ) (t : List ℕ) → NotNine (read_counted a t answer_room)
unfolding read_counted
counted_not_nine a t =
    either NotNine (ltb (length t) head_bytes) (λ b e. omega arith) λ f1.
    either NotNine (ltb most_events (count_in t)) (λ b e. omega arith) λ f2.
    either NotNine (ltb (length t) (events_end (count_in t))) (λ b e. omega arith) λ f3.
    kind_not_nine a (count_in t) t (ltb-false most_events (count_in t) f2)

strapped_not_nine : (s : Option ℕ) (t : List ℕ) → NotNine (read_strapped s t answer_room)
unfolding read_strapped
strapped_not_nine (Some a) t = counted_not_nine a t
strapped_not_nine None t = λ e. omega arith

not_nine : (t : List ℕ) → NotNine (read_alone t)
unfolding read_trace
not_nine t =
    either NotNine (ltb (length t) 1) (λ b e. omega arith) λ f1.
    either NotNine (not (eqb (byte_at 0 t) pin_count)) (λ b e. omega arith) λ f2.
    either NotNine (ltb (length t) pin_bytes) (λ b e. omega arith) λ f3.
    strapped_not_nine (address_of (pins_in t)) t

pub never_no_room : NeverNoRoom
never_no_room t h = not_nine t (ap read_number h)

-- ---- any order

together_swap : (x y z : Totals) → together (together x y) z ≡ together (together x z) y
unfolding together
together_swap x y z = λ j.
    record {
      traces = plus_swap x.traces y.traces z.traces j;
      ticks = plus_swap x.ticks y.ticks z.ticks j;
      owned0 = plus_swap x.owned0 y.owned0 z.owned0 j;
      owned1 = plus_swap x.owned1 y.owned1 z.owned1 j;
      unowned = plus_swap x.unowned y.unowned z.unowned j;
      connected0 = plus_swap x.connected0 y.connected0 z.connected0 j;
      connected1 = plus_swap x.connected1 y.connected1 z.connected1 j;
      waited0 = plus_swap x.waited0 y.waited0 z.waited0 j;
      waited1 = plus_swap x.waited1 y.waited1 z.waited1 j;
      longest0 = larger_swap x.longest0 y.longest0 z.longest0 j;
      longest1 = larger_swap x.longest1 y.longest1 z.longest1 j;
      refused3 = plus_swap x.refused3 y.refused3 z.refused3 j;
      refused5 = plus_swap x.refused5 y.refused5 z.refused5 j;
      refused6 = plus_swap x.refused6 y.refused6 z.refused6 j;
      refused7 = plus_swap x.refused7 y.refused7 z.refused7 j;
      refused8 = plus_swap x.refused8 y.refused8 z.refused8 j;
      refused10 = plus_swap x.refused10 y.refused10 z.refused10 j;
    }

taken_twice : (x : Totals) (t u : List ℕ) → x.traces + 2 ≤ most_traces → (added (added x t).totals u).totals ≡ together (together x (own t)) (own u)
taken_twice x t u h =
    let below : x.traces < most_traces = omega arith in
    let e = one_more x t below in
    ap (λ (y : Totals). (added y u).totals) (taken_totals x t below) ∙ taken_totals (together x (own t)) u (omega (arith, h, e))

added_swap : (x : Totals) (t u : List ℕ) → x.traces + 2 ≤ most_traces → (added (added x t).totals u).totals ≡ (added (added x u).totals t).totals
added_swap x t u h = taken_twice x t u h ∙ together_swap x (own t) (own u) ∙ sym (taken_twice x u t h)

same_length : {ts us : List (List ℕ)} → Reordered ts us → length ts ≡ length us
same_length Permᴰ.nil = refl
same_length (Permᴰ.cons e p) = ap suc (same_length p)
same_length (Permᴰ.swap e f) = refl
same_length (Permᴰ.trans p q) = same_length p ∙ same_length q

reordered : (x : Totals) {ts us : List (List ℕ)} → Reordered ts us → x.traces + length ts ≤ most_traces → added_all x ts ≡ added_all x us
unfolding added_all
reordered x Permᴰ.nil h = refl
reordered x (Permᴰ.cons {a = a} {b = b} {l₁ = ts} {l₂ = us} e p) h =
    let below : x.traces < most_traces = omega arith in
    let more = ap (λ (y : Totals). y.traces) (taken_totals x a below) ∙ one_more x a below in
    reordered (added x a).totals p (omega (arith, h, more)) ∙ ap (λ (t : List ℕ). added_all (added x t).totals us) e
reordered x (Permᴰ.swap {a = a} {b = b} {a' = c} {l = ts} e f) h =
    ap (λ (y : Totals). added_all y ts) (added_swap x a b (omega arith))
    ∙ ap (λ (t : List ℕ). added_all (added (added x t).totals a).totals ts) f
    ∙ ap (λ (t : List ℕ). added_all (added (added x c).totals t).totals ts) e
reordered x (Permᴰ.trans p q) h = reordered x p h ∙ reordered x q (subst (λ (n : ℕ). x.traces + n ≤ most_traces) (same_length p) h)

pub any_order_from : AnyOrderFrom
any_order_from x ts us p h = reordered x p h

pub any_order : AnyOrder
unfolding no_totals
any_order ts us p h = reordered no_totals p (omega arith)
