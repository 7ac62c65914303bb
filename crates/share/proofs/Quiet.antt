-- Quiet of `share`: quiet TICKs taken together are the same states one by one, for what is seen of them is the same. And one round of the loop,
-- whichever it is.
-- Assumes nothing.
use Prim.Native.Nat.{ℕ, zero, suc, ◌+◌, ◌*◌, ◌≤◌, ◌<◌}
use mathlib.Core.Path.{◌≡◌, refl, sym, ap, subst, ◌∙◌}
use mathlib.Core.Bool.{Bool, true, false}
use mathlib.Core.List.{List}
use native.Mathlib.Nat.{le_refl}
use native.Mathlib.Omega.{arith}
use lib.ListN.{length, replicate}
use Rattle.std.specs.Prelude.{if◌then◌else◌}
use Rattle.arbiter.specs.Words.{worth}
use Rattle.arbiter.specs.Steps.{step}
use Rattle.arbiter.specs.Traces.{event_bytes, raws_in, event_count}
use Rattle.arbiter.specs.declared.Device.{Device}
use Rattle.arbiter.specs.declared.Raw.{Raw}
use Rattle.arbiter.specs.declared.Stepped.{Stepped}
use Rattle.format.specs.Places.{event_at}
use Rattle.quiet.specs.Counts.{with_counts, after_ticks}
use Rattle.light.specs.Light.{Settled}
use Rattle.light.proofs.Settles.{stays_settled, runs_settled}
use Rattle.quiet.specs.Quiet.{quiet_ticks, tick, ticks}
use Rattle.quiet.proofs.Ticks.{quiet, quiet_together, after_none}
use Rattle.share.specs.declared.Seen.{Seen}
use Rattle.share.specs.declared.Tally.{Tally}
use Rattle.share.specs.declared.Point.{Point}
use Rattle.share.specs.Numbers.{larger}
use Rattle.share.specs.States.{states_from}
use Rattle.traces.specs.Ticks.{is_tick_raw}
use Rattle.traces.proofs.Batch.{is_tick_raw_lem}
use Rattle.share.specs.Walk.{AllSuch, seen_of, waited_on, noted, no_tally, tally_from, Within, point_with, one_taken, quiet_taken, AllTicks, left, Onward}
use Rattle.share.proofs.Numbers.{larger_left, larger_right, larger_most}
use Rattle.share.proofs.Rounds.{again, all_left, none_left, within_noted, within_after}

-- ---- the code's points

pub one_taken_lem : (p : Point) (e r : Raw) (s : Stepped) (t : Tally) (q : Point) → r ≡ e → s ≡ step p.device r → t
    ≡ (if is_tick_raw r then noted 1 (seen_of s.device) p.tally else p.tally)
    → q ≡ point_with s.device t (p.at + 1) → q ≡ one_taken p e
unfolding one_taken
one_taken_lem p e r s t q er es et eq =
    eq
    ∙ ap (λ (x : Tally). point_with s.device x (p.at + 1)) et
    ∙ ap (λ (x : Stepped). point_with x.device (if is_tick_raw r then noted 1 (seen_of x.device) p.tally else p.tally) (p.at + 1)) es
    ∙ ap (λ (x : Raw). one_taken p x) er

pub quiet_taken_lem : (p : Point) (j : ℕ) (d : Device) (s : Seen) (t : Tally) (q : Point) → d ≡ after_ticks j p.device → s ≡ seen_of d → t ≡ noted j s p.tally
    → q ≡ point_with d t (p.at + j) → q ≡ quiet_taken p j
unfolding quiet_taken
quiet_taken_lem p j d s t q ed es et eq =
    eq
    ∙ ap (λ (x : Tally). point_with d x (p.at + j)) (et ∙ ap (λ (x : Seen). noted j x p.tally) es)
    ∙ ap (λ (x : Device). point_with x (noted j (seen_of x) p.tally) (p.at + j)) ed

-- one TICK more in a row
-- as many events as some bytes hold are there
pub counted_whole : (b : List ℕ) → event_bytes * event_count b ≤ length b
counted_whole b = omega arith

pub all_ticks : (r at : ℕ) (b : List ℕ) → AllSuch true r at b → AllTicks r at b
all_ticks r at b all k h = is_tick_raw_lem _ (all k h)

-- ---- what is seen stays, and so noting one state and then m more is noting 1 + m

seen_after : (j : ℕ) (d : Device) → seen_of (after_ticks j d) ≡ seen_of d
unfolding seen_of after_ticks with_counts
seen_after j d = refl

worth_more : (m : ℕ) (b : Bool) (n : ℕ) → n + worth 1 b + worth m b ≡ n + worth (suc m) b
worth_more m true n = omega arith
worth_more m false n = omega arith

waited_more : (m : ℕ) (b : Bool) (n : ℕ) → waited_on m b (waited_on 1 b n) ≡ waited_on (suc m) b n
unfolding waited_on
waited_more m true n = omega arith
waited_more m false n = refl

waited_up : (m : ℕ) (b : Bool) (n : ℕ) → waited_on 1 b n ≤ waited_on (suc m) b n
unfolding waited_on
waited_up m true n = omega arith
waited_up m false n = le_refl 0

larger_on : (l a b : ℕ) → a ≤ b → larger (larger l a) b ≡ larger l b
larger_on l a b h =
    let x = larger_left (larger l a) b in let y = larger_right (larger l a) b in let z = larger_left l a in
    let u = larger_left l b in let v = larger_right l b in
    let w = larger_most (larger l a) b (larger l b) (larger_most l a (larger l b) u (omega (arith, h, v))) v in
    let t = larger_most l b (larger (larger l a) b) (omega (arith, x, z)) y in
    omega (arith, w, t)

longest_more : (m : ℕ) (b : Bool) (n l : ℕ) → larger (larger l (waited_on 1 b n)) (waited_on m b (waited_on 1 b n)) ≡ larger l (waited_on (suc m) b n)
longest_more m b n l = ap (larger (larger l (waited_on 1 b n))) (waited_more m b n) ∙ larger_on l (waited_on 1 b n) (waited_on (suc m) b n) (waited_up m b n)

noted_more : (m : ℕ) (s : Seen) (t : Tally) → noted m s (noted 1 s t) ≡ noted (suc m) s t
unfolding noted
noted_more m s t = λ j.
    record {
      ticks = worth_more m true t.ticks j;
      owned0 = worth_more m s.owns0 t.owned0 j;
      owned1 = worth_more m s.owns1 t.owned1 j;
      unowned = worth_more m s.free t.unowned j;
      connected0 = worth_more m s.closed0 t.connected0 j;
      connected1 = worth_more m s.closed1 t.connected1 j;
      waited0 = worth_more m s.waits0 t.waited0 j;
      waited1 = worth_more m s.waits1 t.waited1 j;
      run0 = waited_more m s.waits0 t.run0 j;
      run1 = waited_more m s.waits1 t.run1 j;
      longest0 = longest_more m s.waits0 t.run0 t.longest0 j;
      longest1 = longest_more m s.waits1 t.run1 t.longest1 j;
    }

none_within : Within 0 no_tally
unfolding no_tally
none_within = omega arith

-- ---- after quiet TICKs a settled device is settled

quiet_settled : (j : ℕ) (d : Device) → j ≤ quiet_ticks d → Settled d → Settled (after_ticks j d)
unfolding ticks
quiet_settled j d few h = subst Settled (quiet_together d j few).0 (runs_settled d (replicate j tick) h)

-- ---- quiet TICKs one by one

module _ (b : List ℕ) (n : ℕ) (whole : event_bytes * n ≤ length b) where
  abbrev counts : Tally → Device → ℕ → Tally
  counts t d i = tally_from t (states_from d (left b n i))

  module _ (d : Device) where
    one : (i q : ℕ) (t : Tally) → i < n → event_at i b ≡ tick → q < quiet_ticks d → counts t (after_ticks q d) i
        ≡ counts (noted 1 (seen_of d) t) (after_ticks (q + 1) d) (i + 1)
    one i q t more at few =
        sym (again b n i more whole t (noted 1 (seen_of d) t) (after_ticks q d) (after_ticks (q + 1) d) tick (sym at)
        (sym (ap (λ (s : Stepped). s.device) (quiet d q few))) (ap (λ (s : Seen). noted 1 s t) (sym (seen_after (q + 1) d))))

    walk : (m i q : ℕ) (t : Tally) → AllTicks (suc m) i b → i + suc m ≤ n → q + suc m ≤ quiet_ticks d
        → counts t (after_ticks q d) i ≡ counts (noted (suc m) (seen_of d) t) (after_ticks (q + suc m) d) (i + suc m)
    walk zero i q t all more few =
        let z : i + 0 ≡ i = omega arith in
        one i q t (omega arith) (ap (λ (k : ℕ). event_at k b) (sym z) ∙ all 0 (omega arith)) (omega arith)
    walk (suc m) i q t all more few =
        let z : i + 0 ≡ i = omega arith in
        let eq : q + 1 + suc m ≡ q + suc (suc m) = omega arith in
        let ei : i + 1 + suc m ≡ i + suc (suc m) = omega arith in
        one i q t (omega arith) (ap (λ (k : ℕ). event_at k b) (sym z) ∙ all 0 (omega arith)) (omega arith)
        ∙ walk m (i + 1) (q + 1) (noted 1 (seen_of d) t) (later all) (omega arith) (omega arith)
        ∙ ap (λ (x : Tally). counts x (after_ticks (q + 1 + suc m) d) (i + 1 + suc m)) (noted_more (suc m) (seen_of d) t)
        ∙ ap (λ (x : ℕ). counts (noted (suc (suc m)) (seen_of d) t) (after_ticks x d) (i + 1 + suc m)) eq
        ∙ ap (λ (x : ℕ). counts (noted (suc (suc m)) (seen_of d) t) (after_ticks (q + suc (suc m)) d) x) ei
      where
        later : AllTicks (suc (suc m)) i b → AllTicks (suc m) (i + 1) b
        later a k h = let e : i + 1 + k ≡ i + suc k = omega arith in ap (λ (x : ℕ). event_at x b) e ∙ a (suc k) (omega arith)

    quiet-counts : (j i : ℕ) (t : Tally) → 0 < j → AllTicks j i b → i + j ≤ n → j ≤ quiet_ticks d
        → counts (noted j (seen_of (after_ticks j d)) t) (after_ticks j d) (i + j) ≡ counts t d i
    quiet-counts zero i t some all more few = absurd (omega arith)
    quiet-counts (suc m) i t some all more few =
        let e : 0 + suc m ≡ suc m = omega arith in
        ap (λ (s : Seen). counts (noted (suc m) s t) (after_ticks (suc m) d) (i + suc m)) (seen_after (suc m) d)
        ∙ ap (λ (x : ℕ). counts (noted (suc m) (seen_of d) t) (after_ticks x d) (i + suc m)) (sym e)
        ∙ sym (walk m i 0 t all more (omega arith))
        ∙ ap (λ (x : Device). counts t x i) (after_none d)

  -- ---- a round

  pub one_onward : (p q : Point) → p.at < n → Within p.at p.tally → Settled p.device → q ≡ one_taken p (event_at p.at b) → Onward b n p q
  unfolding one_taken
  one_onward p q more within settled e =
      let r = event_at p.at b in
      let d = (step p.device r).device in
      let t = if is_tick_raw r then noted 1 (seen_of d) p.tally else p.tally in
      subst (λ (x : Point). Onward b n p x) (sym e) (
        omega arith,
        omega arith,
        within_after p.at (is_tick_raw r) (seen_of d) p.tally t refl within,
        again b n p.at more whole p.tally t p.device d r refl refl refl,
        stays_settled p.device r settled,
      )

  pub quiet_onward : (p q : Point) (j : ℕ) → (j ≡ 0 → ⊥) → Within p.at p.tally → Settled p.device → p.at + j ≤ n → j ≤ quiet_ticks p.device
      → AllTicks j p.at b → q ≡ quiet_taken p j → Onward b n p q
  unfolding quiet_taken
  quiet_onward p q j some within settled more few all e =
      subst (λ (x : Point). Onward b n p x) (sym e) (
        omega (arith, some),
        more,
        within_noted p.at j (seen_of (after_ticks j p.device)) p.tally within,
        quiet-counts p.device j p.at p.tally (omega (arith, some)) all more few,
        quiet_settled j p.device few settled,
      )

  -- ---- before the first round and after the last

  abbrev pub come : Point → Tally
  come p = counts p.tally p.device p.at

  pub begun : (d : Device) (t : Tally) (p : Point) → t ≡ no_tally → p ≡ point_with d t 0 → (p.at ≤ n) × Within p.at p.tally
  begun d t p e f = subst (λ (x : Point). (x.at ≤ n) × Within x.at x.tally) (sym (f ∙ ap (λ (y : Tally). point_with d y 0) e)) (omega arith, none_within)

  pub ended : (d : Device) (t : Tally) (p q : Point) → t ≡ no_tally → p ≡ point_with d t 0 → come q ≡ come p → q.at ≡ n → q.tally
      ≡ tally_from no_tally (states_from d (raws_in n b))
  ended d t p q e f h at =
      sym (none_left b n q.at q.tally q.device at)
      ∙ h
      ∙ ap come (f ∙ ap (λ (y : Tally). point_with d y 0) e)
      ∙ ap (λ (rs : List Raw). tally_from no_tally (states_from d rs)) (all_left b n)
