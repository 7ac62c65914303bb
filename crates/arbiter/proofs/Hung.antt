-- BUS_HUNG over a run: each low count is the ticks since its stretch began, up to its limit, so that BUS_HUNG means what 003 says.
-- Assumes nothing.
use Prim.Native.Nat.{◌≤◌}
use mathlib.Core.Path.{◌≡◌, refl, sym, ap, ap₂, ◌∙◌, subst}
use mathlib.Core.Bool.{true≢false, and-eq-true_iff, or-true}
use mathlib.Core.Logic.{◌⊎◌, inl, inr}
use mathlib.Core.List.{append-nil}
use native.Mathlib.Omega.{arith}
use borrow.Author.Tests.{eq-eqb, eqb-true, ltb-true, ltb-false}
use Rattle.std.specs.Prelude.{◌+◌, ◌&&◌, ◌||◌, ◌∷◌, ◌++◌, if◌then◌else◌}
use Rattle.arbiter.specs.Types.{ℕ, Bool, true, false, not, List, [], eqb, ltb, Kind, Device, Raw}
use Rattle.arbiter.specs.Words.{worth}
use Rattle.arbiter.specs.State.{sda_high, scl_hung_limit, sda_hung_limit, bus_hung}
use Rattle.arbiter.specs.Effects.{counted_to, power_up}
use Rattle.arbiter.specs.Steps.{run_from, run}
use Rattle.arbiter.specs.AuditWords.{next, reset, tick, ticks_in, never}
use Rattle.arbiter.specs.Hung.{scl_moves, ends_low_scl, ends_low_sda, Stretch, SclStuck, SdaStuck, HungExact, ClockRuns, ClockNotHung}
use Rattle.arbiter.proofs.Choice.{either, split, if_true, if_false, neither}
use Rattle.arbiter.proofs.Cases.{run_keeps}
use Rattle.arbiter.proofs.Runs.{from_append, never_comes}
use Rattle.arbiter.proofs.Settled.{Still, parts_ready}
use Rattle.arbiter.proofs.LowCounts.{next_still, scl_next, scl_restarts, sda_next}

-- ---- a run

-- A count below its limit takes a tick, and one at its limit stays there.
counted_top : (limit n : ℕ) (b : Bool) → n ≤ limit → counted_to limit b n ≤ limit
counted_top limit n b h =
    either (λ (x : ℕ). x ≤ limit) (b && ltb n limit) (λ l. let low = ltb-true n limit ((and-eq-true_iff b (ltb n limit)).0 l).1 in omega arith) (λ l. h)

counted_most : (limit n : ℕ) (b : Bool) → counted_to limit b n ≤ n + worth 1 b
counted_most limit n false = omega arith
counted_most limit n true = either (λ (x : ℕ). x ≤ n + 1) (ltb n limit) (λ l. omega arith) (λ l. omega arith)

counted_least : (limit n k : ℕ) (b : Bool) → limit ≤ n + (worth 1 b + k) → limit ≤ counted_to limit b n + k
counted_least limit n k false h = omega arith
counted_least limit n k true h =
    either (λ (x : ℕ). limit ≤ x + k) (ltb n limit) (λ l. omega arith) (λ l. let high = ltb-false n limit l in omega arith)

module _ (limit : ℕ) (low : Device → ℕ) (ends : Raw → Device → Bool)
    (law : (r : Raw) (d : Device) → Still d.bus → low (next d r) ≡ (if ends r d then 0 else counted_to limit (tick r d) (low d))) where
  -- Through a stretch with as many ticks as the limit wants, the count comes to its limit.
  pub reaches : (rs : List Raw) (d : Device) → Still d.bus → low d ≤ limit → never ends d rs ≡ true → limit ≤ low d + ticks_in d rs → low (run_from d rs)
      ≡ limit
  unfolding run_from ticks_in
  reaches [] d s top un long = omega arith
  reaches (r ∷ rs) d s top un long =
      let first = never_comes ends r rs d un in
      let c : low (next d r) ≡ counted_to limit (tick r d) (low d) = law r d s ∙ if_false _ _ first.0 in
      reaches rs (next d r) (next_still r d s) (subst (λ (n : ℕ). n ≤ limit) (sym c) (counted_top limit (low d) (tick r d) top)) first.1
      (subst (λ (n : ℕ). limit ≤ n + ticks_in (next d r) rs) (sym c) (counted_least limit (low d) (ticks_in (next d r) rs) (tick r d) long))

  -- The run from d ends in a stretch with as many ticks as the count shows, or is one, with what was counted before.
  pub record From (d : Device) (rs : List Raw) : Type 0 where
    pub before : List Raw
    pub since : List Raw
    pub whole : rs ≡ before ++ since
    pub unbroken : never ends (run_from d before) since ≡ true
    pub long : low (run_from d rs) ≤ ticks_in (run_from d before) since

  pub data Lately (d : Device) (rs : List Raw) : Type 0 where
    part : From d rs → Lately d rs
    all : never ends d rs ≡ true → low (run_from d rs) ≤ low d + ticks_in d rs → Lately d rs

  pub lately : (rs : List Raw) (d : Device) → Still d.bus → Lately d rs
  unfolding run_from ticks_in never
  lately [] d s = all refl (omega arith)
  lately (r ∷ rs) d s =
      elim (lately rs (next d r) (next_still r d s)) [
        | part f ↦ part (record {
          before = r ∷ f.before;
          since = f.since;
          whole = ap (λ (l : List Raw). r ∷ l) f.whole;
          unbroken = f.unbroken;
          long = f.long;
        })
        | all un long ↦
            split (ends r d)
            (λ h. let c : low (next d r) ≡ 0 = law r d s ∙ if_true _ _ h in
            part (record { before = r ∷ []; since = rs; whole = refl; unbroken = un; long = omega arith }))
            (λ h. let c : low (next d r) ≡ counted_to limit (tick r d) (low d) = law r d s ∙ if_false _ _ h in
            let most = counted_most limit (low d) (tick r d) in
            all (ap₂ (λ (a b : Bool). a && b) (ap not h) un) (omega arith))
      ]

-- ---- power-up

count_top : (limit : ℕ) (low : Device → ℕ) (ends : Raw → Device → Bool)
    → ((r : Raw) (d : Device) → Still d.bus → low (next d r) ≡ (if ends r d then 0 else counted_to limit (tick r d) (low d)))
    → (rs : List Raw) (d : Device) → Still d.bus → low d ≤ limit → low (run_from d rs) ≤ limit
unfolding run_from
count_top limit low ends law [] d s top = top
count_top limit low ends law (r ∷ rs) d s top =
    count_top limit low ends law rs (next d r) (next_still r d s)
    (subst (λ (n : ℕ). n ≤ limit) (sym (law r d s))
    (either (λ (n : ℕ). n ≤ limit) (ends r d) (λ h. omega arith) (λ h. counted_top limit (low d) (tick r d) top)))

-- At power-up both lines are high and both counts 0.
fresh_still : (k : Kind) → Still (power_up k).bus
unfolding power_up
fresh_still k = (λ h. refl, λ h. refl, λ h. refl)

module _ (limit : ℕ) (low : Device → ℕ) (ends : Raw → Device → Bool)
    (law : (r : Raw) (d : Device) → Still d.bus → low (next d r) ≡ (if ends r d then 0 else counted_to limit (tick r d) (low d)))
    (fresh : (k : Kind) → low (power_up k) ≡ 0) where
  -- The count is at its limit exactly where the run ends in such a stretch.
  pub stuck : (k : Kind) (rs : List Raw) → low (run k rs) ≡ limit → Stretch ends limit k rs
  unfolding run run_from
  stuck k rs h =
      elim (lately limit low ends law rs (power_up k) (fresh_still k)) [
        | part f ↦ record {
          before = f.before;
          since = f.since;
          whole = f.whole;
          unbroken = f.unbroken;
          long = subst (λ (n : ℕ). n ≤ ticks_in (run k f.before) f.since) h f.long;
        }
        | all un long ↦ record { before = []; since = rs; whole = refl; unbroken = un; long = let none = fresh k in omega arith }
      ]

  pub unstuck : (k : Kind) (rs : List Raw) → Stretch ends limit k rs → low (run k rs) ≡ limit
  unfolding run
  unstuck k rs s =
      let d : Device = run k s.before in
      let still : Still d.bus = run_keeps (λ (x : Device). Still x.bus) (λ e x h. (parts_ready e x).0.0) (power_up k) s.before (fresh_still k) in
      let none = fresh k in
      let enough : limit ≤ ticks_in d s.since = s.long in
      ap (λ (l : List Raw). low (run k l)) s.whole
      ∙ ap low (from_append s.before s.since (power_up k))
      ∙ reaches limit low ends law s.since d still (count_top limit low ends law s.before (power_up k) (fresh_still k) (omega arith)) s.unbroken
      (omega arith)

-- ---- BUS_HUNG

scl_fresh : (k : Kind) → (power_up k).bus.lowscl ≡ 0
unfolding power_up
scl_fresh k = refl

sda_fresh : (k : Kind) → (power_up k).bus.lowsda ≡ 0
unfolding power_up
sda_fresh k = refl

pub hung_exact : HungExact
hung_exact k rs =
    let d : Device = run k rs in (
      λ h. split (eqb d.bus.lowscl scl_hung_limit)
          (λ c. inl (stuck scl_hung_limit (λ (x : Device). x.bus.lowscl) ends_low_scl scl_next scl_fresh k rs (eqb-true d.bus.lowscl scl_hung_limit c)))
          (λ c. inr
          (stuck sda_hung_limit (λ (x : Device). x.bus.lowsda) ends_low_sda sda_next sda_fresh k rs
          (eqb-true d.bus.lowsda sda_hung_limit (sym (ap (λ (b : Bool). b || eqb d.bus.lowsda sda_hung_limit) c) ∙ h)))),
      λ s. hung-by rs s,
    )
  where
    hung-by : (l : List Raw) → SclStuck k l ⊎ SdaStuck k l → bus_hung (run k l).bus ≡ true
    hung-by l (inl s) =
        ap (λ (b : Bool). b || eqb (run k l).bus.lowsda sda_hung_limit)
        (eq-eqb (run k l).bus.lowscl scl_hung_limit (unstuck scl_hung_limit (λ (x : Device). x.bus.lowscl) ends_low_scl scl_next scl_fresh k l s))
    hung-by l (inr s) =
        ap (λ (b : Bool). eqb (run k l).bus.lowscl scl_hung_limit || b)
        (eq-eqb (run k l).bus.lowsda sda_hung_limit (unstuck sda_hung_limit (λ (x : Device). x.bus.lowsda) ends_low_sda sda_next sda_fresh k l s))
        ∙ or-true (eqb (run k l).bus.lowscl scl_hung_limit)

-- ---- the fan monitor

-- In a stretch that every move of SCL would end, SCL has not moved.
unmoved : (ends : Raw → Device → Bool) → ((r : Raw) (d : Device) → ends r d ≡ false → scl_moves r d ≡ false)
    → (rs : List Raw) (d : Device) → never ends d rs ≡ true → never scl_moves d rs ≡ true
unfolding never
unmoved ends moves [] d h = refl
unmoved ends moves (r ∷ rs) d h =
    let first = never_comes ends r rs d h in
    ap₂ (λ (a b : Bool). not a && b) (moves r d first.0) (unmoved ends moves rs (next d r) first.1)

-- So neither count comes to its limit where SCL moves in any 500 ticks.
module _ (k : Kind) (rs : List Raw) (runs : ClockRuns k rs) where
  short : (limit n : ℕ) (ends : Raw → Device → Bool) → ((r : Raw) (d : Device) → ends r d ≡ false → scl_moves r d ≡ false)
      → scl_hung_limit ≤ limit → (n ≡ limit → Stretch ends limit k rs) → eqb n limit ≡ false
  short limit n ends moves most reached =
      split (eqb n limit)
      (λ h. let s : Stretch ends limit k rs = reached (eqb-true n limit h) in
      let enough : limit ≤ ticks_in (run k s.before) s.since = s.long in
      absurd
      (true≢false
      (sym (unmoved ends moves s.since (run k s.before) s.unbroken)
      ∙ runs s.before s.since [] (s.whole ∙ sym (append-nil (s.before ++ s.since))) (omega arith))))
      (λ h. h)

  scl_short : eqb (run k rs).bus.lowscl scl_hung_limit ≡ false
  scl_short =
      short scl_hung_limit (run k rs).bus.lowscl (λ r d. ends_low_scl r d || scl_moves r d) (λ r d h. (neither (ends_low_scl r d) (scl_moves r d) h).1)
      (omega arith)
      (stuck scl_hung_limit (λ (x : Device). x.bus.lowscl) (λ r d. ends_low_scl r d || scl_moves r d) scl_restarts scl_fresh k rs)

  sda_short : eqb (run k rs).bus.lowsda sda_hung_limit ≡ false
  sda_short =
      short sda_hung_limit (run k rs).bus.lowsda ends_low_sda
      (λ r d h. (neither (sda_high (next d r).bus) (scl_moves r d) (neither (reset r d) (sda_high (next d r).bus || scl_moves r d) h).1).1) (omega arith)
      (stuck sda_hung_limit (λ (x : Device). x.bus.lowsda) ends_low_sda sda_next sda_fresh k rs)

pub clock_not_hung : ClockNotHung
clock_not_hung k rs runs = ap₂ (λ (a b : Bool). a || b) (scl_short k rs runs) (sda_short k rs runs)
