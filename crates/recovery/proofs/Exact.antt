-- When p gets the bus, nothing but ticks coming: where p has the turn, or m's turn runs out on a quiet bus, and else never.
-- Assumes nothing.
use Prim.Native.Nat.{◌≤◌}
use native.Mathlib.Omega.{arith}
use mathlib.Core.Path.{◌≡◌, refl, sym, ap, ap₂, ◌∙◌}
use mathlib.Core.Bool.{true≢false, and-eq-true_iff}
use mathlib.Core.Logic.{⊎_elim}
use Rattle.std.specs.Prelude.{◌+◌, ◌-◌, ◌&&◌, ◌||◌, if◌then◌else◌}
use Rattle.ranges.specs.Names.{ℕ, Bool, true, false, not, List, eqb, Master, Ground, Claims, Owns, Bus, Kind, Device, Raw}
use Rattle.arbiter.specs.Rules.{limit_of}
use Rattle.arbiter.specs.Words.{partner}
use Rattle.arbiter.specs.State.{owns_turn, owns, claims_turn, claims, is_idle}
use Rattle.arbiter.specs.Order.{is_reset}
use Rattle.arbiter.specs.Steps.{run_from, run}
use Rattle.arbiter.specs.AuditWords.{requests, resting, reserve_of, reset, ticks_in, never, throughout}
use Rattle.arbiter.specs.Marks.{tick as aTick, times}
use Rattle.recovery.specs.Crash.{is_of, sent_by, endless, stalled_inside, pulls_low, blocks_bus, crash_ticks, quiet_outside, gets_bus, CrashExact}
use Rattle.arbiter.proofs.Choice.{split, neither, not_true, same_self, owns_turn_lem, turn_owns}
use Rattle.arbiter.proofs.Settled.{all_ready}
use Rattle.arbiter.proofs.Tenure.{run_owned}
use Rattle.arbiter.proofs.Grounds.{has_turn}
use Rattle.audit.proofs.Blocking.{claims_turn_lem}
use Rattle.audit.proofs.Freed.{ready_from, hold_run}
use Rattle.audit.proofs.Released.{unowned_released}
use Rattle.audit.proofs.WorstWait.{at_end}
use Rattle.recovery.proofs.Crash.{or_cases, crash_blocks}
use Rattle.recovery.proofs.CrashTurns.{due_owns, his, owner, claimant, turned, line_stays}
use Rattle.recovery.proofs.Passes.{stalled_only_if}
use Rattle.recovery.proofs.Ticks.{quiet, idle_quiet, ticks_never, ticks_count, ticks_all, stands, idles, keeps_out}

-- With the drives released the bus is quiet if it is so outside.
outside_quiet : (b : Bus) → b.drivescl ≡ true → b.drivesda ≡ true → quiet_outside b ≡ quiet b
outside_quiet b scl sda =
    table b.outscl b.outsda (not b.busy) ∙ sym (ap₂ (λ (x y : Bool). not b.busy && (b.outscl && x) && (b.outsda && y)) scl sda)
  where
    table : (c a n : Bool) → c && a && n ≡ n && (c && true) && (a && true)
    table true true true = refl
    table true true false = refl
    table true false true = refl
    table true false false = refl
    table false true true = refl
    table false true false = refl
    table false false true = refl
    table false false false = refl

pub or_first : (a b : Bool) → a ≡ true → a || b ≡ true
or_first a b h = ap (λ (x : Bool). x || b) h

pub or_second : (a b : Bool) → b ≡ true → a || b ≡ true
or_second true b h = refl
or_second false b h = h

-- ---- the statement

module _ (k : Kind) (m : Master) (rs : List Raw) (n : ℕ) (q : requests (partner m) (run k rs) ≡ true) (rest : resting (partner m) (run k rs) ≡ true) where
  abbrev d : Device
  d = run k rs

  abbrev later : List Raw
  later = times n aTick

  abbrev Waits : Type 0
  Waits = throughout (λ (x : Device). not (owns (partner m) x)) d later ≡ true

  no_resets : never reset d later ≡ true
  no_resets = ticks_never (λ e x. is_reset e) (λ x. refl) n d

  no_events : (j : ℕ) → never (sent_by m) d (times j aTick) ≡ true
  no_events j = ticks_never (λ e x. is_of m e) (λ x. refl) j d

  -- p's turn: the hold ends by then.
  in_turn : d.bus.hold ≤ n → has_turn (partner m) d.arb.turn ≡ true → Waits → ⊥
  in_turn long h w =
      let st = stands m n d w q rest in
      let gone : (run_from d later).bus.hold ≡ d.bus.hold - ticks_in d later = hold_run later d no_resets in
      let count : ticks_in d later ≡ n = ticks_count n d in
      let own = due_owns (partner m) (run_from d later) (ready_from later d (all_ready k rs)) (omega arith) st.1 (line_stays (partner m) later d h st.0) in
      true≢false (sym own ∙ not_true (owns (partner m) (run_from d later)) (at_end (λ x. not (owns (partner m) x)) later d w))

  -- m's, on a quiet bus, with something that ends its grant: that has run out by then.
  runs_out : crash_ticks k m d ≤ n → quiet d.bus ≡ true → endless m d ≡ false → stalled_inside m d ≡ false → Waits → ⊥
  runs_out long h e s w =
      let st = stands m n d w q rest in
      let count : ticks_in d later ≡ n = ticks_count n d in
      let x = stalled_only_if k m rs later no_resets (no_events n) st.0 (idles m n d (run_owned k rs) h) (omega arith) st.1
      (not_true (owns (partner m) (run_from d later)) (at_end (λ x. not (owns (partner m) x)) later d w)) in
      true≢false (sym x ∙ ap₂ ◌||◌ e s)

  -- where m keeps p out, whatever comes
  blocked : blocks_bus m d ≡ true → Waits
  blocked b =
      ticks_all (λ x. not (owns (partner m) x)) n d
      (λ j. ap not (crash_blocks k m rs (times j aTick) (ticks_never (λ e x. is_reset e) (λ x. refl) j d) (no_events j) b))

  -- ---- where m claims, nobody owns, and the drives are released

  claims_quiet : {g : Ground} → d.arb.turn ≡ Claims m g → quiet_outside d.bus ≡ quiet d.bus
  claims_quiet t =
      let loose = unowned_released k rs (λ j. ap (owns_turn j) t) in
      outside_quiet d.bus loose.0 loose.1

  -- ---- where p gets it

  gets_owner : crash_ticks k m d ≤ n → owns m d && is_idle d.bus && not (endless m d) ≡ true → Waits → ⊥
  gets_owner long h =
      let two = (and-eq-true_iff (owns m d && is_idle d.bus) (not (endless m d))).0 h in
      let one = (and-eq-true_iff (owns m d) (is_idle d.bus)).0 two.0 in
      let t = owns_turn_lem m d.arb.turn one.0 in
      runs_out long (sym (idle_quiet d.bus (run_owned k rs m t.0 t.1).hold) ∙ one.1) (not_true (endless m d) two.1)
      (ap (λ u. claims_turn m u && not (resting m d)) t.1)

  gets_claimant : crash_ticks k m d ≤ n → claims m d && resting m d && quiet_outside d.bus && not (endless m d) ≡ true → Waits → ⊥
  gets_claimant long h =
      let three = (and-eq-true_iff (claims m d && resting m d && quiet_outside d.bus) (not (endless m d))).0 h in
      let two = (and-eq-true_iff (claims m d && resting m d) (quiet_outside d.bus)).0 three.0 in
      let one = (and-eq-true_iff (claims m d) (resting m d)).0 two.0 in
      let t = claims_turn_lem m d.arb.turn one.0 in
      runs_out long (sym (claims_quiet t.1) ∙ two.1) (not_true (endless m d) three.1) (ap₂ (λ (a b : Bool). a && not b) one.0 one.1)

  gets : crash_ticks k m d ≤ n → gets_bus m d ≡ true → Waits → ⊥
  gets long h w =
      let p : Master = partner m in
      let C : Bool = owns m d && is_idle d.bus && not (endless m d) in
      let D : Bool = claims m d && resting m d && quiet_outside d.bus && not (endless m d) in
      ⊎_elim
      (λ (x : owns p d || claims p d || C ≡ true).
      ⊎_elim
      (λ (y : owns p d || claims p d ≡ true). in_turn (held_in long)
      (⊎_elim (λ (z : owns p d ≡ true). or_second (claims p d) (owns p d) z) (λ (z : claims p d ≡ true). or_first (claims p d) (owns p d) z)
      (or_cases (owns p d) (claims p d) y))
      w)
      (λ (y : C ≡ true). gets_owner long y w) (or_cases (owns p d || claims p d) C x))
      (λ (x : D ≡ true). gets_claimant long x w) (or_cases (owns p d || claims p d || C) D h)
    where
      held_in : crash_ticks k m d ≤ n → d.bus.hold ≤ n
      held_in l = go (if eqb (reserve_of m d) 0 then limit_of k else reserve_of m d) l
        where
          go : (x : ℕ) → d.bus.hold + x ≤ n → d.bus.hold ≤ n
          go x l = omega arith

  -- ---- where it does not

  stays : quiet d.bus ≡ false → has_turn m d.arb.turn ≡ true → Waits
  stays h has = keeps_out m n d (run_owned k rs) (all_ready k rs) h has

  ever : (claims m d || owns m d ≡ true) → endless m d ≡ true → Waits
  ever has e =
      blocked
      (or_first (stalled_inside m d || (claims m d || owns m d) && endless m d) (pulls_low m d)
      (or_second (stalled_inside m d) ((claims m d || owns m d) && endless m d) (ap₂ ◌&&◌ has e)))

  waits_owner : (g : Ground) → d.arb.turn ≡ Owns m g → owns m d && is_idle d.bus && not (endless m d) ≡ false → Waits
  waits_owner g t c =
      let own : owns m d ≡ true = turn_owns m d.arb.turn t in
      let has : has_turn m d.arb.turn ≡ true = or_second (claims m d) (owns m d) own in
      split (quiet d.bus)
      (λ h. split (endless m d) (ever has)
      (λ e. absurd (true≢false (sym (ap₂ (λ (a b : Bool). a && not b) (ap₂ ◌&&◌ own (idle_quiet d.bus (run_owned k rs m g t).hold ∙ h)) e) ∙ c))))
      (λ h. stays h has)

  waits_claimant : (g : Ground) → d.arb.turn ≡ Claims m g → claims m d && resting m d && quiet_outside d.bus && not (endless m d) ≡ false → Waits
  waits_claimant g t c =
      let claim : claims m d ≡ true = ap (claims_turn m) t ∙ same_self m in
      let has : has_turn m d.arb.turn ≡ true = or_first (claims m d) (owns m d) claim in
      split (quiet d.bus)
      (λ h. split (endless m d) (ever has)
      (λ e. split (resting m d)
      (λ r. absurd (true≢false (sym (ap₂ (λ (a b : Bool). a && not b) (ap₂ ◌&&◌ (ap₂ ◌&&◌ claim r) (claims_quiet t ∙ h)) e) ∙ c)))
      (λ r. blocked
      (or_first (stalled_inside m d || (claims m d || owns m d) && endless m d) (pulls_low m d)
      (or_first (stalled_inside m d) ((claims m d || owns m d) && endless m d) (ap₂ (λ (a b : Bool). a && not b) claim r))))))
      (λ h. stays h has)

  waits : gets_bus m d ≡ false → Waits
  waits h =
      let p : Master = partner m in
      let C : Bool = owns m d && is_idle d.bus && not (endless m d) in
      let D : Bool = claims m d && resting m d && quiet_outside d.bus && not (endless m d) in
      let three = neither (owns p d || claims p d || C) D h in
      let two = neither (owns p d || claims p d) C three.0 in
      let one = neither (owns p d) (claims p d) two.0 in
      elim (turned m d (all_ready k rs) q) [
        | his t ↦ absurd (true≢false (sym t ∙ ap₂ ◌||◌ one.1 one.0))
        | owner g t ↦ waits_owner g t two.1
        | claimant g t ↦ waits_claimant g t three.1
      ]

pub crash_exact : CrashExact
crash_exact k m rs n q rest long =
    split (gets_bus m (run k rs))
    (λ h. split (throughout (λ (x : Device). not (owns (partner m) x)) (run k rs) (times n aTick))
    (λ w. absurd (gets k m rs n q rest long h w)) (λ w. w ∙ sym (ap not h)))
    (λ h. waits k m rs n q rest h ∙ sym (ap not h))
