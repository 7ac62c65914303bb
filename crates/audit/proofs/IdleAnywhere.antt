-- The idle timer from any point of a grant with RT 00h: on a bus that stays idle the grant has ended after as many ticks as the limit.
-- Assumes nothing.
use Prim.Native.Nat.{◌<◌, ◌≤◌}
use mathlib.Core.Path.{◌≡◌, refl, sym, ap, ap₂, ◌∙◌, subst}
use mathlib.Core.Bool.{true≢false, and-eq-true_iff}
use mathlib.Core.Logic.{◌⊎◌, inl, inr, ⊎_elim}
use native.Mathlib.Nat.{eq-or-lt_of_le}
use native.Mathlib.Omega.{arith}
use borrow.Author.Tests.{eq-eqb, ltb-true}
use Rattle.std.specs.Prelude.{◌+◌, ◌-◌, ◌&&◌, ◌||◌, ◌∷◌, if◌then◌else◌}
use Rattle.ranges.specs.Names.{ℕ, Bool, true, false, not, List, [], eqb, ltb, Master, Turn, Nobody, Claims, Owns, Bus, Kind, Device}
use Rattle.ranges.specs.Names.{Raw, Event}
use Rattle.arbiter.specs.Rules.{limit_of, idle_limit}
use Rattle.arbiter.specs.Words.{worth, partner}
use Rattle.arbiter.specs.State.{owns, claims, is_idle}
use Rattle.arbiter.specs.Effects.{counted_to, hold_ticks, ticked, was_reset, power_up, effect}
use Rattle.arbiter.specs.Order.{is_reset, is_tick, clock_of, levels, losses, cut, claim, granted, grant_from, grant}
use Rattle.arbiter.specs.Steps.{parts, run_from, run}
use Rattle.arbiter.specs.AuditWords.{next, requests, resting, reserve_of, idle_timer_on, reset, tick, levelled, ticks_in, never, throughout}
use Rattle.audit.specs.Freed.{asks_hold}
use Rattle.audit.specs.Blocking.{idles_as_owner, IdleTimerFromAnywhere, IdleTimerToPartner}
use Rattle.arbiter.proofs.Choice.{either, split, if_true, owns_turn_lem}
use Rattle.arbiter.proofs.Cases.{grant_cases, run_keeps}
use Rattle.arbiter.proofs.KindKept.{keeps_kind, runs_of_kind, parts_kind}
use Rattle.arbiter.proofs.Runs.{now, hence}
use Rattle.arbiter.proofs.Effects.{effect_counts}
use Rattle.arbiter.proofs.Order.{cut_still, connect_still}
use Rattle.arbiter.proofs.Owner.{mid, over_unowned}
use Rattle.arbiter.proofs.Settled.{is_due, Ready, levels_still, losses_bus, all_ready}
use Rattle.arbiter.proofs.Tenure.{Owner, Owned, next_owned, run_owned, keeps, over, lot}
use Rattle.arbiter.proofs.Reserve.{rt_kept}
use Rattle.arbiter.proofs.Resets.{reset_ends}
use Rattle.arbiter.proofs.Timer.{expires}
use Rattle.arbiter.proofs.IdleCount.{idle_found}
use Rattle.arbiter.proofs.Grounds.{has_turn}
use Rattle.audit.proofs.Blocking.{claims_turn_lem}
use Rattle.audit.proofs.Freed.{reset_whole, hold_run, ready_from}
use Rattle.audit.proofs.Overtaking.{worth_one, asks_no_reset, line_next, owner_next}

-- ---- the idle count is never above the limit

-- Part 1 leaves it so,
counted_within : (top n : ℕ) (up : Bool) → n ≤ top → counted_to top up n ≤ top
counted_within top n up h =
    either (λ (x : ℕ). x ≤ top) (up && ltb n top)
    (λ b. let low : n < top = ltb-true n top ((and-eq-true_iff up (ltb n top)).0 b).1 in omega arith) (λ b. h)

effect_within : (e : Event) (d : Device) → is_reset e ≡ false → d.bus.idle ≤ idle_limit d → (effect e d).bus.idle ≤ idle_limit d
unfolding ticked
effect_within e d ok h =
    subst (λ (n : ℕ). n ≤ idle_limit d) (sym (ap (λ c. c.1) (effect_counts e d ok)))
    (either (λ (c : ℕ × ℕ × ℕ × ℕ × ℕ). c.1 ≤ idle_limit d) (is_tick e)
    (λ t. counted_within (idle_limit d) d.bus.idle (is_idle d.bus) h) (λ t. h))

-- and the others at most zero it.
levels_within : (e : Event) (d : Device) → (mid e d).bus.idle ≤ (effect e d).bus.idle
unfolding levels
levels_within e d = go (is_idle (mid e d).bus)
  where
    go : (b : Bool) → (if b then (effect e d).bus.idle else 0) ≤ (effect e d).bus.idle
    go true = omega arith
    go false = omega arith

grant_within : (t : Turn) (d : Device) → (grant_from t d).bus.idle ≤ d.bus.idle
unfolding grant_from granted
grant_within Nobody d = omega arith
grant_within (Claims m g) d = grant_cases (λ (n : Device). n.bus.idle ≤ d.bus.idle) m g d (omega arith) (omega arith)
grant_within (Owns m g) d = omega arith

after_within : (e : Event) (d : Device) → (parts e d).bus.idle ≤ (mid e d).bus.idle
unfolding parts losses cut claim grant
after_within e d =
    let two : Device = mid e d in
    let three : Device = losses two in
    let four : Device = cut (is_tick e) three in
    let five : Device = claim four in
    let six : Device = grant five in
    let calm = levels_still (is_reset e) d.bus (effect e d) in
    let b3 : three.bus.idle ≡ two.bus.idle = ap (λ (b : Bus). b.idle) (losses_bus two.arb.turn two calm) in
    let b4 : four.bus.idle ≡ three.bus.idle = ap (λ x. x.2.idle) (cut_still (is_tick e) three.arb.turn three) in
    let b6 : six.bus.idle ≤ five.bus.idle = grant_within five.arb.turn five in
    let b7 : (parts e d).bus.idle ≡ six.bus.idle = ap (λ x. x.2.idle) (connect_still (clock_of e) six) in
    omega arith

-- no count but 0 after a reset
fresh_idle : (hold : ℕ) (d : Device) → (was_reset hold d).bus.idle ≡ 0
unfolding was_reset
fresh_idle hold d = refl

-- So of every step, and of every run.
abbrev Within : Device → Type 0
Within d = d.bus.idle ≤ idle_limit d

parts_within : (e : Event) (d : Device) → Within d → Within (parts e d)
parts_within e d h =
    let limit : idle_limit (parts e d) ≡ idle_limit d = ap limit_of (parts_kind e d) in
    split (is_reset e)
    (λ r. let none : (parts e d).bus.idle ≡ 0 =
    ap (λ (n : Device). n.bus.idle) (reset_whole e d r) ∙ fresh_idle (worth hold_ticks (asks_hold e d)) d
    in
    omega arith)
    (λ r. let one : (effect e d).bus.idle ≤ idle_limit d = effect_within e d r h in
    let two : (mid e d).bus.idle ≤ (effect e d).bus.idle = levels_within e d in
    let seven : (parts e d).bus.idle ≤ (mid e d).bus.idle = after_within e d in
    omega arith)

run_within : (k : Kind) (rs : List Raw) → Within (run k rs)
unfolding run power_up
run_within k rs = run_keeps Within parts_within (power_up k) rs (omega arith)

-- ---- the grant

-- While m owns, its timer is on and the bus idle.
idling : (m : Master) (d : Device) → owns m d ≡ true → idles_as_owner m d ≡ true → (idle_timer_on m d ≡ true) × (is_idle d.bus ≡ true)
idling m d o h =
    (and-eq-true_iff (idle_timer_on m d) (is_idle d.bus)).0 (sym (ap (λ (b : Bool). not b || idle_timer_on m d && is_idle d.bus) o) ∙ h)

-- So its idle count is below the limit.
below : (m : Master) (d : Device) → Owner m d → reserve_of m d ≡ 0 → idle_timer_on m d ≡ true → Within d → d.bus.idle < idle_limit d
below m d o z on h =
    let x : eqb d.bus.idle (idle_limit d) ≡ false =
    sym (ap (λ (b : Bool). b && eqb d.bus.idle (idle_limit d)) on) ∙ sym (expires m d z) ∙ o.unlost
    in
    ⊎_elim (λ (e : d.bus.idle ≡ idle_limit d). absurd (true≢false (sym (eq-eqb d.bus.idle (idle_limit d) e) ∙ x)))
    (λ (l : d.bus.idle < idle_limit d). l) (eq-or-lt_of_le h)

-- From any device in which m owns: as long as it does, the idle count and the ticks make less than the limit.
counts_up : (m : Master) (rs : List Raw) (d : Device) → Owner m d → reserve_of m d ≡ 0 → Within d → throughout (idles_as_owner m) d rs ≡ true
    → throughout (owns m) d rs ≡ true → d.bus.idle + ticks_in d rs < idle_limit d
unfolding ticks_in
counts_up m [] d o z h i all =
    let on = idling m d (now (owns m) [] d all) (now (idles_as_owner m) [] d i) in
    let low : d.bus.idle < idle_limit d = below m d o z on.0 h in
    omega arith
counts_up m (r ∷ rs) d o z h i all =
    let n : Device = next d r in
    let l : Device = levelled r d in
    let on = idling m d (now (owns m) (r ∷ rs) d all) (now (idles_as_owner m) (r ∷ rs) d i) in
    let low : d.bus.idle < idle_limit d = below m d o z on.0 h in
    let own : owns m n ≡ true = now (owns m) rs n (hence (owns m) r rs d all) in
    let idle : is_idle n.bus ≡ true = (idling m n own (now (idles_as_owner m) rs n (hence (idles_as_owner m) r rs d i))).1 in
    let ok : reset r d ≡ false = split (reset r d) (λ q. absurd (true≢false (sym own ∙ reset_ends m d r q))) (λ q. q) in
    let limit : idle_limit n ≡ idle_limit d = ap limit_of (keeps_kind d r) in
    elim (lot m r d o ok) [
      | keeps k ↦
          (let same : n.bus ≡ l.bus = ap (λ s. s.2) k.left in
          let count : n.bus.idle ≡ d.bus.idle + worth 1 (tick r d) =
          ap (λ (b : Bus). b.idle) same ∙ idle_found r d ok on.1 low ∙ if_true _ 0 (ap is_idle (sym same) ∙ idle)
          in
          let one : worth 1 (tick r d) ≤ 1 = worth_one (tick r d) in
          let rest : n.bus.idle + ticks_in n rs < idle_limit n =
          counts_up m rs n k.owner (rt_kept m r d o ok k ∙ z) (omega arith) (hence (idles_as_owner m) r rs d i) (hence (owns m) r rs d all)
          in
          omega arith)
      | over h c ↦ absurd (true≢false (sym own ∙ over_unowned m n h))
    ]

pub idle_timer_from_anywhere : IdleTimerFromAnywhere
idle_timer_from_anywhere k m rs later own z i ticks =
    let d : Device = run k rs in
    let t = owns_turn_lem m d.arb.turn own in
    let limit : idle_limit d ≡ limit_of k = ap limit_of (runs_of_kind k rs) in
    split (throughout (owns m) d later)
    (λ all. let few : d.bus.idle + ticks_in d later < idle_limit d = counts_up m later d (run_owned k rs m t.0 t.1) z (run_within k rs) i all in
    absurd (not-few few limit))
    (λ gone. gone)
  where
    not-few : (run k rs).bus.idle + ticks_in (run k rs) later < idle_limit (run k rs) → idle_limit (run k rs) ≡ limit_of k → ⊥
    not-few few limit = omega arith

-- ---- the partner

module _ (m : Master) where
  abbrev p : Master
  p = partner m

  -- Over events throughout which the partner requests: it keeps its claim,
  line : (rs : List Raw) (d : Device) → has_turn p d.arb.turn ≡ true → throughout (requests p) d rs ≡ true
      → has_turn p (run_from d rs).arb.turn ≡ true
  unfolding run_from
  line [] d h st = h
  line (r ∷ rs) d h st =
      let on = hence (requests p) r rs d st in
      line rs (next d r) (line_next p r d h (now (requests p) rs (next d r) on)) on

  -- m owns all the while, or the partner has the claim in the end,
  line_after : (rs : List Raw) (d : Device) → Owned d → owns m d ≡ true → throughout (requests p) d rs ≡ true
      → (throughout (owns m) d rs ≡ true) ⊎ (has_turn p (run_from d rs).arb.turn ≡ true)
  unfolding run_from throughout
  line_after [] d i o st = inl o
  line_after (r ∷ rs) d i o st =
      let n : Device = next d r in
      let on = hence (requests p) r rs d st in
      ⊎_elim
      (λ (own : owns m n ≡ true).
      ⊎_elim (λ (all : throughout (owns m) n rs ≡ true). inl (ap₂ ◌&&◌ o all)) (λ (h : has_turn p (run_from n rs).arb.turn ≡ true). inr h)
      (line_after rs n (next_owned r d i) own on))
      (λ (h : has_turn p n.arb.turn ≡ true). inr (line rs n h on)) (owner_next m r d i o (now (requests p) rs n on))

  -- and no reset comes.
  no_reset : (rs : List Raw) (d : Device) → throughout (requests p) d rs ≡ true → never reset d rs ≡ true
  unfolding never
  no_reset [] d st = refl
  no_reset (r ∷ rs) d st =
      let on = hence (requests p) r rs d st in
      ap₂ (λ (a b : Bool). not a && b) (asks_no_reset p r d (now (requests p) rs (next d r) on)) (no_reset rs (next d r) on)

-- A claim without a hold, with the port at rest, is a grant where nothing is left to settle.
claim_owns : (j : Master) (d : Device) → Ready d → d.bus.hold ≡ 0 → resting j d ≡ true → has_turn j d.arb.turn ≡ true → owns j d ≡ true
claim_owns j d ready z rest h =
    split (claims j d)
    (λ c. let t = claims_turn_lem j d.arb.turn c in
    absurd (true≢false (sym (ap (λ (u : Turn). is_due u d) t.1 ∙ ap₂ ◌&&◌ rest (eq-eqb d.bus.hold 0 z)) ∙ ready.2)))
    (λ c. sym (ap (λ (b : Bool). b || owns j d) c) ∙ h)

pub idle_timer_to_partner : IdleTimerToPartner
idle_timer_to_partner k m rs later own z i ticks st rest =
    let d : Device = run k rs in
    let t = owns_turn_lem m d.arb.turn own in
    let start : d.bus.hold ≡ 0 = (run_owned k rs m t.0 t.1).hold in
    let end : (run_from d later).bus.hold ≡ d.bus.hold - ticks_in d later = hold_run later d (no_reset m later d st) in
    ⊎_elim
    (λ (all : throughout (owns m) d later ≡ true). absurd (true≢false (sym all ∙ idle_timer_from_anywhere k m rs later own z i ticks)))
    (λ (h : has_turn (partner m) (run_from d later).arb.turn ≡ true).
    claim_owns (partner m) (run_from d later) (ready_from later d (all_ready k rs)) (omega arith) rest h)
    (line_after m later d (run_owned k rs) own st)
