-- The end of a recovery: with the port at rest p owns if no hold runs, and else claims until the tick that ends it.
-- Assumes nothing.
use Prim.Native.Nat.{zero, suc, ◌+◌, ◌-◌, ◌<◌}
use mathlib.Core.Path.{◌≡◌, refl, sym, ap, ap₂, ◌∙◌}
use mathlib.Core.Bool.{or-false}
use native.Mathlib.Omega.{arith}
use native.Mathlib.Nat.{sub-zero, not-suc-le-zero}
use Rattle.std.specs.Prelude.{◌&&◌, ◌||◌, ◌∷◌}
use Rattle.ranges.specs.Names.{ℕ, Bool, true, false, not, List, [], Master, Zero, One, Device, Raw}
use Rattle.arbiter.specs.Words.{worth, partner}
use Rattle.arbiter.specs.State.{owns, claims, at_rest}
use Rattle.arbiter.specs.Events.{decode, in_sequence}
use Rattle.arbiter.specs.Steps.{run_from}
use Rattle.arbiter.specs.AuditWords.{next, requests, resting, grant_taken, tick as ticks, ticks_in}
use Rattle.arbiter.specs.Marks.{tick, times}
use Rattle.sheets.specs.declared.Setting.{Setting}
use Rattle.guarantee.specs.Starts.{those}
use Rattle.recovery.specs.Recipe.{HasBus, AwaitsBus}
use Rattle.arbiter.proofs.Choice.{split}
use Rattle.arbiter.proofs.Grounds.{has_turn}
use Rattle.arbiter.proofs.Raws.{taken_tick}
use Rattle.arbiter.proofs.Settled.{Ready}
use Rattle.arbiter.proofs.Tenure.{taken_fresh}
use Rattle.audit.proofs.Freed.{hold_next, ready_next}
use Rattle.guarantee.proofs.StartOthers.{is_foreign, Foreign, left_by_others}
use Rattle.guarantee.proofs.StartOwner.{claimed, due_owns}
use Rattle.guarantee.proofs.StartStages.{Silent, Set, silent_on}
use Rattle.guarantee.proofs.StartWalk.{those_none}
use Rattle.recovery.proofs.RecipeRaws.{is_quiet, quiet_foreign, not_false}

-- ---- one event after which p asks with its port at rest

-- All of p's setting stands, and its partner is silent.
pub record Asked (p : Master) (s : Setting) (d : Device) : Type 0 where
  pub request : requests p d ≡ true
  pub rest : resting p d ≡ true
  pub set : Set p s d
  pub other : Silent (partner p) d
  pub ready : Ready d

-- Then p owns if no hold runs, with its reserve count whole; if one runs, nobody does.
pub record Lot (p : Master) (s : Setting) (d : Device) : Type 0 where
  pub asked : Asked p s d
  pub has : d.bus.hold ≡ 0 → HasBus p s d
  pub waits : 0 < d.bus.hold → owns p d ≡ false

module _ (p : Master) (s : Setting) (r : Raw) (d : Device) (o : owns p d ≡ false) (a : Asked p s (next d r)) where
  abbrev x : Device
  x = next d r

  granted_now : owns p x ≡ true → grant_taken p r d ≡ true
  granted_now h = ap₂ (λ (a b : Bool). not a && b) o h

  owns_now : x.bus.hold ≡ 0 → owns p x ≡ true
  owns_now z =
      split (owns p x) (λ h. h)
      (λ h. due_owns p x a.ready (claimed p x a.ready (h, a.request) a.other) a.rest z)

  pub lot : Lot p s x
  lot =
      record {
        asked = a;
        has =
            λ z. (let own = owns_now z in
            record {
              owner = own;
              count = (taken_fresh p r d (granted_now own)).0.reserve ∙ a.set.0;
              reserve = a.set.0;
              bits = a.set.1;
              rest = a.rest;
            });
        waits =
            λ up. split (owns p x)
            (λ h. let z : x.bus.hold ≡ 0 = (taken_fresh p r d (granted_now h)).0.hold in absurd (omega arith))
            (λ h. h);
      }

-- ---- the ticks of the hold

has_claim : (p : Master) (d : Device) → has_turn p d.arb.turn ≡ true → owns p d ≡ false → claims p d ≡ true
has_claim p d h o = sym (or-false (claims p d)) ∙ sym (ap (λ (b : Bool). claims p d || b) o) ∙ h

each : (p : Master) (d : Device) → owns p d ≡ false → owns (partner p) d ≡ false → (m : Master) → owns m d ≡ false
each Zero d a b Zero = a
each Zero d a b One = b
each One d a b Zero = b
each One d a b One = a

awaits : (p : Master) (s : Setting) (d : Device) → Asked p s d → owns p d ≡ false → AwaitsBus p d
awaits p s d a o =
    record {
      claimant = has_claim p d (claimed p d a.ready (o, a.request) a.other) o;
      rest = a.rest;
      unowned = each p d o a.other.0;
    }

-- An event that is foreign to both leaves all of it.
asked_on : (p : Master) (s : Setting) (r : Raw) (d : Device) → ((m : Master) → Foreign m r d) → Asked p s d → owns p d ≡ false → Asked p s (next d r)
asked_on p s r d f a o =
    let m : Master = partner p in
    let near = left_by_others p r d (f p) in
    let away = left_by_others m r d (f m) in
    record {
      request = near.request o ∙ a.request;
      rest = ap (λ x. at_rest x.2) near.port ∙ a.rest;
      set = (near.rt ∙ a.set.0, near.bits ∙ a.set.1);
      other = silent_on m r d (away.request a.other.0) a.other;
      ready = ready_next r d a.ready;
    }

tick_foreign : (d : Device) (m : Master) → Foreign m tick d
tick_foreign d m = quiet_foreign m tick d refl

is_tick : (d : Device) → ticks tick d ≡ true
unfolding decode in_sequence
is_tick d = refl

tick_hold : (d : Device) (n : ℕ) → d.bus.hold ≡ suc n → (next d tick).bus.hold ≡ n
tick_hold d n h =
    let one : (next d tick).bus.hold ≡ d.bus.hold - 1 =
    hold_next tick d (left_by_others Zero tick d (tick_foreign d Zero)).unreset ∙ ap (λ (b : Bool). d.bus.hold - worth 1 b) (is_tick d) in
    omega arith

-- Over as many ticks as the hold: p claims before the last, and has the bus at it.
pub ends : (p : Master) (s : Setting) (hold : ℕ) (d : Device) → d.bus.hold ≡ hold → Lot p s d
    → ((n : ℕ) → n < hold → AwaitsBus p (run_from d (times n tick))) × HasBus p s (run_from d (times hold tick))
unfolding run_from
ends p s zero d h l = (λ n k. absurd (not-suc-le-zero k), l.has h)
ends p s (suc hold) d h l =
    let o : owns p d ≡ false = l.waits (omega arith) in
    let rest = ends p s hold (next d tick) (tick_hold d hold h) (lot p s tick d o (asked_on p s tick d (tick_foreign d) l.asked o)) in
    (claim rest.0, rest.1)
  where
    claim : ((n : ℕ) → n < hold → AwaitsBus p (run_from (next d tick) (times n tick))) → (n : ℕ) → n < suc hold → AwaitsBus p (run_from d (times n tick))
    claim f zero k = awaits p s d l.asked (l.waits (omega arith))
    claim f (suc n) k = f n (omega arith)

-- ---- with other events among the ticks

-- While the hold lasts, p claims.
module _ (p : Master) (s : Setting) where
  pub holds : (later : List Raw) (d : Device) → those (λ (r : Raw). not (is_quiet r)) later ≡ [] → ticks_in d later < d.bus.hold → Lot p s d
      → Lot p s (run_from d later) × ((run_from d later).bus.hold ≡ d.bus.hold - ticks_in d later)
  unfolding run_from ticks_in
  holds [] d e up l = (l, sym (sub-zero d.bus.hold))
  holds (r ∷ later) d e up l =
      let b = those_none (λ (x : Raw). not (is_quiet x)) r later e in
      let f : (m : Master) → Foreign m r d = λ m. quiet_foreign m r d (not_false (is_quiet r) b.0) in
      let one : (next d r).bus.hold ≡ d.bus.hold - worth 1 (ticks r d) = hold_next r d (left_by_others p r d (f p)).unreset in
      let o : owns p d ≡ false = l.waits (omega arith) in
      let rest = holds later (next d r) b.1 (omega arith) (lot p s r d o (asked_on p s r d f l.asked o)) in
      let end : (run_from (next d r) later).bus.hold ≡ (next d r).bus.hold - ticks_in (next d r) later = rest.1 in
      (rest.0, omega arith)

  -- An accepted tick is foreign to both.
  tick_away : (t : Raw) (d : Device) → ticks t d ≡ true → (m : Master) → Foreign m t d
  tick_away t d h m = (taken_tick t d h).same (λ e x. not (is_foreign m e))

  pub held : (later : List Raw) (d : Device) → those (λ (r : Raw). not (is_quiet r)) later ≡ [] → ticks_in d later < d.bus.hold → Lot p s d
      → AwaitsBus p (run_from d later)
      × ((t : Raw) → ticks t (run_from d later) ≡ true → ticks_in d later + 1 ≡ d.bus.hold → HasBus p s (next (run_from d later) t))
  held later d e up l =
      let y : Device = run_from d later in
      let all = holds later d e up l in
      let left : y.bus.hold ≡ d.bus.hold - ticks_in d later = all.1 in
      let a : Asked p s y = all.0.asked in
      let o : owns p y ≡ false = all.0.waits (omega arith) in (
        awaits p s y a o,
        λ t h n. (let f = tick_away t y h in
            let one : (next y t).bus.hold ≡ y.bus.hold - 1 =
            hold_next t y (left_by_others p t y (f p)).unreset ∙ ap (λ (b : Bool). y.bus.hold - worth 1 b) h in
            (lot p s t y o (asked_on p s t y f a o)).has (omega arith)),
      )
