-- Nothing but ticks: they leave a waiting master's side and whether the bus is quiet, so that on a bus that is not quiet whoever has the turn keeps it.
-- Assumes nothing.
use native.Mathlib.Omega.{arith}
use mathlib.Core.Path.{◌≡◌, refl, sym, ap, ap₂, ◌∙◌}
use mathlib.Core.Bool.{true≢false, false≢true, and-true}
use borrow.Author.Tests.{eq-eqb}
use Rattle.std.specs.Prelude.{◌&&◌, ◌||◌, ◌∷◌}
use Rattle.ranges.specs.Names.{ℕ, zero, suc, Bool, true, false, not, Master, Zero, One, Ground, Turn, Nobody, Claims, Owns, Bus}
use Rattle.ranges.specs.Names.{Device, Event, Tick}
use Rattle.arbiter.specs.Words.{worth, partner, side}
use Rattle.arbiter.specs.Rules.{idle_limit}
use Rattle.arbiter.specs.State.{owns_turn, owns, claims, scl_high, sda_high, is_idle, at_rest}
use Rattle.arbiter.specs.Events.{decode, in_sequence}
use Rattle.arbiter.specs.Effects.{ticked_bus, ticked, effect}
use Rattle.arbiter.specs.Order.{is_reset, levels, lost, losses_from, losses}
use Rattle.arbiter.specs.Steps.{parts, run_from}
use Rattle.arbiter.specs.AuditWords.{next, requests, resting, lets_go, accepted, tick, ticks_in, never, throughout}
use Rattle.arbiter.specs.Marks.{tick as aTick, times}
use Rattle.recovery.specs.Crash.{idle_under}
use Rattle.arbiter.proofs.Choice.{either, split, not_true, owns_turn_lem, turn_owns}
use Rattle.arbiter.proofs.Runs.{now, hence}
use Rattle.arbiter.proofs.Effects.{kept}
use Rattle.arbiter.proofs.Order.{side_kept, after, after_sides}
use Rattle.arbiter.proofs.Owner.{mid, expired}
use Rattle.arbiter.proofs.Raws.{Takes, taken_tick}
use Rattle.arbiter.proofs.Settled.{Ready}
use Rattle.arbiter.proofs.Idle.{parts_bus, next_idle}
use Rattle.arbiter.proofs.Tenure.{Owned, next_owned, keeps, over, lot}
use Rattle.arbiter.proofs.Grounds.{has_turn}
use Rattle.audit.proofs.Blocking.{claims_turn_lem, claimant_asks}
use Rattle.audit.proofs.Freed.{ready_next}
use Rattle.audit.proofs.Overtaking.{line_next}
use Rattle.recovery.proofs.Crash.{lost_idle}

-- ---- a tick

-- It is taken as one in every device.
pub a_tick : (d : Device) → tick aTick d ≡ true
unfolding decode in_sequence
a_tick d = refl

pub taken : (d : Device) → Takes Tick aTick d
taken d = taken_tick aTick d (a_tick d)

-- A loss leaves the side of another.
lost_other : (j k : Master) (g : Ground) (x : Device) → owns_turn j (Owns k g) ≡ false → side j (lost k x) ≡ side j x
unfolding lost
lost_other Zero Zero g x o = absurd (true≢false o)
lost_other Zero One g x o = refl
lost_other One Zero g x o = refl
lost_other One One g x o = absurd (true≢false o)

losses_other : (j : Master) (t : Turn) (x : Device) → owns_turn j t ≡ false → side j (losses_from t x) ≡ side j x
unfolding losses_from
losses_other j Nobody x o = refl
losses_other j (Claims k g) x o = refl
losses_other j (Owns k g) x o = either (λ (n : Device). side j n ≡ side j x) (expired k x) (λ h. lost_other j k g x o) (λ h. refl)

-- So a tick leaves the side of one that does not own,
pub tick_kept : (j : Master) (d : Device) → owns j d ≡ false → kept (side j (next d aTick)) ≡ kept (side j d)
unfolding parts losses levels effect ticked
tick_kept j d o =
    let b : Device = mid Tick d in
    ap (λ (n : Device). kept (side j n)) (taken d).after
    ∙ side_kept j (after Tick (losses b)) (losses b) (after_sides Tick (losses b))
    ∙ ap kept (losses_other j d.arb.turn b o)

-- and whether the bus is quiet: not busy, and high but for a hold.
abbrev pub quiet : Bus → Bool
quiet b = not b.busy && (b.outscl && b.drivescl) && (b.outsda && b.drivesda)

calm : (busy c a : Bool) → (busy || c && a && not a) && not (c && not a && a) ≡ busy
calm true true true = refl
calm true true false = refl
calm true false true = refl
calm true false false = refl
calm false true true = refl
calm false true false = refl
calm false false true = refl
calm false false false = refl

pub tick_quiet : (d : Device) → quiet (next d aTick).bus ≡ quiet d.bus
unfolding levels effect ticked
tick_quiet d =
    let b : Bus = d.bus in
    ap (λ (n : Device). quiet n.bus) (taken d).after
    ∙ ap quiet (parts_bus Tick d)
    ∙ ap (λ (busy : Bool). not busy && (b.outscl && b.drivescl) && (b.outsda && b.drivesda))
    (calm b.busy (scl_high b && scl_high (ticked_bus (idle_limit d) b)) (sda_high b))

-- Without a hold a quiet bus is an idle one.
pub idle_quiet : (b : Bus) → b.hold ≡ 0 → is_idle b ≡ quiet b
idle_quiet b z =
    ap (λ (s : Bool). not b.busy && s && (b.outsda && b.drivesda))
    (ap (λ (h : Bool). b.outscl && b.drivescl && h) (eq-eqb b.hold 0 z) ∙ and-true (b.outscl && b.drivescl))

-- ---- so many ticks

pub ticks_never : (such : Event → Device → Bool) → ((x : Device) → such Tick x ≡ false) → (n : ℕ) (d : Device) → never (accepted such) d (times n aTick) ≡ true
unfolding never
ticks_never such none zero d = refl
ticks_never such none (suc n) d = ap₂ (λ (a b : Bool). not a && b) ((taken d).same such ∙ none d) (ticks_never such none n (next d aTick))

pub ticks_count : (n : ℕ) (d : Device) → ticks_in d (times n aTick) ≡ n
unfolding ticks_in
ticks_count zero d = refl
ticks_count (suc n) d =
    let one : worth 1 (tick aTick d) ≡ 1 = ap (worth 1) (a_tick d) in
    let rest : ticks_in (next d aTick) (times n aTick) ≡ n = ticks_count n (next d aTick) in
    omega arith

-- What holds after any number of them holds throughout.
pub ticks_all : (holds : Device → Bool) (n : ℕ) (d : Device) → ((j : ℕ) → holds (run_from d (times j aTick)) ≡ true) → throughout holds d (times n aTick) ≡ true
unfolding throughout run_from
ticks_all holds zero d f = f 0
ticks_all holds (suc n) d f = ap₂ ◌&&◌ (f 0) (ticks_all holds n (next d aTick) (λ j. f (suc j)))

module _ (m : Master) where
  abbrev p : Master
  p = partner m

  abbrev without : Device → Bool
  without x = not (owns p x)

  -- ---- p waits

  -- Its request stands, and its port is at rest.
  pub stands : (n : ℕ) (d : Device) → throughout without d (times n aTick) ≡ true → requests p d ≡ true → resting p d ≡ true
      → (throughout (requests p) d (times n aTick) ≡ true) × (resting p (run_from d (times n aTick)) ≡ true)
  unfolding throughout run_from
  stands zero d w q rest = (q, rest)
  stands (suc n) d w q rest =
      let same = tick_kept p d (not_true (owns p d) (now without (aTick ∷ times n aTick) d w)) in
      let more = stands n (next d aTick) (hence without aTick (times n aTick) d w) (ap (λ k. k.0) same ∙ q) (ap (λ k. at_rest k.3) same ∙ rest) in
      (ap₂ ◌&&◌ q more.0, more.1)

  -- A quiet bus is idle as long as m owns.
  idle_now : (d : Device) → Owned d → quiet d.bus ≡ true → idle_under m d ≡ true
  idle_now d i h =
      split (owns m d)
      (λ o. let t = owns_turn_lem m d.arb.turn o in
      ap₂ (λ (a b : Bool). not a || b) o (idle_quiet d.bus (i m t.0 t.1).hold ∙ h))
      (λ o. ap (λ (a : Bool). not a || is_idle d.bus) o)

  pub idles : (n : ℕ) (d : Device) → Owned d → quiet d.bus ≡ true → throughout (idle_under m) d (times n aTick) ≡ true
  unfolding throughout
  idles zero d i h = idle_now d i h
  idles (suc n) d i h = ap₂ ◌&&◌ (idle_now d i h) (idles n (next d aTick) (next_owned aTick d i) (tick_quiet d ∙ h))

  -- ---- m keeps the turn

  -- On a bus that is not quiet an owner keeps the grant, and a claimant its claim.
  keeps_turn : (d : Device) → Owned d → Ready d → quiet d.bus ≡ false → has_turn m d.arb.turn ≡ true → has_turn m (next d aTick).arb.turn ≡ true
  keeps_turn d i ready h has =
      let n : Device = next d aTick in
      split (owns m d)
      (λ o. let t = owns_turn_lem m d.arb.turn o in
      elim (lot m aTick d (i m t.0 t.1) ((taken d).same λ f y. is_reset f)) [
        | keeps k ↦ ap (λ (b : Bool). claims m n || b) (turn_owns m n.arb.turn k.owner.turn) ∙ or_yes (claims m n)
        | over x c ↦
            (let idle = next_idle aTick d (ap (λ (y : Device). is_idle y.bus) (taken d).middle
            ∙ lost_idle m Tick d (sym (ap (expired m) (taken d).middle) ∙ c ((taken d).same (lets_go m)))) in
            absurd (true≢false (sym idle ∙ idle_quiet n.bus x.hold ∙ tick_quiet d ∙ h)))
      ])
      (λ o. let t = claims_turn_lem m d.arb.turn (sym (or_no (claims m d) (owns m d) o) ∙ has) in
      line_next m aTick d has (ap (λ k. k.0) (tick_kept m d o) ∙ claimant_asks m d ready.1 t.1))
    where
      or_yes : (b : Bool) → b || true ≡ true
      or_yes true = refl
      or_yes false = refl

      or_no : (a b : Bool) → b ≡ false → a || b ≡ a
      or_no true b h = refl
      or_no false b h = h

  -- Whose turn it is keeps the other out.
  other_out : (m : Master) (t : Turn) → has_turn m t ≡ true → owns_turn (partner m) t ≡ false
  other_out m Nobody h = refl
  other_out m (Claims k g) h = refl
  other_out Zero (Owns Zero g) h = refl
  other_out Zero (Owns One g) h = absurd (false≢true h)
  other_out One (Owns Zero g) h = absurd (false≢true h)
  other_out One (Owns One g) h = refl

  pub keeps_out : (n : ℕ) (d : Device) → Owned d → Ready d → quiet d.bus ≡ false → has_turn m d.arb.turn ≡ true → throughout without d (times n aTick)
      ≡ true
  unfolding throughout
  keeps_out zero d i ready h has = ap not (other_out m d.arb.turn has)
  keeps_out (suc n) d i ready h has =
      ap₂ ◌&&◌ (ap not (other_out m d.arb.turn has))
      (keeps_out n (next d aTick) (next_owned aTick d i) (ready_next aTick d ready) (tick_quiet d ∙ h) (keeps_turn d i ready h has))
