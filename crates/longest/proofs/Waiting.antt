-- While a master waits: where it stands (audit/proofs/Places) bounds how many states after TICKs it waits.
-- Assumes nothing.
use Prim.Native.Nat.{ℕ, ◌+◌, ◌-◌, ◌≤◌}
use mathlib.Core.Path.{◌≡◌, refl, sym, ap, ap₂, subst, ◌∙◌}
use mathlib.Core.Bool.{Bool, true, false, not, ◌&&◌, true≢false, false≢true, and-eq-true_iff}
use mathlib.Core.List.{List, [], ◌∷◌}
use lib.Dec.{eqb, ltb}
use native.Mathlib.Nat.{le_refl, sub-zero}
use native.Mathlib.Omega.{arith}
use borrow.Author.Tests.{eq-eqb, ltb-true, ltb-false}
use Rattle.std.specs.Prelude.{if◌then◌else◌}
use Rattle.arbiter.specs.Words.{worth, partner}
use Rattle.arbiter.specs.State.{owns, is_idle}
use Rattle.arbiter.specs.Effects.{ticked, effect}
use Rattle.arbiter.specs.Order.{is_reset, levels, lost, losses_from, losses}
use Rattle.arbiter.specs.Steps.{parts}
use Rattle.arbiter.specs.AuditWords.{next, requests, resting, reset, tick, throughout}
use Rattle.arbiter.specs.declared.Master.{Master}
use Rattle.arbiter.specs.declared.Master.TheVariants.{Zero, One}
use Rattle.arbiter.specs.declared.Turn.{Turn}
use Rattle.arbiter.specs.declared.Turn.TheVariants.{Nobody, Claims, Owns}
use Rattle.arbiter.specs.declared.Device.{Device}
use Rattle.arbiter.specs.declared.Raw.{Raw}
use Rattle.arbiter.specs.declared.Event.{Event}
use Rattle.arbiter.specs.declared.Event.TheVariants.{Tick}
use Rattle.audit.specs.WorstWait.{reserves_within, delayed, stops_after}
use Rattle.share.specs.States.{listed_if, states_from, waits, front, longest}
use Rattle.longest.specs.Longest.{keeps_asking, waits_unready}
use Rattle.arbiter.proofs.Choice.{split, if_true, if_false}
use Rattle.arbiter.proofs.Owner.{mid, expired, asks}
use Rattle.arbiter.proofs.Raws.{refuses, takes, met, taken_tick}
use Rattle.arbiter.proofs.Resets.{reset_request}
use Rattle.arbiter.proofs.Runs.{now, hence}
use Rattle.arbiter.proofs.Settled.{Ready}
use Rattle.arbiter.proofs.Tenure.{Owned, next_owned}
use Rattle.share.proofs.Runs.{waiting_not_owning}
use Rattle.share.proofs.Numbers.{larger_left, larger_right}
use Rattle.audit.proofs.Places.{ahead, Place, mine, first, theirs, behind, place_then}
use Rattle.audit.proofs.WorstWait.{next_ready, nothing_left}

-- ---- where a request comes from

lost_asked : (p k : Master) (d : Device) → requests p (lost k d) ≡ true → requests p d ≡ true
unfolding lost
lost_asked Zero Zero d h = absurd (false≢true h)
lost_asked Zero One d h = h
lost_asked One Zero d h = h
lost_asked One One d h = absurd (false≢true h)

losses_asked : (p : Master) (t : Turn) (d : Device) → requests p (losses_from t d) ≡ true → requests p d ≡ true
unfolding losses_from
losses_asked p Nobody d h = h
losses_asked p (Claims k g) d h = h
losses_asked p (Owns k g) d h =
    split (expired k d) (λ x. lost_asked p k d (sym (ap (requests p) (if_true (lost k d) d x)) ∙ h)) (λ x. sym (ap (requests p) (if_false (lost k d) d x)) ∙ h)

-- What requests after the step requested after part 1.
asked_first : (p : Master) (e : Event) (d : Device) → requests p (parts e d) ≡ true → requests p (effect e d) ≡ true
unfolding parts levels losses
asked_first p e d q = losses_asked p (mid e d).arb.turn (mid e d) (sym (asks p e (losses (mid e d))) ∙ q)

-- So a reset has not come,
no_reset : (p : Master) (r : Raw) (d : Device) → requests p (next d r) ≡ true → reset r d ≡ false
no_reset p r d q =
    split (reset r d)
    (λ h. elim (met r d) [
      | refuses x ↦ absurd (false≢true (sym (x.none λ f y. is_reset f) ∙ h))
      | takes e x ↦
          absurd
          (true≢false (sym (asked_first p e d (sym (ap (requests p) x.after) ∙ q)) ∙ reset_request p e d (sym (x.same λ f y. is_reset f) ∙ h)))
    ])
    (λ h. h)

-- and over a tick it stood before.
pub stood : (p : Master) (r : Raw) (d : Device) → tick r d ≡ true → requests p (next d r) ≡ true → requests p d ≡ true
unfolding effect ticked
stood p r d h q = asked_first p Tick d (sym (ap (requests p) (taken_tick r d h).after) ∙ q)

-- ---- in a list of states

module _ (p : Master) where
  -- The states after TICKs from one on in which at most b ticks stand before p: how many it waits at first, and that none of them is ready
  -- where nothing stands before it.
  pub record Bounds (b : ℕ) (ds : List Device) : Type 0 where
    pub all : front (waits p) ds ≤ b - 1 + longest (waits_unready p) ds
    pub late : b ≤ 1 → front (waits p) ds ≤ front (waits_unready p) ds

  -- Where p does not wait at first,
  none : (b : ℕ) (ds : List Device) → front (waits p) ds ≡ 0 → Bounds b ds
  none b ds z = record { all = omega (arith, z); late = λ h. omega (arith, z) }

  -- not in the first state,
  pub stops_here : (b : ℕ) (x : Device) (ds : List Device) → waits p x ≡ false → Bounds b (x ∷ ds)
  unfolding front
  stops_here b x ds w = none b (x ∷ ds) (if_false (1 + front (waits p) ds) 0 w)

  -- or waits there, not ready if nothing is left before it, and then on.
  goes_on : (b : ℕ) (x : Device) (ds : List Device) → waits p x ≡ true → (b ≤ 1 → waits_unready p x ≡ true) → Bounds (b - 1) ds → Bounds b (x ∷ ds)
  unfolding front longest
  goes_on b x ds w u on =
      let more : front (waits p) (x ∷ ds) ≡ 1 + front (waits p) ds = if_true (1 + front (waits p) ds) 0 w in
      let low = larger_left (front (waits_unready p) (x ∷ ds)) (longest (waits_unready p) ds) in
      let rest = larger_right (front (waits_unready p) (x ∷ ds)) (longest (waits_unready p) ds) in
      let so = on.all in
      let few : b ≤ 1 → front (waits p) (x ∷ ds) ≤ front (waits_unready p) (x ∷ ds) =
      λ h. let one : front (waits_unready p) (x ∷ ds) ≡ 1 + front (waits_unready p) ds = if_true (1 + front (waits_unready p) ds) 0 (u h) in
      let short = on.late (omega arith) in
      omega (arith, more, one, short) in
      record {
        all = split (ltb 1 b) (λ h. let many = ltb-true 1 b h in omega (arith, more, rest, so, many))
            (λ h. let short = few (ltb-false 1 b h) in omega (arith, short, low));
        late = few;
      }

-- ---- from a state in which p is known to stand

-- What stands before p is less where m has delayed already.
ahead_less : (more hold n : ℕ) → ahead more hold n ≤ ahead more hold 0
ahead_less more hold n = go (eqb hold 0)
  where
    go : (c : Bool) → (if c then more + 1 - n else hold + more) ≤ (if c then more + 1 - 0 else hold + more)
    go true = omega arith
    go false = le_refl (hold + more)

pub delayed_place : (m : Master) (most more n b : ℕ) (d : Device) → Place m most more 0 b d → Place m most more n b d
delayed_place m most more n b d (mine g t) = mine g t
delayed_place m most more n b d (first g t h) = first g t h
delayed_place m most more n b d (theirs g t h) = theirs g t h
delayed_place m most more n b d (behind g t h) = let less = ahead_less more d.bus.hold n in behind g t (omega (arith, less, h))

module _ (m : Master) (most more : ℕ) (some : 1 ≤ most) where
  abbrev p : Master
  p = partner m

  -- With nothing before it, no hold runs either,
  unheld : (n b : ℕ) (d : Device) → b ≡ 0 → Owned d → Place m most more n b d → d.bus.hold ≡ 0
  unheld n b d z i (mine g t) = (i p g t).hold
  unheld n b d z i (first g t h) = omega arith
  unheld n b d z i (theirs g t h) = (i m g t).hold
  unheld n b d z i (behind g t h) = absurd (beyond (ahead more d.bus.hold n) h)
    where
      beyond : (k : ℕ) → k + most ≤ b → ⊥
      beyond k l = omega arith

  -- and p waits because it is not ready.
  unready : (n b : ℕ) (d : Device) → b ≡ 0 → Owned d → Ready d → reserves_within most m d ≡ true → Place m most more n b d → waits p d ≡ true
      → waits_unready p d ≡ true
  unready n b d z i s w place h =
      split (is_idle d.bus && resting p d)
      (λ a. let both = (and-eq-true_iff (is_idle d.bus) (resting p d)).0 a in
      absurd (true≢false (sym (nothing_left m most more n b d some z i s w both.0 both.1 place) ∙ waiting_not_owning p d h)))
      (λ a. ap₂ (λ (c e : Bool). c && not e) (ap₂ ◌&&◌ h (eq-eqb d.bus.hold 0 (unheld n b d z i place))) a)

  -- Who has waited and does not request is at the end.
  silent : (rs : List Raw) (x : Device) → keeps_asking p true x rs ≡ true → requests p x ≡ false → front (waits p) (states_from x rs) ≡ 0
  unfolding keeps_asking states_from front
  silent [] x k q = refl
  silent (r ∷ rs) x k q = absurd (true≢false (sym ((and-eq-true_iff (requests p x) _).0 k).0 ∙ q))

  -- One event, a tick or not, after which x stands.
  one_event : (b : ℕ) (c : Bool) (rs : List Raw) (x : Device) → keeps_asking p (if c then waits p x else true) x rs ≡ true
      → (c ≡ true → b ≤ 1 → waits p x ≡ true → waits_unready p x ≡ true)
      → (requests p x ≡ true → keeps_asking p true x rs ≡ true → Bounds p (b - worth 1 c) (states_from x rs)) → Bounds p b (listed_if c x (states_from x rs))
  one_event b true rs x k u on =
      split (waits p x)
      (λ w. goes_on p b x (states_from x rs) w (λ h. u refl h w)
      (on ((and-eq-true_iff (requests p x) (not (owns p x))).0 w).0 (sym (ap (λ (a : Bool). keeps_asking p a x rs) w) ∙ k)))
      (λ w. stops_here p b x (states_from x rs) w)
  one_event b false rs x k u on =
      split (requests p x)
      (λ q. subst (λ (n : ℕ). Bounds p n (states_from x rs)) (sub-zero b) (on q k))
      (λ q. none p b (states_from x rs) (silent rs x k q))

  -- Where p stands in d bounds its wait in the states after it.
  pub stands_on : (n b : ℕ) (rs : List Raw) (d : Device) → Owned d → Ready d → keeps_asking p true d rs ≡ true → throughout (reserves_within most m) d rs ≡ true
      → stops_after m more n d rs ≡ true → Place m most more n b d → Bounds p b (states_from d rs)
  unfolding keeps_asking states_from stops_after front
  stands_on n b [] d i s k w late place = none p b [] refl
  stands_on n b (r ∷ rs) d i s k w late place =
      let x : Device = next d r in
      let i1 = next_owned r d i in
      let s1 = next_ready r d s in
      let well-on = hence (reserves_within most m) r rs d w in
      let well-now = now (reserves_within most m) rs x well-on in
      let stops = (and-eq-true_iff (ltb (delayed m n r d) (more + 2)) (stops_after m more (delayed m n r d) x rs)).0 late in
      let soon = ltb-true (delayed m n r d) (more + 2) stops.0 in
      let there : requests p x ≡ true → Place m most more (delayed m n r d) (b - worth 1 (tick r d)) x =
      λ q. place_then m most more n b r d i s (no_reset p r d q) q well-now soon place in
      one_event b (tick r d) rs x ((and-eq-true_iff (requests p d) _).0 k).1
      (λ t few h. unready (delayed m n r d) (b - worth 1 (tick r d)) x (ap (λ (c : Bool). b - worth 1 c) t ∙ omega arith) i1 s1 well-now
      (there ((and-eq-true_iff (requests p x) (not (owns p x))).0 h).0) h)
      (λ q on. stands_on (delayed m n r d) (b - worth 1 (tick r d)) rs x i1 s1 on well-on stops.1 (there q))
