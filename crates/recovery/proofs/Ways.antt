-- A silent m that does not keep p out, over any events that are not its own: it is out of the way, or its turn can still end.
-- Assumes nothing.
use mathlib.Core.Path.{◌≡◌, refl, sym, ap, ap₂, ◌∙◌}
use mathlib.Core.Bool.{true≢false}
use mathlib.Core.Logic.{◌⊎◌, inl, inr, ⊎_elim}
use Rattle.std.specs.Prelude.{◌&&◌, ◌||◌, ◌∷◌}
use Rattle.ranges.specs.Names.{ℕ, Bool, true, false, not, List, [], eqb, Master, Zero, One, Ground, Turn, Nobody, Claims, Owns, Device, Raw}
use Rattle.arbiter.specs.Words.{partner}
use Rattle.arbiter.specs.State.{owns_turn, owns, claims_turn, claims, at_rest}
use Rattle.arbiter.specs.Order.{is_reset, levels}
use Rattle.arbiter.specs.Steps.{run_from}
use Rattle.arbiter.specs.AuditWords.{next, requests, resting, reset, never}
use Rattle.recovery.specs.Crash.{is_of, sent_by, endless, stalled_inside, pulls_low, blocks_bus}
use Rattle.arbiter.proofs.Choice.{split, neither, same_self, turn_owns}
use Rattle.arbiter.proofs.Runs.{never_comes}
use Rattle.arbiter.proofs.Owner.{over_unowned}
use Rattle.arbiter.proofs.Raws.{refuses, takes, met}
use Rattle.arbiter.proofs.Settled.{Ready}
use Rattle.arbiter.proofs.Idle.{parts_bus}
use Rattle.arbiter.proofs.Tenure.{Owner, Owned, next_owned, keeps, over, lot}
use Rattle.arbiter.proofs.Connected.{partner_not}
use Rattle.arbiter.proofs.Grounds.{has_turn, nobody_asks}
use Rattle.audit.proofs.Freed.{ready_next}
use Rattle.guarantee.proofs.StartParts.{parts_seat, parts_request, unasked}
use Rattle.recovery.proofs.Silent.{silent_kept, rt_on, timer_on}
use Rattle.recovery.proofs.Crash.{loose, effect_loose}
use Rattle.recovery.proofs.CrashTurns.{claim_step}

-- ---- an event that is not j's

module _ (j : Master) (r : Raw) (d : Device) (ok : reset r d ≡ false) (silent : sent_by j r d ≡ false) where
  -- leaves its port, and its request if it does not own;
  pub rests_on : resting j (next d r) ≡ resting j d
  rests_on =
      elim (met r d) [
        | refuses x ↦ ap (resting j) x.after
        | takes e x ↦
            (ap (resting j) x.after ∙ ap (λ s. at_rest s.2) (parts_seat j e d)
            ∙ ap (λ k. at_rest k.3) (silent_kept j e d (sym (x.same λ f y. is_reset f) ∙ ok) (sym (x.same λ f y. is_of j f) ∙ silent)))
      ]

  pub asks_on : owns j d ≡ false → requests j (next d r) ≡ requests j d
  asks_on o =
      elim (met r d) [
        | refuses x ↦ ap (requests j) x.after
        | takes e x ↦
            (ap (requests j) x.after ∙ parts_request j e d o
            ∙ ap (λ k. k.0) (silent_kept j e d (sym (x.same λ f y. is_reset f) ∙ ok) (sym (x.same λ f y. is_of j f) ∙ silent)))
      ]

  -- and, where its partner does not own, the drives.
  pub loose_on : owns (partner j) d ≡ false → loose (next d r).bus ≡ loose d.bus
  unfolding levels
  loose_on o =
      elim (met r d) [
        | refuses x ↦ ap (λ (n : Device). loose n.bus) x.after
        | takes e x ↦
            (ap (λ (n : Device). loose n.bus) x.after ∙ ap loose (parts_bus e d)
            ∙ effect_loose j e d (sym (x.same λ f y. is_reset f) ∙ ok) (sym (x.same λ f y. is_of j f) ∙ silent) o)
      ]

-- ---- m out of the way, or on its way out

-- m neither owns nor asks; or it owns, or claims at rest, with the drives released and something that ends its grant
pub data Way (m : Master) (d : Device) : Type 0 where
  gone : owns m d ≡ false → requests m d ≡ false → Way m d
  going : endless m d ≡ false → loose d.bus ≡ true → Owner m d ⊎ ((g : Ground) × (d.arb.turn ≡ Claims m g) × (resting m d ≡ true)) → Way m d

module _ (m : Master) (r : Raw) (d : Device) (i : Owned d) (ready : Ready d) (ok : reset r d ≡ false) (silent : sent_by m r d ≡ false) where
  endless_on : endless m (next d r) ≡ endless m d
  endless_on = ap₂ (λ (n : ℕ) (t : Bool). eqb n 0 && not t) (rt_on m r d ok silent) (timer_on m r d ok silent)

  owning : endless m d ≡ false → loose d.bus ≡ true → Owner m d → Way m (next d r)
  owning e l o =
      elim (lot m r d o ok) [
        | keeps k ↦
            going (endless_on ∙ e) (loose_on m r d ok silent (partner_not m d.arb.turn (turn_owns m d.arb.turn o.turn)) ∙ l) (inl k.owner)
        | over h c ↦ gone (over_unowned m (next d r) h) h.request
      ]

  claiming : endless m d ≡ false → loose d.bus ≡ true → (g : Ground) × (d.arb.turn ≡ Claims m g) × (resting m d ≡ true) → Way m (next d r)
  claiming e l (g, t, rest) =
      let n : Device = next d r in
      let l1 : loose n.bus ≡ true = loose_on m r d ok silent (ap (owns_turn (partner m)) t) ∙ l in
      going (endless_on ∙ e) l1
      (⊎_elim (λ (u : n.arb.turn ≡ Owns m g). inl (next_owned r d i m g u))
      (λ (u : (n.arb.turn ≡ Claims m g) × (resting m n ≡ true)). inr (g, u.0, u.1)) (claim_step m g r d ready ok silent t rest))

  pub way_on : Way m d → Way m (next d r)
  way_on (gone o q) = let q1 = asks_on m r d ok silent o ∙ q in gone (unasked m r d o q1) q1
  way_on (going e l (inl o)) = owning e l o
  way_on (going e l (inr c)) = claiming e l c

pub way_run : (m : Master) (rs : List Raw) (d : Device) → Owned d → Ready d → never reset d rs ≡ true → never (sent_by m) d rs ≡ true → Way m d
    → Way m (run_from d rs)
unfolding run_from
way_run m [] d i ready nr ns w = w
way_run m (r ∷ rs) d i ready nr ns w =
    let ok = never_comes reset r rs d nr in
    let silent = never_comes (sent_by m) r rs d ns in
    way_run m rs (next d r) (next_owned r d i) (ready_next r d ready) ok.1 silent.1 (way_on m r d i ready ok.0 silent.0 w)

-- ---- at first

-- Where m does not keep p out, the turn is p's, or m is such.
module _ (m : Master) (d : Device) (i : Owned d) (ready : Ready d) (free : blocks_bus m d ≡ false)
    (released : ((j : Master) → owns j d ≡ false) → loose d.bus ≡ true) where
  abbrev Ends : Bool
  Ends = (claims m d || owns m d) && endless m d

  unstalled : stalled_inside m d ≡ false
  unstalled = (neither (stalled_inside m d) Ends (neither (stalled_inside m d || Ends) (pulls_low m d) free).0).0

  ending : (claims m d || owns m d) ≡ true → endless m d ≡ false
  ending h = sym (ap (λ (b : Bool). b && endless m d) h) ∙ (neither (stalled_inside m d) Ends (neither (stalled_inside m d || Ends) (pulls_low m d) free).0).1

  pulls : owns m d ≡ true → loose d.bus ≡ true
  pulls o =
      split (loose d.bus) (λ h. h)
      (λ h. absurd (true≢false (sym (ap₂ (λ (a b : Bool). a && not b) o h) ∙ (neither (stalled_inside m d || Ends) (pulls_low m d) free).1)))

  start_claims : (g : Ground) → d.arb.turn ≡ Claims m g → Way m d
  start_claims g t =
      let c : claims m d ≡ true = ap (claims_turn m) t ∙ same_self m in
      going (ending (ap (λ (b : Bool). b || owns m d) c)) (released (λ j. ap (owns_turn j) t))
      (inr (g, t, split (resting m d) (λ h. h) (λ h. absurd (true≢false (sym (ap₂ (λ (a b : Bool). a && not b) c h) ∙ unstalled)))))

  start_owns : (g : Ground) → d.arb.turn ≡ Owns m g → Way m d
  start_owns g t =
      let o : owns m d ≡ true = turn_owns m d.arb.turn t in
      going (ending (or_yes (claims m d) (owns m d) o)) (pulls o) (inl (i m g t))
    where
      or_yes : (a b : Bool) → b ≡ true → a || b ≡ true
      or_yes true b h = refl
      or_yes false b h = h

  pub way_first : (has_turn (partner m) d.arb.turn ≡ true) ⊎ Way m d
  way_first = go d.arb.turn refl
    where
      mine : (j : Master) → (j ≡ m) ⊎ (j ≡ partner m)
      mine = both m
        where
          both : (m j : Master) → (j ≡ m) ⊎ (j ≡ partner m)
          both Zero Zero = inl refl
          both Zero One = inr refl
          both One Zero = inr refl
          both One One = inl refl

      unasked-all : (j : Master) → d.arb.turn ≡ Nobody → requests j d ≡ false
      unasked-all Zero e = (nobody_asks d ready e).0
      unasked-all One e = (nobody_asks d ready e).1

      or_true : (b : Bool) → b || true ≡ true
      or_true true = refl
      or_true false = refl

      go : (t : Turn) → d.arb.turn ≡ t → (has_turn (partner m) d.arb.turn ≡ true) ⊎ Way m d
      go Nobody e = inr (gone (ap (owns_turn m) e) (unasked-all m e))
      go (Claims j g) e =
          ⊎_elim (λ (s : j ≡ m). inr (start_claims g (e ∙ ap (λ (x : Master). Claims x g) s)))
          (λ (s : j ≡ partner m). inl (ap (has_turn (partner m)) (e ∙ ap (λ (x : Master). Claims x g) s)
          ∙ ap (λ (b : Bool). b || false) (same_self (partner m))))
          (mine j)
      go (Owns j g) e =
          ⊎_elim (λ (s : j ≡ m). inr (start_owns g (e ∙ ap (λ (x : Master). Owns x g) s)))
          (λ (s : j ≡ partner m). inl (ap (has_turn (partner m)) (e ∙ ap (λ (x : Master). Owns x g) s) ∙ same_self (partner m)))
          (mine j)
