-- An owner over the events of a run: no hold runs while there is one, part 3 would find no loss, and each event leaves it the owner or
-- ends its grant.
-- Assumes nothing.
use mathlib.Core.Path.{◌≡◌, refl, sym, ap, ◌∙◌, subst}
use mathlib.Core.Bool.{true≢false, false≢true, and-eq-true_iff, and-false}
use mathlib.Core.Logic.{⊎_elim}
use native.Mathlib.Nat.{sub-zero}
use Rattle.std.specs.Prelude.{◌-◌, ◌&&◌, ◌||◌, if◌then◌else◌}
use Rattle.arbiter.specs.Types.{ℕ, Bool, true, false, not, List, eqb, Master, Ground, Nobody, Owns, Control, Side, Kind, Device, Raw}
use Rattle.arbiter.specs.Types.{Event}
use Rattle.arbiter.specs.Rules.{limit_of, idle_limit}
use Rattle.arbiter.specs.Words.{worth, side}
use Rattle.arbiter.specs.Parts.{with_contr, with_rt}
use Rattle.arbiter.specs.State.{owns, is_idle}
use Rattle.arbiter.specs.Effects.{ticked, effect, power_up}
use Rattle.arbiter.specs.Order.{is_reset, is_tick, levels, runs_out}
use Rattle.arbiter.specs.Steps.{parts, run}
use Rattle.arbiter.specs.Audit.{GrantedAtRest}
use Rattle.arbiter.specs.AuditWords.{next, reserve_of, lets_go, reset, tick, withdrawal_of, grant_taken, levelled}
use Rattle.arbiter.proofs.Choice.{split, if_true, if_false, not_true, owns_turn_lem, turn_owns}
use Rattle.arbiter.proofs.Cases.{step_keeps, run_keeps}
use Rattle.arbiter.proofs.KindKept.{limit_some}
use Rattle.arbiter.proofs.Effects.{effect_side, owner_lets_go, effect_turn, counts, effect_counts}
use Rattle.arbiter.proofs.Order.{still, still_sides, side_kept, owned, Fresh}
use Rattle.arbiter.proofs.Owner.{mid, expired, unheld, Over, Stays, stays, ends, fate, origin}
use Rattle.arbiter.proofs.Raws.{refuses, takes, met}

-- m owns, on some ground, no hold runs, and part 3 would find no loss.
pub record Owner (m : Master) (d : Device) : Type 0 where
  pub ground : Ground
  pub turn : d.arb.turn ≡ Owns m ground
  pub hold : d.bus.hold ≡ 0
  pub unlost : expired m d ≡ false

-- ---- in every run

-- What part 3 asks is read off what `still` names.
expired_still : (m : Master) (n d : Device) → still n ≡ still d → expired m n ≡ expired m d
expired_still m n d e =
    ap (λ k. runs_out (idle_limit n) (asked k.1 k.2) n.arb.reserve n.bus) (side_kept m n d (still_sides n d e))
    ∙ ap (λ s. runs_out (limit_of s.5) (side m d) s.3 s.2) e
  where
    -- m's side with such an idle timer and such an RT
    asked : Bool → ℕ → Side
    asked timer rt =
        let c : Control = (side m d).contr in
        with_rt rt
        (with_contr (record {
          priority = c.priority;
          smbusdis = c.smbusdis;
          idletimer = timer;
          swrst = c.swrst;
          businit = c.businit;
          busconnect = c.busconnect;
          lockreq = c.lockreq;
        }) (side m d))

-- A new grant has not run out.
fresh_owner : (m : Master) {g : Ground} (d : Device) → d.arb.turn ≡ Owns m g → Fresh m d → Owner m d
fresh_owner m {g} d t f =
    let timer : Bool = (side m d).contr.idletimer in
    let rt : ℕ = (side m d).rt in
    record {
      ground = g;
      turn = t;
      hold = f.hold;
      unlost =
          split (eqb rt 0) (λ z. if_true _ _ z ∙ ap (λ (n : ℕ). timer && eqb n (idle_limit d)) f.idle ∙ ap (λ (b : Bool). timer && b) (limit_some d.kind)
          ∙ and-false timer)
          (λ z. if_false _ _ z ∙ ap (λ (n : ℕ). eqb n 0 && is_idle d.bus) f.reserve ∙ ap (λ (b : Bool). b && is_idle d.bus) z);
    }

-- Who keeps its grant is the owner still.
stays_owner : (m : Master) {g : Ground} (e : Event) (d : Device) → is_reset e ≡ false → d.bus.hold ≡ 0 → Stays m g e d → Owner m (parts e d)
unfolding levels
stays_owner m {g} e d ok z s =
    record {
      ground = g;
      turn = ap (λ x. x.4) s.left ∙ s.turn;
      hold = ap (λ x. x.2.hold) s.left ∙ unheld e d ok z;
      unlost = expired_still m (parts e d) (mid e d) s.left ∙ s.unlost;
    }

-- Part 1 makes nobody the owner.
turn_back : (m : Master) {g : Ground} (e : Event) (d : Device) → (effect e d).arb.turn ≡ Owns m g → (is_reset e ≡ false) × (d.arb.turn ≡ Owns m g)
turn_back m {g} e d h = go (is_reset e) (owner_lets_go d.arb.turn e d) (sym (effect_turn e d) ∙ h)
  where
    go : (r o : Bool) → (if r || o then Nobody else d.arb.turn) ≡ Owns m g → (r ≡ false) × (d.arb.turn ≡ Owns m g)
    go true o t = absurd (false≢true (ap owned t))
    go false true t = absurd (false≢true (ap owned t))
    go false false t = (refl, t)

-- whoever owns does so with no hold and no loss to come
abbrev pub Owned : Device → Type 0
Owned d = (m : Master) (g : Ground) → d.arb.turn ≡ Owns m g → Owner m d

-- Each step leaves it so, and so it is in every run.
parts_owned : (e : Event) (d : Device) → Owned d → Owned (parts e d)
unfolding levels
parts_owned e d i m g h =
    ⊎_elim (fresh_owner m (parts e d) h)
    (λ (s : Stays m g e d). let b = turn_back m e d s.turn in stays_owner m e d b.0 (i m g b.1).hold s)
    (origin m e d h)

pub next_owned : (r : Raw) (d : Device) → Owned d → Owned (next d r)
next_owned r d i = step_keeps Owned parts_owned d r i

pub run_owned : (k : Kind) (rs : List Raw) → Owned (run k rs)
unfolding run power_up
run_owned k rs = run_keeps Owned parts_owned (power_up k) rs λ m g h. absurd (false≢true (ap owned h))

-- ---- a new grant

-- Who did not own before an event and does after it has a new grant.
parts_fresh : (m : Master) {g : Ground} (e : Event) (d : Device) → owns m d ≡ false → (parts e d).arb.turn ≡ Owns m g → Fresh m (parts e d)
unfolding levels
parts_fresh m {g} e d o h =
    ⊎_elim (λ (f : Fresh m (parts e d)). f)
    (λ (s : Stays m g e d). absurd (true≢false (sym (turn_owns m d.arb.turn (turn_back m e d s.turn).1) ∙ o))) (origin m e d h)

-- So of any event, and its owner has no hold and no loss to come.
pub taken_fresh : (m : Master) (r : Raw) (d : Device) → grant_taken m r d ≡ true → (Fresh m (next d r)) × (Owner m (next d r))
taken_fresh m r d h =
    let both = (and-eq-true_iff (not (owns m d)) (owns m (next d r))).0 h in
    let t = owns_turn_lem m (next d r).arb.turn both.1 in
    let o : owns m d ≡ false = not_true (owns m d) both.0 in
    let f : Fresh m (next d r) =
    elim (met r d) [
      | refuses x ↦ absurd (true≢false (sym both.1 ∙ ap (owns m) x.after ∙ o))
      | takes e x ↦ subst (Fresh m) (sym x.after) (parts_fresh m e d o (sym (ap (λ (n : Device). n.arb.turn) x.after) ∙ t.1))
    ]
    in (f, fresh_owner m (next d r) t.1 f)

pub granted_at_rest : GrantedAtRest
granted_at_rest m d r h = let fresh = (taken_fresh m r d h).0 in (fresh.rest, fresh.hold)

-- ---- one event

-- m keeps the grant over r: it is the owner still, as part 3 found it.
pub record Keeps (m : Master) (r : Raw) (d : Device) : Type 0 where
  pub owner : Owner m (next d r)
  pub unlost : expired m (levelled r d) ≡ false
  pub left : still (next d r) ≡ still (levelled r d)

-- Of an owner and an event that is no reset: m keeps the grant, or it is over, by a loss unless m withdraws.
pub data Lot (m : Master) (r : Raw) (d : Device) : Type 0 where
  keeps : Keeps m r d → Lot m r d
  over : Over m (next d r) → (withdrawal_of m r d ≡ false → expired m (levelled r d) ≡ true) → Lot m r d

-- It is one of these.
pub lot : (m : Master) (r : Raw) (d : Device) → Owner m d → reset r d ≡ false → Lot m r d
lot m r d o ok =
    elim (met r d) [
      | refuses x ↦
          (keeps
          (record {
            owner = subst (Owner m) (sym x.after) o;
            unlost = ap (expired m) x.middle ∙ o.unlost;
            left = ap still (x.after ∙ sym x.middle);
          }))
      | takes e x ↦
          (let no : is_reset e ≡ false = sym (x.same λ f y. is_reset f) ∙ ok in
          elim (fate m e d no o.turn o.hold) [
            | stays s ↦
                (keeps
                (record {
                  owner = subst (Owner m) (sym x.after) (stays_owner m e d no o.hold s);
                  unlost = ap (expired m) x.middle ∙ s.unlost;
                  left = ap still x.after ∙ s.left ∙ sym (ap still x.middle);
                }))
            | ends h c ↦ over (subst (Over m) (sym x.after) h) (λ w. ap (expired m) x.middle ∙ c (sym (x.same (lets_go m)) ∙ w))
          ])
    ]

-- When part 3 looks, the owner's RT is as it was,
pub rt_found : (m : Master) (r : Raw) (d : Device) → owns m d ≡ true → reset r d ≡ false → reserve_of m (levelled r d) ≡ reserve_of m d
unfolding levels
rt_found m r d o ok =
    elim (met r d) [
      | refuses x ↦ ap (reserve_of m) x.middle
      | takes e x ↦ ap (reserve_of m) x.middle ∙ (effect_side m e d (sym (x.same λ f y. is_reset f) ∙ ok)).keeps o
    ]

-- and a tick has been taken from the reserve count.
pub reserve_found : (r : Raw) (d : Device) → reset r d ≡ false → (levelled r d).arb.reserve ≡ d.arb.reserve - worth 1 (tick r d)
unfolding levels ticked
reserve_found r d ok =
    elim (met r d) [
      | refuses x ↦
          (ap (λ (n : Device). n.arb.reserve) x.middle
          ∙ sym (sub-zero d.arb.reserve)
          ∙ sym (ap (λ (b : Bool). d.arb.reserve - worth 1 b) (x.none λ f y. is_tick f)))
      | takes e x ↦
          (ap (λ (n : Device). n.arb.reserve) x.middle
          ∙ ap (λ c. c.2) (effect_counts e d (sym (x.same λ f y. is_reset f) ∙ ok))
          ∙ go (is_tick e)
          ∙ sym (ap (λ (b : Bool). d.arb.reserve - worth 1 b) (x.same λ f y. is_tick f)))
    ]
  where
    go : (b : Bool) → (if b then counts (ticked d) else counts d).2 ≡ d.arb.reserve - worth 1 b
    go true = refl
    go false = sym (sub-zero d.arb.reserve)
