-- A recovery from any device up to its last STOP: the GENERAL CALL leaves a fresh device, and from there the six events are taken one by one,
-- while the partner never asks.
-- Assumes nothing.
use mathlib.Core.Path.{◌≡◌, refl, sym, ap, ap₂, ◌∙◌, subst}
use mathlib.Core.Bool.{false≢true}
use Rattle.std.specs.Prelude.{◌&&◌, ◌∷◌, ◌++◌}
use Rattle.ranges.specs.Names.{ℕ, Bool, true, false, not, List, [], eqb, Master, Zero, One, Device, Raw}
use Rattle.arbiter.specs.Words.{worth, partner, side}
use Rattle.arbiter.specs.Events.{decode, in_sequence}
use Rattle.arbiter.specs.Effects.{fresh_side, was_reset}
use Rattle.arbiter.specs.Steps.{run_from}
use Rattle.arbiter.specs.AuditWords.{next, reset, ticks_in, never}
use Rattle.arbiter.specs.Marks.{stop, general_call}
use Rattle.arbiter.specs.Witnesses.{number}
use Rattle.audit.specs.Freed.{held_reset}
use Rattle.sheets.specs.declared.Setting.{Setting}
use Rattle.sheets.specs.Settings.{setting_events}
use Rattle.guarantee.specs.Starts.{those}
use Rattle.recovery.specs.Recipe.{recipe, is_from, ticks_since}
use Rattle.arbiter.proofs.Choice.{split, if_true, if_false}
use Rattle.arbiter.proofs.Settled.{Ready}
use Rattle.audit.proofs.Freed.{reset_restores, ready_next}
use Rattle.guarantee.proofs.StartOthers.{Left, left_by_others}
use Rattle.guarantee.proofs.StartStages.{Stage, six, five, four, three, two, one, none, left, Silent, At, silent_on, others_keep, heads, not_empty, own_leads}
use Rattle.guarantee.proofs.StartWalk.{those_first, those_later, those_none}
use Rattle.recovery.proofs.RecipeRaws.{is_alien, quiet_next, quiet_foreign, own_foreign}

-- ---- the GENERAL CALL

abbrev pub call : Master → Raw
call p = general_call (number p) 0x06

-- It is a reset, and holds as p's SMBUS_SWRST says.
soft_reset_lem : (p : Master) (d : Device) → (reset (call p) d ≡ true) × (held_reset (call p) d ≡ (side p d).contr.swrst)
unfolding decode in_sequence
soft_reset_lem Zero d = (refl, refl)
soft_reset_lem One d = (refl, refl)

pub call_restores : (p : Master) (d : Device) → next d (call p) ≡ was_reset (worth 35 (side p d).contr.swrst) d
call_restores p d =
    let soft = soft_reset_lem p d in
    reset_restores d (call p) soft.0 ∙ ap (λ (b : Bool). was_reset (worth 35 b) d) soft.1

-- What stands at a stage of the six events: as in any start, with a partner that neither owns nor requests, and nothing left to settle.
pub record Stands (g : Stage) (p : Master) (s : Setting) (d : Device) : Type 0 where
  pub own : At ⊥ g p s d
  pub other : Silent (partner p) d
  pub ready : Ready d

fresh_stands : (p : Master) (s : Setting) (hold : ℕ) (d : Device) → Stands six p s (was_reset hold d)
unfolding was_reset fresh_side
fresh_stands Zero s hold d = record { own = (refl, refl); other = (refl, refl); ready = (((λ h. refl, λ h. refl, λ h. refl), refl), refl, refl) }
fresh_stands One s hold d = record { own = (refl, refl); other = (refl, refl); ready = (((λ h. refl, λ h. refl, λ h. refl), refl), refl, refl) }

pub call_stands : (p : Master) (s : Setting) (d : Device) → Stands six p s (next d (call p))
call_stands p s d = subst (Stands six p s) (sym (call_restores p d)) (fresh_stands p s (worth 35 (side p d).contr.swrst) d)

-- ---- up to the call

-- The call comes within xs: `from` is the device before it, `later` what follows it in xs, and ys follows xs.
pub record Called (p : Master) (s : Setting) (d : Device) (xs ys : List Raw) : Type 0 where
  pub from : Device
  pub later : List Raw
  pub swrst : (side p from).contr.swrst ≡ (side p d).contr.swrst
  pub whole : run_from d xs ≡ run_from (next from (call p)) later
  pub own : those (is_from (number p)) (later ++ ys) ≡ setting_events (number p) s
  pub others : those (is_alien p) (later ++ ys) ≡ []
  pub since : ticks_since (number p) d (xs ++ ys) ≡ ticks_in (next from (call p)) (later ++ ys)

-- the call is p's own
is_call : (p : Master) → is_from (number p) (call p) && eqb (call p).kind 9 ≡ true
unfolding decode
is_call Zero = refl
is_call One = refl

own_stop : (p : Master) → is_from (number p) (stop (number p)) ≡ true
unfolding decode
own_stop Zero = refl
own_stop One = refl

-- One STOP is all that is p's own of its last event.
pub last_own : (p : Master) → those (is_from (number p)) (stop (number p) ∷ []) ≡ stop (number p) ∷ []
unfolding those
last_own p = those_first (is_from (number p)) (stop (number p)) [] (own_stop p)

pub called : (p : Master) (s : Setting) (d : Device) (xs : List Raw) → let ys : List Raw = stop (number p) ∷ [] in
    those (is_from (number p)) (xs ++ ys) ≡ recipe p s → those (is_alien p) (xs ++ ys) ≡ [] → Called p s d xs ys
unfolding run_from ticks_since
called p s d [] e o = absurd (false≢true (ap (λ (r : Raw). eqb r.kind 9) (heads (sym (last_own p) ∙ e)).0))
called p s d (r ∷ xs) e o =
    let n : ℕ = number p in
    let ys : List Raw = stop n ∷ [] in
    let is : Raw → Bool = λ (x : Raw). is_from n x && eqb x.kind 9 in
    split (is_from n r)
    (λ h. let b = heads (sym (those_first (is_from n) r (xs ++ ys) h) ∙ e) in
    record {
      from = d;
      later = xs;
      swrst = refl;
      whole = ap (λ (x : Raw). run_from (next d x) xs) b.0;
      own = b.1;
      others = (those_none (is_alien p) r (xs ++ ys) o).1;
      since =
          if_true _ _ (ap is b.0 ∙ is_call p) ∙ ap (λ (x : Raw). ticks_in (next d x) (xs ++ ys)) b.0;
    })
    (λ h. let q = quiet_next p r (xs ++ ys) o h in
    let c = called p s (next d r) xs (sym (those_later (is_from n) r (xs ++ ys) h) ∙ e) q.1 in
    record {
      from = c.from;
      later = c.later;
      swrst = c.swrst ∙ ap (λ b. b.3) (left_by_others p r d (quiet_foreign p r d q.0)).bits;
      whole = c.whole;
      own = c.own;
      others = c.others;
      since = if_false _ _ (ap (λ (b : Bool). b && eqb r.kind 9) h) ∙ c.since;
    })

-- ---- from the call on

-- After the events xs, with ys to come: the stage, and no reset has come.
pub record Reached (p : Master) (s : Setting) (d : Device) (xs ys : List Raw) : Type 0 where
  pub stage : Stage
  pub events : those (is_from (number p)) ys ≡ left p s stage
  pub stands : Stands stage p s (run_from d xs)
  pub unreset : never reset d xs ≡ true

reached_on : (p : Master) (s : Setting) (r : Raw) (xs ys : List Raw) (d : Device) → reset r d ≡ false → Reached p s (next d r) xs ys
    → Reached p s d (r ∷ xs) ys
unfolding run_from never
reached_on p s r xs ys d ok a =
    record { stage = a.stage; events = a.events; stands = a.stands; unreset = ap₂ (λ (x y : Bool). not x && y) ok a.unreset }

pub walk : (p : Master) (s : Setting) (xs ys : List Raw) (d : Device) (g : Stage) → those (is_from (number p)) (xs ++ ys) ≡ left p s g
    → those (is_alien p) (xs ++ ys) ≡ [] → Stands g p s d → Reached p s d xs ys
unfolding run_from never
walk p s [] ys d g e o a = record { stage = g; events = e; stands = a; unreset = refl }
walk p s (r ∷ xs) ys d g e o a =
    let n : ℕ = number p in
    let m : Master = partner p in
    split (is_from n r)
    (λ h. let f = sym (those_first (is_from n) r (xs ++ ys) h) ∙ e in
    let l = own_leads ⊥ p s d g r (those (is_from n) (xs ++ ys)) f (λ q. absurd q) a.own in
    let away : Left m r d = left_by_others m r d (own_foreign p s g r (those (is_from n) (xs ++ ys)) d f) in
    reached_on p s r xs ys d away.unreset
    (walk p s xs ys (next d r) l.stage l.events (those_none (is_alien p) r (xs ++ ys) o).1
    (record { own = l.stands; other = silent_on m r d (away.request a.other.0) a.other; ready = ready_next r d a.ready })))
    (λ h. let q = quiet_next p r (xs ++ ys) o h in
    let near : Left p r d = left_by_others p r d (quiet_foreign p r d q.0) in
    let away : Left m r d = left_by_others m r d (quiet_foreign m r d q.0) in
    reached_on p s r xs ys d near.unreset
    (walk p s xs ys (next d r) g (sym (those_later (is_from n) r (xs ++ ys) h) ∙ e) q.1
    (record {
      own = others_keep ⊥ g p s r d near (λ x. absurd x) a.own;
      other = silent_on m r d (away.request a.other.0) a.other;
      ready = ready_next r d a.ready;
    })))

-- With the STOP alone to come, it is the stage before the last.
pub at_last : (p : Master) (s : Setting) (d : Device) (g : Stage) → stop (number p) ∷ [] ≡ left p s g → Stands g p s d → Stands one p s d
at_last p s d six e a = absurd (not_empty (sym (heads e).1))
at_last p s d five e a = absurd (not_empty (sym (heads e).1))
at_last p s d four e a = absurd (not_empty (sym (heads e).1))
at_last p s d three e a = absurd (not_empty (sym (heads e).1))
at_last p s d two e a = absurd (not_empty (sym (heads e).1))
at_last p s d one e a = a
at_last p s d none e a = absurd (not_empty e)
