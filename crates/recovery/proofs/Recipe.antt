-- The way back as stated: p has the bus at its last STOP or at the end of the hold, and the wait that follows is that of any start.
-- Assumes nothing.
use Prim.Native.Nat.{◌-◌}
use mathlib.Core.Path.{◌≡◌, refl, sym, ap, ap₂, ◌∙◌, subst}
use mathlib.Core.List.{append-nil}
use native.Mathlib.Nat.{zero-sub}
use Rattle.std.specs.Prelude.{◌∷◌, ◌++◌, if◌then◌else◌}
use Rattle.ranges.specs.Names.{ℕ, Bool, true, false, List, [], Master, Device, Raw}
use Rattle.arbiter.specs.Words.{worth, side}
use Rattle.arbiter.specs.State.{at_rest}
use Rattle.arbiter.specs.Effects.{was_reset, power_up}
use Rattle.arbiter.specs.Steps.{run_from, run}
use Rattle.arbiter.specs.AuditWords.{next}
use Rattle.arbiter.specs.Marks.{stop, tick, times}
use Rattle.arbiter.specs.Witnesses.{number}
use Rattle.audit.specs.WaitAsSet.{is_within}
use Rattle.sheets.specs.declared.Setting.{Setting}
use Rattle.guarantee.specs.Starts.{those}
use Rattle.recovery.specs.Recipe.{is_from, Recovers, HasBus, ticks_since, RecoveryRecipe, RecoveryHeld, RecoveryHold, RecoveryGuarantees}
use Rattle.recovery.specs.Recipe.{RecoveryGuaranteesWithin}
use Rattle.arbiter.proofs.Choice.{owns_turn_lem}
use Rattle.arbiter.proofs.Runs.{from_append}
use Rattle.arbiter.proofs.Tenure.{run_owned}
use Rattle.audit.proofs.Freed.{hold_run, ready_next}
use Rattle.audit.proofs.WaitAsSet.{never_beyond, within_self, wait_as_set}
use Rattle.guarantee.proofs.StartOthers.{left_by_others}
use Rattle.guarantee.proofs.StartOwn.{stops}
use Rattle.guarantee.proofs.StartStages.{six, one, silent_on}
use Rattle.recovery.proofs.RecipeRaws.{is_alien, own_foreign}
use Rattle.recovery.proofs.RecipeWalk.{call, call_restores, call_stands, Called, called, last_own, walk, Stands, at_last}
use Rattle.recovery.proofs.RecipeEnd.{Lot, lot, ends, held}

-- ---- the last STOP

stopped : (p : Master) (s : Setting) (d : Device) → Stands one p s d → Lot p s (next d (stop (number p)))
stopped p s d a =
    let r : Raw = stop (number p) in
    let own = a.own in
    let c = stops p d (ap (λ x. at_rest x.2) own.1) in
    let away = left_by_others _ r d (own_foreign p s one r [] d refl) in
    lot p s r d own.0.0
    (record {
      request = c.1.request own.0.0 ∙ own.0.1;
      rest = c.0;
      set = (c.1.rt ∙ own.2.0, c.1.bits ∙ own.2.1);
      other = silent_on _ r d (away.request a.other.0) a.other;
      ready = ready_next r d a.ready;
    })

module _ (d : Device) (p : Master) (s : Setting) (rs : List Raw) (h : Recovers p s rs) where
  abbrev last : List Raw
  last = stop (number p) ∷ []

  -- the call, and what follows
  the_call : Called p s d h.before last
  the_call = called p s d h.before (ap (those (is_from (number p))) (sym h.whole) ∙ h.own) (ap (those (is_alien p)) (sym h.whole) ∙ h.others)

  abbrev y : Device
  y = next the_call.from (call p)

  -- the last STOP comes after the rest
  split_last : run_from d rs ≡ run_from (run_from y the_call.later) last
  split_last = ap (run_from d) h.whole ∙ from_append h.before last d ∙ ap (λ (x : Device). run_from x last) the_call.whole

  before_last : Stands one p s (run_from y the_call.later)
  before_last =
      let c = the_call in
      let w = walk p s c.later last y six c.own c.others (call_stands p s c.from) in
      at_last p s _ w.stage (sym (last_own p) ∙ w.events) w.stands

  lot_then : Lot p s (run_from d rs)
  unfolding run_from
  lot_then = subst (Lot p s) (sym split_last) (stopped p s (run_from y the_call.later) before_last)

pub recovery_recipe : RecoveryRecipe
recovery_recipe d p s rs h = ends p s (run_from d rs).bus.hold (run_from d rs) refl (lot_then d p s rs h)

pub recovery_held : RecoveryHeld
recovery_held d p s rs later h e up = held p s later (run_from d rs) e up (lot_then d p s rs h)

-- ---- the hold

hold_fresh : (n : ℕ) (d : Device) → (was_reset n d).bus.hold ≡ n
unfolding was_reset
hold_fresh n d = refl

less : (b : Bool) (n : ℕ) → worth 35 b - n ≡ (if b then 35 - n else 0)
less true n = refl
less false n = zero-sub n

pub recovery_hold : RecoveryHold
recovery_hold d p s rs h =
    let c = the_call d p s rs h in
    let z : Device = next c.from (call p) in
    let all : List Raw = c.later ++ stop (number p) ∷ [] in
    let w = walk p s all [] z six (ap (those (is_from (number p))) (append-nil all) ∙ c.own) (ap (those (is_alien p)) (append-nil all) ∙ c.others)
    (call_stands p s c.from) in
    let first : z.bus.hold ≡ worth 35 (side p d).contr.swrst =
    ap (λ (x : Device). x.bus.hold) (call_restores p c.from) ∙ hold_fresh _ c.from ∙ ap (worth 35) c.swrst in
    ap (λ (x : Device). x.bus.hold) (split_last d p s rs h ∙ sym (from_append c.later (stop (number p) ∷ []) z))
    ∙ hold_run all z w.unreset
    ∙ ap₂ (λ (n k : ℕ). n - k) first (sym c.since ∙ ap (ticks_since (number p) d) (sym h.whole))
    ∙ less (side p d).contr.swrst (ticks_since (number p) d rs)

-- ---- the wait

-- With the bus p owns, so no hold runs, and its RT is its reserve.
pub recovery_guarantees_within : RecoveryGuaranteesWithin
recovery_guarantees_within k rs p s has past later most more within nr ns long =
    let turn = owns_turn_lem p (run k rs).arb.turn has.owner in
    wait_as_set k p rs past later most more (ap (is_within most) has.reserve ∙ within) (run_owned k rs p turn.0 turn.1).hold nr ns long

pub recovery_guarantees : RecoveryGuarantees
unfolding run
recovery_guarantees k before rs p s h past later more some nr ns long =
    let d : Device = run k before in
    let hold : ℕ = (run k (before ++ rs)).bus.hold in
    let all : List Raw = before ++ rs ++ times hold tick in
    let x : Device = run_from d rs in
    let joined : run k (before ++ rs) ≡ x = from_append before rs (power_up k) in
    let same : run k all ≡ run_from x (times x.bus.hold tick) =
    from_append (before ++ rs) (times hold tick) (power_up k) ∙ ap (λ (y : Device). run_from y (times y.bus.hold tick)) joined in
    let has : HasBus p s (run k all) = subst (HasBus p s) (sym same) (recovery_recipe d p s rs h).1 in
    let most : ℕ = s.reserve in
    recovery_guarantees_within k all p s has past later most more (within_self most some) nr (never_beyond most p (past ++ later) (run k all) ns) long
