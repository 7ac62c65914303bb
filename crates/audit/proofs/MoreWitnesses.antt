-- Every row of specs/MoreWitnesses.antt meets its premises: antt computes each. And they are the premises of the statement that the row is for:
-- with the statement, they give what it concludes.
-- Assumes nothing.
use Prim.Native.Nat.{◌≤◌}
use mathlib.Core.Path.{◌≡◌, refl, ap, ap₂, ◌∙◌, subst}
use mathlib.Core.Bool.{and-false}
use borrow.Author.Tests.{ltb-true, leb-true, eqb-true, not-true}
use Rattle.std.specs.Prelude.{◌+◌, ◌&&◌, ◌∷◌, ◌++◌}
use Rattle.ranges.specs.Names.{ℕ, Bool, true, false, not, List, [], Master, Zero, One, Kind, Pca9641, Tpt29641, Device, Raw}
use Rattle.arbiter.specs.Rules.{rules_of, limit_of}
use Rattle.arbiter.specs.Words.{worth, partner, side}
use Rattle.arbiter.specs.State.{owns, claims, connected, is_idle, bus_hung}
use Rattle.arbiter.specs.Registers.{own_written, mail_written, drives_written, turn_written}
use Rattle.arbiter.specs.Events.{decode, in_sequence}
use Rattle.arbiter.specs.Effects.{commanded, written, paired, was_read, lined, ticked, fresh_side, was_reset, power_up, effect}
use Rattle.arbiter.specs.Order.{levels, lost, losses_from, losses, cut_from, cut, winner, claim, granted, grant_from, grant, joined, clocked, kept_joined}
use Rattle.arbiter.specs.Order.{connect_from, connect}
use Rattle.arbiter.specs.Steps.{parts, refused, taken, step_event, step_decoded, step, run_from, run}
use Rattle.arbiter.specs.AuditWords.{next, resting, reserve_of, reset, withdrawal_of, grant_taken, ticks_in, never, throughout}
use Rattle.arbiter.specs.Audit.{IsNext}
use Rattle.audit.specs.Blocking.{times_in, ClaimantBlocks, ClaimantYields, LostIdle, StalledHolderKeeps, IdleTimerFromAnywhere, IdleTimerToPartner}
use Rattle.audit.specs.Blocking.{OvertakenOnce}
use Rattle.audit.specs.Freed.{held_reset, ResetFrees, ResetRemedies, ResetUnheld, ResetHolds}
use Rattle.audit.specs.Connection.{disconnection_of, cut_of, ConnectionExact, StaysConnected, TransferLasts, UnownedReleased, ConnectedReleased}
use Rattle.arbiter.specs.Witnesses.{sets_contr}
use Rattle.audit.specs.MoreWitnesses.{claimant_blocks, claimant_yields, yields_at_rest, yields_open, lost_idle, stalled_holder, hung_holder}
use Rattle.audit.specs.MoreWitnesses.{idle_timer_anywhere}
use Rattle.audit.specs.MoreWitnesses.{idle_timer_to_partner, overtaken, reset_frees, reset_remedies, reset_unheld, reset_holds, connection_kept}
use Rattle.audit.specs.MoreWitnesses.{connection_left}
use Rattle.audit.specs.MoreWitnesses.{connection_cut, stays_connected, transfer_lasts, unowned_released, connected_released, soft_reset_of, blocking_rows}
use Rattle.audit.specs.MoreWitnesses.{freed_rows, connection_rows, MoreWitnessesMeet}
use Rattle.arbiter.proofs.Witnesses.{Holds}

pub more_witnesses_meet : MoreWitnessesMeet
unfolding rules_of own_written mail_written drives_written turn_written
    decode in_sequence commanded written paired was_read lined ticked fresh_side was_reset power_up effect
    levels lost losses_from losses cut_from cut winner claim granted grant_from grant joined clocked kept_joined connect_from connect
    parts refused taken step_event step_decoded step run_from run
    ticks_in never throughout times_in blocking_rows freed_rows connection_rows
more_witnesses_meet Pca9641 = refl
more_witnesses_meet Tpt29641 = refl

-- ---- the tests of a row are the premises of its statement

pub claimant_blocks_met : ClaimantBlocks → (k : Kind) (m : Master) (rs : List Raw) (later : List Raw) → Holds (claimant_blocks k m rs later)
    → (claims m (run_from (run k rs) later) ≡ true) × (owns (partner m) (run_from (run k rs) later) ≡ false)
claimant_blocks_met told k m rs later (claim, (rest-not, (resets, (gone, (stops, _))))) =
    let both = told k m rs later claim (not-true (resting m (run k rs)) rest-not) resets gone stops in
    (both.0, both.1 (partner m))

yields_told : ClaimantYields → (k : Kind) (m : Master) (rs : List Raw) (r : Raw) → Holds (claimant_yields k m rs r)
    → IsNext (partner m) (next (run k rs) r)
yields_told told k m rs r (claim, (hold, (gone, (asks, _)))) = told k m rs r claim (eqb-true (run k rs).bus.hold 0 hold) gone asks

-- at rest it owns; with its port open it claims
pub yields_at_rest_met : ClaimantYields → (k : Kind) (m : Master) (rs : List Raw) (r : Raw) → Holds (yields_at_rest k m rs r)
    → owns (partner m) (next (run k rs) r) ≡ true
yields_at_rest_met told k m rs r (rest, premises) = (yields_told told k m rs r premises).0 rest

pub yields_open_met : ClaimantYields → (k : Kind) (m : Master) (rs : List Raw) (r : Raw) → Holds (yields_open k m rs r)
    → claims (partner m) (next (run k rs) r) ≡ true
unfolding run_from never
yields_open_met told k m rs r (rest-not, premises) =
    ((yields_told told k m rs r premises).1 (not-true (resting (partner m) (next (run k rs) r)) rest-not) [] refl refl refl).0

pub lost_idle_met : LostIdle → (k : Kind) (m : Master) (rs : List Raw) (r : Raw) → Holds (lost_idle k m rs r) → owns m (next (run k rs) r) ≡ true
lost_idle_met told k m rs r (own, (reset-not, (gone-not, (idle-not, _)))) =
    let d : Device = run k rs in
    told k m rs r own (not-true (reset r d) reset-not) (not-true (withdrawal_of m r d) gone-not) (not-true (is_idle (next d r).bus) idle-not)

pub stalled_holder_met : StalledHolderKeeps → (k : Kind) (m : Master) (rs : List Raw) (later : List Raw) → Holds (stalled_holder k m rs later)
    → owns m (run_from (run k rs) later) ≡ true
stalled_holder_met told k m rs later (own, (resets, (gone, (busy, _)))) = told k m rs later own resets gone busy

-- a hung bus leaves the grant
pub hung_holder_met : StalledHolderKeeps → (k : Kind) (m : Master) (rs : List Raw) (later : List Raw) → Holds (hung_holder k m rs later)
    → (owns m (run_from (run k rs) later) ≡ true) × (bus_hung (run_from (run k rs) later).bus ≡ true)
hung_holder_met told k m rs later (hung, premises) = (stalled_holder_met told k m rs later premises, hung)

pub idle_anywhere_met : IdleTimerFromAnywhere → (k : Kind) (m : Master) (rs : List Raw) (later : List Raw) → Holds (idle_timer_anywhere k m rs later)
    → throughout (owns m) (run k rs) later ≡ false
idle_anywhere_met told k m rs later (own, (none, (idle, (ticks, _)))) =
    let d : Device = run k rs in
    told k m rs later own (eqb-true (reserve_of m d) 0 none) idle (leb-true (limit_of k) (ticks_in d later) ticks)

pub idle_to_partner_met : IdleTimerToPartner → (k : Kind) (m : Master) (rs : List Raw) (later : List Raw) → Holds (idle_timer_to_partner k m rs later)
    → owns (partner m) (run_from (run k rs) later) ≡ true
idle_to_partner_met told k m rs later (asks, (rest, (own, (none, (idle, (ticks, _)))))) =
    let d : Device = run k rs in
    told k m rs later own (eqb-true (reserve_of m d) 0 none) idle (leb-true (limit_of k) (ticks_in d later) ticks) asks rest

-- a row with one new grant is at the bound: m claimed before
pub overtaken_met : OvertakenOnce → (k : Kind) (m : Master) (rs : List Raw) (later : List Raw) → Holds (overtaken 1 k m rs later)
    → 1 ≤ worth 1 (claims m (run k rs))
overtaken_met told k m rs later (asks, (once, _)) =
    subst (λ (n : ℕ). n ≤ worth 1 (claims m (run k rs))) (eqb-true (times_in (grant_taken m) (run k rs) later) 1 once) (told k m rs later asks)

pub reset_frees_met : ResetFrees → (m : Master) (d : Device) (r : Raw) → Holds (reset_frees d r)
    → (claims m (next d r) ≡ false) × (owns m (next d r) ≡ false)
reset_frees_met told m d r (reset-now, _) = let free = (told d r reset-now).0 m in (free.1, free.0)

pub reset_remedies_met : ResetRemedies → (k : Kind) (p : Master) (rs : List Raw) → Holds (reset_remedies k p rs)
    → owns p (run_from (run k rs) (soft_reset_of p ∷ sets_contr p 0x01)) ≡ true
reset_remedies_met told k p rs (off, _) = told (run k rs) p (not-true (side p (run k rs)).contr.swrst off)

pub reset_unheld_met : ResetUnheld → (k : Kind) (rs : List Raw) (r : Raw) (later : List Raw) → Holds (reset_unheld k rs r later)
    → (run_from (next (run k rs) r) later).bus.hold ≡ 0
reset_unheld_met told k rs r later (held, (reset-now, (asks-not, (resets, _)))) =
    told (run k rs) r later reset-now (not-true (held_reset r (run k rs)) asks-not) resets

pub reset_holds_met : ResetHolds → (k : Kind) (p : Master) (rs : List Raw) (r : Raw) (later : List Raw) (t : Raw)
    → Holds (reset_holds k p rs r later t)
    → let x : Device = run_from (next (run k rs) r) later in (owns p x ≡ false) × (owns p (next x t) ≡ true)
reset_holds_met told k p rs r later t (held, (resets, (few, (now, (last, (claim, (rest, _))))))) =
    let d : Device = next (run k rs) r in
    let three = told k rs r later held resets in
    (three.1 (ltb-true (ticks_in d later) 35 few) p, three.2 t p now (eqb-true (ticks_in d later + 1) 35 last) claim rest)

pub connection_kept_met : ConnectionExact → (k : Kind) (m : Master) (rs : List Raw) (r : Raw) → Holds (connection_kept k m rs r)
    → connected m (next (run k rs) r) ≡ true
connection_kept_met told k m rs r (on, (own, (off-not, (cut-not, _)))) =
    told k m rs r on ∙ ap₂ ◌&&◌ (ap₂ ◌&&◌ own off-not) cut-not

pub connection_left_met : ConnectionExact → (k : Kind) (m : Master) (rs : List Raw) (r : Raw) → Holds (connection_left k m rs r)
    → connected m (next (run k rs) r) ≡ false
connection_left_met told k m rs r (on, (own, (off, _))) =
    told k m rs r on ∙ ap₂ (λ (a b : Bool). a && not b && not (cut_of m r (run k rs))) own off

pub connection_cut_met : ConnectionExact → (k : Kind) (m : Master) (rs : List Raw) (r : Raw) → Holds (connection_cut k m rs r)
    → connected m (next (run k rs) r) ≡ false
connection_cut_met told k m rs r (on, (own, (cut-now, _))) =
    let d : Device = run k rs in
    told k m rs r on
    ∙ ap (λ (b : Bool). owns m (next d r) && not (disconnection_of m r d) && not b) cut-now
    ∙ and-false (owns m (next d r) && not (disconnection_of m r d))

pub stays_connected_met : StaysConnected → (k : Kind) (m : Master) (rs : List Raw) (later : List Raw) → Holds (stays_connected k m rs later)
    → connected m (run_from (run k rs) later) ≡ true
stays_connected_met told k m rs later (on, (own, (off, (cuts, _)))) = told k m rs later on own off cuts

pub transfer_lasts_met : TransferLasts → (k : Kind) (m : Master) (rs : List Raw) (r : Raw) (before : List Raw) (later : List Raw)
    → Holds (transfer_lasts k m rs r before later) → connected m (run_from (run_from (next (run k rs) r) before) later) ≡ true
transfer_lasts_met told k m rs r before later (taken-now, (on, (ticks, (resets, (gone, (off, (cuts, _))))))) =
    let d : Device = next (run k rs) r in
    told k m rs r before later taken-now on (ltb-true (ticks_in d (before ++ later)) (reserve_of m d) ticks) resets gone off cuts

pub unowned_released_met : UnownedReleased → (k : Kind) (rs : List Raw) (r : Raw) → Holds (unowned_released k rs r)
    → ((run k (rs ++ r ∷ [])).bus.drivescl ≡ true) × ((run k (rs ++ r ∷ [])).bus.drivesda ≡ true)
unowned_released_met told k rs r (zero, (one, _)) = told k (rs ++ r ∷ []) none
  where
    none : (m : Master) → owns m (run k (rs ++ r ∷ [])) ≡ false
    none Zero = not-true (owns Zero (run k (rs ++ r ∷ []))) zero
    none One = not-true (owns One (run k (rs ++ r ∷ []))) one

pub connected_released_met : ConnectedReleased → (k : Kind) (m : Master) (rs : List Raw) (r : Raw) → Holds (connected_released k m rs r)
    → ((run k (rs ++ r ∷ [])).bus.drivescl ≡ true) × ((run k (rs ++ r ∷ [])).bus.drivesda ≡ true)
connected_released_met told k m rs r (own, (on, _)) = told k m (rs ++ r ∷ []) own on
