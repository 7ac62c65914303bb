-- Every row of specs/Witnesses.antt meets its premises: antt computes each. And they are the premises of the statement that the row is for:
-- with the statement, they give what it concludes.
-- Assumes nothing.
use mathlib.Core.Path.{◌≡◌, refl, ap, ◌∙◌}
use mathlib.Core.Bool.{Bool, true, false, not, ◌&&◌, false≢true, and-eq-true_iff}
use borrow.Author.Tests.{ltb-true, leb-true, eqb-true, not-true}
use Rattle.std.specs.Prelude.{◌+◌, ◌∷◌, ◌++◌}
use Rattle.arbiter.specs.Types.{ℕ, List, [], eqb, Master, Zero, One, Apart, Kind, Pca9641, Tpt29641, Device, Raw, Event, Command}
use Rattle.arbiter.specs.Types.{Write, Read, Stop, Pair, Lines, Tick, Pulse, Reset, GeneralCall, Result, Event, Unread, Ok, Err, UnknownKind, BadField}
use Rattle.arbiter.specs.Rules.{rules_of, limit_of}
use Rattle.arbiter.specs.Words.{byte_of, partner, same_master}
use Rattle.arbiter.specs.Registers.{contr_byte, status_byte, register_byte, is_asserted, own_written, mail_written, drives_written, turn_written}
use Rattle.arbiter.specs.Events.{decode, in_sequence, acknowledged, outcome}
use Rattle.arbiter.specs.Effects.{commanded, written, paired, was_read, lined, ticked, fresh_side, was_reset, power_up, effect}
use Rattle.arbiter.specs.Order.{levels, lost, losses_from, losses, cut_from, cut, winner, claim, granted, grant_from, grant, joined, clocked, kept_joined}
use Rattle.arbiter.specs.Order.{connect_from, connect}
use Rattle.arbiter.specs.Steps.{parts, owner_byte, lines_byte, byte_read, refused, taken, step_event, step_decoded, step, run_from, run}
use Rattle.arbiter.specs.AuditWords.{next, reserve_of, idle_timer_on, is_stop_of, accepted_as, resting, reset, withdrawal_of, is_accepted, levelled, ticks_in}
use Rattle.arbiter.specs.AuditWords.{never, throughout}
use Rattle.arbiter.specs.State.{owns, is_idle, claims}
use Rattle.arbiter.specs.Audit.{OneConnected, ApartUnowned, ResetEnds, ReserveLasts, ReserveEnds, ReserveExact, PartnerNext, PartnerInTime}
use Rattle.arbiter.specs.Audit.{PartnerInTimeThroughout, HeldUntilLetGo, IdleTimerExact, IdleTimerEnds, RefusedUnchanged}
use Rattle.arbiter.specs.Witnesses.{one_connected, apart_unowned, reset_ends, reserve_lasts, reserve_ends, reserve_exact, exact_idle, exact_busy, next_at_rest}
use Rattle.arbiter.specs.Witnesses.{next_at_stop, partner_in_time, partner_in_time_throughout, held_until_let_go, idle_timer_exact, idle_timer_ends}
use Rattle.arbiter.specs.Witnesses.{refused_unchanged}
use Rattle.arbiter.specs.Witnesses.{all_met, witnesses_of, WitnessesMeet}

pub witnesses_meet : WitnessesMeet
unfolding rules_of byte_of contr_byte status_byte register_byte is_asserted own_written mail_written drives_written turn_written
    decode in_sequence acknowledged outcome commanded written paired was_read lined ticked fresh_side was_reset power_up effect
    levels lost losses_from losses cut_from cut winner claim granted grant_from grant joined clocked kept_joined connect_from connect
    parts owner_byte lines_byte byte_read refused taken step_event step_decoded step run_from run
    ticks_in never throughout witnesses_of
witnesses_meet Pca9641 = refl
witnesses_meet Tpt29641 = refl

-- ---- the tests of a row are the premises of its statement

abbrev pub Holds : List Bool → Type 0
Holds [] = Unit {0}
Holds (b ∷ bs) = (b ≡ true) × Holds bs

-- what is computed of a row says that each of its tests holds
pub met_holds : (bs : List Bool) → all_met bs ≡ true → Holds bs
met_holds [] h = tt
met_holds (b ∷ bs) h =
    let two = (and-eq-true_iff b (all_met bs)).0 h in
    (two.0, met_holds bs two.1)

-- and so, by the statement, what it concludes
pub one_connected_met : OneConnected → (k : Kind) (m : Master) (rs : List Raw) → Holds (one_connected k m rs) → owns m (run k rs) ≡ true
one_connected_met told k m rs (c, _) = (told k rs m c).0

pub apart_unowned_met : ApartUnowned → (k : Kind) (rs : List Raw) → Holds (apart_unowned k rs) → (run k rs).arb.switch ≡ Apart
apart_unowned_met told k rs (zero, (one, _)) = told k rs none
  where
    none : (m : Master) → owns m (run k rs) ≡ false
    none Zero = not-true (owns Zero (run k rs)) zero
    none One = not-true (owns One (run k rs)) one

pub reset_ends_met : ResetEnds → (m : Master) (d : Device) (r : Raw) → Holds (reset_ends m d r) → owns m (next d r) ≡ false
reset_ends_met told m d r (own, (reset-now, _)) = told m d r reset-now

pub reserve_lasts_met : ReserveLasts → (k : Kind) (m : Master) (rs : List Raw) (r : Raw) (later : List Raw) → Holds (reserve_lasts k m rs r later)
    → owns m (run_from (next (run k rs) r) later) ≡ true
reserve_lasts_met told k m rs r later (taken, (ticks, (resets, (gone, _)))) =
    let d : Device = next (run k rs) r in
    told k m rs r later taken (ltb-true (ticks_in d later) (reserve_of m d) ticks) resets gone

pub reserve_ends_met : ReserveEnds → (k : Kind) (m : Master) (rs : List Raw) (r : Raw) (later : List Raw) (t : Raw) → Holds (reserve_ends k m rs r later t)
    → owns m (next (run_from (next (run k rs) r) later) t) ≡ false
reserve_ends_met told k m rs r later t (taken, (ticks, (now, (resets, (gone, (idle, _)))))) =
    let d : Device = next (run k rs) r in
    told k m rs r later t taken (eqb-true (ticks_in d later + 1) (reserve_of m d) ticks) now resets gone idle

exact_told : ReserveExact → (k : Kind) (m : Master) (rs : List Raw) (r : Raw) (later : List Raw) (e : Raw) → Holds (reserve_exact k m rs r later e)
    → let end : Device = next (run_from (next (run k rs) r) later) e in owns m end ≡ not (is_idle end.bus)
exact_told told k m rs r later e (taken, (own, (some, (ticks, (reset-not, (gone-not, _)))))) =
    let d : Device = next (run k rs) r in
    let x : Device = run_from d later in
    told k m rs r later e taken own (ltb-true 0 (reserve_of m d) some) (leb-true (reserve_of m d) (ticks_in d (later ++ e ∷ [])) ticks)
    (not-true (reset e x) reset-not) (not-true (withdrawal_of m e x) gone-not)

-- at an event after which the bus is idle m does not own, and at one after which it is not m does
pub exact_idle_met : ReserveExact → (k : Kind) (m : Master) (rs : List Raw) (r : Raw) (later : List Raw) (e : Raw) → Holds (exact_idle k m rs r later e)
    → owns m (next (run_from (next (run k rs) r) later) e) ≡ false
exact_idle_met told k m rs r later e (idle, premises) = exact_told told k m rs r later e premises ∙ ap not idle

pub exact_busy_met : ReserveExact → (k : Kind) (m : Master) (rs : List Raw) (r : Raw) (later : List Raw) (e : Raw) → Holds (exact_busy k m rs r later e)
    → owns m (next (run_from (next (run k rs) r) later) e) ≡ true
exact_busy_met told k m rs r later e (busy, premises) = exact_told told k m rs r later e premises ∙ busy

pub next_at_rest_met : PartnerNext → (k : Kind) (m : Master) (rs : List Raw) (r : Raw) → Holds (next_at_rest k m rs r) → owns (partner m) (next (run k rs) r)
    ≡ true
next_at_rest_met told k m rs r (rest, (ended, (resets, (asks, _)))) = (told k m rs r ended (not-true (reset r (run k rs)) resets) asks).0 rest

-- four bytes that are accepted as p's STOP read as p's STOP
same_stop : (p k : Master) → same_master p k ≡ true → Stop k ≡ Stop p
same_stop Zero Zero h = refl
same_stop Zero One h = absurd (false≢true h)
same_stop One Zero h = absurd (false≢true h)
same_stop One One h = refl

event_stop : (p : Master) (e : Event) → is_stop_of p e ≡ true → e ≡ Stop p
event_stop p (Command k c) h = absurd (false≢true h)
event_stop p (Write k v) h = absurd (false≢true h)
event_stop p (Read k) h = absurd (false≢true h)
event_stop p (Stop k) h = same_stop p k h
event_stop p (Pair v0 v1) h = absurd (false≢true h)
event_stop p (Lines scl sda intin) h = absurd (false≢true h)
event_stop p Tick h = absurd (false≢true h)
event_stop p (Pulse sda) h = absurd (false≢true h)
event_stop p Reset h = absurd (false≢true h)
event_stop p (GeneralCall k b) h = absurd (false≢true h)

decoded_stop : (p : Master) (x : Result Event Unread) (d : Device) → accepted_as (λ (e : Event) (y : Device). is_stop_of p e) x d ≡ true → x ≡ Ok (Stop p)
decoded_stop p (Ok e) d h = ap Ok (event_stop p e ((and-eq-true_iff (in_sequence e d) (is_stop_of p e)).0 h).1)
decoded_stop p (Err UnknownKind) d h = absurd (false≢true h)
decoded_stop p (Err BadField) d h = absurd (false≢true h)

pub next_at_stop_met : PartnerNext → (k : Kind) (m : Master) (rs : List Raw) (r : Raw) (later : List Raw) (t : Raw) → Holds (next_at_stop k m rs r later t)
    → let w : Device = run_from (next (run k rs) r) later in (claims (partner m) w ≡ true) × (owns (partner m) (next w t) ≡ true)
next_at_stop_met told k m rs r later t (busy, (resets, (gone, (stops, (stop, (ended, (reset-not, (asks, _)))))))) =
    let p : Master = partner m in
    let d : Device = next (run k rs) r in
    let is_next = (told k m rs r ended (not-true (reset r (run k rs)) reset-not) asks).1 (not-true (resting p d) busy) later resets gone stops in
    (is_next.0, is_next.1 t (decoded_stop p (decode t) (run_from d later) stop))

pub partner_in_time_met : PartnerInTime → (k : Kind) (m : Master) (rs : List Raw) (r : Raw) (later : List Raw) (t : Raw)
    → Holds (partner_in_time k m rs r later t)
    → owns (partner m) (next (run_from (next (run k rs) r) later) t) ≡ true
partner_in_time_met told k m rs r later t (taken, (ticks, (now, (resets, (gone, (asks, (idle, (rest, _)))))))) =
    let d : Device = next (run k rs) r in
    told k m rs r later t taken (eqb-true (ticks_in d later + 1) (reserve_of m d) ticks) now resets gone asks idle rest

pub partner_in_time_throughout_met : PartnerInTimeThroughout → (k : Kind) (m : Master) (rs : List Raw) (r : Raw) (later : List Raw) (t : Raw)
    → Holds (partner_in_time_throughout k m rs r later t) → owns (partner m) (next (run_from (next (run k rs) r) later) t) ≡ true
partner_in_time_throughout_met told k m rs r later t (taken, (ticks, (now, (resets, (asks, (idle, (rest, _))))))) =
    let d : Device = next (run k rs) r in
    told k m rs r later t taken (eqb-true (ticks_in d later + 1) (reserve_of m d) ticks) now resets asks idle rest

pub held_until_let_go_met : HeldUntilLetGo → (k : Kind) (m : Master) (rs : List Raw) (r : Raw) (later : List Raw) → Holds (held_until_let_go k m rs r later)
    → owns m (run_from (next (run k rs) r) later) ≡ true
held_until_let_go_met told k m rs r later (taken, (none, (resets, (gone, (off, _))))) =
    told k m rs r later taken (eqb-true (reserve_of m (next (run k rs) r)) 0 none) resets gone off

pub idle_timer_exact_met : IdleTimerExact → (k : Kind) (m : Master) (rs : List Raw) (r : Raw) → Holds (idle_timer_exact k m rs r)
    → let d : Device = run k rs in owns m (next d r) ≡ not (idle_timer_on m (levelled r d) && eqb (levelled r d).bus.idle (limit_of k))
idle_timer_exact_met told k m rs r (owner, (none, (reset-not, (gone-not, _)))) =
    let d : Device = run k rs in
    told k m rs r owner (eqb-true (reserve_of m d) 0 none) (not-true (reset r d) reset-not) (not-true (withdrawal_of m r d) gone-not)

pub idle_timer_ends_met : IdleTimerEnds → (k : Kind) (m : Master) (rs : List Raw) (r : Raw) (later : List Raw) (t : Raw)
    → Holds (idle_timer_ends k m rs r later t)
    → let w : Device = run_from (next (run k rs) r) later in (owns m w ≡ true) × (owns m (next w t) ≡ false)
idle_timer_ends_met told k m rs r later t (taken, (none, (resets, (gone, (idle, (ticks, (now, (last, _)))))))) =
    let d : Device = next (run k rs) r in
    let ends = told k m rs r later taken (eqb-true (reserve_of m d) 0 none) resets gone idle (ltb-true (ticks_in d later) (limit_of k) ticks) in
    (ends.0, ends.1 t now (eqb-true (ticks_in d later + 1) (limit_of k) last))

pub refused_unchanged_met : RefusedUnchanged → (n : ℕ) (d : Device) (r : Raw) → Holds (refused_unchanged n d r) → next d r ≡ d
refused_unchanged_met told n d r (refused-not, _) = told d r (not-true (is_accepted r d) refused-not)
