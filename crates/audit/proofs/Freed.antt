-- What a reset leaves: the fresh device with the outside levels and the hold, and a hold that bars every grant until its last tick.
-- Assumes nothing.
use Prim.Native.Nat.{◌<◌}
use mathlib.Core.Path.{◌≡◌, refl, sym, ap, ap₂, ◌∙◌, subst}
use mathlib.Core.Bool.{false≢true, and-eq-true_iff}
use native.Mathlib.Nat.{sub-zero, not-suc-le-zero}
use native.Mathlib.Omega.{arith}
use borrow.Author.Tests.{eq-eqb}
use Rattle.std.specs.Prelude.{◌-◌, ◌&&◌, ◌||◌, ◌∷◌, if◌then◌else◌}
use Rattle.ranges.specs.Names.{ℕ, Bool, true, false, List, [], eqb, Master, Zero, One, Claims, Owns, Apart, Clock, Bus, Device, Raw}
use Rattle.ranges.specs.Names.{Event, Command, Write, Read, Stop, Pair, Lines, Tick, Pulse, Reset, GeneralCall}
use Rattle.arbiter.specs.Words.{worth, of, side}
use Rattle.arbiter.specs.State.{owns, claims, is_idle, scl_high, sda_high}
use Rattle.arbiter.specs.Events.{decode, in_sequence, soft_reset}
use Rattle.arbiter.specs.Registers.{own_written, mail_written, drives_written, turn_written}
use Rattle.arbiter.specs.Effects.{commanded, written, fresh_side, fresh_bus, fresh_arb, ticked, was_reset, hold_ticks, effect}
use Rattle.arbiter.specs.Order.{is_reset, is_tick, clock_of, scl_changed, levels, losses_from, losses, cut_from, cut, claim, granted, grant_from, grant}
use Rattle.arbiter.specs.Order.{connect_from}
use Rattle.arbiter.specs.Order.{connect}
use Rattle.arbiter.specs.Steps.{parts, refused, taken, step_event, step_decoded, step, run_from, run}
use Rattle.arbiter.specs.AuditWords.{next, requests, resting, reset, tick, ticks_in, never}
use Rattle.arbiter.specs.Marks.{general_call, sets}
use Rattle.audit.specs.Freed.{asks_hold, held_reset, ResetFrees, ResetRestores, ResetRemedies, ResetUnheld, ResetHolds}
use Rattle.arbiter.proofs.Choice.{split, if_true, owns_turn_lem, turn_owns}
use Rattle.arbiter.proofs.Cases.{step_keeps, run_keeps}
use Rattle.arbiter.proofs.Runs.{never_comes}
use Rattle.arbiter.proofs.Effects.{counts, effect_counts}
use Rattle.arbiter.proofs.Raws.{refuses, takes, met, taken_tick}
use Rattle.arbiter.proofs.Settled.{Ready, parts_ready, all_ready}
use Rattle.arbiter.proofs.Idle.{parts_bus}
use Rattle.arbiter.proofs.Tenure.{Owned, next_owned, run_owned}
use Rattle.audit.proofs.Blocking.{claims_turn_lem, claimant_asks, claim_goes}

-- ---- the device that a reset leaves

-- Part 2 leaves a fresh device as it is: its counts are 0 already,
either_way : (b : Bool) (n : ℕ) → (if b then n else n) ≡ n
either_way true n = refl
either_way false n = refl

levels_fresh : (hold : ℕ) (before : Bus) (d : Device) → levels true before (was_reset hold d) ≡ was_reset hold d
unfolding levels was_reset
levels_fresh hold before d =
    let b : Bus = fresh_bus hold d.bus in
    λ i. record {
      side0 = fresh_side;
      side1 = fresh_side;
      bus = record {
        outscl = d.bus.outscl;
        outsda = d.bus.outsda;
        intin = d.bus.intin;
        drivescl = true;
        drivesda = true;
        busy = false;
        hold = hold;
        idle = either_way (is_idle b) 0 i;
        lowscl = either_way (scl_high b) 0 i;
        lowsda = either_way (sda_high b || scl_changed before b) 0 i;
      };
      arb = fresh_arb;
      kind = d.kind;
    }

-- and so do parts 3 to 7: nobody requests.
rest_fresh : (c : Clock) (on : Bool) (hold : ℕ) (d : Device) → connect c (grant (claim (cut on (losses (was_reset hold d))))) ≡ was_reset hold d
unfolding connect connect_from grant grant_from claim cut cut_from losses losses_from was_reset fresh_side
rest_fresh c on hold d = refl

fresh_parts : (e : Event) (hold : ℕ) (d : Device) → is_reset e ≡ true → effect e d ≡ was_reset hold d → parts e d ≡ was_reset hold d
unfolding parts
fresh_parts e hold d h w =
    ap (λ (x : Device). connect (clock_of e) (grant (claim (cut (is_tick e) (losses x)))))
    (ap₂ (λ (reset : Bool) (x : Device). levels reset d.bus x) h w ∙ levels_fresh hold d.bus d)
    ∙ rest_fresh (clock_of e) (is_tick e) hold d

-- A reset's own effect, and so its whole step.
pub reset_whole : (e : Event) (d : Device) → is_reset e ≡ true → parts e d ≡ was_reset (worth hold_ticks (asks_hold e d)) d
unfolding effect
reset_whole (Command m c) d h = absurd (false≢true h)
reset_whole (Write m v) d h = absurd (false≢true h)
reset_whole (Read m) d h = absurd (false≢true h)
reset_whole (Stop m) d h = absurd (false≢true h)
reset_whole (Pair v0 v1) d h = absurd (false≢true h)
reset_whole (Lines scl sda intin) d h = absurd (false≢true h)
reset_whole Tick d h = absurd (false≢true h)
reset_whole (Pulse sda) d h = absurd (false≢true h)
reset_whole Reset d h = fresh_parts Reset 0 d h refl
reset_whole (GeneralCall m b) d h =
    fresh_parts (GeneralCall m b) (worth hold_ticks (soft_reset b && (side m d).contr.swrst)) d h
    (if_true _ d h ∙ ap (λ (x : Bool). was_reset (worth hold_ticks (x && (side m d).contr.swrst)) d) (sym h))

pub reset_restores : ResetRestores
reset_restores d r h =
    elim (met r d) [
      | refuses x ↦ absurd (false≢true (sym (x.none λ f y. is_reset f) ∙ h))
      | takes e x ↦
          (x.after ∙ reset_whole e d (sym (x.same λ f y. is_reset f) ∙ h)
          ∙ ap (λ (b : Bool). was_reset (worth hold_ticks b) d) (sym (x.same asks_hold)))
    ]

-- ---- whom it frees

abbrev Free : Device → Type 0
Free x =
    ((m : Master) → (owns m x ≡ false) × (claims m x ≡ false) × (requests m x ≡ false) × (resting m x ≡ true))
    × (x.arb.switch ≡ Apart) × (x.bus.drivescl ≡ true) × (x.bus.drivesda ≡ true)

fresh_free : (hold : ℕ) (d : Device) → Free (was_reset hold d)
unfolding was_reset fresh_side
fresh_free hold d = (each, refl, refl, refl)
  where
    x : Device
    x = was_reset hold d

    each : (m : Master) → (owns m x ≡ false) × (claims m x ≡ false) × (requests m x ≡ false) × (resting m x ≡ true)
    each Zero = (refl, refl, refl, refl)
    each One = (refl, refl, refl, refl)

pub reset_frees : ResetFrees
reset_frees d r h = subst Free (sym (reset_restores d r h)) (fresh_free (worth hold_ticks (held_reset r d)) d)

-- Three events of one master, from a fresh device with no hold: COMMAND 01h, WRITE 01h, STOP.
fresh_asks : (p : Master) (d : Device) → owns p (run_from (was_reset 0 d) (sets (of p 0 1) 1 0x01)) ≡ true
unfolding decode in_sequence commanded own_written mail_written drives_written turn_written written effect fresh_side was_reset
    levels losses_from losses cut_from cut claim granted grant_from grant connect_from connect parts refused taken step_event step_decoded step run_from
fresh_asks Zero d = refl
fresh_asks One d = refl

-- and the soft reset before them
soft_reset_lem : (p : Master) (d : Device)
    → (reset (general_call (of p 0 1) 0x06) d ≡ true) × (held_reset (general_call (of p 0 1) 0x06) d ≡ (side p d).contr.swrst)
unfolding decode in_sequence
soft_reset_lem Zero d = (refl, refl)
soft_reset_lem One d = (refl, refl)

pub reset_remedies : ResetRemedies
unfolding run_from
reset_remedies d p off =
    let soft = soft_reset_lem p d in
    ap (λ (x : Device). owns p (run_from x (sets (of p 0 1) 1 0x01)))
    (reset_restores d (general_call (of p 0 1) 0x06) soft.0 ∙ ap (λ (b : Bool). was_reset (worth hold_ticks b) d) (soft.1 ∙ off))
    ∙ fresh_asks p d

-- ---- the hold

-- Without a reset a tick takes one from the hold, and nothing else changes it.
pub hold_next : (r : Raw) (d : Device) → reset r d ≡ false → (next d r).bus.hold ≡ d.bus.hold - worth 1 (tick r d)
unfolding levels ticked
hold_next r d ok =
    elim (met r d) [
      | refuses x ↦
          (ap (λ (n : Device). n.bus.hold) x.after
          ∙ sym (sub-zero d.bus.hold)
          ∙ sym (ap (λ (b : Bool). d.bus.hold - worth 1 b) (x.none λ f y. is_tick f)))
      | takes e x ↦
          (ap (λ (n : Device). n.bus.hold) x.after
          ∙ ap (λ (b : Bus). b.hold) (parts_bus e d)
          ∙ ap (λ c. c.0) (effect_counts e d (sym (x.same λ f y. is_reset f) ∙ ok))
          ∙ go (is_tick e)
          ∙ sym (ap (λ (b : Bool). d.bus.hold - worth 1 b) (x.same λ f y. is_tick f)))
    ]
  where
    go : (b : Bool) → (if b then counts (ticked d) else counts d).0 ≡ d.bus.hold - worth 1 b
    go true = refl
    go false = sym (sub-zero d.bus.hold)

-- So over any events from any device.
pub hold_run : (rs : List Raw) (d : Device) → never reset d rs ≡ true → (run_from d rs).bus.hold ≡ d.bus.hold - ticks_in d rs
unfolding run_from ticks_in
hold_run [] d nr = sym (sub-zero d.bus.hold)
hold_run (r ∷ rs) d nr =
    let ok = never_comes reset r rs d nr in
    let first : (next d r).bus.hold ≡ d.bus.hold - worth 1 (tick r d) = hold_next r d ok.0 in
    let rest : (run_from (next d r) rs).bus.hold ≡ (next d r).bus.hold - ticks_in (next d r) rs = hold_run rs (next d r) ok.1 in
    omega arith

fresh_hold : (hold : ℕ) (d : Device) → (was_reset hold d).bus.hold ≡ hold
unfolding was_reset
fresh_hold hold d = refl

-- The hold after a reset.
reset_hold : (d : Device) (r : Raw) → reset r d ≡ true → (next d r).bus.hold ≡ worth hold_ticks (held_reset r d)
reset_hold d r h = ap (λ (n : Device). n.bus.hold) (reset_restores d r h) ∙ fresh_hold (worth hold_ticks (held_reset r d)) d

pub reset_unheld : ResetUnheld
reset_unheld d r later h off nr =
    let start : (next d r).bus.hold ≡ 0 = reset_hold d r h ∙ ap (worth hold_ticks) off in
    let end : (run_from (next d r) later).bus.hold ≡ (next d r).bus.hold - ticks_in (next d r) later = hold_run later (next d r) nr in
    omega arith

-- ---- while it runs, nobody owns

-- Whoever owns does so without a hold, and a step leaves nothing to settle, in a run from any device where that is so.
pub owned_from : (rs : List Raw) (d : Device) → Owned d → Owned (run_from d rs)
unfolding run_from
owned_from [] d i = i
owned_from (r ∷ rs) d i = owned_from rs (next d r) (next_owned r d i)

pub ready_next : (r : Raw) (d : Device) → Ready d → Ready (next d r)
ready_next r d h = step_keeps Ready (λ e x y. parts_ready e x) d r h

pub ready_from : (rs : List Raw) (d : Device) → Ready d → Ready (run_from d rs)
ready_from rs d h = run_keeps Ready (λ e x y. parts_ready e x) d rs h

pub held_unowned : (p : Master) (d : Device) → Owned d → 0 < d.bus.hold → owns p d ≡ false
held_unowned p d i h =
    split (owns p d)
    (λ o. let t = owns_turn_lem p d.arb.turn o in
    let z : d.bus.hold ≡ 0 = (i p t.0 t.1).hold in
    absurd (not-suc-le-zero (subst (λ (n : ℕ). 0 < n) z h)))
    (λ o. o)

-- At its last tick a claimant with its port at rest is granted.
last_grants : (p : Master) (t : Raw) (d : Device) → Ready d → d.bus.hold ≡ 1 → tick t d ≡ true → claims p d ≡ true → resting p d ≡ true
    → owns p (next d t) ≡ true
unfolding levels effect ticked
last_grants p t d ready one h c rest =
    let turn = claims_turn_lem p d.arb.turn c in
    let q : requests p d ≡ true = claimant_asks p d ready.1 turn.1 in
    let free : resting p d && eqb (d.bus.hold - 1) 0 ≡ true = ap₂ ◌&&◌ rest (eq-eqb (d.bus.hold - 1) 0 (omega arith)) in
    ap (owns p) (taken_tick t d h).after
    ∙ turn_owns p (parts Tick d).arb.turn (claim_goes p Tick d refl turn.1 q ∙ if_true (Owns p turn.0) (Claims p turn.0) free)

-- One that asks for the hold is a reset.
held_event : (e : Event) (d : Device) → asks_hold e d ≡ true → is_reset e ≡ true
held_event (Command m c) d h = h
held_event (Write m v) d h = h
held_event (Read m) d h = h
held_event (Stop m) d h = h
held_event (Pair v0 v1) d h = h
held_event (Lines scl sda intin) d h = h
held_event Tick d h = h
held_event (Pulse sda) d h = h
held_event Reset d h = refl
held_event (GeneralCall m b) d h = ((and-eq-true_iff (soft_reset b) (side m d).contr.swrst).0 h).0

held_is_reset : (r : Raw) (d : Device) → held_reset r d ≡ true → reset r d ≡ true
held_is_reset r d h =
    elim (met r d) [
      | refuses x ↦ absurd (false≢true (sym (x.none asks_hold) ∙ h))
      | takes e x ↦ x.same (λ f y. is_reset f) ∙ held_event e d (sym (x.same asks_hold) ∙ h)
    ]

pub reset_holds : ResetHolds
reset_holds k rs r later h nr =
    let d : Device = next (run k rs) r in
    let x : Device = run_from d later in
    let start : d.bus.hold ≡ hold_ticks = reset_hold (run k rs) r (held_is_reset r (run k rs) h) ∙ ap (worth hold_ticks) h in
    let left : x.bus.hold ≡ d.bus.hold - ticks_in d later = hold_run later d nr in
    let ready : Ready x = ready_from later d (ready_next r (run k rs) (all_ready k rs)) in (
      left ∙ ap (λ (n : ℕ). n - ticks_in d later) start,
      λ few p. held_unowned p x (owned_from later d (next_owned r (run k rs) (run_owned k rs))) (omega arith),
      λ t p now last c rest. last_grants p t x ready (omega arith) now c rest,
    )
