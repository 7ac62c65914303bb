-- Laws of `step`: the code's halves of a step make the step of the definitions: part 2 needs no care at a reset, and part 1's effect carried
-- through the other parts is the event's.
-- Assumes nothing.
use mathlib.Core.Path.{◌≡◌, refl, ap}
use mathlib.Core.Bool.{Bool, true, false, not, ◌&&◌}
use native.Mathlib.Omega.{arith}
use Prim.Native.Nat.{ℕ, ◌+◌}
use Rattle.std.specs.Prelude.{if◌then◌else◌}
use Rattle.arbiter.specs.Words.{side}
use Rattle.arbiter.specs.Parts.{with_bus}
use Rattle.arbiter.specs.State.{scl_high}
use Rattle.arbiter.specs.Events.{soft_reset, in_sequence, acknowledged, outcome, outcome_number}
use Rattle.arbiter.specs.Effects.{fresh_bus, was_reset, hold_asked, effect}
use Rattle.arbiter.specs.Order.{is_reset, is_tick, clock_of, is_stop, scl_changed, settled_bus, levels}
use Rattle.arbiter.specs.Steps.{parts, byte_read}
use Rattle.arbiter.specs.declared.Bus.{Bus}
use Rattle.arbiter.specs.declared.Device.{Device}
use Rattle.arbiter.specs.declared.Event.{Event}
use Rattle.arbiter.specs.declared.Event.TheVariants.{Command, Write, Read, Stop, Pair, Lines, Tick, Pulse, Reset, GeneralCall}
use Rattle.std.specs.Prelude.{Ok}
use Rattle.arbiter.specs.declared.Outcome.{Outcome}
use Rattle.arbiter.specs.declared.Outcome.TheVariants.{Done, NotAcknowledged, OutOfSequence}
use Rattle.effects.specs.declared.Effect.{Effect}
use Rattle.effects.specs.Effect.{did, effect_of}
use Rattle.step.specs.Carried.{parts_three_to_seven, finished, moved}

-- ---- part 2 at a reset

no_fall : (x outside drive : Bool) → (x && (outside && drive)) && not (outside && true) ≡ false
no_fall false outside drive = refl
no_fall true false drive = refl
no_fall true true true = refl
no_fall true true false = refl

reset_levels : (hold : ℕ) (d : Device) → levels false d.bus (was_reset hold d) ≡ levels true d.bus (was_reset hold d)
unfolding levels was_reset
reset_levels hold d =
    let b : Bus = d.bus in
    let f : Bus = fresh_bus hold b in
    ap (λ (start : Bool). with_bus (settled_bus (start && not (is_stop b f)) (scl_changed b f) f) (was_reset hold d))
    (no_fall (scl_high b && scl_high f) b.outsda b.drivesda)

same_levels : (e : Event) (d : Device) → levels false d.bus (effect e d) ≡ levels (is_reset e) d.bus (effect e d)
unfolding effect
same_levels (Command m c) d = refl
same_levels (Write m v) d = refl
same_levels (Read m) d = refl
same_levels (Stop m) d = refl
same_levels (Pair v0 v1) d = refl
same_levels (Lines scl sda intin) d = refl
same_levels Tick d = refl
same_levels (Pulse sda) d = refl
same_levels Reset d = reset_levels 0 d
same_levels (GeneralCall m b) d = go (soft_reset b)
  where
    go : (soft : Bool) → levels false d.bus (if soft then was_reset (hold_asked (side m d)) d else d)
        ≡ levels soft d.bus (if soft then was_reset (hold_asked (side m d)) d else d)
    go true = reset_levels (hold_asked (side m d)) d
    go false = refl

-- ---- an event through all parts

through_parts : (e : Event) (d : Device) → parts_three_to_seven (is_tick e) (clock_of e) (levels false d.bus (effect e d)) ≡ parts e d
unfolding parts_three_to_seven parts
through_parts e d = ap (λ (x : Device). parts_three_to_seven (is_tick e) (clock_of e) x) (same_levels e d)

-- the outcome by its two tests
abbrev told : Bool → Bool → Outcome
told seq ack = if seq then (if ack then Done else NotAcknowledged) else OutOfSequence

-- the device that is carried on if the event is in sequence, with its outcome
abbrev carried : Bool → Bool → Device → Event → Device → Effect
carried seq ack x e d = if seq then did x (outcome_number (told seq ack)) (byte_read e d) else did d (outcome_number OutOfSequence) 0

pub moved_law : (e : Event) (d : Device) → finished e d.bus (effect_of e d) ≡ moved (Ok e) d
unfolding finished effect_of moved outcome
moved_law e d = go (in_sequence e d) (acknowledged e d)
  where
    go : (seq ack : Bool) → finished e d.bus (carried seq ack (effect e d) e d) ≡ carried seq ack (parts e d) e d
    go true true = ap (λ (x : Device). did x (outcome_number Done) (byte_read e d)) (through_parts e d)
    go true false = ap (λ (x : Device). did x (outcome_number NotAcknowledged) (byte_read e d)) (through_parts e d)
    go false ack = refl

-- ---- the answer's third byte

-- The code takes owner and ground from the turn and the rest from the switch; the definition goes from the low bits up.
pub owner_sum : (owner switch init ground : ℕ) → (owner + ground) + (switch + init) ≡ owner + switch + init + ground
owner_sum owner switch init ground = omega arith
