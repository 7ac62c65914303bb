-- What the bound on changing ticks asks of a device, and that every run gives it. Of the hold after a soft reset: a low count has gained at most
-- the ticks that the hold has lost, for the reset began both.
-- Assumes nothing.
use Prim.Native.Nat.{ℕ, ◌+◌, ◌<◌, ◌≤◌}
use mathlib.Core.Path.{◌≡◌, sym, subst, ◌∙◌}
use mathlib.Core.Bool.{Bool, true, false, not, ◌||◌, false≢true}
use mathlib.Core.List.{List, [], ◌∷◌}
use native.Mathlib.Omega.{arith}
use Rattle.std.specs.Prelude.{if◌then◌else◌}
use Rattle.arbiter.specs.Words.{side}
use Rattle.arbiter.specs.State.{scl_high, sda_high}
use Rattle.arbiter.specs.Events.{soft_reset}
use Rattle.arbiter.specs.Effects.{ticked, hold_asked, was_reset, effect, power_up}
use Rattle.arbiter.specs.Order.{is_reset, is_tick, busy_after, scl_changed, settled_bus, levels}
use Rattle.arbiter.specs.Steps.{parts, run_from, run}
use Rattle.arbiter.specs.AuditWords.{next}
use Rattle.arbiter.specs.declared.Side.{Side}
use Rattle.arbiter.specs.declared.Bus.{Bus}
use Rattle.arbiter.specs.declared.Kind.{Kind}
use Rattle.arbiter.specs.declared.Device.{Device}
use Rattle.arbiter.specs.declared.Raw.{Raw}
use Rattle.arbiter.specs.declared.Event.{Event}
use Rattle.arbiter.specs.declared.Event.TheVariants.{Command, Write, Read, Stop, Pair, Lines, Tick, Pulse, Reset, GeneralCall}
use Rattle.arbiter.proofs.Choice.{either, split}
use Rattle.arbiter.proofs.Cases.{step_keeps}
use Rattle.arbiter.proofs.Effects.{counts, effect_counts}
use Rattle.arbiter.proofs.Idle.{parts_bus}
use Rattle.arbiter.proofs.Tenure.{Owned, next_owned, run_owned}
use Rattle.light.specs.Light.{Settled}
use Rattle.light.proofs.Settles.{settled_at_power_up, stays_settled}
use Rattle.advance.proofs.Ticking.{counted_most}

-- ---- the hold and the low counts

-- while a hold runs, each low count and it make 35 at most
abbrev pub HeldBy : ℕ → ℕ → ℕ → Type 0
HeldBy hold lowscl lowsda = 0 < hold → (lowscl + hold ≤ 35) × (lowsda + hold ≤ 35)

abbrev pub Held : Bus → Type 0
Held b = HeldBy b.hold b.lowscl b.lowsda

abbrev HeldIn : ℕ × ℕ × ℕ × ℕ × ℕ → Type 0
HeldIn c = HeldBy c.0 c.3 c.4

-- A tick takes one from the hold and adds one at most to a count.
tick_held : (d : Device) → Held d.bus → HeldIn (counts (ticked d))
unfolding ticked
tick_held d h some =
    let b : Bus = d.bus in
    let was = h (omega arith) in
    let s : b.lowscl + b.hold ≤ 35 = was.0 in
    let a : b.lowsda + b.hold ≤ 35 = was.1 in
    (omega (arith, counted_most 500 (not (scl_high b)) b.lowscl), omega (arith, counted_most 501 (not (sda_high b)) b.lowsda))

-- No other event that is no reset changes either.
effect_held : (e : Event) (d : Device) → is_reset e ≡ false → Held d.bus → Held (effect e d).bus
effect_held e d ok h =
    subst HeldIn (sym (effect_counts e d ok)) (either HeldIn (is_tick e) (λ t. tick_held d h) (λ t. h))

-- A reset begins the hold, if at all, with 35, and both counts with 0.
asked_most : (s : Side) → hold_asked s ≤ 35
asked_most s = either (λ (n : ℕ). n ≤ 35) s.contr.swrst (λ h. omega arith) (λ h. omega arith)

reset_held : (e : Event) (d : Device) → is_reset e ≡ true → Held (effect e d).bus
unfolding effect was_reset
reset_held (Command k c) d h = absurd (false≢true h)
reset_held (Write k v) d h = absurd (false≢true h)
reset_held (Read k) d h = absurd (false≢true h)
reset_held (Stop k) d h = absurd (false≢true h)
reset_held (Pair v0 v1) d h = absurd (false≢true h)
reset_held (Lines scl sda intin) d h = absurd (false≢true h)
reset_held Tick d h = absurd (false≢true h)
reset_held (Pulse sda) d h = absurd (false≢true h)
reset_held Reset d h = λ some. absurd (omega arith)
reset_held (GeneralCall k b) d h =
    either (λ (n : Device). Held n.bus) (soft_reset b)
    (λ r some. let most = asked_most (side k d) in (omega arith, omega arith)) (λ r. absurd (false≢true (sym r ∙ h)))

-- Part 2 only takes counts back, and the parts after it leave them.
zeroed_most : (t : Bool) (n : ℕ) → (if t then 0 else n) ≤ n
zeroed_most t n = either (λ (x : ℕ). x ≤ n) t (λ h. omega arith) (λ h. omega arith)

settled_held : (busy changed : Bool) (b : Bus) → Held b → Held (settled_bus busy changed b)
settled_held busy changed b h some =
    let was = h some in
    let s : b.lowscl + b.hold ≤ 35 = was.0 in
    let a : b.lowsda + b.hold ≤ 35 = was.1 in
    (omega (arith, zeroed_most (scl_high b) b.lowscl), omega (arith, zeroed_most (sda_high b || changed) b.lowsda))

parts_held : (e : Event) (d : Device) → Held d.bus → Held (parts e d).bus
unfolding levels
parts_held e d h =
    let f : Bus = (effect e d).bus in
    subst Held (sym (parts_bus e d))
    (settled_held (busy_after (is_reset e) d.bus f) (scl_changed d.bus f) f (split (is_reset e) (reset_held e d) (λ no. effect_held e d no h)))

-- ---- what is asked of a device

pub record Reached (d : Device) : Type 0 where
  pub settled : Settled d
  pub owned : Owned d
  pub held : Held d.bus

-- Every event leaves it,
pub next_reached : (r : Raw) (d : Device) → Reached d → Reached (next d r)
next_reached r d h =
    record {
      settled = stays_settled d r h.settled;
      owned = next_owned r d h.owned;
      held = step_keeps (λ (x : Device). Held x.bus) parts_held d r h.held;
    }

run_reached : (rs : List Raw) (d : Device) → Reached d → Reached (run_from d rs)
unfolding run_from
run_reached [] d h = h
run_reached (r ∷ rs) d h = run_reached rs (next d r) (next_reached r d h)

-- and a device has it at power-up.
power_up_owned : (k : Kind) → Owned (power_up k)
unfolding run run_from
power_up_owned k = run_owned k []

power_up_held : (k : Kind) → Held (power_up k).bus
unfolding power_up
power_up_held k some = absurd (omega arith)

pub all_reached : (k : Kind) (rs : List Raw) → Reached (run k rs)
unfolding run
all_reached k rs =
    run_reached rs (power_up k) (record { settled = settled_at_power_up k; owned = power_up_owned k; held = power_up_held k })
