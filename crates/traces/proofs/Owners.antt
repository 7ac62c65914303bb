-- The owner byte of a claimant's device, and what its grant adds to it.
-- Assumes nothing.
use Prim.Native.Nat.{ℕ, ◌+◌, ◌*◌, ◌≤◌}
use mathlib.Core.Path.{◌≡◌, refl, sym, ap, ap₂, ◌∙◌}
use mathlib.Core.Bool.{Bool, true, false, false≢true}
use native.Mathlib.Omega.{arith}
use Rattle.std.specs.Prelude.{if◌then◌else◌}
use Rattle.arbiter.specs.Words.{worth}
use Rattle.arbiter.specs.State.{claims_turn, owns_turn, is_initialising}
use Rattle.arbiter.specs.Events.{master}
use Rattle.arbiter.specs.Steps.{master_number, owner_number, ground_number, turn_ground, switch_number, owner_byte}
use Rattle.arbiter.specs.declared.Master.{Master}
use Rattle.arbiter.specs.declared.Ground.{Ground}
use Rattle.arbiter.specs.declared.Ground.TheVariants.{Sole, Priority, LastGranted}
use Rattle.arbiter.specs.declared.Turn.{Turn}
use Rattle.arbiter.specs.declared.Turn.TheVariants.{Nobody, Claims, Owns}
use Rattle.arbiter.specs.declared.Switch.{Switch}
use Rattle.arbiter.specs.declared.Switch.TheVariants.{Apart, Initialising, Closed}
use Rattle.arbiter.specs.declared.Control.{Control}
use Rattle.arbiter.specs.declared.Device.{Device}
use Rattle.arbitration.specs.Cleared.{ground_in}
use Rattle.fields.specs.Apart.{is_apart}
use Rattle.connection.specs.Quiet.{switch_stays}
use Rattle.step.specs.Carried.{is_quiet}
use Rattle.light.specs.Light.{Settled}
use Rattle.light.specs.Turns.{is_nobody}
use Rattle.light.proofs.Fits.{tests}
use Rattle.traces.specs.Turns.{granted_bits}

-- the same by BUS_CONNECT and BUS_INIT
abbrev bits_by : Master → Bool → Bool → ℕ
bits_by m connects starts =
    let w : Switch = if connects then (if starts then Initialising m 0 else Closed m) else Apart in
    master_number m + 4 * switch_number w + worth 16 (is_initialising w)

module _ (x : ℕ) (c : Control) where
  pub bits_starting : c.busconnect ≡ true → c.businit ≡ true → master_number (master x) + 16 ≡ granted_bits x c
  bits_starting h k =
      let e : master_number (master x) + 16 ≡ bits_by (master x) true true = omega arith in
      e ∙ ap₂ (bits_by (master x)) (sym h) (sym k)

  pub bits_closed : c.busconnect ≡ true → c.businit ≡ false → 5 * master_number (master x) ≡ granted_bits x c
  bits_closed h k =
      let e : 5 * master_number (master x) ≡ bits_by (master x) true false = omega arith in
      e ∙ ap₂ (bits_by (master x)) (sym h) (sym k)

  pub bits_apart : c.busconnect ≡ false → master_number (master x) ≡ granted_bits x c
  bits_apart h =
      let e : master_number (master x) ≡ bits_by (master x) false c.businit = omega arith in
      e ∙ ap (λ (b : Bool). bits_by (master x) b c.businit) (sym h)

-- ---- a settled device without an owner: the switch is apart, so the owner byte is the ground of the claim alone

waiting_byte : (m : Master) (t : Turn) (w : Switch) → claims_turn m t ≡ true → is_apart w ≡ true
    → owner_number t + 4 * switch_number w + worth 16 (is_initialising w) + 32 * turn_ground t ≡ 32 * ground_number (ground_in t)
waiting_byte m Nobody w l e = absurd (false≢true l)
waiting_byte m (Owns k g) w l e = absurd (false≢true l)
waiting_byte m (Claims k g) (Initialising j n) l e = absurd (false≢true e)
waiting_byte m (Claims k g) (Closed j) l e = absurd (false≢true e)
waiting_byte m (Claims k g) Apart l e = omega arith

waits_apart : (m : Master) (t : Turn) (d : Device) → claims_turn m t ≡ true → switch_stays t d ≡ true → is_apart d.arb.switch ≡ true
waits_apart m Nobody d l h = h
waits_apart m (Claims k g) d l h = h
waits_apart m (Owns k g) d l h = absurd (false≢true l)

nobody_apart : (t : Turn) (d : Device) → is_nobody t ≡ true → switch_stays t d ≡ true → is_apart d.arb.switch ≡ true
nobody_apart Nobody d l h = h
nobody_apart (Claims k g) d l h = h
nobody_apart (Owns k g) d l h = absurd (false≢true l)

pub nobody_foreign : (m : Master) (t : Turn) → is_nobody t ≡ true → owns_turn m t ≡ false
nobody_foreign m Nobody l = refl
nobody_foreign m (Claims k g) l = refl
nobody_foreign m (Owns k g) l = absurd (false≢true l)

ground_most : (g : Ground) → 32 * ground_number g ≤ 96
ground_most Sole = omega arith
ground_most Priority = omega arith
ground_most LastGranted = omega arith

pub owner_waits : (m : Master) (d : Device) → Settled d → claims_turn m d.arb.turn ≡ true → owner_byte d ≡ 32 * ground_number (ground_in d.arb.turn)
unfolding owner_byte is_quiet
owner_waits m d (still, quiet) l = waiting_byte m d.arb.turn d.arb.switch l (waits_apart m d.arb.turn d l (tests d.arb.turn d quiet).0)

-- so the bits of a grant can be added to it
pub waits_below : (m : Master) (d : Device) → Settled d → claims_turn m d.arb.turn ≡ true → owner_byte d ≤ 96
waits_below m d s l = omega (arith, owner_waits m d s l, ground_most (ground_in d.arb.turn))

claimed_by : (w : Switch) → is_apart w ≡ true → 32 ≡ 0 + 4 * switch_number w + worth 16 (is_initialising w) + 32 * ground_number Sole
claimed_by Apart e = refl
claimed_by (Initialising j n) e = absurd (false≢true e)
claimed_by (Closed j) e = absurd (false≢true e)

pub claimed_byte : (d : Device) → Settled d → is_nobody d.arb.turn ≡ true → 32
    ≡ 0 + 4 * switch_number d.arb.switch + worth 16 (is_initialising d.arb.switch) + 32 * ground_number Sole
unfolding is_quiet
claimed_byte d (still, quiet) l = claimed_by d.arb.switch (nobody_apart d.arb.turn d l (tests d.arb.turn d quiet).0)
