-- Every step keeps every number of the device in its range, whatever the device was, and so does every run (specs/Ranges.antt lists the ranges).
-- Assumes nothing.
use mathlib.Core.Path.{subst}
use mathlib.Core.Bool.{Bool, ◌&&◌}
use native.Mathlib.Omega.{arith}
use Rattle.std.specs.Prelude.{◌-◌, ◌∷◌}
use Rattle.ranges.specs.Names.{ℕ, List, [], eqb, Kind, Device, Raw, Event, Command, Write, Read, Stop, Pair, Lines, Tick, Pulse, Reset}
use Rattle.ranges.specs.Names.{GeneralCall, Stepped, Result, Event, Unread, Ok, Err, UnknownKind, BadField}
use Rattle.arbiter.specs.Events.{fitting, zero_or_one, unused, master, level, decode}
use Rattle.arbiter.specs.Effects.{power_up, effect}
use Rattle.arbiter.specs.Order.{is_reset, is_tick, clock_of, levels, losses, cut, claim, grant, connect}
use Rattle.arbiter.specs.Steps.{parts, taken, refused, step, run_from, run}
use Rattle.arbiter.proofs.Choice.{either}
use Rattle.arbiter.proofs.Cases.{step_cases}
use Rattle.ranges.proofs.Fields.{DeviceFits}
use Rattle.ranges.proofs.EffectFits.{EventOk, fresh_ok, effect_ok}
use Rattle.ranges.proofs.OrderFits.{levels_ok, losses_ok, cut_ok, claim_ok, grant_ok, connect_ok}

-- ---- what four bytes can bring

module _ (B : ℕ → Type 0) where
  -- the second and third of them
  abbrev pub RawOk : Raw → Type 0
  RawOk r = B r.x × B r.y

  DecodedOk : Result Event Unread → Type 0
  DecodedOk (Ok e) = EventOk B e
  DecodedOk (Err UnknownKind) = Unit {0}
  DecodedOk (Err BadField) = Unit {0}

  fitting_ok : (ok : Bool) (e : Event) → EventOk B e → DecodedOk (fitting ok e)
  unfolding DecodedOk
  fitting_ok ok e h = either DecodedOk ok (λ x. h) (λ x. tt)

  unknown_ok : DecodedOk (Err UnknownKind)
  unfolding DecodedOk
  unknown_ok = tt

  decoded_ok : (r : Raw) → RawOk r → DecodedOk (decode r)
  unfolding decode EventOk
  decoded_ok r (x, y) =
      either DecodedOk (eqb r.kind 0) (λ h. fitting_ok (zero_or_one r.x && unused r.z) (Command (master r.x) r.y) tt) λ h.
      either DecodedOk (eqb r.kind 1) (λ h. fitting_ok (zero_or_one r.x && unused r.z) (Write (master r.x) r.y) y) λ h.
      either DecodedOk (eqb r.kind 2) (λ h. fitting_ok (zero_or_one r.x && unused r.y && unused r.z) (Read (master r.x)) tt) λ h.
      either DecodedOk (eqb r.kind 3) (λ h. fitting_ok (zero_or_one r.x && unused r.y && unused r.z) (Stop (master r.x)) tt) λ h.
      either DecodedOk (eqb r.kind 4) (λ h. fitting_ok (unused r.z) (Pair r.x r.y) (x, y)) λ h.
      either DecodedOk (eqb r.kind 5) (λ h. fitting_ok (zero_or_one r.x && zero_or_one r.y && zero_or_one r.z)
      (Lines (level r.x) (level r.y) (level r.z)) tt) λ h.
      either DecodedOk (eqb r.kind 6) (λ h. fitting_ok (unused r.x && unused r.y && unused r.z) Tick tt) λ h.
      either DecodedOk (eqb r.kind 7) (λ h. fitting_ok (zero_or_one r.x && unused r.y && unused r.z) (Pulse (level r.x)) tt) λ h.
      either DecodedOk (eqb r.kind 8) (λ h. fitting_ok (unused r.x && unused r.y && unused r.z) Reset tt) λ h.
      either DecodedOk (eqb r.kind 9) (λ h. fitting_ok (zero_or_one r.x && unused r.z) (GeneralCall (master r.x) r.y) tt) λ h. unknown_ok

  abbrev pub RawsOk : List Raw → Type 0
  RawsOk [] = Unit {0}
  RawsOk (r ∷ rs) = RawOk r × RawsOk rs

-- ---- a step, and a run

module _ (B : ℕ → Type 0) (none : B 0) (less : (n : ℕ) → B n → B (n - 1)) where
  parts_ok : (e : Event) (d : Device) → EventOk B e → DeviceFits B d → DeviceFits B (parts e d)
  unfolding parts losses cut grant connect
  parts_ok e d b h =
      let one : Device = effect e d in
      let two : Device = levels (is_reset e) d.bus one in
      let three : Device = losses two in
      let four : Device = cut (is_tick e) three in
      let five : Device = claim four in
      let six : Device = grant five in
      let h2 : DeviceFits B two = levels_ok B (is_reset e) d.bus one (effect_ok B none less e d b h) in
      let h3 : DeviceFits B three = losses_ok B two.arb.turn two h2 in
      let h4 : DeviceFits B four = cut_ok B (is_tick e) three.arb.turn three h3 in
      let h5 : DeviceFits B five = claim_ok B four h4 in
      let h6 : DeviceFits B six = grant_ok B five.arb.turn five h5 in
      connect_ok B (clock_of e) six.arb.turn six h6

  pub step_ok : (d : Device) (r : Raw) → RawOk B r → DeviceFits B d → DeviceFits B (step d r).device
  unfolding taken refused DecodedOk
  step_ok d r b h =
      step_cases (λ (s : Stepped). DeviceFits B s.device) d r (λ e x s. parts_ok e d (subst (DecodedOk B) x (decoded_ok B r b)) h) (λ n u. h)

  pub power_up_ok : (k : Kind) → DeviceFits B (power_up k)
  unfolding power_up
  power_up_ok k = record {
    zero = fresh_ok B none less;
    one = fresh_ok B none less;
    bus = (omega arith, omega arith, omega arith, omega arith);
    arb = (omega arith, none);
  }

  from_ok : (rs : List Raw) (d : Device) → RawsOk B rs → DeviceFits B d → DeviceFits B (run_from d rs)
  unfolding run_from
  from_ok [] d b h = h
  from_ok (r ∷ rs) d b h = from_ok rs (step d r).device b.1 (step_ok d r b.0 h)

  pub run_ok : (k : Kind) (rs : List Raw) → RawsOk B rs → DeviceFits B (run k rs)
  unfolding run
  run_ok k rs b = from_ok rs (power_up k) b (power_up_ok k)
