-- Parts 2 to 7 of a step keep every number of the device in its range.
-- Assumes nothing.
use Prim.Native.Nat.{◌<◌}
use mathlib.Core.Path.{refl}
use mathlib.Core.Bool.{Bool, true, false, not, ◌&&◌, ◌||◌}
use native.Mathlib.Omega.{arith}
use borrow.Author.Tests.{ltb-true}
use Rattle.std.specs.Prelude.{◌+◌, if◌then◌else◌}
use Rattle.ranges.specs.Names.{ℕ, eqb, ltb, Master, Ground, Turn, Nobody, Claims}
use Rattle.ranges.specs.Names.{Owns, Side, Bus, Switch, Apart, Initialising, Closed, Device, Clock}
use Rattle.ranges.specs.Names.{NoClock, ClockLow, ClockHigh}
use Rattle.arbiter.specs.Rules.{idle_limit}
use Rattle.arbiter.specs.Words.{partner, same_master, side}
use Rattle.arbiter.specs.Parts.{with_side, with_ints, with_idle, with_turn, with_contr, with_bus_init}
use Rattle.arbiter.specs.State.{scl_high, sda_high, at_rest, scl_hung_limit, sda_hung_limit}
use Rattle.arbiter.specs.Registers.{granted_int, lost_int, raised, disconnected, released}
use Rattle.arbiter.specs.Order.{busy_after, scl_changed, levels, runs_out, loser, lost, losses_from}
use Rattle.arbiter.specs.Order.{cut_ticks, cut_from, claim, granted_arb, granted, grant_from, joined}
use Rattle.arbiter.specs.Order.{failed_side, clocked, kept_joined, connect_from}
use Rattle.ranges.specs.Ranges.{pulses}
use Rattle.arbiter.proofs.Choice.{either}
use Rattle.arbiter.proofs.Cases.{joined_by}
use Rattle.ranges.proofs.Fields.{raised_fits, DeviceFits, ok_side, ok_device, ok_with, ok_ints}

kept_or_zero : (top : ℕ) (t : Bool) (n : ℕ) → n < top + 1 → (if t then n else 0) < top + 1
kept_or_zero top true n h = h
kept_or_zero top false n h = omega arith

zero_or_kept : (top : ℕ) (t : Bool) (n : ℕ) → n < top + 1 → (if t then 0 else n) < top + 1
zero_or_kept top true n h = omega arith
zero_or_kept top false n h = h

module _ (B : ℕ → Type 0) where
  pub levels_ok : (reset : Bool) (before : Bus) (d : Device) → DeviceFits B d → DeviceFits B (levels reset before d)
  unfolding levels
  levels_ok reset before d h =
      let b : Bus = d.bus in
      let hb = h.bus in
      let idle = kept_or_zero (idle_limit d) (not (busy_after reset before b) && scl_high b && sda_high b) b.idle hb.1 in
      let sda = zero_or_kept sda_hung_limit (sda_high b || scl_changed before b) b.lowsda hb.3 in
      record {
        zero = h.zero;
        one = h.one;
        bus = (hb.0, idle, zero_or_kept scl_hung_limit (scl_high b) b.lowscl hb.2, sda);
        arb = h.arb;
      }

  lost_ok : (m : Master) (d : Device) → DeviceFits B d → DeviceFits B (lost m d)
  unfolding lost
  lost_ok m d h =
      ok_device B m (disconnected (loser (side m d))) (side (partner m) d) (released d.bus) (with_turn Nobody d.arb) d
      (ok_ints B _ (side m d) (raised_fits lost_int refl refl true (side m d).ints (ok_side B m d h).0) (ok_side B m d h))
      (ok_side B (partner m) d h) h.bus h.arb

  pub losses_ok : (t : Turn) (d : Device) → DeviceFits B d → DeviceFits B (losses_from t d)
  unfolding losses_from
  losses_ok Nobody d h = h
  losses_ok (Claims m g) d h = h
  losses_ok (Owns m g) d h = either (DeviceFits B) (runs_out (idle_limit d) (side m d) d.arb.reserve d.bus) (λ x. lost_ok m d h) (λ x. h)

  pub cut_ok : (tick : Bool) (t : Turn) (d : Device) → DeviceFits B d → DeviceFits B (cut_from tick t d)
  unfolding cut_from
  cut_ok tick Nobody d h = h
  cut_ok tick (Claims m g) d h = h
  cut_ok tick (Owns m g) d h =
      either (DeviceFits B) (tick && eqb d.bus.lowscl cut_ticks && (side m d).contr.smbusdis)
      (λ x. ok_with B m (disconnected (side m d)) d (ok_side B m d h) h) (λ x. h)

  pub claim_ok : (d : Device) → DeviceFits B d → DeviceFits B (claim d)
  unfolding claim
  claim_ok d h = record { zero = h.zero; one = h.one; bus = h.bus; arb = h.arb }

  granted_ok : (m : Master) (g : Ground) (d : Device) → DeviceFits B d → DeviceFits B (granted m g d)
  unfolding granted
  granted_ok m g d h =
      let b = h.bus in
      ok_device B m (with_ints (raised granted_int true (side m d).ints) (side m d)) (side (partner m) d) (with_idle 0 d.bus)
      (granted_arb m g (side m d).rt d.arb) d
      (ok_ints B _ (side m d) (raised_fits granted_int refl refl true (side m d).ints (ok_side B m d h).0) (ok_side B m d h)) (ok_side B (partner m) d h)
      (b.0, omega arith, b.2, b.3) (h.arb.0, (ok_side B m d h).2)

  pub grant_ok : (t : Turn) (d : Device) → DeviceFits B d → DeviceFits B (grant_from t d)
  unfolding grant_from
  grant_ok Nobody d h = h
  grant_ok (Claims m g) d h = either (DeviceFits B) (at_rest (side m d).port && eqb d.bus.hold 0) (λ x. granted_ok m g d h) (λ x. h)
  grant_ok (Owns m g) d h = h

  -- part 7 sets the switch and BUS_INIT_FAIL
  ok_joined : (w : Switch) (fail : Bool) (d : Device) → pulses w < 9 → DeviceFits B d → DeviceFits B (joined_by w fail d)
  ok_joined w fail d n h = record { zero = h.zero; one = h.one; bus = h.bus; arb = (n, h.arb.1) }

  joined_ok : (m : Master) (d : Device) → DeviceFits B d → DeviceFits B (joined m d)
  unfolding joined
  joined_ok m d h =
      either (DeviceFits B) (side m d).contr.businit (λ x. ok_joined (Initialising m 0) false d (omega arith) h)
      (λ x. ok_joined (Closed m) d.arb.initfail d (omega arith) h)

  clocked_ok : (c : Clock) (m : Master) (n : ℕ) (d : Device) → DeviceFits B d → DeviceFits B (clocked c m n d)
  unfolding clocked
  clocked_ok NoClock m n d h = h
  clocked_ok ClockHigh m n d h =
      let s : Side = with_contr (with_bus_init false (side m d).contr) (side m d) in
      ok_joined (Closed m) d.arb.initfail (with_side m s d) (omega arith) (ok_with B m s d (ok_side B m d h) h)
  clocked_ok ClockLow m n d h =
      let s : Side = failed_side (side m d) in
      either (DeviceFits B) (ltb n 8) (λ x. let l = ltb-true n 8 x in ok_joined (Initialising m (n + 1)) d.arb.initfail d (omega arith) h)
      (λ x. ok_joined Apart true (with_side m s d) (omega arith) (ok_with B m s d (ok_side B m d h) h))

  kept_ok : (c : Clock) (m : Master) (w : Switch) (d : Device) → DeviceFits B d → DeviceFits B (kept_joined c m w d)
  unfolding kept_joined
  kept_ok c m Apart d h = joined_ok m d h
  kept_ok c m (Initialising k n) d h = either (DeviceFits B) (same_master m k) (λ x. clocked_ok c m n d h) (λ x. joined_ok m d h)
  kept_ok c m (Closed k) d h = either (DeviceFits B) (same_master m k) (λ x. h) (λ x. joined_ok m d h)

  pub connect_ok : (c : Clock) (t : Turn) (d : Device) → DeviceFits B d → DeviceFits B (connect_from c t d)
  unfolding connect_from
  connect_ok c Nobody d h = ok_joined Apart d.arb.initfail d (omega arith) h
  connect_ok c (Claims m g) d h = ok_joined Apart d.arb.initfail d (omega arith) h
  connect_ok c (Owns m g) d h =
      either (DeviceFits B) (side m d).contr.busconnect (λ x. kept_ok c m d.arb.switch d h) (λ x. ok_joined Apart d.arb.initfail d (omega arith) h)
