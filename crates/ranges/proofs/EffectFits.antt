-- Part 1 of a step, an event's own effect, keeps every number of the device in its range.
-- Assumes nothing.
use Prim.Native.Nat.{◌<◌}
use mathlib.Core.Path.{refl}
use mathlib.Core.Bool.{Bool, true, not, ◌&&◌, ◌||◌, and-eq-true_iff}
use native.Mathlib.Omega.{arith}
use borrow.Author.Tests.{ltb-true}
use Rattle.std.specs.Prelude.{◌+◌, ◌-◌}
use Rattle.ranges.specs.Names.{ℕ, ltb, Master, Zero, One, Rest, Register}
use Rattle.ranges.specs.Names.{Id, Contr, Status, Rt, IntStatus, IntMask, MailLow, MailHigh, Side, Bus}
use Rattle.ranges.specs.Names.{Device, Event, Command, Write, Read, Stop, Pair, Lines, Tick, Pulse, Reset, GeneralCall}
use Rattle.arbiter.specs.Rules.{idle_limit}
use Rattle.arbiter.specs.Words.{bit, partner, side}
use Rattle.arbiter.specs.Parts.{with_port, with_turn}
use Rattle.arbiter.specs.State.{owns, is_idle, scl_high, sda_high, scl_hung_limit, sda_hung_limit}
use Rattle.arbiter.specs.Registers.{mail_emptied_int, int_in_int, test_int, mail_full_int, withdraws, own_written, mail_written, drives_written}
use Rattle.arbiter.specs.Events.{good_command, soft_reset}
use Rattle.arbiter.specs.Effects.{commanded, writer_side, partner_side, written_bus, written_turn, written, paired, empties, reader_side, sender_side, was_read}
use Rattle.arbiter.specs.Effects.{lined}
use Rattle.arbiter.specs.Effects.{counted_to, ticked, fresh_side, was_reset, effect}
use Rattle.arbiter.proofs.Choice.{either}
use Rattle.ranges.proofs.Fields.{raised_fits, cleared_fits, BusOk, SideOk, DeviceFits, ok_side, ok_device, ok_with, ok_ints}

-- ---- a written byte

module _ (B : ℕ → Type 0) where
  own_ok : (g : Bool) (r : Register) (v : ℕ) (s : Side) → B v → SideOk B s → SideOk B (own_written g r v s)
  unfolding own_written
  own_ok g Id v s b h = h
  own_ok g Contr v s b h = either (SideOk B) (withdraws g v) (λ x. h) (λ x. h)
  own_ok g Status v s b h = ok_ints B _ s (raised_fits test_int refl refl (bit 5 v) s.ints h.0) h
  own_ok g Rt v s b h = either (SideOk B) g (λ x. h) (λ x. (h.0, h.1, b, h.3))
  own_ok g IntStatus v s b h = ok_ints B _ s (cleared_fits v s.ints h.0) h
  own_ok g IntMask v s b h = (h.0, omega arith, h.2, h.3)
  own_ok g MailLow v s b h = h
  own_ok g MailHigh v s b h = h

  mail_ok : (r : Register) (v : ℕ) (s : Side) → B v → SideOk B s → SideOk B (mail_written r v s)
  unfolding mail_written
  mail_ok Id v s b h = h
  mail_ok Contr v s b h = h
  mail_ok Status v s b h = h
  mail_ok Rt v s b h = h
  mail_ok IntStatus v s b h = h
  mail_ok IntMask v s b h = h
  mail_ok MailLow v s b h = either (SideOk B) s.mail.full (λ x. h) (λ x. (h.0, h.1, h.2, (b, h.3.1)))
  mail_ok MailHigh v s b h =
      either (SideOk B) s.mail.full (λ x. h) (λ x. (raised_fits mail_full_int refl refl true s.ints h.0, h.1, h.2, (h.3.0, b)))

  drives_ok : (limit : ℕ) (g c : Bool) (r : Register) (v : ℕ) (b : Bus) → BusOk limit b → BusOk limit (drives_written g c r v b)
  unfolding drives_written
  drives_ok limit g c Id v b h = h
  drives_ok limit g c Contr v b h = either (BusOk limit) (g && (bit 2 v || not (bit 0 v))) (λ x. h) (λ x. h)
  drives_ok limit g c Status v b h = either (BusOk limit) (g && not c) (λ x. h) (λ x. h)
  drives_ok limit g c Rt v b h = h
  drives_ok limit g c IntStatus v b h = h
  drives_ok limit g c IntMask v b h = h
  drives_ok limit g c MailLow v b h = h
  drives_ok limit g c MailHigh v b h = h

  writer_ok : (m : Master) (v : ℕ) (d : Device) → B v → DeviceFits B d → SideOk B (writer_side m v d)
  writer_ok m v d b h =
      let s : Side = side m d in
      let n : Side = own_written (owns m d) s.pointer v s in
      let hn : SideOk B n = own_ok (owns m d) s.pointer v s b (ok_side B m d h) in
      either (SideOk B) n.auto (λ x. hn) (λ x. hn)

  -- the bytes that an event writes
  unfoldable pub EventOk : Event → Type 0
  EventOk (Command m c) = Unit {0}
  EventOk (Write m v) = B v
  EventOk (Read m) = Unit {0}
  EventOk (Stop m) = Unit {0}
  EventOk (Pair v0 v1) = B v0 × B v1
  EventOk (Lines scl sda intin) = Unit {0}
  EventOk Tick = Unit {0}
  EventOk (Pulse sda) = Unit {0}
  EventOk Reset = Unit {0}
  EventOk (GeneralCall m b) = Unit {0}

-- ---- every event

counted_fits : (top : ℕ) (up : Bool) (n : ℕ) → n < top + 1 → counted_to top up n < top + 1
counted_fits top up n h =
    either (λ (k : ℕ). k < top + 1) (up && ltb n top) (λ x. let l = ltb-true n top ((and-eq-true_iff up (ltb n top)).0 x).1 in omega arith) (λ x. h)

module _ (B : ℕ → Type 0) (none : B 0) (less : (n : ℕ) → B n → B (n - 1)) where
  pub fresh_ok : SideOk B fresh_side
  unfolding fresh_side
  fresh_ok = (omega arith, omega arith, none, (none, none))

  reset_ok : (hold : ℕ) (d : Device) → hold < 36 → DeviceFits B (was_reset hold d)
  unfolding was_reset
  reset_ok hold d h = record { zero = fresh_ok; one = fresh_ok; bus = (h, omega arith, omega arith, omega arith); arb = (omega arith, none) }

  tick_ok : (d : Device) → DeviceFits B d → DeviceFits B (ticked d)
  unfolding ticked
  tick_ok d h =
      let b : Bus = d.bus in
      let hb = h.bus in
      let hold : b.hold - 1 < 36 = omega (arith, hb.0) in
      let scl = counted_fits scl_hung_limit (not (scl_high b)) b.lowscl hb.2 in
      let sda = counted_fits sda_hung_limit (not (sda_high b)) b.lowsda hb.3 in
      record {
        zero = h.zero;
        one = h.one;
        bus = (hold, counted_fits (idle_limit d) (is_idle b) b.idle hb.1, scl, sda);
        arb = (h.arb.0, less d.arb.reserve h.arb.1);
      }

  pub effect_ok : (e : Event) (d : Device) → EventOk B e → DeviceFits B d → DeviceFits B (effect e d)
  unfolding effect commanded written was_read paired lined EventOk
  effect_ok (Command m c) d b h = ok_with B m (commanded c (side m d)) d (either (SideOk B) (good_command c) (λ x. ok_side B m d h) (λ x. ok_side B m d h)) h
  effect_ok (Write m v) d b h =
      ok_device B m (writer_side m v d) (partner_side m v d (side (partner m) d)) (written_bus m v d d.bus)
      (with_turn (written_turn m v d d.arb.turn) d.arb) d
      (writer_ok B m v d b h) (mail_ok B (side m d).pointer v (side (partner m) d) b (ok_side B (partner m) d h))
      (drives_ok B (idle_limit d) (owns m d) (side m d).contr.busconnect (side m d).pointer v d.bus h.bus) h.arb
  effect_ok (Read m) d b h =
      let p : Side = side (partner m) d in
      let hp = ok_side B (partner m) d h in
      ok_device B m (reader_side (side m d)) (sender_side (empties (side m d)) p) d.bus d.arb d
      (either (SideOk B) (side m d).auto (λ x. ok_side B m d h) (λ x. ok_side B m d h))
      (ok_ints B _ p (raised_fits mail_emptied_int refl refl (empties (side m d)) p.ints hp.0) hp)
      h.bus h.arb
  effect_ok (Stop m) d b h = ok_with B m (with_port Rest (side m d)) d (ok_side B m d h) h
  effect_ok (Pair v0 v1) d b h =
      let limit : ℕ = idle_limit d in
      let s0 : Side = d.side0 in
      let s1 : Side = d.side1 in
      let first = drives_ok B limit (owns Zero d) s0.contr.busconnect s0.pointer v0 d.bus h.bus in
      record {
        zero = mail_ok B s1.pointer v1 (writer_side Zero v0 d) b.1 (writer_ok B Zero v0 d b.0 h);
        one = mail_ok B s0.pointer v0 (writer_side One v1 d) b.0 (writer_ok B One v1 d b.1 h);
        bus = drives_ok B limit (owns One d) s1.contr.busconnect s1.pointer v1 (written_bus Zero v0 d d.bus) first;
        arb = h.arb;
      }
  effect_ok (Lines scl sda intin) d b h =
      let fell : Bool = d.bus.intin && not intin in
      record {
        zero = ok_ints B _ d.side0 (raised_fits int_in_int refl refl fell d.side0.ints h.zero.0) h.zero;
        one = ok_ints B _ d.side1 (raised_fits int_in_int refl refl fell d.side1.ints h.one.0) h.one;
        bus = h.bus;
        arb = h.arb;
      }
  effect_ok Tick d b h = tick_ok d h
  effect_ok (Pulse sda) d b h = h
  effect_ok Reset d b h = reset_ok 0 d (omega arith)
  effect_ok (GeneralCall m c) d b h =
      either (DeviceFits B) (soft_reset c)
      (λ x. reset_ok _ d (either (λ (n : ℕ). n < 36) (side m d).contr.swrst (λ y. omega arith) (λ y. omega arith))) (λ x. h)
