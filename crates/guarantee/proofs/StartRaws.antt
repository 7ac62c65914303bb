-- The events of a start as four bytes: what is not a controller's own is of its partner's port, LINES or TICK, and none is a reset.
-- Assumes nothing.
use Prim.Native.Nat.{ℕ, zero, suc}
use mathlib.Core.Path.{◌≡◌, refl, sym, ap, ap₂, ◌∙◌}
use mathlib.Core.Bool.{Bool, true, false, not, ◌&&◌, ◌||◌, true≢false, false≢true, and-false}
use native.Mathlib.Omega.{arith}
use lib.Dec.{eqb, ltb}
use borrow.Author.Tests.{ne_eqb, le-ltb}
use Rattle.ranges.specs.Names.{Master, Zero, One, Device, Raw, Event, Command, Write, Read, Stop, Lines, Tick}
use Rattle.std.specs.Prelude.{Result}
use Rattle.arbiter.specs.declared.Unread.{Unread}
use Rattle.arbiter.specs.Words.{same_master}
use Rattle.arbiter.specs.Events.{unused, zero_or_one, master, level, fitting, decode, in_sequence}
use Rattle.arbiter.specs.Order.{is_reset, is_tick}
use Rattle.arbiter.specs.AuditWords.{accepted_as, accepted, reset, tick, withdrawal_of}
use Rattle.arbiter.specs.Marks.{raw, stop}
use Rattle.arbiter.specs.Witnesses.{number}
use Rattle.guarantee.specs.Starts.{is_by, is_tick_raw, is_between}
use Rattle.guarantee.proofs.StartOthers.{is_foreign, Foreign}

-- What an event is not it is not, whether its fields fit or not.
silent : (such : Event → Device → Bool) (fits : Bool) (e : Event) (d : Device) → such e d ≡ false → accepted_as such (fitting fits e) d ≡ false
silent such true e d h = ap (λ (b : Bool). in_sequence e d && b) h ∙ and-false (in_sequence e d)
silent such false e d h = refl

-- an event of either port, LINES or TICK
abbrev pub is_admitted : Raw → Bool
is_admitted r = is_by 0 r || is_by 1 r || is_between r

-- no kind above 6 is
abbrev above : ℕ → ℕ
above n = suc (suc (suc (suc (suc (suc (suc n))))))

no_other : (n x y z : ℕ) → is_admitted (raw (above n) x y z) ≡ true → ⊥
no_other n x y z h =
    let port : ltb (above n) 4 ≡ false = le-ltb (above n) 4 (omega arith) in
    let lines : eqb (above n) 5 ≡ false = ne_eqb (above n) 5 (λ e. omega arith) in
    let ticks : eqb (above n) 6 ≡ false = ne_eqb (above n) 6 (λ e. omega arith) in
    false≢true
    (sym (ap₂ (λ (a b : Bool). (a && eqb x 0) || (a && eqb x 1) || b) port (ap₂ ◌||◌ lines ticks)) ∙ h)

-- Such four bytes read as an event, if their fields fit: no reset, a TICK if they say so, and if they are not m's own of m's partner, LINES or TICK.
record Reading (r : Raw) : Type 0 where
  fits : Bool
  event : Event
  read : decode r ≡ fitting fits event
  plain : is_reset event ≡ false
  ticks : is_tick event ≡ is_tick_raw r
  other : (m : Master) → is_by (number m) r ≡ false → is_foreign m event ≡ true

-- a controller's number that is not m's is the partner's
other_master : (x : ℕ) → eqb x 0 || eqb x 1 || false ≡ true → (m : Master) → eqb x (number m) ≡ false → not (same_master m (master x)) ≡ true
other_master zero a Zero h = absurd (true≢false h)
other_master zero a One h = refl
other_master (suc zero) a Zero h = refl
other_master (suc zero) a One h = absurd (true≢false h)
other_master (suc (suc x)) a m h =
    let zeroth : eqb (suc (suc x)) 0 ≡ false = ne_eqb (suc (suc x)) 0 (λ e. omega arith) in
    let first : eqb (suc (suc x)) 1 ≡ false = ne_eqb (suc (suc x)) 1 (λ e. omega arith) in
    absurd (false≢true (sym (ap₂ (λ (b c : Bool). b || c || false) zeroth first) ∙ a))

read_by : (kind x y z : ℕ) → is_admitted (raw kind x y z) ≡ true → Reading (raw kind x y z)
unfolding decode
read_by zero x y z a =
    record { fits = zero_or_one x && unused z; event = Command (master x) y; read = refl; plain = refl; ticks = refl; other = other_master x a }
read_by (suc zero) x y z a =
    record { fits = zero_or_one x && unused z; event = Write (master x) y; read = refl; plain = refl; ticks = refl; other = other_master x a }
read_by (suc (suc zero)) x y z a =
    record { fits = zero_or_one x && unused y && unused z; event = Read (master x); read = refl; plain = refl; ticks = refl; other = other_master x a }
read_by (suc (suc (suc zero))) x y z a =
    record { fits = zero_or_one x && unused y && unused z; event = Stop (master x); read = refl; plain = refl; ticks = refl; other = other_master x a }
read_by (suc (suc (suc (suc zero)))) x y z a = absurd (false≢true a)
read_by (suc (suc (suc (suc (suc zero))))) x y z a =
    record {
      fits = zero_or_one x && zero_or_one y && zero_or_one z;
      event = Lines (level x) (level y) (level z);
      read = refl;
      plain = refl;
      ticks = refl;
      other = λ m h. refl;
    }
read_by (suc (suc (suc (suc (suc (suc zero)))))) x y z a =
    record { fits = unused x && unused y && unused z; event = Tick; read = refl; plain = refl; ticks = refl; other = λ m h. refl }
read_by (suc (suc (suc (suc (suc (suc (suc kind))))))) x y z a = absurd (no_other kind x y z a)

reading : (r : Raw) → is_admitted r ≡ true → Reading r
reading r a = read_by r.kind r.x r.y r.z a

-- What such an event is not, they are not.
said_not : (such : Event → Device → Bool) (r : Raw) (d : Device) (w : Reading r) → such w.event d ≡ false → accepted such r d ≡ false
said_not such r d w h = ap (λ (x : Result Event Unread). accepted_as such x d) w.read ∙ silent such w.fits w.event d h

pub foreign : (m : Master) (r : Raw) (d : Device) → is_admitted r ≡ true → is_by (number m) r ≡ false → Foreign m r d
foreign m r d a o = let w = reading r a in said_not (λ e x. not (is_foreign m e)) r d w (ap not (w.other m o))

pub unreset : (r : Raw) (d : Device) → is_admitted r ≡ true → reset r d ≡ false
unreset r d a = let w = reading r a in said_not (λ e x. is_reset e) r d w w.plain

pub untick : (r : Raw) (d : Device) → is_admitted r ≡ true → is_tick_raw r ≡ false → tick r d ≡ false
untick r d a t = let w = reading r a in said_not (λ e x. is_tick e) r d w (w.ticks ∙ t)

-- A STOP is no withdrawal.
pub stop_stays : (m : Master) (d : Device) → withdrawal_of m (stop (number m)) d ≡ false
unfolding decode
stop_stays Zero d = and-false (in_sequence (Stop Zero) d)
stop_stays One d = and-false (in_sequence (Stop One) d)
