-- What a sample gives is in bytes: every event that it gives has bytes, and the bits of a byte in hand stay one.
-- Assumes nothing.
use Prim.Native.Nat.{◌<◌, ◌%◌, ◌*◌}
use mathlib.Core.Path.{◌≡◌, refl}
use native.Mathlib.Omega.{arith}
use borrow.Author.Tests.{lt-ltb}
use Rattle.arbiter.proofs.Choice.{either}
use Rattle.ranges.specs.Ranges.{is_bytes}
use Rattle.capture.specs.OneBus.{is_outside, byte_gives, at_clock, shifted, ended, started, stopped, heard, gives}
use Rattle.capture.specs.Events.{from_one, beside_write, together, raw_of}
use Rattle.capture.specs.Samples.{sign_of, sampled}
use Rattle.capture.specs.declared.Awaited.{Awaited}
use Rattle.capture.specs.declared.Awaited.TheVariants.{NoByte, AddressByte, CommandByte, WriteByte, ReadByte, CallByte, SkippedByte}
use Rattle.capture.specs.declared.Sign.{Sign}
use Rattle.capture.specs.declared.Sign.TheVariants.{Steady, Starts, Stops, Clocks}
use Rattle.capture.specs.declared.Given.{Given}
use Rattle.capture.specs.declared.Given.TheVariants.{Written, Gives}
use Rattle.std.specs.Prelude.{◌+◌, ◌&&◌, ◌∷◌, ◌++◌, if◌then◌else◌, Option, Some, None}
use Rattle.watch.specs.Names.{ℕ, Bool, true, false, not, List, [], eqb, ltb, bit, worth, Master, Zero, One, Event, Command}
use Rattle.watch.specs.Names.{Write, Read, Stop, Pair, Lines, Tick, GeneralCall, Listener, Both, Heard}
use Rattle.watch.specs.declared.Settings.{Settings}
use Rattle.watch.specs.declared.Ear.{Ear}
use Rattle.watch.specs.Sample.{levels_below, below_before, is_timed, is_due, heard_now, lines_given, ticks_given, events_at}

-- ---- events

abbrev InBytes : Event → Type 0
InBytes e = is_bytes (raw_of e) ≡ true

command_bytes : (m : Master) (c : ℕ) → c < 256 → InBytes (Command m c)
unfolding raw_of
command_bytes Zero c h = simp (lt-ltb c 256 h)
command_bytes One c h = simp (lt-ltb c 256 h)

write_bytes : (m : Master) (v : ℕ) → v < 256 → InBytes (Write m v)
unfolding raw_of
write_bytes Zero v h = simp (lt-ltb v 256 h)
write_bytes One v h = simp (lt-ltb v 256 h)

read_bytes : (m : Master) → InBytes (Read m)
unfolding raw_of
read_bytes Zero = refl
read_bytes One = refl

stop_bytes : (m : Master) → InBytes (Stop m)
unfolding raw_of
stop_bytes Zero = refl
stop_bytes One = refl

pair_bytes : (u v : ℕ) → u < 256 → v < 256 → InBytes (Pair u v)
unfolding raw_of
pair_bytes u v h g = simp (lt-ltb u 256 h, lt-ltb v 256 g)

call_bytes : (m : Master) (v : ℕ) → v < 256 → InBytes (GeneralCall m v)
unfolding raw_of
call_bytes Zero v h = simp (lt-ltb v 256 h)
call_bytes One v h = simp (lt-ltb v 256 h)

flag_byte : (f : Bool) → ltb (worth 1 f) 256 ≡ true
flag_byte true = refl
flag_byte false = refl

lines_bytes : (scl sda intin : Bool) → InBytes (Lines scl sda intin)
unfolding raw_of
lines_bytes scl sda intin = simp (flag_byte scl, flag_byte sda, flag_byte intin)

tick_bytes : InBytes Tick
unfolding raw_of
tick_bytes = refl

-- ---- lists of them

abbrev pub AllBytes : List Event → Type 0
AllBytes [] = Unit {0}
AllBytes (e ∷ es) = InBytes e × AllBytes es

bytes_append : (p q : List Event) → AllBytes p → AllBytes q → AllBytes (p ++ q)
bytes_append [] q h g = g
bytes_append (e ∷ p) q h g = (h.0, bytes_append p q h.1 g)

-- ---- what one bus gives

abbrev GivenBytes : Option Given → Type 0
GivenBytes None = Unit {0}
GivenBytes (Some (Written v)) = v < 256
GivenBytes (Some (Gives e)) = InBytes e

byte_given : (m : Master) (a : Awaited) (v : ℕ) → v < 256 → GivenBytes (byte_gives m a v)
unfolding byte_gives
byte_given m NoByte v h = tt
byte_given m AddressByte v h = tt
byte_given m CommandByte v h = command_bytes m v h
byte_given m WriteByte v h = h
byte_given m ReadByte v h = read_bytes m
byte_given m CallByte v h = call_bytes m v h
byte_given m SkippedByte v h = tt

sign_given : (m : Master) (g : Sign) (l : Listener) → l.value < 256 → GivenBytes (gives m g l)
unfolding gives
sign_given m Steady l h = tt
sign_given m Starts l h = tt
sign_given m Stops l h = either GivenBytes l.owed (λ t. stop_bytes m) (λ f. tt)
sign_given m (Clocks b) l h = either GivenBytes (ltb l.clocks 8) (λ t. tt) (λ f. byte_given m l.awaited l.value h)

-- and its byte in hand stays one
shifted_value : (b : Bool) (v : ℕ) → v % 128 * 2 + worth 1 b < 256
shifted_value true v = omega arith
shifted_value false v = omega arith

abbrev ValueFits : Listener → Type 0
ValueFits l = l.value < 256

sign_value : (address : ℕ) (g : Sign) (l : Listener) → ValueFits l → ValueFits (heard address g l)
unfolding heard started stopped at_clock shifted ended
sign_value address Steady l h = h
sign_value address Starts l h = omega arith
sign_value address Stops l h = omega arith
sign_value address (Clocks b) l h =
    either ValueFits (is_outside l.awaited) (λ t. h) (λ f. either ValueFits (ltb l.clocks 8) (λ t. shifted_value b l.value) (λ f. omega arith))

-- ---- what both buses give

one_bytes : (h : Option Given) → GivenBytes h → AllBytes (from_one h)
one_bytes None b = tt
one_bytes (Some (Written v)) b = (write_bytes One v b, tt)
one_bytes (Some (Gives e)) b = (b, tt)

beside_bytes : (v : ℕ) (h : Option Given) → v < 256 → GivenBytes h → AllBytes (beside_write v h)
beside_bytes v None a b = (write_bytes Zero v a, tt)
beside_bytes v (Some (Written u)) a b = (pair_bytes v u a b, tt)
beside_bytes v (Some (Gives e)) a b = (write_bytes Zero v a, (b, tt))

together_bytes : (g h : Option Given) → GivenBytes g → GivenBytes h → AllBytes (together g h)
unfolding together
together_bytes None h a b = one_bytes h b
together_bytes (Some (Written v)) h a b = beside_bytes v h a b
together_bytes (Some (Gives e)) h a b = (a, one_bytes h b)

-- ---- a whole sample

abbrev pub BothFit : Both → Type 0
BothFit s = ValueFits s.bus0 × ValueFits s.bus1

-- both buses after it, and what they give
abbrev HeardFits : Heard → Type 0
HeardFits h = BothFit h.both × (GivenBytes h.given0 × GivenBytes h.given1)

sampled_fits : (address before x : ℕ) (s : Both) → BothFit s → HeardFits (sampled address before x s)
unfolding sampled
sampled_fits address before x s h = (
  (sign_value address (sign_of Zero before x) s.bus0 h.0, sign_value address (sign_of One before x) s.bus1 h.1),
  (sign_given Zero (sign_of Zero before x) s.bus0 h.0, sign_given One (sign_of One before x) s.bus1 h.1),
)

pub heard_fits : (c : Settings) (x : ℕ) (e : Ear) → BothFit e.both → HeardFits (heard_now c x e)
unfolding heard_now
heard_fits c x e h =
    let unheard : HeardFits (record { both = e.both; given0 = None; given1 = None }) = (h, (tt, tt)) in
    either HeardFits e.begun (λ t. sampled_fits c.address e.before x e.both h) (λ f. unheard)

-- one event or none
one_or_none : (t : Bool) (e : Event) → InBytes e → AllBytes (if t then e ∷ [] else [])
one_or_none true e h = (h, tt)
one_or_none false e h = tt

lines_given_lem : (c : Settings) (x : ℕ) (e : Ear) → AllBytes (lines_given c x e)
unfolding lines_given
lines_given_lem c x e =
    one_or_none (c.below && not (eqb (below_before e) (levels_below x))) (Lines (bit 4 x) (bit 5 x) (bit 6 x)) (lines_bytes (bit 4 x) (bit 5 x) (bit 6 x))

ticks_given_lem : (c : Settings) (e : Ear) → AllBytes (ticks_given c e)
unfolding ticks_given
ticks_given_lem c e = one_or_none (is_timed c e && is_due c e) Tick tick_bytes

pub events_bytes : (c : Settings) (x : ℕ) (e : Ear) → BothFit e.both → AllBytes (events_at c x e)
unfolding events_at
events_bytes c x e h =
    let now : Heard = heard_now c x e in
    let given = (heard_fits c x e h).1 in
    bytes_append (lines_given c x e) (together now.given0 now.given1 ++ ticks_given c e) (lines_given_lem c x e)
    (bytes_append (together now.given0 now.given1) (ticks_given c e) (together_bytes now.given0 now.given1 given.0 given.1) (ticks_given_lem c e))
