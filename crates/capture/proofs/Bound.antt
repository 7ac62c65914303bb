-- No capture gives above 4,096 events: an event takes nine samples, so 32,768 samples give at most 3,640.
-- The weight of a bus: two for each rising clock of the byte in hand, one while SCL is low, and eighteen where a STOP is owed or the address
-- byte is past. An event takes eighteen from it, and one sample adds at most one to it.
-- Assumes nothing.
use Prim.Native.Nat.{◌≤◌}
use mathlib.Core.Path.{◌≡◌, refl, sym, ap}
use mathlib.Core.Bool.{true≢false}
use native.Mathlib.Omega.{arith}
use lib.ListN.{length-append, length-map}
use borrow.Author.Tests.{ltb-false}
use Rattle.arbiter.proofs.Choice.{either, split}
use Rattle.std.specs.Prelude.{◌+◌, ◌*◌, ◌&&◌, ◌||◌, ◌∷◌, if◌then◌else◌, Option, Some, None}
use Rattle.capture.specs.Names.{ℕ, Bool, true, false, not, List, [], map, ltb, length, Master, Zero, One, Stop}
use Rattle.capture.specs.Names.{Levels, Sign, Steady, Starts, Stops, Clocks, Awaited, NoByte, AddressByte, CommandByte, WriteByte, ReadByte, CallByte}
use Rattle.capture.specs.Names.{SkippedByte, Listener, Given, Written, Gives}
use Rattle.capture.specs.OneBus.{levels, is_start, is_stop, rises, sign, signs_after, signs, addressed, awaited_after, byte_gives, owes, is_outside, silent}
use Rattle.capture.specs.OneBus.{started, stopped, shifted, ended, at_clock, heard, gives, given_from, given}
use Rattle.capture.specs.Events.{from_one, beside_write, together, merged, captured}
use Rattle.capture.specs.Answers.{NineSamples, MostCaptured, CapturedInRange}

-- ---- the weight

abbrev past : Awaited → ℕ
past NoByte = 0
past AddressByte = 0
past CommandByte = 18
past WriteByte = 18
past ReadByte = 18
past CallByte = 18
past SkippedByte = 18

abbrev kept : Bool → Awaited → ℕ
kept owed p = if owed then 18 else past p

abbrev low : Bool → ℕ
low scl = if scl then 0 else 1

abbrev weight : Levels → Listener → ℕ
weight now l = l.clocks * 2 + low now.scl + kept l.owed l.awaited

abbrev count : Option Given → ℕ
count None = 0
count (Some (Written v)) = 1
count (Some (Gives e)) = 1

low_most : (b : Bool) → low b ≤ 1
low_most true = omega arith
low_most false = omega arith

kept_most : (owed : Bool) (p : Awaited) → kept owed p ≤ 18
kept_most true p = omega arith
kept_most false NoByte = omega arith
kept_most false AddressByte = omega arith
kept_most false CommandByte = omega arith
kept_most false WriteByte = omega arith
kept_most false ReadByte = omega arith
kept_most false CallByte = omega arith
kept_most false SkippedByte = omega arith

-- ---- one sample

abbrev Fair : Master → ℕ → Levels → Levels → Listener → Sign → Type 0
Fair m address was now l s = count (gives m s l) * 18 + weight now (heard address s l) ≤ weight was l + 1

steady_fair : (m : Master) (address : ℕ) (was now : Levels) (l : Listener) → Fair m address was now l Steady
unfolding heard gives
steady_fair m address was now l = omega (arith, low_most was.scl, low_most now.scl)

starts_fair : (m : Master) (address : ℕ) (was now : Levels) (l : Listener) → now.scl ≡ true → Fair m address was now l Starts
unfolding heard gives started
starts_fair m address was now l h =
    let e : low now.scl ≡ 0 = ap low h in
    let k : kept l.owed AddressByte ≤ kept l.owed l.awaited = go l.owed l.awaited in
    omega (arith, e, k)
  where
    go : (o : Bool) (p : Awaited) → kept o AddressByte ≤ kept o p
    go true p = omega arith
    go false p = omega arith

stops_fair : (m : Master) (address : ℕ) (was now : Levels) (l : Listener) → now.scl ≡ true → Fair m address was now l Stops
unfolding heard gives stopped
stops_fair m address was now l h =
    let e : low now.scl ≡ 0 = ap low h in
    let k : count (if l.owed then Some (Gives (Stop m)) else None) * 18 ≤ kept l.owed l.awaited = go l.owed l.awaited in
    omega (arith, e, k)
  where
    go : (o : Bool) (p : Awaited) → count (if o then Some (Gives (Stop m)) else None) * 18 ≤ kept o p
    go true p = omega arith
    go false p = omega arith

-- a byte's end: how many events it gives goes by what the byte is for, it has had eight clocks, and outside START to STOP there is none
abbrev dues : Awaited → ℕ
dues NoByte = 0
dues AddressByte = 0
dues CommandByte = 1
dues WriteByte = 1
dues ReadByte = 1
dues CallByte = 1
dues SkippedByte = 0

byte_dues : (m : Master) (p : Awaited) (v : ℕ) → count (byte_gives m p v) ≡ dues p
unfolding byte_gives
byte_dues m NoByte v = refl
byte_dues m AddressByte v = refl
byte_dues m CommandByte v = refl
byte_dues m WriteByte v = refl
byte_dues m ReadByte v = refl
byte_dues m CallByte v = refl
byte_dues m SkippedByte v = refl

outside_dues : (p : Awaited) → is_outside p ≡ true → dues p ≡ 0
unfolding is_outside
outside_dues NoByte h = refl
outside_dues AddressByte h = refl
outside_dues CommandByte h = absurd (true≢false (sym h))
outside_dues WriteByte h = absurd (true≢false (sym h))
outside_dues ReadByte h = absurd (true≢false (sym h))
outside_dues CallByte h = absurd (true≢false (sym h))
outside_dues SkippedByte h = refl

ended_fair : (address v c : ℕ) (o : Bool) (p : Awaited) → 8 ≤ c → is_outside p ≡ false
    → dues p * 18 + kept (o || owes p) (awaited_after address p v) ≤ c * 2 + 1 + kept o p + 1
unfolding owes awaited_after is_outside
ended_fair address v c o NoByte h x = absurd (true≢false x)
ended_fair address v c o AddressByte h x = omega (arith, kept_most (o || false) (addressed address v))
ended_fair address v c true CommandByte h x = omega arith
ended_fair address v c false CommandByte h x = omega arith
ended_fair address v c true WriteByte h x = omega arith
ended_fair address v c false WriteByte h x = omega arith
ended_fair address v c true ReadByte h x = omega arith
ended_fair address v c false ReadByte h x = omega arith
ended_fair address v c true CallByte h x = omega arith
ended_fair address v c false CallByte h x = omega arith
ended_fair address v c true SkippedByte h x = omega arith
ended_fair address v c false SkippedByte h x = omega arith

clocks_fair : (m : Master) (address : ℕ) (was now : Levels) (b : Bool) (l : Listener) → was.scl ≡ false → now.scl ≡ true → Fair m address was now l (Clocks b)
unfolding heard gives at_clock shifted ended
clocks_fair m address was now b l w h =
    let d : low was.scl ≡ 1 = ap low w in
    let e : low now.scl ≡ 0 = ap low h in
    split (is_outside l.awaited)
    (λ x. split (ltb l.clocks 8) (λ t. rw (x, t) (omega (arith, d, e))) (λ t. rw (x, t) (simp byte_dues (omega (arith, d, e, outside_dues l.awaited x)))))
    λ x. split (ltb l.clocks 8) (λ t. rw (x, t) (omega (arith, d, e)))
    λ t. rw (x, t) (simp byte_dues (omega (arith, d, e, ended_fair address l.value l.clocks l.owed l.awaited (ltb-false l.clocks 8 t) x)))

-- the level of SCL that a sign shows
and_4 : (a b c d : Bool) → (a && b && c && d) ≡ true → b ≡ true
and_4 true true c d h = refl
and_4 true false c d h = absurd (true≢false (sym h))
and_4 false b c d h = absurd (true≢false (sym h))

rise_levels : (a b : Bool) → (not a && b) ≡ true → (a ≡ false) × (b ≡ true)
rise_levels true b h = absurd (true≢false (sym h))
rise_levels false b h = (refl, h)

pub sample_fair : (m : Master) (address : ℕ) (was now : Levels) (l : Listener) → Fair m address was now l (sign was now)
unfolding sign
sample_fair m address was now l =
    either (Fair m address was now l) (is_start was now) (λ t. starts_fair m address was now l (and_4 was.scl now.scl was.sda (not now.sda) t))
    λ x. either (Fair m address was now l) (is_stop was now) (λ t. stops_fair m address was now l (and_4 was.scl now.scl (not was.sda) now.sda t))
    λ y. either (Fair m address was now l) (rises was now)
    (λ t. clocks_fair m address was now now.sda l (rise_levels was.scl now.scl t).0 (rise_levels was.scl now.scl t).1)
    λ z. steady_fair m address was now l

-- ---- a capture on one bus: eighteen samples an event

abbrev counts : List (Option Given) → ℕ
counts [] = 0
counts (g ∷ gs) = count g + counts gs

from_fair : (m : Master) (address : ℕ) (was : Levels) (l : Listener) (rest : List Levels)
    → counts (given_from m address l (signs_after was rest)) * 18 ≤ weight was l + length rest
unfolding given_from signs_after
from_fair m address was l [] = omega arith
from_fair m address was l (now ∷ rest) =
    omega (arith, sample_fair m address was now l, from_fair m address now (heard address (sign was now) l) rest)

pub bus_fair : (m : Master) (address : ℕ) (samples : List ℕ) → counts (given m address samples) * 18 ≤ length samples
unfolding given signs given_from
bus_fair m address [] = omega arith
bus_fair m address (first ∷ rest) =
    omega (arith, from_fair m address (levels m first) silent (map (levels m) rest), low_most (levels m first).scl, length-map rest (levels m))

-- ---- both buses: a PAIR is one event

beside_few : (v : ℕ) (h : Option Given) → length (beside_write v h) ≤ 1 + count h
beside_few v None = omega arith
beside_few v (Some (Written u)) = omega arith
beside_few v (Some (Gives e)) = omega arith

one_few : (h : Option Given) → length (from_one h) ≤ count h
one_few None = omega arith
one_few (Some (Written v)) = omega arith
one_few (Some (Gives e)) = omega arith

together_few : (g h : Option Given) → length (together g h) ≤ count g + count h
unfolding together
together_few None h = omega (arith, one_few h)
together_few (Some (Written v)) h = omega (arith, beside_few v h)
together_few (Some (Gives e)) h = omega (arith, one_few h)

merged_few : (gs hs : List (Option Given)) → length (merged gs hs) ≤ counts gs + counts hs
unfolding merged
merged_few [] hs = omega arith
merged_few (g ∷ gs) [] = omega arith
merged_few (g ∷ gs) (h ∷ hs) = omega (arith, together_few g h, merged_few gs hs, length-append (together g h) (merged gs hs))

-- Nine samples an event,
pub nine_samples : NineSamples
unfolding captured
nine_samples address samples =
    omega (arith, bus_fair Zero address samples, bus_fair One address samples, merged_few (given Zero address samples) (given One address samples))

-- so at most 3,640 in a capture that is not refused for its length, and proofs/Densest.antt has one that gives as many:
pub most_captured : MostCaptured
most_captured address samples h = omega (arith, nine_samples address samples)

-- "No capture gives above 4,096 events".
pub captured_in_range : CapturedInRange
captured_in_range address samples h = omega (arith, nine_samples address samples)
