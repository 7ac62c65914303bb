-- A capture with as many events as any can have, 3,640: both masters read without a pause, and stop while the last ninth clock is still high.
-- Assumes nothing.
use Prim.Native.Nat.{ℕ, zero, suc, ◌+◌, ◌*◌}
use mathlib.Core.Path.{◌≡◌, refl, sym, ap, ◌∙◌}
use mathlib.Core.Bool.{true, false, ◌||◌}
use mathlib.Core.List.{List, [], ◌∷◌}
use native.Mathlib.Omega.{arith}
use lib.ListN.{length}
use Rattle.capture.specs.Names.{Zero, One, Read, Stop, ReadByte, Listener, Both}
use Rattle.capture.specs.OneBus.{sign, addressed, awaited_after, byte_gives, owes, is_outside, started, stopped, shifted, ended, at_clock, heard, gives}
use Rattle.capture.specs.OneBus.{is_cut}
use Rattle.capture.specs.Events.{together, captured}
use Rattle.capture.specs.Import.{cut_on_either, import_number}
use Rattle.capture.specs.Samples.{sampled, both_from, events_from, both_after, events_after}
use Rattle.capture.specs.Answers.{MostReached}
use Rattle.capture.proofs.Joined.{events_joined, cut_joined}

-- ---- the capture

-- a clock with SDA low or high on both buses, two samples
abbrev low : List ℕ → List ℕ
low rest = 0x00 ∷ 0x05 ∷ rest

abbrev high : List ℕ → List ℕ
high rest = 0x0A ∷ 0x0F ∷ rest

-- address 70h with the read bit, acknowledged; a byte 00h
abbrev address : List ℕ → List ℕ
address rest = high (high (high (low (low (low (low (high (low rest))))))))

abbrev byte : List ℕ → List ℕ
byte rest = low (low (low (low (low (low (low (low (low rest))))))))

bytes : ℕ → List ℕ → List ℕ
bytes zero rest = rest
bytes (suc n) rest = byte (bytes n rest)

densest : List ℕ
densest = 0x0F ∷ 0x05 ∷ address (byte (bytes 1818 (0x0F ∷ [])))

-- ---- what it gives

abbrev reading : Listener
reading = record { awaited = ReadByte; clocks = 0; value = 0; owed = true; broken = false }

abbrev both : Both
both = record { bus0 = reading; bus1 = reading }

-- one byte more on both buses gives two events,
one_byte : (rest : List ℕ) → (events_from 0x70 0x05 both (byte rest) ≡ Read Zero ∷ Read One ∷ events_from 0x70 0x05 both rest)
    × (both_from 0x70 0x05 both (byte rest) ≡ both_from 0x70 0x05 both rest)
unfolding events_from both_from sampled sign heard gives at_clock shifted ended awaited_after byte_gives owes is_outside together
one_byte rest = (refl, refl)

-- and so do all of them
all_bytes : (n : ℕ) (rest : List ℕ) → (length (events_from 0x70 0x05 both (bytes n rest)) ≡ 2 * n + length (events_from 0x70 0x05 both rest))
    × (both_from 0x70 0x05 both (bytes n rest) ≡ both_from 0x70 0x05 both rest)
unfolding bytes
all_bytes zero rest = (omega arith, refl)
all_bytes (suc n) rest =
    let more = one_byte (bytes n rest) in
    let others = all_bytes n rest in
    (omega (arith, ap length more.0, others.0), more.1 ∙ others.1)

bytes_long : (n : ℕ) (rest : List ℕ) → length (bytes n rest) ≡ 18 * n + length rest
unfolding bytes
bytes_long zero rest = omega arith
bytes_long (suc n) rest = omega (arith, bytes_long n rest)

-- up to its first READ, and from the last to its end
opening : (rest : List ℕ) → (events_after 0x70 (0x0F ∷ 0x05 ∷ address (byte rest)) ≡ Read Zero ∷ Read One ∷ events_from 0x70 0x05 both rest)
    × (both_after 0x70 (0x0F ∷ 0x05 ∷ address (byte rest)) ≡ both_from 0x70 0x05 both rest)
unfolding events_after both_after events_from both_from sampled sign heard gives started at_clock shifted ended addressed awaited_after byte_gives owes
    is_outside
    together
opening rest = (refl, refl)

closing : (events_from 0x70 0x05 both (0x0F ∷ []) ≡ Stop Zero ∷ Stop One ∷ [])
    × ((is_cut (both_from 0x70 0x05 both (0x0F ∷ [])).bus0 || is_cut (both_from 0x70 0x05 both (0x0F ∷ [])).bus1) ≡ false)
unfolding events_from both_from sampled sign heard gives stopped together
closing = (refl, refl)

densest_count : length (captured 0x70 densest) ≡ 3640
unfolding densest
densest_count =
    let rest = bytes 1818 (0x0F ∷ []) in
    omega (arith, ap length (sym (events_joined 0x70 densest) ∙ (opening rest).0), (all_bytes 1818 (0x0F ∷ [])).0, ap length closing.0)

densest_long : length densest ≡ 32763
unfolding densest
densest_long = omega (arith, bytes_long 1818 (0x0F ∷ []))

densest_whole : cut_on_either 0x70 densest ≡ false
unfolding densest
densest_whole =
    let rest = bytes 1818 (0x0F ∷ []) in
    sym (cut_joined 0x70 densest)
    ∙ ap (λ (s : Both). is_cut s.bus0 || is_cut s.bus1) ((opening rest).1 ∙ (all_bytes 1818 (0x0F ∷ [])).1)
    ∙ closing.1

-- It is accepted where there is room for 3,640 events, and not with a byte less.
pub most_reached : MostReached
unfolding import_number
most_reached =
    record {
      address = 0x70;
      samples = densest;
      count = densest_count;
      accepted = rw (densest_long, densest_whole, densest_count) refl;
      no_room = rw (densest_long, densest_whole, densest_count) refl;
    }
