-- Laws of `capture`: what an auditor may want of any capture: bits 4 to 7 play no part, each bus is heard by itself, and a sample that only
-- repeats the one before it changes nothing.
-- Assumes nothing.
use Rattle.std.specs.Prelude.{None}
use Prim.Native.Nat.{ℕ, ◌/◌, ◌%◌}
use mathlib.Core.Path.{◌≡◌, refl, sym, ap, ◌∙◌}
use mathlib.Core.Bool.{Bool, true, false, ◌||◌}
use mathlib.Core.List.{List, [], ◌∷◌, ◌++◌, map}
use native.Mathlib.Omega.{arith}
use lib.Dec.{eqb}
use Rattle.capture.specs.Names.{Master, Zero, One, Event, Levels, Steady, Both, Heard}
use Rattle.capture.specs.OneBus.{levels, sign, signs, heard_from, given_from, given, heard, gives, silent, is_cut, cut_on}
use Rattle.capture.specs.Events.{together, merged, captured}
use Rattle.capture.specs.Import.{cut_on_either}
use Rattle.capture.specs.Samples.{sampled, events_in, both_silent, both_from, events_from, both_after, events_after}
use Rattle.capture.specs.Answers.{OwnLines, low_bits, UpperBitsIgnored, RepeatedSample}
use Rattle.capture.proofs.Joined.{events_joined, cut_joined}

-- ---- each bus by itself: what it gives, and whether it refuses, comes of its own two lines alone

pub own_lines : OwnLines
unfolding given cut_on
own_lines m address p q h = (
  ap (λ (l : List Levels). given_from m address silent (signs l)) h,
  ap (λ (l : List Levels). is_cut (heard_from address silent (signs l))) h,
)

-- captures that agree on both buses give the same, and are refused alike
pub both_lines : (address : ℕ) (p q : List ℕ) → ((m : Master) → map (levels m) p ≡ map (levels m) q)
    → (captured address p ≡ captured address q) × (cut_on_either address p ≡ cut_on_either address q)
unfolding captured
both_lines address p q h =
    let z = own_lines Zero address p q (h Zero) in
    let o = own_lines One address p q (h One) in
    (λ j. merged (z.0 j) (o.0 j), λ j. z.1 j || o.1 j)

-- ---- "bits 4 to 7 are ignored"

low_bits_lem : (x : ℕ) → (x % 16 / 1 % 2 ≡ x / 1 % 2) × (x % 16 / 2 % 2 ≡ x / 2 % 2) × (x % 16 / 4 % 2 ≡ x / 4 % 2) × (x % 16 / 8 % 2 ≡ x / 8 % 2)
low_bits_lem x = (omega arith, omega arith, omega arith, omega arith)

same_levels : (m : Master) (x : ℕ) → levels m (x % 16) ≡ levels m x
same_levels Zero x =
    let b = low_bits_lem x in
    λ j. record { scl = eqb (b.0 j) 1; sda = eqb (b.1 j) 1 }
same_levels One x =
    let b = low_bits_lem x in
    λ j. record { scl = eqb (b.2 j) 1; sda = eqb (b.3 j) 1 }

same_lines : (m : Master) (samples : List ℕ) → map (levels m) (low_bits samples) ≡ map (levels m) samples
same_lines m [] = refl
same_lines m (x ∷ rest) = λ j. same_levels m x j ∷ same_lines m rest j

pub upper_bits_ignored : UpperBitsIgnored
upper_bits_ignored address samples = both_lines address (low_bits samples) samples λ m. same_lines m samples

-- ---- the sample before again

pub same_steady : (l : Levels) → sign l l ≡ Steady
unfolding sign
same_steady l = go l.scl l.sda
  where
    go : (c d : Bool) → sign (record { scl = c; sda = d }) (record { scl = c; sda = d }) ≡ Steady
    go true true = refl
    go true false = refl
    go false true = refl
    go false false = refl

again : (address x : ℕ) (s : Both) → sampled address x x s ≡ record { both = s; given0 = None; given1 = None }
unfolding sampled heard gives
again address x s = rw (same_steady (levels Zero x), same_steady (levels One x)) refl

from_again : (address before x : ℕ) (s : Both) (p q : List ℕ)
    → (events_from address before s (p ++ x ∷ x ∷ q) ≡ events_from address before s (p ++ x ∷ q))
    × (both_from address before s (p ++ x ∷ x ∷ q) ≡ both_from address before s (p ++ x ∷ q))
unfolding events_from both_from together
from_again address before x s [] q =
    let n : Both = (sampled address before x s).both in
    let same = again address x n in (
      ap (λ (h : Heard). events_in (sampled address before x s) ++ (events_in h ++ events_from address x h.both q)) same,
      ap (λ (h : Heard). both_from address x h.both q) same,
    )
from_again address before x s (y ∷ p) q =
    let rest = from_again address y x (sampled address before y s).both p q in
    (ap (λ (es : List Event). events_in (sampled address before y s) ++ es) rest.0, rest.1)

after_again : (address x : ℕ) (p q : List ℕ)
    → (events_after address (p ++ x ∷ x ∷ q) ≡ events_after address (p ++ x ∷ q)) × (both_after address (p ++ x ∷ x ∷ q) ≡ both_after address (p ++ x ∷ q))
unfolding events_after both_after events_from both_from together
after_again address x [] q =
    let same = again address x both_silent in
    (ap (λ (h : Heard). events_in h ++ events_from address x h.both q) same, ap (λ (h : Heard). both_from address x h.both q) same)
after_again address x (first ∷ p) q = from_again address first x both_silent p q

pub repeated_sample : RepeatedSample
repeated_sample address x p q =
    let same = after_again address x p q in (
      sym (events_joined address (p ++ x ∷ x ∷ q)) ∙ same.0 ∙ events_joined address (p ++ x ∷ q),
      sym (cut_joined address (p ++ x ∷ x ∷ q)) ∙ ap (λ (s : Both). is_cut s.bus0 || is_cut s.bus1) same.1 ∙ cut_joined address (p ++ x ∷ q),
    )
