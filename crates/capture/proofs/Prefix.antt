-- One sample more: both buses after the first samples of a capture, and their events.
-- Assumes nothing.
use Prim.Native.Nat.{ℕ, zero, suc, ◌+◌, ◌-◌, ◌≤◌, ◌<◌}
use mathlib.Core.Path.{◌≡◌, refl, sym, ap, ◌∙◌}
use mathlib.Core.List.{List, [], ◌∷◌, ◌++◌, append_assoc, append-nil}
use native.Mathlib.Omega.{arith}
use native.Mathlib.Numerals.{add-one}
use lib.ListN.{length, get_or, take, length-append}
use Rattle.capture.specs.Names.{Event, Both}
use Rattle.capture.specs.Samples.{sampled, events_in, both_silent, both_from, events_from, both_after, events_after}

no_less : (n : ℕ) → n < 0 → ⊥
no_less n h = omega arith

less : (k n : ℕ) → suc k < suc n → k < n
less k n h = omega arith

one_less : (k : ℕ) → suc k - 1 ≡ k
one_less k = omega arith

both_from_lem : (address before : ℕ) (s : Both) (l : List ℕ) (k : ℕ) → k < length l
    → both_from address before s (take (suc k) l) ≡ (sampled address (get_or (before ∷ l) k 0) (get_or l k 0) (both_from address before s (take k l))).both
unfolding both_from
both_from_lem address before s [] k h = absurd (no_less k h)
both_from_lem address before s (now ∷ l) zero h = refl
both_from_lem address before s (now ∷ l) (suc k) h = both_from_lem address now (sampled address before now s).both l k (less k (length l) h)

events_from_lem : (address before : ℕ) (s : Both) (l : List ℕ) (k : ℕ) → k < length l
    → events_from address before s (take (suc k) l)
    ≡ events_from address before s (take k l) ++ events_in (sampled address (get_or (before ∷ l) k 0) (get_or l k 0) (both_from address before s (take k l)))
unfolding both_from events_from
events_from_lem address before s [] k h = absurd (no_less k h)
events_from_lem address before s (now ∷ l) zero h = append-nil (events_in (sampled address before now s))
events_from_lem address before s (now ∷ l) (suc k) h =
    ap (λ (es : List Event). events_in (sampled address before now s) ++ es)
    (events_from_lem address now (sampled address before now s).both l k (less k (length l) h))
    ∙ sym (append_assoc (events_in (sampled address before now s)) _ _)

few_from : (address before : ℕ) (s : Both) (l : List ℕ) (k : ℕ) → length (events_from address before s (take k l)) ≤ length (events_from address before s l)
unfolding events_from
few_from address before s l zero = omega arith
few_from address before s [] (suc k) = omega arith
few_from address before s (now ∷ l) (suc k) =
    let es : List Event = events_in (sampled address before now s) in
    let next : Both = (sampled address before now s).both in
    omega (arith, length-append es (events_from address now next (take k l)), length-append es (events_from address now next l), few_from address now next l k)

-- ---- a capture's first i samples, and the next one

module _ (address : ℕ) (samples : List ℕ) where
  pub both_more : (i : ℕ) → 1 ≤ i → i < length samples
      → both_after address (take (i + 1) samples) ≡ (sampled address (get_or samples (i - 1) 0) (get_or samples i 0) (both_after address (take i samples))).both
  unfolding both_after
  both_more i p h = ap (λ (n : ℕ). both_after address (take n samples)) (add-one i) ∙ go samples i p h
    where
      go : (l : List ℕ) (i : ℕ) → 1 ≤ i → i < length l
          → both_after address (take (suc i) l) ≡ (sampled address (get_or l (i - 1) 0) (get_or l i 0) (both_after address (take i l))).both
      go [] i p h = absurd (no_less i h)
      go (first ∷ rest) zero p h = absurd (no_less 0 p)
      go (first ∷ rest) (suc k) p h = rw (one_less k) (both_from_lem address first both_silent rest k (less k (length rest) h))

  pub events_more : (i : ℕ) → 1 ≤ i → i < length samples
      → events_after address (take (i + 1) samples)
      ≡ events_after address (take i samples)
      ++ events_in (sampled address (get_or samples (i - 1) 0) (get_or samples i 0) (both_after address (take i samples)))
  unfolding both_after events_after
  events_more i p h = ap (λ (n : ℕ). events_after address (take n samples)) (add-one i) ∙ go samples i p h
    where
      go : (l : List ℕ) (i : ℕ) → 1 ≤ i → i < length l
          → events_after address (take (suc i) l)
          ≡ events_after address (take i l) ++ events_in (sampled address (get_or l (i - 1) 0) (get_or l i 0) (both_after address (take i l)))
      go [] i p h = absurd (no_less i h)
      go (first ∷ rest) zero p h = absurd (no_less 0 p)
      go (first ∷ rest) (suc k) p h = rw (one_less k) (events_from_lem address first both_silent rest k (less k (length rest) h))

  -- the first samples give no more events than all
  pub events_few : (i : ℕ) → length (events_after address (take i samples)) ≤ length (events_after address samples)
  unfolding events_after
  events_few i = go samples i
    where
      go : (l : List ℕ) (i : ℕ) → length (events_after address (take i l)) ≤ length (events_after address l)
      go [] zero = omega arith
      go [] (suc k) = omega arith
      go (first ∷ rest) zero = omega arith
      go (first ∷ rest) (suc k) = few_from address first both_silent rest k

  -- the first sample is only a starting level
  pub first_both : both_after address (take 1 samples) ≡ both_silent
  unfolding both_after both_from
  first_both = go samples
    where
      go : (l : List ℕ) → both_after address (take 1 l) ≡ both_silent
      go [] = refl
      go (first ∷ rest) = refl

  pub first_events : events_after address (take 1 samples) ≡ []
  unfolding events_after events_from
  first_events = go samples
    where
      go : (l : List ℕ) → events_after address (take 1 l) ≡ []
      go [] = refl
      go (first ∷ rest) = refl
