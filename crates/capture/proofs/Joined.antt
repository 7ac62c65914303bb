-- Both buses at once give what each gives by itself.
-- Assumes nothing.
use mathlib.Core.Path.{◌≡◌, refl, ap}
use Rattle.std.specs.Prelude.{◌∷◌, ◌++◌}
use Rattle.capture.specs.Names.{ℕ, List, [], map, Zero, One, Event, Both}
use Rattle.capture.specs.OneBus.{levels, signs_after, signs, heard_from, given_from, given, cut_on}
use Rattle.capture.specs.Events.{merged, captured}
use Rattle.capture.specs.Samples.{sampled, events_in, both_silent, both_from, events_from, both_after, events_after}
use Rattle.capture.specs.Answers.{EventsJoined, CutJoined}

bus_0 : (address before : ℕ) (s : Both) (rest : List ℕ)
    → (both_from address before s rest).bus0 ≡ heard_from address s.bus0 (signs_after (levels Zero before) (map (levels Zero) rest))
unfolding both_from heard_from signs_after sampled
bus_0 address before s [] = refl
bus_0 address before s (now ∷ rest) = bus_0 address now (sampled address before now s).both rest

bus_1 : (address before : ℕ) (s : Both) (rest : List ℕ)
    → (both_from address before s rest).bus1 ≡ heard_from address s.bus1 (signs_after (levels One before) (map (levels One) rest))
unfolding both_from heard_from signs_after sampled
bus_1 address before s [] = refl
bus_1 address before s (now ∷ rest) = bus_1 address now (sampled address before now s).both rest

events_from_lem : (address before : ℕ) (s : Both) (rest : List ℕ)
    → events_from address before s rest
    ≡ merged (given_from Zero address s.bus0 (signs_after (levels Zero before) (map (levels Zero) rest)))
    (given_from One address s.bus1 (signs_after (levels One before) (map (levels One) rest)))
unfolding events_from merged given_from signs_after sampled
events_from_lem address before s [] = refl
events_from_lem address before s (now ∷ rest) =
    ap (λ (l : List Event). events_in (sampled address before now s) ++ l) (events_from_lem address now (sampled address before now s).both rest)

-- ---- a whole capture

pub events_joined : EventsJoined
unfolding events_after captured given signs given_from merged
events_joined address [] = refl
events_joined address (first ∷ rest) = events_from_lem address first both_silent rest

pub cut_joined : CutJoined
unfolding both_after cut_on signs heard_from
cut_joined address [] = refl
cut_joined address (first ∷ rest) = rw (bus_0 address first both_silent rest, bus_1 address first both_silent rest) refl
