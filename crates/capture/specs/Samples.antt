-- Both buses at once, sample by sample, as the code goes through a capture. proofs/Joined.antt proves that this gives what each bus gives by
-- itself.
-- Assumes nothing.
use Rattle.std.specs.Prelude.{◌∷◌, ◌++◌}
use Rattle.capture.specs.Names.{ℕ, List, [], Master, Zero, One, Event, Both, Heard, Sign}
use Rattle.capture.specs.OneBus.{levels, sign, heard, gives, silent}
use Rattle.capture.specs.Events.{together}

abbrev pub sign_of : Master → ℕ → ℕ → Sign
sign_of m before now = sign (levels m before) (levels m now)

abbrev pub both_silent : Both
both_silent = record { bus0 = silent; bus1 = silent }

-- one sample, after the one before it
unfoldable pub sampled : ℕ → ℕ → ℕ → Both → Heard
sampled address before now s =
    record {
      both = record { bus0 = heard address (sign_of Zero before now) s.bus0; bus1 = heard address (sign_of One before now) s.bus1 };
      given0 = gives Zero (sign_of Zero before now) s.bus0;
      given1 = gives One (sign_of One before now) s.bus1;
    }

abbrev pub events_in : Heard → List Event
events_in h = together h.given0 h.given1

-- from the sample before, through the others
unfoldable pub both_from : ℕ → ℕ → Both → List ℕ → Both
both_from address before s [] = s
both_from address before s (now ∷ rest) = both_from address now (sampled address before now s).both rest

unfoldable pub events_from : ℕ → ℕ → Both → List ℕ → List Event
events_from address before s [] = []
events_from address before s (now ∷ rest) = events_in (sampled address before now s) ++ events_from address now (sampled address before now s).both rest

-- a whole capture
unfoldable pub both_after : ℕ → List ℕ → Both
both_after address [] = both_silent
both_after address (first ∷ rest) = both_from address first both_silent rest

unfoldable pub events_after : ℕ → List ℕ → List Event
events_after address [] = []
events_after address (first ∷ rest) = events_from address first both_silent rest
