-- The events of one sample as a list.
-- Assumes nothing.
use Rattle.std.specs.Prelude.{List, [], ◌∷◌, Option, Some, None}
use Rattle.arbiter.specs.declared.Event.{Event}

-- one event, or none
abbrev pub one_listed : Option Event → List Event
one_listed None = []
one_listed (Some e) = e ∷ []

-- at most two: the first, and the one after it
abbrev pub listed : Option (Event × Option Event) → List Event
listed None = []
listed (Some (e, rest)) = e ∷ one_listed rest
