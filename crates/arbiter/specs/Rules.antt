-- Request #105: the two kinds of part, and the two rules in which they differ. Everything else is document 01's for both.
-- Assumes nothing.
use Rattle.arbiter.specs.Types.{ℕ, Bool, true, false, Kind, Pca9641, Tpt29641, Device}

-- the idle count at which an owner loses and where the count stops, and whether the pointer of a WRITE rolls from 7 to 0
pub record Rules : Type 0 where
  pub idle_limit : ℕ
  pub rolls : Bool

-- Not unfolded by the proofs of what holds of a step: they go over any rules. What they need is that the limit is not 0.
unfoldable pub rules_of : Kind → Rules
rules_of Pca9641 = record { idle_limit = 101; rolls = false }
rules_of Tpt29641 = record { idle_limit = 151; rolls = true }

abbrev pub limit_of : Kind → ℕ
limit_of k = (rules_of k).idle_limit

-- the rules of a device's kind
abbrev pub idle_limit : Device → ℕ
idle_limit d = limit_of d.kind

abbrev pub rolls : Device → Bool
rolls d = (rules_of d.kind).rolls
