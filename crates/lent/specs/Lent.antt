-- What a step on a lent device leaves: the device after it, and its answer.
-- Assumes nothing.
use Rattle.std.specs.Prelude.{◌≡◌}
use Rattle.arbiter.specs.Steps.{step}
use Rattle.arbiter.specs.declared.Device.{Device}
use Rattle.arbiter.specs.declared.Raw.{Raw}
use Rattle.arbiter.specs.declared.Answer.{Answer}

abbrev pub SteppedIn : Device → Raw → Device → Answer → Type 0
SteppedIn before r after a = (after ≡ (step before r).device) × (a ≡ (step before r).answer)
