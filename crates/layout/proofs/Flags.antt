-- A flag as the byte that stands for it: what `u8::from` gives is what the tables say.
-- Assumes nothing.
use Rattle.std.proofs.Common.{Bool, true, false, ◌≡◌, refl}
use Rattle.std.specs.Int.{from_bool}
use Rattle.arbiter.specs.Words.{worth}

pub one : (b : Bool) → from_bool b ≡ worth 1 b
one true = refl
one false = refl
