-- A count that is a byte stays one, whatever its top.
-- Assumes nothing.
use Rattle.std.proofs.Common.{arith, ℕ, ◌<◌, ◌+◌, Bool, ltb, ◌&&◌}
use mathlib.Core.Bool.{and-eq-true_iff}
use borrow.Author.Tests.{ltb-true}
use Rattle.arbiter.specs.Effects.{counted_to}
use Rattle.arbiter.proofs.Choice.{either}

pub counted_byte : (top : ℕ) (up : Bool) (n : ℕ) → top < 256 → n < 256 → counted_to top up n < 256
counted_byte top up n h k =
    either (λ (x : ℕ). x < 256) (up && ltb n top) (λ x. let l = ltb-true n top ((and-eq-true_iff up (ltb n top)).0 x).1 in omega arith) (λ x. k)
