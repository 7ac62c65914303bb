-- STATUS shows which box is full.
-- Assumes nothing.
use mathlib.Core.Path.{◌≡◌, refl}
use mathlib.Core.Bool.{Bool, true, false, not, ◌&&◌, beq, and-eq-true_iff}
use Rattle.mail.specs.Names.{ℕ, Side, bit, partner, side}
use Rattle.mail.specs.Using.{StatusShows}
use Rattle.arbiter.specs.declared.Bus.{Bus}
use Rattle.arbiter.specs.Words.{byte_of}
use Rattle.arbiter.specs.State.{owns, scl_high, sda_high, bus_hung}
use Rattle.arbiter.specs.Registers.{status_byte, register_byte}
use Rattle.arbiter.proofs.Every.{both, both_at}
use Rattle.arbiter.proofs.Bitwise.{same}

-- bits 4 and 3 of a byte are the fourth and fifth that it is made of: a test at all truth values
abbrev two_bits : Bool → Bool → Bool → Bool → Bool → Bool → Bool → Bool → Bool
two_bits b7 b6 b5 b4 b3 b2 b1 b0 =
    let v : ℕ = byte_of b7 b6 b5 b4 b3 b2 b1 b0 in
    beq (bit 4 v) b4 && beq (bit 3 v) b3

all_bits : both (λ b7. both (λ b6. both (λ b5. both (λ b4. both (λ b3. both (λ b2. both (λ b1. both (λ b0. two_bits b7 b6 b5 b4 b3 b2 b1 b0)))))))) ≡ true
unfolding both byte_of
all_bits = refl

two_bits_lem : (b7 b6 b5 b4 b3 b2 b1 b0 : Bool) → let v : ℕ = byte_of b7 b6 b5 b4 b3 b2 b1 b0 in (bit 4 v ≡ b4) × (bit 3 v ≡ b3)
two_bits_lem b7 b6 b5 b4 b3 b2 b1 b0 =
    let v : ℕ = byte_of b7 b6 b5 b4 b3 b2 b1 b0 in
    let t = both_at _ (both_at _ (both_at _ (both_at _ (both_at _ (both_at _ (both_at _ (both_at _ all_bits b7) b6) b5) b4) b3) b2) b1) b0 in
    let two = (and-eq-true_iff (beq (bit 4 v) b4) (beq (bit 3 v) b3)).0 t in
    (same (bit 4 v) b4 two.0, same (bit 3 v) b3 two.1)

pub status_shows : StatusShows
unfolding register_byte status_byte
status_shows m d =
    let own : Side = side m d in
    let other : Side = side (partner m) d in
    let b : Bus = d.bus in
    two_bits_lem (sda_high b) (scl_high b) false own.mail.full (not other.mail.full) (bus_hung b) d.arb.initfail (owns (partner m) d)
