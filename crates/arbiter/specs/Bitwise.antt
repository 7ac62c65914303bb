-- INT_STATUS and INT_MSK are kept as bytes (Registers). Here is what the operations on them mean bit by bit, in document 01's words, for
-- every value that they can have. proofs/Bitwise.antt proves it.
-- Assumes nothing.
use Rattle.std.specs.Prelude.{◌≡◌, ◌<◌, ◌&&◌, ◌||◌}
use Rattle.arbiter.specs.Types.{ℕ, Bool, not}
use Rattle.arbiter.specs.Words.{bit}
use Rattle.arbiter.specs.Registers.{is_asserted, cleared}

-- status bit k is set and has mask 0
abbrev pub shows : ℕ → ℕ → ℕ → Bool
shows k i mask = bit k i && not (bit k mask)

-- "An output is asserted exactly if some status bit of 6 to 0 that is set has mask 0." Bit 6 is BUS_HUNG.
abbrev pub some_shows : Bool → ℕ → ℕ → Bool
some_shows hung i mask =
    (hung && not (bit 6 mask)) || shows 5 i mask || shows 4 i mask || shows 3 i mask || shows 2 i mask || shows 1 i mask || shows 0 i mask

abbrev pub AssertedBitByBit : Type 0
AssertedBitByBit = (hung : Bool) (i mask : ℕ) → i < 64 → mask < 128 → is_asserted hung i mask ≡ some_shows hung i mask

-- "INT_STATUS bits 5 to 0 stay until written 1": bit k is set afterwards exactly if it was set and k was not written 1
abbrev pub ClearedBitByBit : Type 0
ClearedBitByBit = (k v i : ℕ) → k < 6 → v < 256 → i < 64 → bit k (cleared v i) ≡ (bit k i && not (bit k v))
