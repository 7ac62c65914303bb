-- An input longer than any trace lists as its beginning does, one byte more than the longest trace, so a program need not read further.
-- proofs/Long.antt proves it.
-- Assumes nothing.
use Rattle.std.specs.Prelude.{◌≡◌, List, ℕ, ◌+◌, ◌≤◌, length, take}
use Rattle.arbiter.specs.Traces.{most_bytes}
use Rattle.arbiter.specs.Listing.{listing}

-- what a program reads at most
abbrev pub enough : ℕ
enough = most_bytes + 1

abbrev pub LongListing : Type 0
LongListing = (t : List ℕ) → enough ≤ length t → listing (take enough t) ≡ listing t
