-- A buffer with a part of it written anew: what lies before the part and after it stays.
-- Assumes nothing.
use Rattle.std.specs.Prelude.{ℕ, ◌+◌, List, ◌++◌, length, take, drop}
use Rattle.watch.specs.declared.Tally.{Tally}
use Rattle.watchlayout.specs.Numbers.{long_bytes}
use Rattle.watchlayout.specs.Places.{check_bytes}

abbrev pub with_part : ℕ → List ℕ → List ℕ → List ℕ
with_part at part b = take at b ++ (part ++ drop (at + length part) b)

-- the two halves of a tally (watchlayout/specs/Places): its counts, and the three READs
abbrev pub count_bytes : Tally → List ℕ
count_bytes t =
    long_bytes t.samples ++ long_bytes t.events ++ long_bytes t.reads ++ long_bytes t.differences ++ long_bytes t.faults
    ++ long_bytes t.fault

abbrev pub read_bytes : Tally → List ℕ
read_bytes t = check_bytes t.first ++ check_bytes t.read0 ++ check_bytes t.read1
