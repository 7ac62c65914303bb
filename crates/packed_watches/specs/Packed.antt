-- What listening tells, as the library tells of it to another language: document 02's number in the low byte, what was taken above it.
-- Assumes nothing.
use Rattle.std.specs.Prelude.{ℕ, ◌+◌, ◌*◌, List, ltb, length, take, if◌then◌else◌}
use Rattle.watchlayout.specs.Refusals.{Heeded}

-- a call hears so many samples at most; the others are left, as those after a sample that has something to tell
abbrev pub most_at_once : ℕ
most_at_once = 4294967295

abbrev pub count_at_once : ℕ → ℕ
count_at_once n = if ltb most_at_once n then most_at_once else n

abbrev pub at_once : List ℕ → List ℕ
at_once xs = take (count_at_once (length xs)) xs

-- the number, and from 256 on the count of samples taken
abbrev pub packed_heeded : Heeded → ℕ
packed_heeded r = r.number + 256 * r.taken
