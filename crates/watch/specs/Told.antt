-- What one call of a listener takes: all samples that it is given, or those up to the first one that has something to tell. So whoever calls sees each
-- READ that differs and each fault in its own sample, and calls again with the rest.
-- Assumes nothing.
use Rattle.std.specs.Prelude.{take, ◌+◌, ◌||◌, ◌∷◌, if◌then◌else◌}
use Rattle.watch.specs.Names.{ℕ, Bool, List, [], ltb, Tally, Watcher}
use Rattle.watch.specs.Stream.{watched_at, watched}

-- a READ that differs was counted, or a fault
unfoldable pub tells : Tally → Tally → Bool
tells before after = ltb before.differences after.differences || ltb before.faults after.faults

-- the samples up to the first that tells, that one too, or all
unfoldable pub taken : List ℕ → Watcher → ℕ
taken [] w = 0
taken (x ∷ xs) w = if tells w.tally (watched_at x w).tally then 1 else 1 + taken xs (watched_at x w)

-- the listener after them
abbrev pub listened : List ℕ → Watcher → Watcher
listened xs w = watched (take (taken xs w) xs) w
