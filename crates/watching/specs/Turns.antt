-- One turn of the walk through a chunk: from sample i to sample j.
-- Assumes nothing.
use Rattle.std.specs.Prelude.{ℕ, ◌+◌, ◌-◌, Bool, List, take, drop, if◌then◌else◌}
use Rattle.watch.specs.declared.Watcher.{Watcher}
use Rattle.watch.specs.Stream.{watched}
use Rattle.watch.specs.Told.{taken}

-- the samples from i up to j, heard
abbrev pub turned : List ℕ → ℕ → ℕ → Watcher → Watcher
turned samples i j w = watched (take (j - i) (drop i samples)) w

-- what is taken from i on, where the turn to j has something to tell in its last sample or nothing
abbrev pub goes_on : List ℕ → ℕ → ℕ → Watcher → Bool → ℕ
goes_on samples i j w told = if told then j - i else j - i + taken (drop j samples) (turned samples i j w)
