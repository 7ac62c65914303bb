-- Request #113: how many ticks can change anything other than counts. The paper's figure is SixAtMost in Advance.antt; this one is exact.
-- Assumes nothing.
use Rattle.std.specs.Prelude.{ℕ, ◌≤◌, List}
use Rattle.arbiter.specs.Steps.{run}
use Rattle.arbiter.specs.declared.Kind.{Kind}
use Rattle.arbiter.specs.declared.Raw.{Raw}
use Rattle.advance.specs.Advance.{changing}

-- However many ticks come after whatever run, three of them at most. BoundWitness has runs that reach three.
abbrev pub ThreeAtMost : Type 0
ThreeAtMost = (k : Kind) (rs : List Raw) (n : ℕ) → changing n (run k rs) ≤ 3
