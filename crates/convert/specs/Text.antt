-- What the program of #105 writes: "writes an accepted old trace with 01 00 added, else M1's R line".
-- Assumes nothing.
use Rattle.std.specs.Prelude.{ℕ, List, ◌∷◌, ◌++◌, eqb, if◌then◌else◌}
use Rattle.arbiter.specs.Listing.{decimal, newline}
use Rattle.arbiter.specs.OldTraces.{old_number, converted}

-- the line of a refusal with this number; R is 52h
abbrev pub refused_line : ℕ → List ℕ
refused_line number = 0x52 ∷ decimal number ++ newline

unfoldable pub conversion_text : List ℕ → List ℕ
conversion_text t = if eqb (old_number t) 0 then converted t else refused_line (old_number t)
