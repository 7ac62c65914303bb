-- `text::put_lines` meets its contract: after i turns the lines of i answers stand after the head's line.
-- Assumes nothing.
use Prim.Native.Nat.{◌≤◌, ◌-◌}
use mathlib.Core.Path.{◌≡◌}
use lib.ListN.{length}
use lib.Seq.{sets}
use Rattle.arbiter.specs.Listing.{head_chars}
use Rattle.text.specs.Written.{lines_in}
use Rattle.text.proofs.put_lines.Given as goal

abbrev pub invariant-loop-i : goal.invariant-loop-i
invariant-loop-i l = (l.i ≤ l.n) × (length l.text ≡ length l.initial.text) × (l.text ≡ sets l.initial.text head_chars (lines_in l.i l.answers))

abbrev pub decreases-loop-i : goal.decreases-loop-i
decreases-loop-i l = l.n - l.i
