-- The listing in a lent buffer: it is written where it fits, and else the buffer stays as it was.
-- Assumes nothing.
use Rattle.std.specs.Prelude.{ℕ, zero, suc, List, [], ◌∷◌, ◌++◌, ltb, length, drop, if◌then◌else◌}
use Rattle.arbiter.specs.Traces.{event_bytes, byte_at}
use Rattle.arbiter.specs.Listing.{newline, hex2, decimal, listing}

-- `buffer` with the text w at its start, if it has room for it; bytes after the text stay
unfoldable pub fitted : List ℕ → List ℕ → List ℕ
fitted w buffer = if ltb (length buffer) (length w) then buffer else w ++ drop (length w) buffer

-- the lent buffer after the listing of a trace
abbrev pub text_after : List ℕ → List ℕ → List ℕ
text_after t buffer = fitted (listing t) buffer

-- ---- the lines as the code writes them: from the answers' bytes

-- the line of the answer at the start of these bytes, and the lines of the first n
abbrev pub line_in : List ℕ → List ℕ
line_in b = hex2 (byte_at 0 b) ++ hex2 (byte_at 1 b) ++ hex2 (byte_at 2 b) ++ hex2 (byte_at 3 b) ++ newline

unfoldable pub lines_in : ℕ → List ℕ → List ℕ
lines_in zero b = []
lines_in (suc n) b = line_in b ++ lines_in n (drop event_bytes b)

-- the line of a refusal with this number
abbrev pub refusal_line : ℕ → List ℕ
refusal_line number = 0x52 ∷ decimal number ++ newline
