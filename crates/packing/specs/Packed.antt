-- What the calls of the library that answer an event hand to another language. In every call's number the low byte is document 01's or 02's number,
-- 0 where nothing was refused; what was found stands in the places above it.
-- Assumes nothing.
use Rattle.std.specs.Prelude.{ℕ, ◌+◌, ◌*◌}
use Rattle.arbiter.specs.declared.Answer.{Answer}

-- the answer to an event: its four bytes, the outcome lowest
abbrev pub packed_answer : Answer → ℕ
packed_answer a = a.outcome + 256 * a.read + 65536 * a.owner + 16777216 * a.lines
