-- The input of the report of #112: "reads traces, each after its two-byte low-first length".
-- Assumes nothing.
use Rattle.std.specs.Prelude.{ℕ, ◌+◌, ◌*◌, List}
use Rattle.arbiter.specs.Traces.{byte_at}

-- the length that the two bytes before a trace say: the first is the low one
abbrev pub length_in : List ℕ → ℕ
length_in head = byte_at 0 head + 256 * byte_at 1 head
