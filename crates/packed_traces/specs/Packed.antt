-- Traces as the library tells of them to another language: document 01's number in the low byte, what was found above it.
-- Assumes nothing.
use Rattle.std.specs.Prelude.{ℕ, ◌+◌, ◌*◌}
use Rattle.arbiter.specs.Traces.{kind_number}
use Rattle.arbiter.specs.Types.{Report}
use Rattle.arbiter.specs.Types.{Written}

-- a report: the number, the address, from 65,536 on the count of events, and from 4,294,967,296 on the kind of part
abbrev pub packed_report : Report → ℕ
packed_report r = r.number + 256 * r.address + 65536 * r.events + 4294967296 * kind_number r.device.kind

-- a trace that was written: the number, and from 256 on its length (0 where nothing was written)
abbrev pub packed_written : Written → ℕ
packed_written w = w.number + 256 * w.length
