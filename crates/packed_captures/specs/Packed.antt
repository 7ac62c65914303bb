-- An import as the library tells of it to another language: document 02's number in the low byte, what was found above it.
-- Assumes nothing.
use Rattle.std.specs.Prelude.{ℕ, ◌+◌, ◌*◌}
use Rattle.capture.specs.Import.{Imported}

-- an import: the number, and from 256 on the count of events
abbrev pub packed_import : Imported → ℕ
packed_import r = r.number + 256 * r.count
