-- The version of the library, as the file VERSION has it: three numbers, and the one that they are packed in for another language.
-- Assumes nothing.
use Rattle.std.specs.Prelude.{ℕ, ◌+◌, ◌*◌}

abbrev pub major : ℕ
major = 1

abbrev pub minor : ℕ
minor = 1

abbrev pub patch : ℕ
patch = 0

abbrev pub version : ℕ
version = 65536 * major + 256 * minor + patch
