-- What the library tells of an image to another language: document 02's number in the low byte, what was found above it. (The answer to an event is
-- `packing`'s.)
-- Assumes nothing.
use Rattle.std.specs.Prelude.{ℕ, ◌+◌, ◌*◌}
use Rattle.layout.specs.Refusals.{Shown}
use Rattle.imaging.specs.Advancing.{Told}

-- a register read of an image: the number, and from 256 on the byte (00h where it was refused)
abbrev pub packed_shown : Shown → ℕ
packed_shown s = s.number + 256 * s.byte

-- an advance of an image: the number, and from 256 on how many of its ticks changed anything but counts
abbrev pub packed_told : Told → ℕ
packed_told t = t.number + 256 * t.reported
