-- Straps as the library hands them to another language: document 01's number in the low byte, what was found above it.
-- Assumes nothing.
use Rattle.std.specs.Prelude.{ℕ, ◌+◌, ◌*◌}
use Rattle.arbiter.specs.Straps.{strapped_number, strapped_address, strapping_number}
use Rattle.std.specs.Prelude.{Option, Some, None}
use Rattle.arbiter.specs.declared.Pins.{Pins}

-- an address: the number, and the address (00h where there is none)
abbrev pub packed_address : Option ℕ → ℕ
packed_address s = strapped_number s + 256 * strapped_address s

-- the pins: the number, and AD3 to AD0 as a trace has them, AD3 lowest (0 where there is no strapping)
abbrev pub packed_codes : Option Pins → ℕ
packed_codes (Some p) = 256 * p.ad3 + 65536 * p.ad2 + 16777216 * p.ad1 + 4294967296 * p.ad0
packed_codes None = 0

abbrev pub packed_pins : Option Pins → ℕ
packed_pins s = strapping_number s + packed_codes s
