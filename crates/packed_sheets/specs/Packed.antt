-- Order sheets as the library tells of them to another language: document 02's number in the low byte, what was found above it.
-- Assumes nothing.
use Rattle.std.specs.Prelude.{ℕ, ◌+◌, ◌*◌, Ok, Err}
use Rattle.sheets.specs.declared.Place.{Place}
use Rattle.sheets.specs.Sheets.{OrFault, place_number}
use Rattle.sheets.specs.Settings.{Ordered}
use Rattle.sheets.specs.Waits.{Wait}
use Rattle.sheets.specs.declared.Place.TheVariants.{Board, House}

-- a box of an order sheet: the number; then the sheet, 1 the board sheet and 2 the house sheet; and from 65,536 on the byte of it at which the
-- box starts (0 and 0 where there is none)
abbrev pub packed_where : OrFault Place → ℕ
packed_where (Ok (Board at)) = 256 * 1 + 65536 * at
packed_where (Ok (House at)) = 256 * 2 + 65536 * at
packed_where (Err f) = 0

abbrev pub packed_box : OrFault Place → ℕ
packed_box p = place_number p + packed_where p

-- the events of two order sheets: the number, and from 256 on the count of events
abbrev pub packed_order : Ordered → ℕ
packed_order o = o.number + 256 * o.count

-- how long a controller can wait by two order sheets: the number; then the grade; and from 65,536 on the ticks
abbrev pub packed_wait : Wait → ℕ
packed_wait w = w.number + 256 * w.grade + 65536 * w.ticks
