-- What an event on a row in a buffer answers and leaves, and what a place of it shows. The refusals of the buffer (9, 16) come first, then the
-- shelf's (5, 6, 17, 18), then document 01's own.
-- Assumes nothing.
use Rattle.std.specs.Prelude.{ℕ, List, if◌then◌else◌}
use Rattle.arbiter.specs.declared.Raw.{Raw}
use Rattle.arbiter.specs.declared.Answer.{Answer}
use Rattle.layout.specs.Images.{refused_by}
use Rattle.shelf.specs.Shelf.{shelf_row, shelf_answer, shelf_show}
use Rattle.rowimage.specs.Row.{bytes_of_row, records_in, row_number, is_row}

-- ---- one event. All refusals leave the buffer as it was; 9 and 16 answer number, 00, 00, 00, as the shelf's do.

unfoldable pub row_answer : List ℕ → ℕ → Raw → Answer
row_answer b name r = if is_row b then shelf_answer (records_in b) name r else refused_by (row_number b)

unfoldable pub row_buffer : List ℕ → ℕ → Raw → List ℕ
row_buffer b name r = if is_row b then bytes_of_row (shelf_row (records_in b) name r) else b

-- ---- a look at a place: owner and lines of the device there, outcome 0 and no byte read. Nothing changes.

unfoldable pub row_shown : ℕ → List ℕ → Answer
row_shown place b = if is_row b then shelf_show (records_in b) place else refused_by (row_number b)
