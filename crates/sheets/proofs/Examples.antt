-- Every row of the tables of specs/Examples.antt holds: antt computes each.
-- Assumes nothing.
use mathlib.Core.Path.{refl}
use Rattle.sheets.specs.Sheets.{counts_right, box_right, flag_right, boxes_right, check_sheet, check_pair, place_at, box_on, place_of, part_of}
use Rattle.sheets.specs.Settings.{ticked_on_either, is_complete, value_at, setting_of, order_of, control_byte, order_events, read_complete, read_order}
use Rattle.sheets.specs.Settings.{ordered_of}
use Rattle.sheets.specs.Settings.{buffer_of, ordered, ordered_buffer}
use Rattle.arbiter.specs.Rules.{rules_of}
use Rattle.sheets.specs.Waits.{wait_behind, wait_on, wait_of}
use Rattle.sheets.specs.Examples.{lookups, calls, waits, ExamplesHold}

pub examples_hold : ExamplesHold
unfolding counts_right box_right flag_right boxes_right check_sheet check_pair place_at box_on place_of part_of ticked_on_either is_complete value_at setting_of
    order_of
    control_byte order_events read_complete read_order ordered_of buffer_of ordered ordered_buffer lookups calls rules_of wait_behind wait_on wait_of
    waits
examples_hold = (refl, refl, refl)
