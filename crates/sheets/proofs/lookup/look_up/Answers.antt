-- `sheets::lookup::look_up` hands back the part of the place, which lies in its sheet.
-- Assumes nothing.
use Rattle.std.proofs.Common.{Ok, sym, ap, ◌∙◌}
use Rattle.sheets.proofs.Found.{of_board, of_house, of_none}
use Rattle.sheets.proofs.lookup.look_up.Goals as goal

pub returns-in-Ok-Board : goal.returns-in-Ok-Board
returns-in-Ok-Board c =
    of_board _ c.args.board.now c.args.house.now c.args.board.ref_ptr c.args.house.ref_ptr _
    (sym c.place_of.ensures.value ∙ c.in-Ok-Board.is ∙ ap Ok c.in-Ok-Board.field-0-is)

pub returns-in-Ok-House : goal.returns-in-Ok-House
returns-in-Ok-House c =
    of_house _ c.args.board.now c.args.house.now c.args.board.ref_ptr c.args.house.ref_ptr _
    (sym c.place_of.ensures.value ∙ c.in-Ok-House.is ∙ ap Ok c.in-Ok-House.field-0-is)

pub returns-in-Err : goal.returns-in-Err
returns-in-Err c =
    of_none _ c.args.board.now c.args.house.now c.args.board.ref_ptr c.args.house.ref_ptr _ (sym c.place_of.ensures.value ∙ c.in-Err.is)
