-- `rows::show_place` meets its contract: a row that has been looked through shows what the shelf shows.
-- Assumes nothing.
use Rattle.std.proofs.Common.{◌∙◌, ap}
use Rattle.showing.specs.Showing.{shown_of}
use Rattle.showing.proofs.Shows.{shows_place}
use Rattle.rows.proofs.show_place.Goals as goal

pub returns : goal.returns
returns c = c.shown.ensures ∙ ap shown_of c.look_through.ensures ∙ shows_place c.args.place c.args.row.now
