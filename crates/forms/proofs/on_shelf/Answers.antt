-- `forms::on_shelf`: a TICK and a RESET reach every device, whatever name stands beside them.
-- Assumes nothing.
use Rattle.std.proofs.Common.{rules}
use Rattle.forms.proofs.Named.{nameless, tick_names_nothing, reset_names_nothing}
use Rattle.forms.proofs.on_shelf.Goals as goal

pub returns-in-6 : goal.returns-in-6
returns-in-6 c = nameless 6 _ _ _ _ c.args.r tick_names_nothing (search rules) (search rules) (search rules) (search rules) (search rules)

pub returns-in-8 : goal.returns-in-8
returns-in-8 c = nameless 8 _ _ _ _ c.args.r reset_names_nothing (search rules) (search rules) (search rules) (search rules) (search rules)
