-- `convert::run`: what is read is the input's beginning, and what is written is its text (`Text.antt`).
-- Assumes nothing.
use Rattle.std.proofs.Common.{arith}
use Rattle.convert.proofs.Text.{text_of_input}
use Rattle.convert.proofs.run.Goals as goal

pub returns : goal.returns
returns g c = text_of_input _ _ _ _ _ _ (omega arith) c.in_ok-n.ensures.front c.write_conversion.ensures
