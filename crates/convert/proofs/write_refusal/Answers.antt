-- `convert::write_refusal` meets its contract: what is written out is the line of the refusal (`Text.antt`).
-- Assumes nothing.
use Rattle.printing.proofs.Text.{same_text}
use Rattle.convert.proofs.Text.{line_in}
use Rattle.convert.proofs.write_refusal.Goals as goal

pub returns : goal.returns
returns g c =
    same_text _ _ _ _ _
    (line_in _ _ _ _ _ c.refusal_number-number.ensures c.new-line.ensures c.in_ok-writeln.ensures.bytes c.as_slice.ensures.value)
    c.write_all.ensures.bytes
