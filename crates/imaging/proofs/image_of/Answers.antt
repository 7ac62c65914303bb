-- `imaging::image_of` meets its contract.
-- Assumes nothing.
use mathlib.Core.Path.{◌∙◌}
use Rattle.layout.specs.Layout.{image_of, laid_out}
use Rattle.layout.proofs.Flags.{one}
use Rattle.imaging.proofs.image_of.Goals as goal

pub returns : goal.returns
unfolding image_of laid_out
returns c =
    simp (
      c.from-11.ensures ∙ one _,
      c.register_number-2.ensures,
      c.port_number-2.ensures,
      c.from-10.ensures ∙ one _,
      c.register_number.ensures,
      c.port_number.ensures,
      c.kind_byte.ensures,
      c.from-9.ensures ∙ one _,
      c.switch_number.ensures,
      c.last_number.ensures,
      c.turn_number.ensures,
      c.from-8.ensures ∙ one _,
      c.from-7.ensures ∙ one _,
      c.from-6.ensures ∙ one _,
      c.from-5.ensures ∙ one _,
      c.from-4.ensures ∙ one _,
      c.from-3.ensures ∙ one _,
      c.from-2.ensures ∙ one _,
      c.from.ensures ∙ one _,
      c.counts_of.ensures,
      c.contr_number-2.ensures,
      c.contr_number.ensures,
    )
