-- `image::check_image`: a buffer of an image's length begins with itself.
-- Assumes nothing.
use Rattle.std.proofs.Common.{true, false, sym, ◌∙◌}
use Rattle.layout.specs.Refusals.{number_of}
use Rattle.image.proofs.Padded.{number_of_front}
use Rattle.image.proofs.check_image.Goals as goal

pub returns-then-in_range : goal.returns-then-in_range
unfolding number_of
returns-then-in_range c = number_of_front _ _ true c.if-b-ne-IMAGE_LENGTH.false c.front.ensures (sym c.if-in_range.true ∙ c.in_range.ensures)

pub returns-else-in_range : goal.returns-else-in_range
unfolding number_of
returns-else-in_range c = number_of_front _ _ false c.if-b-ne-IMAGE_LENGTH.false c.front.ensures (sym c.if-in_range.false ∙ c.in_range.ensures)
