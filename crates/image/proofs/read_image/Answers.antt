-- `image::read_image` reads a short buffer as if 0 followed it, and of a longer one its first bytes.
-- Assumes nothing.
use Rattle.std.proofs.Common.{List, ℕ, ◌++◌, length, drop, ap, ◌∙◌}
use Rattle.layout.specs.Layout.{device_in}
use Rattle.image.proofs.Padded.{none, padded, begun}
use Rattle.image.proofs.read_image.Goals as goal

pub returns-then-b-lt-IMAGE_LENGTH : goal.returns-then-b-lt-IMAGE_LENGTH
returns-then-b-lt-IMAGE_LENGTH c =
    c.device_in.ensures
    ∙ ap (λ (l : List ℕ). device_in (l ++ drop (length c.args.b.now) (none 38))) c.copy_from_slice.ensures.after
    ∙ padded _ 38

pub returns-else-b-lt-IMAGE_LENGTH : goal.returns-else-b-lt-IMAGE_LENGTH
returns-else-b-lt-IMAGE_LENGTH c = c.device_in-else-b-lt-IMAGE_LENGTH.ensures ∙ ap device_in c.front.ensures ∙ begun _
