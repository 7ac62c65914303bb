-- `rowimage::show_place` meets its contract.
-- Assumes nothing.
use mathlib.Core.Path.{ap, ◌∙◌}
use Rattle.arbiter.specs.Steps.{answer}
use Rattle.arbiter.specs.declared.Device.{Device}
use Rattle.layout.specs.Layout.{device_in}
use Rattle.rowimage.proofs.Walks.{part_is}
use Rattle.rowimage.proofs.show_place.Goals as goal

pub returns : goal.returns
returns c =
    let start = c.args in
    c.show_device.ensures ∙ ap (λ (d : Device). answer 0 0 d) (c.read_image.ensures ∙ ap device_in (part_is start.i start.row.now))
