-- `imaging::advancing::is_changed_in` meets its contract.
-- Assumes nothing.
use mathlib.Core.Path.{ap₂, ◌∙◌}
use mathlib.Core.Bool.{Bool, not, ◌&&◌}
use Rattle.std.proofs.lemmas.Bool.Decides.{Decides-eqb}
use Rattle.std.proofs.lemmas.Slice.Eq.{slice_eq-Decides}
use Rattle.arbiter.specs.declared.Device.{Device}
use Rattle.advance.specs.Changes.{same_shown, changes}
use Rattle.imaging.proofs.Leaps.{alike}
use Rattle.imaging.proofs.advancing.is_changed_in.Goals as goal

pub returns : goal.returns
unfolding changes
returns c =
    let first = slice_eq-Decides Decides-eqb _ _ _ c.eq-first.ensures in
    let rest = slice_eq-Decides Decides-eqb _ _ _ c.eq-rest.ensures in
    let shown = c.same_shown-shown.ensures ∙ ap₂ (λ (d e : Device). same_shown d.bus e.bus) c.read_image.ensures
    c.read_image-2.ensures in
    ap₂ (λ (x y : Bool). not (x && y)) (alike _ _ _ _ c.requires.0 c.requires.1 first rest) shown
