-- `imaging::advancing::tick_on` meets its contract.
-- Assumes nothing.
use Prim.Native.Nat.{ℕ}
use mathlib.Core.Path.{◌≡◌, sym, ap, ap₂, subst, ◌∙◌}
use mathlib.Core.Bool.{true}
use mathlib.Core.List.{List}
use Rattle.layout.specs.Layout.{device_in}
use Rattle.layout.specs.Images.{is_image}
use Rattle.layout.proofs.Fits.{image_good}
use Rattle.advance.specs.Changes.{changes}
use Rattle.imaging.proofs.Leaps.{tick_leaves, tick_stays, tick_back}
use Rattle.imaging.proofs.advancing.tick_on.Goals as goal

pub is_changed_in-requires : goal.is_changed_in-requires
is_changed_in-requires c =
    let good = c.requires.0 in
    let was = c.copy_from_slice.ensures.after in
    let left = c.step_any.ensures.1 ∙ tick_leaves _ good in
    let still = subst (λ (l : List ℕ). is_image l ≡ true) (sym was) good in
    let stays = subst (λ (l : List ℕ). is_image l ≡ true) (sym left) (tick_stays _ good) in
    (still, stays, (image_good _ still).0, (image_good _ stays).0)

pub returns : goal.returns
returns c =
    let good = c.requires.0 in
    let was = c.copy_from_slice.ensures.after in
    let left = c.step_any.ensures.1 ∙ tick_leaves _ good in
    let told = c.is_changed_in.ensures ∙ ap₂ changes (ap device_in was) (ap device_in left ∙ tick_back _ good) in
    (told, left)
