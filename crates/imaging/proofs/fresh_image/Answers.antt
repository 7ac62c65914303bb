-- `imaging::fresh_image` meets its contract.
-- Assumes nothing.
use Prim.Native.Nat.{◌<◌}
use mathlib.Core.Path.{subst, sym, ap, ◌∙◌}
use Rattle.arbiter.specs.Effects.{power_up}
use Rattle.ranges.specs.Ranges.{pulses}
use Rattle.arbiter.specs.declared.Device.{Device}
use Rattle.layout.specs.Layout.{image_of}
use Rattle.layout.proofs.Steps.{fresh_pulses}
use borrow.Author.Tests.{eq-eqb, ne_eqb}
use Rattle.layout.specs.Refusals.{number_of}
use Rattle.layout.specs.Images.{fresh_after, fresh_number}
use Rattle.imaging.proofs.fresh_image.Goals as goal

pub returns-then-image-ne-IMAGE_LENGTH : goal.returns-then-image-ne-IMAGE_LENGTH
unfolding fresh_number fresh_after number_of
returns-then-image-ne-IMAGE_LENGTH c =
    let other = ne_eqb _ _ c.if-image-ne-IMAGE_LENGTH.true in
    (simp other, simp other)

pub write_image-requires : goal.write_image-requires
write_image-requires c =
    let few = subst (λ (d : Device). pulses d.arb.switch < 9) (sym c.fresh.ensures) (fresh_pulses _) in
    (few, c.if-image-ne-IMAGE_LENGTH.false)

pub returns-then-is_kind : goal.returns-then-is_kind
unfolding fresh_number fresh_after number_of
returns-then-is_kind c =
    let kind = sym c.is_kind.ensures ∙ c.if-is_kind.true in
    let long = eq-eqb _ _ c.if-image-ne-IMAGE_LENGTH.false in
    let made = c.fresh.ensures ∙ ap power_up c.kind_of.ensures in
    (simp (long, kind), simp (long, kind) (c.write_image.ensures ∙ ap image_of made))

pub returns-else-is_kind : goal.returns-else-is_kind
unfolding fresh_number fresh_after number_of
returns-else-is_kind c =
    let kind = sym c.is_kind.ensures ∙ c.if-is_kind.false in
    let long = eq-eqb _ _ c.if-image-ne-IMAGE_LENGTH.false in
    (simp (long, kind), simp (long, kind))
