-- `orders::start` meets its contract.
-- Assumes nothing.
use mathlib.Core.Path.{◌≡◌, refl, sym, ap, ◌∙◌}
use Rattle.arbiter.specs.Effects.{power_up}
use Rattle.arbiter.specs.Steps.{owner_byte}
use Rattle.arbiter.specs.declared.Kind.TheVariants.{Pca9641}
use Rattle.arbiter.specs.declared.Device.{Device}
use Rattle.orders.specs.Walk.{reached_with}
use Rattle.orders.proofs.start.Goals as goal

fresh-byte : owner_byte (power_up Pca9641) ≡ 0
unfolding owner_byte power_up
fresh-byte = refl

pub returns : goal.returns
returns c =
    c.reached_with.ensures
    ∙ ap (λ (d : Device). reached_with d 0) c.fresh.ensures
    ∙ ap (reached_with (power_up Pca9641)) (sym fresh-byte)
