-- `share::join` meets its contract.
-- Assumes nothing.
use mathlib.Core.Path.{ap, ◌∙◌}
use Rattle.share.specs.declared.Totals.{Totals}
use Rattle.share.specs.Share.{added_with}
use Rattle.share.proofs.Numbers.{plus_is}
use Rattle.share.proofs.Joined.{call_past, call_in}
use Rattle.share.proofs.join.Goals as goal

pub returns-then-saturating_add-gt-MOST_TRACES : goal.returns-then-saturating_add-gt-MOST_TRACES
returns-then-saturating_add-gt-MOST_TRACES c =
    call_past _ _ _ (c.saturating_add.ensures ∙ plus_is _ _) c.if-saturating_add-gt-MOST_TRACES.true

pub returns : goal.returns
returns c =
    let within = call_in _ _ _ (c.saturating_add.ensures ∙ plus_is _ _) c.if-saturating_add-gt-MOST_TRACES.false in
    (within.0, ap (λ (y : Totals). added_with y 0) c.put_together.ensures ∙ within.1)
