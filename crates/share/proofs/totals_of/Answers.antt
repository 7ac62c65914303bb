-- `share::totals_of` meets its contract.
-- Assumes nothing.
use mathlib.Core.Path.{sym, subst, ◌∙◌}
use Rattle.light.specs.Light.{Settled}
use Rattle.light.proofs.Settles.{settled_at_power_up}
use Rattle.share.proofs.Own.{own_refused, has_head, own_accepted}
use Rattle.share.proofs.totals_of.Goals as goal

pub slice_bounds-count_events-count : goal.slice_bounds-count_events-count
slice_bounds-count_events-count c = has_head _ _ _ _ (sym c.requires ∙ c.in-Ok.is)

pub slice_bounds-count_events-start : goal.slice_bounds-count_events-start
slice_bounds-count_events-start c = has_head _ _ _ _ (sym c.requires ∙ c.in-Ok.is)

pub count_events-tally-requires : goal.count_events-tally-requires
count_events-tally-requires c = subst Settled (sym c.fresh.ensures) (settled_at_power_up _)

pub returns-in-Err : goal.returns-in-Err
returns-in-Err c =
    simp (c.refused_by.ensures, c.refusal_number.ensures) (own_refused _ _ (sym c.requires ∙ c.in-Err.is))

pub returns-in-Ok : goal.returns-in-Ok
returns-in-Ok c =
    own_accepted _ _ _ _ (sym c.requires ∙ c.in-Ok.is) _ _ _ c.fresh.ensures c.count_events-tally.ensures c.shares_in.ensures
