-- `step::finish` meets its contract.
-- Assumes nothing.
use mathlib.Core.Path.{sym, ◌∙◌}
use borrow.Author.Tests.{eq-eqb, ne_eqb}
use Rattle.step.specs.Carried.{finished}
use Rattle.step.proofs.finish.Goals as goal

pub returns-then-f-outcome_number : goal.returns-then-f-outcome_number
unfolding finished
returns-then-f-outcome_number c = simp (eq-eqb _ _ (c.if-f-outcome_number.true ∙ c.outcome_number.ensures))

pub returns-else-f-outcome_number : goal.returns-else-f-outcome_number
unfolding finished
returns-else-f-outcome_number c =
    simp (
      ← c.did_so.ensures,
      ← c.parts_3_to_7.ensures,
      ← c.levelled.ensures,
      ← c.clock_of.ensures,
      ← c.is_tick.ensures,
      ne_eqb _ _ (λ e. c.if-f-outcome_number.false
          (e ∙ sym c.outcome_number.ensures)),
    )
