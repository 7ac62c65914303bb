-- `arbitration::claims::winner_of` meets its contract.
-- Assumes nothing.
use borrow.Author.Tests.{eq-eqb, ne_eqb}
use Rattle.arbiter.specs.Order.{winner}
use Rattle.arbitration.proofs.claims.winner_of.Goals as goal

pub returns-then-w-eq0 : goal.returns-then-w-eq0
unfolding winner
returns-then-w-eq0 c =
    simp (
      eq-eqb _ _ c.if-w-eq0.true,
      ← c.column_of-at.ensures.0,
      ← c.worth_of-2.ensures.0,
      ← c.worth_of.ensures.0,
    )

pub returns-else-w-eq0 : goal.returns-else-w-eq0
unfolding winner
returns-else-w-eq0 c =
    simp (
      ne_eqb _ _ c.if-w-eq0.false,
      ← c.column_of-at.ensures.0,
      ← c.worth_of-2.ensures.0,
      ← c.worth_of.ensures.0,
    )
