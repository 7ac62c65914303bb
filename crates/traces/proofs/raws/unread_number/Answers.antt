-- `traces::raws::unread_number` meets its contract.
-- Assumes nothing.
use borrow.Author.Tests.{lt-ltb, le-ltb}
use Rattle.arbiter.specs.Events.{raw_number}
use Rattle.traces.proofs.raws.unread_number.Goals as goal

pub returns-then-first_fits-second_fits : goal.returns-then-first_fits-second_fits
unfolding raw_number
returns-then-first_fits-second_fits c =
    simp (
      lt-ltb _ _ c.if-r-lt10.true,
      ← c.first_fits.ensures,
      ← c.second_fits.ensures,
      ← c.third_fits.ensures,
      c.if-first_fits-second_fits.true,
    )

pub returns-else-first_fits-second_fits : goal.returns-else-first_fits-second_fits
unfolding raw_number
returns-else-first_fits-second_fits c =
    simp (
      lt-ltb _ _ c.if-r-lt10.true,
      ← c.first_fits.ensures,
      ← c.second_fits.ensures,
      ← c.third_fits.ensures,
      c.if-first_fits-second_fits.false,
    )

pub returns-else-r-lt10 : goal.returns-else-r-lt10
unfolding raw_number
returns-else-r-lt10 c = simp (le-ltb _ _ c.if-r-lt10.false)
