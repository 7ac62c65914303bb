-- `bits::byte_of` returns the byte of its eight bits.
-- Assumes nothing.
use Rattle.arbiter.specs.Words.{byte_of}
use Rattle.bits.proofs.byte_of.Goals as goal

pub returns : goal.returns
unfolding byte_of
returns c =
    simp (
      c.worth_of-8.ensures.0,
      c.worth_of-7.ensures.0,
      c.worth_of-6.ensures.0,
      c.worth_of-5.ensures.0,
      c.worth_of-4.ensures.0,
      c.worth_of-3.ensures.0,
      c.worth_of-2.ensures.0,
      c.worth_of.ensures.0,
    )
