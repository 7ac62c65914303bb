-- `traces::reading::read_trace` meets its contract.
-- Assumes nothing.
use borrow.Author.Tests.{eq-eqb, le-ltb, lt-ltb, ne_eqb}
use Rattle.arbiter.specs.Traces.{read_trace, read_strapped}
use Rattle.traces.proofs.Accepted.{numbered}
use Rattle.traces.proofs.reading.read_trace.Goals as goal

pub returns-then-t-lt1 : goal.returns-then-t-lt1
unfolding read_trace read_strapped
returns-then-t-lt1 c = numbered _ _ _ (simp (lt-ltb _ _ c.if-t-lt1.true))

pub returns-then-t-lt-PIN_BYTES : goal.returns-then-t-lt-PIN_BYTES
unfolding read_trace read_strapped
returns-then-t-lt-PIN_BYTES c = numbered _ _ _ (simp (lt-ltb _ _ c.if-t-lt-PIN_BYTES.true, eq-eqb _ _ c.if-t-ne-PIN_COUNT.false, le-ltb _ _ c.if-t-lt1.false))

pub returns-in-Some : goal.returns-in-Some
unfolding read_trace read_strapped
returns-in-Some c =
    numbered _ _ _
    (simp (
      c.read_counted.ensures,
      c.in-Some.is,
      ← c.address_of.ensures.value,
      ← c.pins_in.ensures,
      le-ltb _ _ c.if-t-lt-PIN_BYTES.false,
      eq-eqb _ _ c.if-t-ne-PIN_COUNT.false,
      le-ltb _ _ c.if-t-lt1.false,
    ))

pub returns-in-None : goal.returns-in-None
unfolding read_trace read_strapped
returns-in-None c =
    numbered _ _ _
    (simp (
      c.in-None.is,
      ← c.address_of.ensures.value,
      ← c.pins_in.ensures,
      le-ltb _ _ c.if-t-lt-PIN_BYTES.false,
      eq-eqb _ _ c.if-t-ne-PIN_COUNT.false,
      le-ltb _ _ c.if-t-lt1.false,
    ))

pub returns-then-t-ne-PIN_COUNT : goal.returns-then-t-ne-PIN_COUNT
unfolding read_trace read_strapped
returns-then-t-ne-PIN_COUNT c = numbered _ _ _ (simp (ne_eqb _ _ c.if-t-ne-PIN_COUNT.true, le-ltb _ _ c.if-t-lt1.false))
