-- `events::decode_raw` meets its contract.
-- Assumes nothing.
use borrow.Author.Tests.{ne_eqb}
use Rattle.std.specs.Prelude.{Err}
use Rattle.arbiter.specs.declared.Unread.TheVariants.{UnknownKind}
use Rattle.arbiter.specs.Events.{decode}
use Rattle.events.proofs.Numbers.{raw_told}
use Rattle.events.proofs.decode_raw.Goals as goal

pub returns-in-0-clause-value : goal.returns-in-0-clause-value
unfolding decode
returns-in-0-clause-value c =
    simp (← c.fitting_if.ensures, c.in-0.is, ← c.master_of-m.ensures)

pub returns-in-0-clause-result_value : goal.returns-in-0-clause-result_value
unfolding decode
returns-in-0-clause-result_value c =
    (raw_told c.args.r c.fitting_if.result (simp (← c.fitting_if.ensures, c.in-0.is, ← c.master_of-m.ensures))).1

pub returns-in-1-clause-value : goal.returns-in-1-clause-value
unfolding decode
returns-in-1-clause-value c =
    simp (← c.fitting_if-in-1.ensures, c.in-1.is, ← c.master_of-m.ensures)

pub returns-in-1-clause-result_value : goal.returns-in-1-clause-result_value
unfolding decode
returns-in-1-clause-result_value c =
    (raw_told c.args.r c.fitting_if-in-1.result (simp (← c.fitting_if-in-1.ensures, c.in-1.is, ← c.master_of-m.ensures))).1

pub returns-in-2-clause-value : goal.returns-in-2-clause-value
unfolding decode
returns-in-2-clause-value c =
    simp (← c.fitting_if-in-2.ensures, c.in-2.is, ← c.master_of-m.ensures)

pub returns-in-2-clause-result_value : goal.returns-in-2-clause-result_value
unfolding decode
returns-in-2-clause-result_value c =
    (raw_told c.args.r c.fitting_if-in-2.result (simp (← c.fitting_if-in-2.ensures, c.in-2.is, ← c.master_of-m.ensures))).1

pub returns-in-3-clause-value : goal.returns-in-3-clause-value
unfolding decode
returns-in-3-clause-value c =
    simp (← c.fitting_if-in-3.ensures, c.in-3.is, ← c.master_of-m.ensures)

pub returns-in-3-clause-result_value : goal.returns-in-3-clause-result_value
unfolding decode
returns-in-3-clause-result_value c =
    (raw_told c.args.r c.fitting_if-in-3.result (simp (← c.fitting_if-in-3.ensures, c.in-3.is, ← c.master_of-m.ensures))).1

pub returns-in-4-clause-value : goal.returns-in-4-clause-value
unfolding decode
returns-in-4-clause-value c =
    simp (← c.fitting_if-in-4.ensures, c.in-4.is)

pub returns-in-4-clause-result_value : goal.returns-in-4-clause-result_value
unfolding decode
returns-in-4-clause-result_value c =
    (raw_told c.args.r c.fitting_if-in-4.result (simp (← c.fitting_if-in-4.ensures, c.in-4.is))).1

pub returns-in-5-clause-value : goal.returns-in-5-clause-value
unfolding decode
returns-in-5-clause-value c =
    simp (← c.fitting_if-in-5.ensures, c.in-5.is)

pub returns-in-5-clause-result_value : goal.returns-in-5-clause-result_value
unfolding decode
returns-in-5-clause-result_value c =
    (raw_told c.args.r c.fitting_if-in-5.result (simp (← c.fitting_if-in-5.ensures, c.in-5.is))).1

pub returns-in-6-clause-value : goal.returns-in-6-clause-value
unfolding decode
returns-in-6-clause-value c =
    simp (← c.fitting_if-in-6.ensures, c.in-6.is)

pub returns-in-6-clause-result_value : goal.returns-in-6-clause-result_value
unfolding decode
returns-in-6-clause-result_value c =
    (raw_told c.args.r c.fitting_if-in-6.result (simp (← c.fitting_if-in-6.ensures, c.in-6.is))).1

pub returns-in-7-clause-value : goal.returns-in-7-clause-value
unfolding decode
returns-in-7-clause-value c =
    simp (← c.fitting_if-in-7.ensures, c.in-7.is)

pub returns-in-7-clause-result_value : goal.returns-in-7-clause-result_value
unfolding decode
returns-in-7-clause-result_value c =
    (raw_told c.args.r c.fitting_if-in-7.result (simp (← c.fitting_if-in-7.ensures, c.in-7.is))).1

pub returns-in-8-clause-value : goal.returns-in-8-clause-value
unfolding decode
returns-in-8-clause-value c =
    simp (← c.fitting_if-in-8.ensures, c.in-8.is)

pub returns-in-8-clause-result_value : goal.returns-in-8-clause-result_value
unfolding decode
returns-in-8-clause-result_value c =
    (raw_told c.args.r c.fitting_if-in-8.result (simp (← c.fitting_if-in-8.ensures, c.in-8.is))).1

pub returns-in-9-clause-value : goal.returns-in-9-clause-value
unfolding decode
returns-in-9-clause-value c =
    simp (← c.fitting_if-in-9.ensures, c.in-9.is, ← c.master_of-m.ensures)

pub returns-in-9-clause-result_value : goal.returns-in-9-clause-result_value
unfolding decode
returns-in-9-clause-result_value c =
    (raw_told c.args.r c.fitting_if-in-9.result (simp (← c.fitting_if-in-9.ensures, c.in-9.is, ← c.master_of-m.ensures))).1

pub returns-in_default-clause-value : goal.returns-in_default-clause-value
unfolding decode
returns-in_default-clause-value c =
    simp (
      ne_eqb _ _ c.in_default.in_default-own.rest.1,
      ne_eqb _ _ c.in_default.in_default-own.rest.0.1,
      ne_eqb _ _ c.in_default.in_default-own.rest.0.0.1,
      ne_eqb _ _ c.in_default.in_default-own.rest.0.0.0.1,
      ne_eqb _ _ c.in_default.in_default-own.rest.0.0.0.0.1,
      ne_eqb _ _ c.in_default.in_default-own.rest.0.0.0.0.0.1,
      ne_eqb _ _ c.in_default.in_default-own.rest.0.0.0.0.0.0.1,
      ne_eqb _ _ c.in_default.in_default-own.rest.0.0.0.0.0.0.0.1,
      ne_eqb _ _ c.in_default.in_default-own.rest.0.0.0.0.0.0.0.0.1,
      ne_eqb _ _ c.in_default.in_default-own.rest.0.0.0.0.0.0.0.0.0.1,
    )

pub returns-in_default-clause-result_value : goal.returns-in_default-clause-result_value
unfolding decode
returns-in_default-clause-result_value c =
    (raw_told c.args.r (Err UnknownKind) (simp (
      ne_eqb _ _ c.in_default.in_default-own.rest.1,
      ne_eqb _ _ c.in_default.in_default-own.rest.0.1,
      ne_eqb _ _ c.in_default.in_default-own.rest.0.0.1,
      ne_eqb _ _ c.in_default.in_default-own.rest.0.0.0.1,
      ne_eqb _ _ c.in_default.in_default-own.rest.0.0.0.0.1,
      ne_eqb _ _ c.in_default.in_default-own.rest.0.0.0.0.0.1,
      ne_eqb _ _ c.in_default.in_default-own.rest.0.0.0.0.0.0.1,
      ne_eqb _ _ c.in_default.in_default-own.rest.0.0.0.0.0.0.0.1,
      ne_eqb _ _ c.in_default.in_default-own.rest.0.0.0.0.0.0.0.0.1,
      ne_eqb _ _ c.in_default.in_default-own.rest.0.0.0.0.0.0.0.0.0.1,
    ))).1
