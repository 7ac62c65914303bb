-- `convert::write_conversion` meets its contract: the front of the buffer is the converted trace (`Text.antt`).
-- Assumes nothing.
use Rattle.std.proofs.Common.{arith, sym, ◌≤◌}
use Rattle.std.proofs.lemmas.List.{length-take-le}
use Rattle.printing.proofs.Text.{same_text}
use Rattle.convert.proofs.Text.{length_fits, text_of_written, text_of_refusal}
use Rattle.convert.proofs.write_conversion.Goals as goal

pub slice_bounds-trace-end : goal.slice_bounds-trace-end
slice_bounds-trace-end g c =
    let few = length_fits _ _ (omega arith) _ c.convert_trace.ensures.0 _ c.in-Ok.is in
    omega (arith, few)

pub slice_bounds-write_all-end : goal.slice_bounds-write_all-end
slice_bounds-write_all-end g c =
    let few = length_fits _ _ (omega arith) _ c.convert_trace.ensures.0 _ c.in-Ok.is in
    sym (length-take-le _ _ (omega (arith, few)))

pub returns-in-Ok : goal.returns-in-Ok
returns-in-Ok g c =
    same_text _ _ _ _ _
    (text_of_written _ _ (omega arith) _ c.convert_trace.ensures.0 _ _ c.in-Ok.is c.convert_trace.ensures.1)
    c.write_all.ensures.bytes

pub returns-in-Err : goal.returns-in-Err
returns-in-Err g c =
    same_text _ _ _ _ _
    (text_of_refusal _ _ (omega arith) _ c.convert_trace.ensures.0 _ c.in-Err.is)
    c.write_refusal.ensures
