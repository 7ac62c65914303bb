-- `writer::write_trace` meets its contract: a refusal that is handed on leaves the buffer as it was.
-- Assumes nothing.
use mathlib.Core.Path.{◌≡◌, ◌∙◌, sym, ap}
use Rattle.std.proofs.Common.{Err}
use Rattle.std.proofs.lemmas.Result.{err_from_is_err_and}
use Rattle.arbiter.specs.Writing.{written_number, written, buffer_written}
use Rattle.format.specs.Refused.{number_of, written_of}
use Rattle.writer.proofs.Laws.{refused_written, refused_buffer}
use Rattle.writer.proofs.write_trace.Goals as goal

pub returns-in_err-check_parts : goal.returns-in_err-check_parts
returns-in_err-check_parts c =
    let p = err_from_is_err_and c.from_residual.result c.from_residual.ensures.1 in
    let told = c.in_err-check_parts.ensures in
    let q : c.from_residual.result ≡ Err c.in_err-check_parts.field-0.0 = p.1 ∙ ap Err p.2 in
    (rw q (refused_written _ _ _ _ _ told), refused_buffer _ _ _ _ _ told)
