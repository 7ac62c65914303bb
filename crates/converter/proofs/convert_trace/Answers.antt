-- `converter::convert_trace` meets its contract: a refusal that is handed on leaves the buffer as it was.
-- Assumes nothing.
use mathlib.Core.Path.{◌≡◌, ◌∙◌, ap}
use Rattle.std.proofs.Common.{Err}
use Rattle.std.proofs.lemmas.Result.{err_from_is_err_and}
use Rattle.format.specs.Refused.{written_of}
use Rattle.converter.proofs.Laws.{refused_converted, refused_buffer}
use Rattle.converter.proofs.convert_trace.Goals as goal

pub returns-in_err-check_room : goal.returns-in_err-check_room
returns-in_err-check_room c =
    let p = err_from_is_err_and c.from_residual.result c.from_residual.ensures.1 in
    let told = c.in_err-check_room.ensures in
    let q : c.from_residual.result ≡ Err c.in_err-check_room.field-0.0 = p.1 ∙ ap Err p.2 in
    (rw q (refused_converted _ _ _ told), refused_buffer _ _ _ told)
