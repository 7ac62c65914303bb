-- `traces::run_settled` meets its contract: refused for its bytes, refused for the room, or run to the end by the loop.
-- Assumes nothing.
use mathlib.Core.Path.{sym, ap, ◌∙◌}
use native.Mathlib.Omega.{arith}
use lib.Seq.{length-take-le}
use Rattle.std.proofs.lemmas.Result.{err_from_is_err_and}
use Rattle.traces.specs.Bodies.{ran_with}
use Rattle.traces.proofs.Runs.{roomy, refused_ran, all-ran, part-answered}
use Rattle.traces.proofs.run_settled.Goals as goal

pub returns-in_err-n : goal.returns-in_err-n
returns-in_err-n c =
    let p = err_from_is_err_and c.from_residual.result c.from_residual.ensures.1 in
    rw (p.1, p.2) (refused_ran _ _ _ _ (sym c.events_with_room.ensures ∙ c.in_err-n.was))

pub overflow_mul-end : goal.overflow_mul-end
overflow_mul-end c =
    let fits = roomy _ _ _ (sym c.events_with_room.ensures ∙ c.in_ok-n.was) in
    omega (arith, fits.1)

pub slice_bounds-play-end : goal.slice_bounds-play-end
slice_bounds-play-end c = (roomy _ _ _ (sym c.events_with_room.ensures ∙ c.in_ok-n.was)).1

pub slice_bounds-play-end-2 : goal.slice_bounds-play-end-2
slice_bounds-play-end-2 c =
    let fits = roomy _ _ _ (sym c.events_with_room.ensures ∙ c.in_ok-n.was) in
    sym (length-take-le _ _ fits.1)

pub play-device-requires : goal.play-device-requires
play-device-requires c =
    let fits = roomy _ _ _ (sym c.events_with_room.ensures ∙ c.in_ok-n.was) in
    let part = length-take-le _ _ fits.1 in
    (omega (arith, fits.0), omega (arith, part), c.requires)

pub returns : goal.returns
returns c =
    let fits = roomy _ _ _ (sym c.events_with_room.ensures ∙ c.in_ok-n.was) in
    let played = c.play-device in (
      ap (ran_with 0 c.in_ok-n.n) played.ensures.0 ∙ all-ran _ _ _ c.in_ok-n.n fits.0 fits.1,
      part-answered _ _ _ c.in_ok-n.n fits.0 fits.1 _ played.ensures.1,
    )
