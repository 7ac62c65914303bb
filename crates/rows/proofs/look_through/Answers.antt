-- `rows::look_through` meets its contract: at each record it is known what is seen and shown of those before it.
-- Assumes nothing.
use Rattle.std.proofs.Common.{◌≡◌, ◌<◌, ◌∙◌, ℕ, ap, add-one, arith, length}
use Rattle.std.proofs.lemmas.List.{get_or_default}
use Rattle.shelf.specs.Shelf.{record_at, no_record}
use Rattle.showing.specs.declared.Looked.{Looked}
use Rattle.showing.specs.Showing.{look_of, looked_to, looked_of}
use Rattle.rows.proofs.look_through.Goals as goal

pub loop-c-init : goal.loop-c-init
unfolding looked_to
loop-c-init c = c.look_start-s.ensures

pub loop-c-preserved : goal.loop-c-preserved
unfolding looked_to
loop-c-preserved c =
    let row = c.args.row.now in
    let i = c.loop-c.c-index in
    let within : i < length row = omega arith in
    rw (add-one i) (
    c.look-s.ensures ∙ ap (look_of c.loop-c.s) (get_or_default row i _ no_record within)
    ∙ ap (λ (s : Looked). look_of s (record_at row i)) c.loop-c.invariant
    )

pub returns : goal.returns
unfolding looked_of
returns c =
    let e : c.loop-c.c-index ≡ length c.args.row.now = omega arith in
    c.loop-c.invariant ∙ ap (λ (i : ℕ). looked_to i c.args.place c.args.row.now) e
