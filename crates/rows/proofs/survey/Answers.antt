-- `rows::survey` meets its contract: at each record it is known what is seen of those before it.
-- Assumes nothing.
use Rattle.std.proofs.Common.{◌≡◌, ◌<◌, ◌∙◌, ℕ, ap, add-one, arith, length}
use Rattle.std.proofs.lemmas.List.{get_or_default}
use Rattle.shelf.specs.declared.Record.{Record}
use Rattle.shelf.specs.Shelf.{record_at, no_record}
use Rattle.routing.specs.declared.Seen.{Seen}
use Rattle.routing.specs.Deciding.{see_of, seen_to, seen_of}
use Rattle.rows.proofs.survey.Goals as goal

pub loop-c-init : goal.loop-c-init
unfolding seen_to
loop-c-init c = c.start-s.ensures

pub loop-c-preserved : goal.loop-c-preserved
unfolding seen_to
loop-c-preserved c =
    let row = c.args.row.now in
    let i = c.loop-c.c-index in
    let within : i < length row = omega arith in
    rw (add-one i) (
    c.see_record-s.ensures ∙ ap (λ (r : Record). see_of c.loop-c.s r.address) (get_or_default row i _ no_record within)
    ∙ ap (λ (s : Seen). see_of s (record_at row i).address) c.loop-c.invariant
    )

pub returns : goal.returns
unfolding seen_of
returns c =
    let e : c.loop-c.c-index ≡ length c.args.row.now = omega arith in
    c.loop-c.invariant ∙ ap (λ (i : ℕ). seen_to i c.args.name c.args.row.now) e
