-- `rowimage::show_in` meets its contract.
-- Assumes nothing.
use Prim.Native.Nat.{ℕ, ◌+◌, ◌*◌, ◌≤◌}
use mathlib.Core.Path.{sym, ap, subst, ◌∙◌}
use lib.ListN.{length, drop}
use Rattle.std.specs.Prelude.{Ok}
use Rattle.arbiter.specs.Steps.{answer}
use Rattle.layout.specs.Layout.{device_in}
use Rattle.shelf.specs.declared.Reach.{Reach}
use Rattle.rowimage.specs.Row.{record_bytes, image_in}
use Rattle.rowimage.proofs.Showing.{show_fits, show_at, show_no_everyone, show_refused}
use Rattle.rowimage.proofs.show_in.Goals as goal

pub show_place-requires : goal.show_place-requires
show_place-requires c =
    let told = sym c.in-Ok-At.is ∙ c.reach_for.ensures in
    subst (λ (i : ℕ). record_bytes * i + record_bytes ≤ length c.args.row.now) (sym c.from.ensures)
    (show_fits c.args.row.now _ _ _ c.survey.ensures told _ (ap (λ (w : Reach). Ok w) c.in-Ok-At.field-0-is))

pub returns-in-Ok-At : goal.returns-in-Ok-At
returns-in-Ok-At c =
    let row = c.args.row.now in
    let told = sym c.in-Ok-At.is ∙ c.reach_for.ensures in
    c.show_place.ensures ∙ ap (λ (i : ℕ). answer 0 0 (device_in (image_in (drop (record_bytes * i) row)))) c.from.ensures
    ∙ show_at row _ _ _ c.survey.ensures told _ (ap (λ (w : Reach). Ok w) c.in-Ok-At.field-0-is)

pub returns-in-Ok-Everyone : goal.returns-in-Ok-Everyone
returns-in-Ok-Everyone c =
    let told = sym c.in-Ok-Everyone.is ∙ c.reach_for.ensures in
    absurd (show_no_everyone c.args.row.now _ _ _ c.survey.ensures told (ap (λ (w : Reach). Ok w) c.in-Ok-Everyone.field-0-is))

pub returns-in-Err : goal.returns-in-Err
returns-in-Err c =
    c.fault_answer.ensures ∙ show_refused c.args.row.now _ _ _ c.survey.ensures c.reach_for.ensures _ c.in-Err.is
