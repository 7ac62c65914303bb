-- `rowimage::carry_out` meets its contract: at each place the buffer holds the row as the places so far have left it.
-- Assumes nothing.
use Prim.Native.Nat.{ℕ, ◌≤◌, ◌<◌, ◌-◌}
use mathlib.Core.Path.{◌≡◌, refl, ap, ◌∙◌}
use native.Mathlib.Omega.{arith}
use Rattle.std.specs.Prelude.{None}
use Rattle.rows.specs.Sweeps.{sweep_of, carried_out}
use Rattle.rowimage.specs.Row.{record_count, bytes_of_row, records_in}
use Rattle.rowimage.proofs.Walks.{carry_none, carry_again}
use Rattle.rowimage.proofs.carry_out.Goals as goal

pub loop-i-init : goal.loop-i-init
loop-i-init c =
    let none = carry_none c.args.row.now c.requires.0 c.args.r c.args.places.start in
    (omega arith, refl, none.0, none.1)

pub loop-i-preserved : goal.loop-i-preserved
loop-i-preserved c =
    let inv = c.loop-i.invariant in
    let place : c.args.places.start ≤ c.loop-i.i = inv.0 in
    let ordered : c.args.places.start ≤ c.args.places.end = c.requires.1 in
    let fits : c.args.places.end ≤ record_count c.args.row.now = c.requires.2 in
    let inside : c.loop-i.i < record_count c.args.row.now = omega arith in
    let next =
    carry_again c.args.row.now c.requires.0 c.args.r c.args.places.start c.loop-i.i place inside
    _ _ _ _ _ inv.2 inv.3 c.step_place-now.ensures.0 c.step_place-now.ensures.1 c.told_by-told.ensures
    in
    (omega arith, c.step_place-now.auto.row ∙ inv.1, next.0, next.1)

pub returns : goal.returns
unfolding carried_out
returns c =
    let here = c.loop-i in
    let start = c.args in
    let row = records_in start.row.now in
    let from = start.places.start in
    let ordered : from ≤ start.places.end = c.requires.1 in
    let e : here.i - from ≡ start.places.end - from = omega arith in (
      here.invariant.2 ∙ ap (λ (k : ℕ). bytes_of_row (sweep_of start.r from k (row, None)).0) e,
      here.invariant.3 ∙ ap (λ (k : ℕ). (sweep_of start.r from k (row, None)).1) e,
    )
