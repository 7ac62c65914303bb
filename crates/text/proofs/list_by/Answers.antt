-- `text::list_by` meets its contract: the run's report and answers tell the listing.
-- Assumes nothing.
use Prim.Native.Nat.{ℕ}
use mathlib.Core.Path.{refl, sym, ap, ◌∙◌}
use mathlib.Core.List.{List}
use native.Mathlib.Omega.{arith}
use lib.ListN.{length}
use Rattle.traces.specs.Bodies.{head_of_run}
use Rattle.traces.proofs.Told.{no_refusal}
use Rattle.text.specs.Written.{fitted}
use Rattle.text.proofs.Listed.{told-accepted, told-fits, told-refused}
use Rattle.text.proofs.list_by.Goals as goal

pub list_accepted-requires : goal.list_accepted-requires
list_accepted-requires c =
    let ran = c.answer_trace in
    let start = c.args in
    let head = sym (ap head_of_run c.in-Ok.is) ∙ ran.ensures.0 in
    let fit = told-fits start.t.now start.answers.now c.requires _ head in
    (fit.1, omega (arith, fit.0, ran.auto.out))

pub list_refused-requires : goal.list_refused-requires
list_refused-requires c =
    let start = c.args in
    let head = sym (ap head_of_run c.in-Err.is) ∙ c.answer_trace.ensures.0 in
    rw c.refusal_number.ensures (told-refused start.t.now start.answers.now c.requires _ head (no_refusal c.in-Err.refused.refusal)).1

pub returns-in-Ok : goal.returns-in-Ok
returns-in-Ok c =
    let ran = c.answer_trace.ensures in
    let start = c.args in
    let head = sym (ap head_of_run c.in-Ok.is) ∙ ran.0 in
    let same = told-accepted start.t.now start.answers.now c.requires _ head _ ran.1 refl in
    let listed = c.list_accepted.ensures in
    (listed.0 ∙ ap length same, listed.1 ∙ ap (λ (w : List ℕ). fitted w start.text.now) same)

pub returns-in-Err : goal.returns-in-Err
returns-in-Err c =
    let start = c.args in
    let head = sym (ap head_of_run c.in-Err.is) ∙ c.answer_trace.ensures.0 in
    let same = (told-refused start.t.now start.answers.now c.requires _ head (no_refusal c.in-Err.refused.refusal)).0 in
    let listed = rw c.refusal_number.ensures at c.list_refused.ensures in
    (listed.0 ∙ ap length same, listed.1 ∙ ap (λ (w : List ℕ). fitted w start.text.now) same)
