-- `packed_traces::run_packed` meets its contract. A report has at most 4,096 events, so the sums fit.
-- Assumes nothing.
use mathlib.Core.Path.{◌≡◌, subst, sym, ap, ◌∙◌}
use mathlib.Core.List.{List}
use Prim.Native.Nat.{ℕ, ◌≤◌}
use native.Mathlib.Omega.{arith}
use Rattle.arbiter.specs.Traces.{most_events, report}
use Rattle.traces.specs.Bodies.{Head, head_of, head_of_run}
use Rattle.traces.proofs.Accepted.{report_few}
use Rattle.packed_traces.proofs.run_packed.Goals as goal
use Rattle.packed_traces.proofs.run_packed.Goals.{in-Ok, in-Err}

-- what is told of a trace, run or refused, has few events
few_events : (t out : List ℕ) (told : Head) (n : ℕ) → told ≡ head_of (report t out) → n ≡ told.events → n ≤ most_events
few_events t out told n e same =
    subst (λ m. m ≤ most_events) (sym same) (subst (λ (r : Head). r.events ≤ most_events) (sym e) (report_few t out))

pub overflow_mul-result-2 : goal.overflow_mul-result-2
overflow_mul-result-2 c =
    let e = c.answer_trace.ensures.0 in
    let few : c.match-answer_trace.number.1.events ≤ most_events = elim c.match-answer_trace.branch [
      | in-Ok w ↦ few_events _ _ _ _ (sym (ap head_of_run w.in-Ok.is) ∙ e) (ap (λ p. p.1.events) w.number-is)
      | in-Err w ↦ few_events _ _ _ _ (sym (ap head_of_run w.in-Err.is) ∙ e) (ap (λ p. p.1.events) w.number-is)
    ] in
    omega (arith, few)

pub overflow_add-result-2 : goal.overflow_add-result-2
overflow_add-result-2 c =
    let e = c.answer_trace.ensures.0 in
    let few : c.match-answer_trace.number.1.events ≤ most_events = elim c.match-answer_trace.branch [
      | in-Ok w ↦ few_events _ _ _ _ (sym (ap head_of_run w.in-Ok.is) ∙ e) (ap (λ p. p.1.events) w.number-is)
      | in-Err w ↦ few_events _ _ _ _ (sym (ap head_of_run w.in-Err.is) ∙ e) (ap (λ p. p.1.events) w.number-is)
    ] in
    omega (arith, few)

pub overflow_add-result-3 : goal.overflow_add-result-3
overflow_add-result-3 c =
    let e = c.answer_trace.ensures.0 in
    let few : c.match-answer_trace.number.1.events ≤ most_events = elim c.match-answer_trace.branch [
      | in-Ok w ↦ few_events _ _ _ _ (sym (ap head_of_run w.in-Ok.is) ∙ e) (ap (λ p. p.1.events) w.number-is)
      | in-Err w ↦ few_events _ _ _ _ (sym (ap head_of_run w.in-Err.is) ∙ e) (ap (λ p. p.1.events) w.number-is)
    ] in
    omega (arith, few)
