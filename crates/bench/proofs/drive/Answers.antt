-- `bench::drive`: a turn is one event more (`Lines.antt`, `traces/proofs/Runs.antt`).
-- Assumes nothing.
use Rattle.std.proofs.Common.{arith, ℕ, ◌≡◌, ◌<◌, refl, ap, subst, ◌∙◌}
use Rattle.std.specs.Io.KnownBytes.{Appends}
use Rattle.std.proofs.KnownBytes.{Appends-nil}
use Rattle.arbiter.specs.Effects.{power_up}
use Rattle.arbiter.specs.Steps.{step, run_from, answers_from, run}
use Rattle.arbiter.specs.Traces.{raws_in, event_count}
use Rattle.arbiter.specs.Listing.{answer_lines}
use Rattle.arbiter.specs.declared.Raw.{Raw}
use Rattle.format.specs.Places.{events_part, kind_in}
use Rattle.traces.proofs.Runs.{again_device}
use Rattle.bench.proofs.Lines.{line_again}
use Rattle.bench.proofs.drive.Goals as goal

pub loop-i-init : goal.loop-i-init
unfolding run_from raws_in answers_from
loop-i-init g c = record { device = c.fresh_for-standing.ensures; lines = Appends-nil _ }

pub loop-i-preserved : goal.loop-i-preserved
loop-i-preserved g c =
    let more : c.loop-i.i < event_count (events_part c.args.t.now) = omega arith in
    let at_i = c.loop-i.invariant.device in
    let same = c.event_of-r.ensures in
    record {
      device = c.step_lent-a.ensures.0 ∙ ap (λ (r : Raw). (step c.loop-i.standing r).device) same ∙ again_device _ _ _ _ _ more at_i refl;
      lines = line_again _ _ _ _ _ more at_i (c.step_lent-a.ensures.1 ∙ ap (λ (r : Raw). (step c.loop-i.standing r).answer) same) _ _ _
          c.loop-i.invariant.lines c.in_ok-print_answer.ensures;
    }

pub returns-clause-device : goal.returns-clause-device
unfolding run
returns-clause-device g c =
    let all : c.loop-i.i ≡ c.args.n = omega arith in
    c.loop-i.invariant.device ∙ ap (λ (k : ℕ). run_from (power_up (kind_in c.args.t.now)) (raws_in k (events_part c.args.t.now))) all

pub returns-clause-lines : goal.returns-clause-lines
returns-clause-lines g c =
    let all : c.loop-i.i ≡ c.args.n = omega arith in
    subst (λ (k : ℕ). Appends (g.W.Write.contents c.args.out.now) (g.W.Write.contents c.loop-i.out)
    (answer_lines (answers_from (power_up (kind_in c.args.t.now)) (raws_in k (events_part c.args.t.now))))) all c.loop-i.invariant.lines
