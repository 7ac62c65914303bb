-- `importing::walk`: a turn hears one more sample, and at the end those are all samples.
-- Assumes nothing.
use Rattle.std.proofs.Common.{rules, ◌≡◌, ℕ, ◌+◌, ◌-◌, ◌<◌, List, length, take, drop, subst, sym, ap, ◌∙◌, arith}
use Rattle.std.proofs.lemmas.Iterator.{window_more}
use Rattle.std.proofs.Math.Seq.{take_all}
use Rattle.std.specs.Slice.Iter.{windows_rest, windows_size}
use Rattle.capture.specs.Events.{event_bytes, captured}
use Rattle.capture.specs.Samples.{both_after, events_after}
use Rattle.capture.proofs.Joined.{events_joined}
use Rattle.capture.proofs.Prefix.{first_both}
use Rattle.importing.proofs.Turns.{Stands, none_given, window_hears, turn_both, turn_room, turn_kept}
use Rattle.importing.proofs.walk.Goals as goal

pub loop-two-init : goal.loop-two-init
loop-two-init c =
    let a = c.args.address in
    let samples = c.args.samples.now in
    let from = c.into_iter-two-iterator.ensures.into_iter_gives in
    let rest : windows_rest c.into_iter-two-iterator.result ≡ samples = ap windows_rest from ∙ c.windows-two-items.ensures.rest in
    let none : 0 ≡ length samples - length (windows_rest c.into_iter-two-iterator.result) = omega (arith, ap length rest) in
    let stands : Stands a samples (0 + 1) c.silent_both-both.result c.args.list.now =
    (c.silent_both-both.ensures ∙ sym (first_both a samples), c.requires.1 ∙ none_given a samples) in (
      ap windows_size from ∙ c.windows-two-items.ensures.size,
      omega (arith, ap length rest),
      rest ∙ ap (λ (n : ℕ). drop n samples) none,
      subst (λ (n : ℕ). Stands a samples (n + 1) c.silent_both-both.result c.args.list.now) none stands,
    )

pub push_few-requires : goal.push_few-requires
push_few-requires c =
    let a = c.args.address in
    let samples = c.args.samples.now in
    let inv = c.loop-two.invariant in
    let k = length samples - length (windows_rest c.loop-two.two-iterator) in
    let more = window_more samples c.loop-two.two-iterator c.next.new.self _ _ c.in-Some.is c.next.ensures.steps (search rules) inv.1 inv.2 in
    let hears =
    window_hears a k samples c.in-Some.two.now c.loop-two.both _ c.hear_sample-heard.ensures (more.3 0 0 (search rules)) (more.3 1 0 (search rules)) in
    let under : k + 1 < length samples = omega (arith, more.2, inv.0, inv.1) in
    turn_room a samples (k + 1) (omega arith) under _ inv.3.0 _ hears _ c.few_of.ensures _ inv.3.1 c.requires.0

pub loop-two-preserved : goal.loop-two-preserved
loop-two-preserved c =
    let a = c.args.address in
    let samples = c.args.samples.now in
    let inv = c.loop-two.invariant in
    let k = length samples - length (windows_rest c.loop-two.two-iterator) in
    let more = window_more samples c.loop-two.two-iterator c.next.new.self _ _ c.in-Some.is c.next.ensures.steps (search rules) inv.1 inv.2 in
    let hears =
    window_hears a k samples c.in-Some.two.now c.loop-two.both _ c.hear_sample-heard.ensures (more.3 0 0 (search rules)) (more.3 1 0 (search rules)) in
    let under : k + 1 < length samples = omega (arith, more.2, inv.0, inv.1) in
    let next : k + 1 + 1 ≡ length samples - length (windows_rest c.next.new.self) + 1 = omega (arith, more.0, inv.1) in
    let stands : Stands a samples (k + 1 + 1) c.hear_sample-heard.result.both c.push_few.new.self = (
      turn_both a samples (k + 1) (omega arith) under _ inv.3.0 _ hears,
      c.push_few.ensures ∙ turn_kept a samples (k + 1) (omega arith) under _ inv.3.0 _ hears _ c.few_of.ensures _ inv.3.1,
    ) in (
      c.next.ensures.steps.0 ∙ inv.0,
      omega (arith, more.0, inv.1),
      more.1,
      subst (λ (n : ℕ). Stands a samples n c.hear_sample-heard.result.both c.push_few.new.self) next stands,
    )

pub returns-clause-found : goal.returns-clause-found
returns-clause-found c =
    let samples = c.args.samples.now in
    let inv = c.loop-two.invariant in
    let k = length samples - length (windows_rest c.loop-two.two-iterator) in
    let all : take (k + 1) samples ≡ samples = take_all (k + 1) samples (omega (arith, c.in-None.ensures.steps.1.0, inv.0, inv.1)) in
    inv.3.0 ∙ ap (both_after c.args.address) all

pub returns-clause-written : goal.returns-clause-written
returns-clause-written c =
    let a = c.args.address in
    let samples = c.args.samples.now in
    let inv = c.loop-two.invariant in
    let k = length samples - length (windows_rest c.loop-two.two-iterator) in
    let all : take (k + 1) samples ≡ samples = take_all (k + 1) samples (omega (arith, c.in-None.ensures.steps.1.0, inv.0, inv.1)) in
    inv.3.1 ∙ ap event_bytes (ap (events_after a) all ∙ events_joined a samples)
