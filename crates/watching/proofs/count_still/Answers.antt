-- `watching::count_still`: the samples that are counted are `x`.
-- Assumes nothing.
use Rattle.std.proofs.Common.{ℕ, Bool, ◌≡◌, ◌+◌, ◌-◌, eqb, take, drop, length-drop, subst, sym, ◌∙◌, arith, rules, tests}
use Rattle.std.specs.List.{prefix_len}
use Rattle.std.proofs.lemmas.Iterator.{YieldsList-from_slice}
use Rattle.std.proofs.lemmas.Iterator.Search.{YieldsList-from_take_while}
use Rattle.std.proofs.lemmas.Iterator.Consumers.{YieldsList-at, count_from_yields_List}
use Rattle.std.proofs.lemmas.List.Folds.{length-prefix_len}
use Rattle.watching.proofs.Resting.{StillAt, still_at}
use Rattle.watching.proofs.count_still.Goals as goal

pub returns : goal.returns
returns c =
    let whole = drop c.args.from c.args.samples.now in
    let most : ℕ = c.args.from + c.min-most.result - c.args.from in
    let xs = take most whole in
    let test : ℕ → Bool = λ y. eqb y c.args.x in
    let n = c.count.result in
    let so : n ≡ prefix_len test xs = count_from_yields_List c.take_while.result n c.count.ensures.ran
    (YieldsList-from_take_while _ test (YieldsList-at c.take_while.ensures.source (YieldsList-from_slice xs c.iter.ensures.rest))
    c.take_while.ensures.closure c.take_while.ensures.done (λ x b q k. search (rules, tests)))
    ∙ length-prefix_len test xs in
    let found = subst (StillAt c.args.x most whole) (sym so) (still_at c.args.x most whole) in
    (omega (arith, found.0, c.min-most.ensures), omega (arith, found.1, length-drop c.args.from c.args.samples.now), found.2)
