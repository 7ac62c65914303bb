-- `text::list_accepted` meets its contract.
-- Assumes nothing.
use mathlib.Core.Path.{refl, ap, ◌∙◌}
use mathlib.Core.List.{List, ◌++◌}
use Prim.Native.Nat.{ℕ, ◌+◌, ◌*◌}
use lib.Seq.{sets}
use Rattle.arbiter.specs.Listing.{head_line}
use Rattle.text.specs.Written.{lines_in}
use Rattle.text.proofs.Stores.{sets_on, fits, no_room}
use Rattle.text.proofs.Lines.{listed_length}
use Rattle.text.proofs.list_accepted.Goals as goal

pub returns-then-text-needed : goal.returns-then-text-needed
returns-then-text-needed c =
    let start = c.args in
    let k = listed_length start.address start.n start.answers.now in
    (k, no_room (8 + 9 * start.n) _ _ k c.if-text-needed.true)

pub returns : goal.returns
returns c =
    let start = c.args in
    let head = head_line start.address start.n in
    let lines = lines_in start.n start.answers.now in
    let k = listed_length start.address start.n start.answers.now in (
      k,
      c.put_lines.ensures
          ∙ ap (λ (l : List ℕ). sets l 8 lines) c.put_head.ensures
          ∙ sets_on head lines start.text.now 0 8 refl
          ∙ fits (8 + 9 * start.n) (head ++ lines) start.text.now k c.if-text-needed.false,
    )
