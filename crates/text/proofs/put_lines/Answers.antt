-- `text::put_lines` meets its contract: after i turns the lines of i answers stand after the head's line.
-- Assumes nothing.
use Prim.Native.Nat.{◌*◌, ◌+◌}
use mathlib.Core.Path.{◌≡◌, refl, sym, ap, ◌∙◌}
use native.Mathlib.Omega.{arith}
use lib.ListN.{drop}
use lib.Seq.{sets}
use Rattle.arbiter.specs.Traces.{event_bytes}
use Rattle.arbiter.specs.Listing.{head_chars, line_chars}
use Rattle.text.specs.Written.{line_in, lines_in}
use Rattle.text.proofs.Stores.{sets_on}
use Rattle.text.proofs.Lines.{lines_more, lines_length}
use Rattle.text.proofs.put_lines.Goals as goal

pub loop-i-init : goal.loop-i-init
unfolding lines_in
loop-i-init c = (omega arith, refl, refl)

pub overflow_mul-i : goal.overflow_mul-i
overflow_mul-i c = omega arith

pub overflow_add-i : goal.overflow_add-i
overflow_add-i c = omega arith

pub overflow_mul-i-in-loop-i : goal.overflow_mul-i-in-loop-i
overflow_mul-i-in-loop-i c = omega arith

pub put_line-requires : goal.put_line-requires
put_line-requires c = (omega arith, omega arith)

pub loop-i-smaller : goal.loop-i-smaller
loop-i-smaller c = omega arith

pub loop-i-preserved : goal.loop-i-preserved
loop-i-preserved c =
    let at = c.loop-i in
    let b = c.args.answers.now in
    let start = c.args.text.now in (
      omega arith,
      c.put_line.auto.text ∙ at.invariant.1,
      c.put_line.ensures
          ∙ ap (λ (l : _). sets l (head_chars + line_chars * at.i) (line_in (drop (event_bytes * at.i) b))) at.invariant.2
          ∙ sets_on (lines_in at.i b) (line_in (drop (event_bytes * at.i) b)) start head_chars (head_chars + line_chars * at.i)
          (ap (λ (n : _). head_chars + n) (sym (lines_length at.i b)))
          ∙ ap (sets start head_chars) (sym (lines_more at.i b)),
    )

pub returns : goal.returns
returns c =
    let e : c.loop-i.i ≡ c.args.n = omega arith in
    rw (← e) c.loop-i.invariant.2
