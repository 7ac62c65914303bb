-- One answer more: the answers of a run, and their lines.
-- Assumes nothing.
use Rattle.std.proofs.Common.{ℕ, ◌+◌, ◌<◌, ◌≡◌, sym, ap, subst, ◌∙◌, List, [], ◌∷◌, ◌++◌, append_assoc, append-nil}
use Rattle.std.specs.declared.option.Option.{Option}
use Rattle.std.specs.Io.KnownBytes.{Appends}
use Rattle.std.proofs.KnownBytes.{Appends-trans}
use Rattle.arbiter.specs.Steps.{step, run_from, answers_from}
use Rattle.arbiter.specs.Traces.{raws_in, event_count}
use Rattle.arbiter.specs.Listing.{answer_line, answer_lines}
use Rattle.arbiter.specs.declared.Device.{Device}
use Rattle.arbiter.specs.declared.Answer.{Answer}
use Rattle.format.specs.Places.{event_at}
use Rattle.traces.proofs.Runs.{answers_more, events_more}

lines_more : (l : List Answer) (a : Answer) → answer_lines (l ++ a ∷ []) ≡ answer_lines l ++ answer_line a
lines_more [] a = append-nil (answer_line a)
lines_more (x ∷ l) a = ap (λ (m : List ℕ). answer_line x ++ m) (lines_more l a) ∙ sym (append_assoc (answer_line x) (answer_lines l) (answer_line a))

-- event k is answered by a, at the device d after the events before it
module _ (from : Device) (b : List ℕ) (k : ℕ) (d : Device) (a : Answer) (more : k < event_count b) (at_k : d ≡ run_from from (raws_in k b))
    (answered : a ≡ (step d (event_at k b)).answer) where
  answers_again : answers_from from (raws_in (k + 1) b) ≡ answers_from from (raws_in k b) ++ a ∷ []
  answers_again =
      ap (answers_from from) (events_more b k more) ∙ answers_more from (raws_in k b) (event_at k b)
      ∙ ap (λ (x : Answer). answers_from from (raws_in k b) ++ x ∷ []) (sym (answered ∙ ap (λ (x : Device). (step x (event_at k b)).answer) at_k))

  lines_again : answer_lines (answers_from from (raws_in k b)) ++ answer_line a ≡ answer_lines (answers_from from (raws_in (k + 1) b))
  lines_again = sym (ap answer_lines answers_again ∙ lines_more (answers_from from (raws_in k b)) a)

  -- what a stream held, and holds with this line
  pub line_again : (x y z : Option (List ℕ)) → Appends x y (answer_lines (answers_from from (raws_in k b))) → Appends y z (answer_line a)
      → Appends x z (answer_lines (answers_from from (raws_in (k + 1) b)))
  line_again x y z p q = subst (Appends x z) lines_again (Appends-trans x y z _ _ p q)
