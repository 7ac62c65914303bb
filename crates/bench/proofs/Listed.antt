-- The listing of an accepted trace: its head, and a line for each answer of its run.
-- Assumes nothing.
use Rattle.std.proofs.Common.{ℕ, ◌≡◌, refl, sym, ap, ◌∙◌, List, ◌++◌}
use Rattle.arbiter.specs.Effects.{power_up}
use Rattle.arbiter.specs.Steps.{answers_from}
use Rattle.arbiter.specs.Traces.{answer_room, read_trace, raws_in, kind_number, kind_of, kind_at, accepted_with}
use Rattle.arbiter.specs.Listing.{head_line, answer_lines, listing_of, listing}
use Rattle.arbiter.specs.declared.Kind.{Kind}
use Rattle.arbiter.specs.declared.Kind.TheVariants.{Pca9641, Tpt29641}
use Rattle.arbiter.specs.declared.Raw.{Raw}
use Rattle.std.specs.Prelude.{Result}
use Rattle.arbiter.specs.declared.Accepted.{Accepted}
use Rattle.arbiter.specs.declared.Refusal.{Refusal}
use Rattle.format.specs.Places.{events_part, kind_in}
use Rattle.traces.proofs.Accepted.{accepted_fits, same_events}

own_kind : (k : Kind) → kind_of (kind_number k) ≡ k
own_kind Pca9641 = refl
own_kind Tpt29641 = refl

kind_is : (t : List ℕ) (room a n : ℕ) (k : Kind) → read_trace t room ≡ accepted_with a n k → kind_in t ≡ k
kind_is t room a n k h =
    let fits = accepted_fits t room a n k h in
    ap (λ (m : ℕ). kind_of (kind_at m t)) fits.3 ∙ ap kind_of fits.6 ∙ own_kind k

pub listed : (t : List ℕ) (a n : ℕ) (k : Kind) → read_trace t answer_room ≡ accepted_with a n k
    → head_line a n ++ answer_lines (answers_from (power_up (kind_in t)) (raws_in n (events_part t))) ≡ listing t
unfolding listing listing_of
listed t a n k h =
    ap (λ (x : Kind). head_line a n ++ answer_lines (answers_from (power_up x) (raws_in n (events_part t)))) (kind_is t answer_room a n k h)
    ∙ ap (λ (rs : List Raw). head_line a n ++ answer_lines (answers_from (power_up k) rs)) (same_events t answer_room a n k h)
    ∙ sym (ap (λ (x : Result Accepted Refusal). listing_of x t) h)
