-- The listing of a trace, told from the report and the answer buffer of its run.
-- Assumes nothing.
use mathlib.Core.Path.{◌≡◌, refl, sym, ap, subst, ◌∙◌}
use mathlib.Core.List.{List, [], ◌∷◌, ◌++◌}
use Prim.Native.Nat.{ℕ, zero, suc, ◌*◌, ◌≤◌, ◌<◌}
use native.Mathlib.Omega.{arith}
use lib.ListN.{length, drop}
use Rattle.arbiter.specs.declared.Accepted.{Accepted}
use Rattle.arbiter.specs.Effects.{power_up}
use Rattle.arbiter.specs.Steps.{step, answers_from}
use Rattle.arbiter.specs.Traces.{head_bytes, event_bytes, most_events, answer_room, raw_in, raws_in, answers_in, bytes_of, read_trace, refusal_number}
use Rattle.arbiter.specs.Traces.{report_of, buffer_of}
use Rattle.arbiter.specs.Traces.{report, buffer_after}
use Rattle.arbiter.specs.Listing.{head_line, answer_line, answer_lines, most_chars, listing_of, listing}
use Rattle.traces.specs.Bodies.{Head, head_of}
use Rattle.arbiter.specs.declared.Kind.{Kind}
use Rattle.arbiter.specs.declared.Device.{Device}
use Rattle.arbiter.specs.declared.Answer.{Answer}
use Rattle.arbiter.specs.declared.Refusal.{Refusal}
use Rattle.arbiter.specs.declared.Refusal.TheVariants.{TraceCut, TooManyEvents, BytesAfterEnd, BadStraps, NoRoom, BadCount, UnknownPart}
use Rattle.std.specs.Prelude.{Result, Err, Ok}
use Rattle.traces.proofs.Accepted.{accepted_fits}
use Rattle.traces.proofs.Told.{no_refusal}
use Rattle.text.specs.Written.{lines_in, refusal_line}
use Rattle.text.proofs.Lines.{listed_length}

-- ---- answers as bytes, and as lines

lines_of : (l : List Answer) (rest : List ℕ) → lines_in (length l) (bytes_of l ++ rest) ≡ answer_lines l
unfolding lines_in
lines_of [] rest = refl
lines_of (a ∷ l) rest = ap (λ (r : List ℕ). answer_line a ++ r) (lines_of l rest)

answers_count : (d : Device) (k : ℕ) (l : List ℕ) → length (answers_from d (raws_in k l)) ≡ k
unfolding answers_from raws_in
answers_count d zero l = refl
answers_count d (suc k) l = ap suc (answers_count (step d (raw_in l)).device k (drop event_bytes l))

lines_in_lem : (k : Kind) (n : ℕ) (t rest : List ℕ) → answer_lines (answers_in k n t) ≡ lines_in n (bytes_of (answers_in k n t) ++ rest)
lines_in_lem k n t rest =
    sym (lines_of (answers_in k n t) rest)
    ∙ ap (λ (m : ℕ). lines_in m (bytes_of (answers_in k n t) ++ rest)) (answers_count (power_up k) n (drop head_bytes t))

-- ---- a refusal's number is 3 or 5 to 10

two_digits : (r : Refusal) → refusal_number r < 100
two_digits TraceCut = omega arith
two_digits TooManyEvents = omega arith
two_digits BytesAfterEnd = omega arith
two_digits BadStraps = omega arith
two_digits NoRoom = omega arith
two_digits BadCount = omega arith
two_digits UnknownPart = omega arith

refusal_short : (r : Refusal) → length (refusal_line (refusal_number r)) ≤ 4
refusal_short TraceCut = omega arith
refusal_short TooManyEvents = omega arith
refusal_short BytesAfterEnd = omega arith
refusal_short BadStraps = omega arith
refusal_short NoRoom = omega arith
refusal_short BadCount = omega arith
refusal_short UnknownPart = omega arith

-- ---- no listing is longer than that of 4,096 events

pub listing_short : (t : List ℕ) → length (listing t) ≤ most_chars
unfolding listing listing_of
listing_short t = go (read_trace t answer_room) refl
  where
    go : (x : Result Accepted Refusal) → read_trace t answer_room ≡ x → length (listing_of x t) ≤ most_chars
    go (Ok x) h =
        let a = x.address in
        let n = x.events in
        let k = x.kind in
        let few = (accepted_fits t answer_room a n k h).2 in
        let l = ap length (ap (λ (l : List ℕ). head_line a n ++ l) (lines_in_lem k n t [])) ∙ sym (listed_length a n (bytes_of (answers_in k n t) ++ [])) in
        omega (arith, few, l)
    go (Err r) h = omega (arith, refusal_short r)

-- ---- a trace run with room for the answers of any

module _ (t room : List ℕ) (e : answer_room ≡ length room) where
  same_reading : listing t ≡ listing_of (read_trace t (length room)) t
  unfolding listing
  same_reading = ap (λ (k : ℕ). listing_of (read_trace t k) t) e

  accepted_listing : (report t room).number ≡ 0 → head_line (report t room).address (report t room).events
      ++ lines_in (report t room).events (buffer_after t room) ≡ listing t
  unfolding listing_of report report_of buffer_after buffer_of
  accepted_listing h = go (read_trace t (length room)) h ∙ sym same_reading
    where
      go : (x : Result Accepted Refusal) → (report_of x t).number ≡ 0 → head_line (report_of x t).address (report_of x t).events
          ++ lines_in (report_of x t).events (buffer_of x t room) ≡ listing_of x t
      go (Ok x) z =
          ap (λ (l : List ℕ). head_line x.address x.events ++ l) (sym (lines_in_lem x.kind x.events t (drop (event_bytes * x.events) room)))
      go (Err r) z = absurd (no_refusal r z)

  answers_fit : (event_bytes * (report t room).events ≤ length room) × ((report t room).events ≤ most_events)
  unfolding report report_of
  answers_fit = go (read_trace t (length room)) refl
    where
      go : (x : Result Accepted Refusal) → read_trace t (length room) ≡ x
          → (event_bytes * (report_of x t).events ≤ length room) × ((report_of x t).events ≤ most_events)
      go (Ok x) h = let fits = accepted_fits t (length room) x.address x.events x.kind h in (fits.1, fits.2)
      go (Err r) h = (omega arith, omega arith)

  refused_listing : ((report t room).number ≡ 0 → ⊥) → (refusal_line (report t room).number ≡ listing t) × ((report t room).number < 100)
  unfolding listing_of report report_of
  refused_listing h = let told = go (read_trace t (length room)) h in (told.0 ∙ sym same_reading, told.1)
    where
      go : (x : Result Accepted Refusal) → ((report_of x t).number ≡ 0 → ⊥)
          → (refusal_line (report_of x t).number ≡ listing_of x t) × ((report_of x t).number < 100)
      go (Ok x) z = absurd (z refl)
      go (Err r) z = (refl, two_digits r)

  -- ---- the same of any head r and buffer b that are the run's

  module _ (r : Head) (same : r ≡ head_of (report t room)) where
    pub told-accepted : (b : List ℕ) → b ≡ buffer_after t room → r.number ≡ 0 → head_line r.address r.events ++ lines_in r.events b ≡ listing t
    told-accepted b filled z =
        ap (λ (x : List ℕ). head_line r.address r.events ++ lines_in r.events x) filled
        ∙ ap (λ (x : Head). head_line x.address x.events ++ lines_in x.events (buffer_after t room)) same
        ∙ accepted_listing (sym (ap (λ (x : Head). x.number) same) ∙ z)

    pub told-fits : (event_bytes * r.events ≤ length room) × (r.events ≤ most_events)
    told-fits = subst (λ (x : Head). (event_bytes * x.events ≤ length room) × (x.events ≤ most_events)) (sym same) answers_fit

    pub told-refused : (r.number ≡ 0 → ⊥) → (refusal_line r.number ≡ listing t) × (r.number < 100)
    told-refused = subst (λ (x : Head). (x.number ≡ 0 → ⊥) → (refusal_line x.number ≡ listing t) × (x.number < 100)) (sym same) refused_listing
