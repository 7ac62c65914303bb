-- What an accepted and a refused trace mean for the call: the events and the answers fit, and what the report and the buffer are.
-- Assumes nothing.
use mathlib.Core.Path.{◌≡◌, ◌∙◌, refl, sym, ap}
use mathlib.Core.Bool.{Bool, true, false, not}
use mathlib.Core.List.{List, ◌∷◌, ◌++◌}
use Prim.Native.Nat.{ℕ, zero, suc, ◌+◌, ◌*◌, ◌≤◌, ◌<◌}
use native.Mathlib.Omega.{arith}
use lib.Dec.{eqb, ltb}
use lib.ListN.{length, take, drop, length-drop}
use lib.Seq.{length-take-le, get_or-take, take-add, drop_at}
use borrow.Author.Tests.{eqb-true, not-false, ltb-true, ltb-false, le-ltb}
use Rattle.std.specs.Prelude.{Err, if◌then◌else◌}
use Rattle.arbiter.specs.Straps.{address_of}
use Rattle.arbiter.specs.Effects.{power_up}
use Rattle.arbiter.specs.Steps.{run_from, answers_from, run}
use Rattle.arbiter.specs.Traces.{pin_count, pin_bytes, head_bytes, event_bytes, most_events, events_end}
use Rattle.arbiter.specs.Traces.{kind_count, whole_bytes, byte_at, pins_in, count_in, accepted_with}
use Rattle.arbiter.specs.Traces.{raw_in}
use Rattle.arbiter.specs.Traces.{raws_in, events_in, kind_number, is_kind, kind_of, kind_at, read_kind, read_counted, read_strapped, read_trace, refusal_number}
use Rattle.arbiter.specs.Traces.{read_number, report_of, bytes_of, buffer_of, report, buffer_after, ran, buffer_ran}
use Rattle.arbiter.specs.declared.Refusal.{Refusal}
use Rattle.arbiter.specs.declared.Refusal.TheVariants.{TraceCut, TooManyEvents, BytesAfterEnd, BadStraps, NoRoom, BadCount, UnknownPart}
use Rattle.std.specs.Prelude.{Option, Some, None, Result, Ok}
use Rattle.arbiter.specs.declared.Accepted.{Accepted}
use Rattle.arbiter.specs.declared.Kind.{Kind}
use Rattle.arbiter.specs.declared.Kind.TheVariants.{Pca9641}
use Rattle.arbiter.specs.declared.Device.{Device}
use Rattle.arbiter.specs.declared.Raw.{Raw}
use Rattle.arbiter.specs.Types.{Ran}
use Rattle.arbiter.proofs.KindKept.{runs_of_kind}
use Rattle.format.specs.Places.{events_part}
use Rattle.traces.specs.Bodies.{report_with, ran_of}
use Rattle.traces.proofs.Told.{no_refusal}
use Rattle.traces.proofs.Runs.{all-ran, all-answered}

-- ---- an accepted trace has passed every test

abbrev pub Fits : List ℕ → ℕ → ℕ → Kind → Type 0
Fits t room n k =
    (whole_bytes n ≤ length t) × (event_bytes * n ≤ room) × (n ≤ most_events) × (count_in t ≡ n) × (length t ≤ whole_bytes n)
    × (byte_at (events_end n) t ≡ kind_count)
    × (kind_at n t ≡ kind_number k)

not_both : (r : Refusal) (a n : ℕ) (k : Kind) → Err r ≡ accepted_with a n k → ⊥
not_both r a n k h = let z : ◌≡◌ {A = ℕ} 0 1 = cc in omega arith

passed : (b : Bool) (r : Refusal) (y : Result Accepted Refusal) (a n : ℕ) (k : Kind) → (if b then Err r else y) ≡ accepted_with a n k
    → (b ≡ false) × (y ≡ accepted_with a n k)
passed true r y a n k h = absurd (not_both r a n k h)
passed false r y a n k h = (refl, h)

-- a byte that names a kind is that kind's number
own_number : (b : ℕ) → is_kind b ≡ true → b ≡ kind_number (kind_of b)
own_number zero h = refl
own_number (suc zero) h = refl
own_number (suc (suc b)) h = let small = ltb-true (suc (suc b)) 2 h in absurd (omega arith)

-- what an accepted trace has
abbrev events_read : Result Accepted Refusal → ℕ
events_read (Ok a) = a.events
events_read (Err r) = 0

abbrev kind_had : Result Accepted Refusal → Kind
kind_had (Ok a) = a.kind
kind_had (Err r) = Pca9641

-- from the third section on, of a trace that was read up to its m events
kind_fits : (x m : ℕ) (t : List ℕ) (room a n : ℕ) (k : Kind) → read_kind x m t room ≡ accepted_with a n k
    → (m ≡ n) × (whole_bytes m ≤ length t) × (event_bytes * m ≤ room) × (length t ≤ whole_bytes m) × (byte_at (events_end m) t ≡ kind_count)
    × (kind_at m t ≡ kind_number k)
unfolding read_kind
kind_fits x m t room a n k h =
    let p1 = passed (ltb (length t) (events_end m + 1)) TraceCut _ a n k h in
    let p2 = passed (not (eqb (byte_at (events_end m) t) kind_count)) BadCount _ a n k p1.1 in
    let p3 = passed (ltb (length t) (whole_bytes m)) TraceCut _ a n k p2.1 in
    let p4 = passed (not (is_kind (kind_at m t))) UnknownPart _ a n k p3.1 in
    let p5 = passed (ltb (whole_bytes m) (length t)) BytesAfterEnd _ a n k p4.1 in
    let p6 = passed (ltb room (event_bytes * m)) NoRoom (accepted_with x m (kind_of (kind_at m t))) a n k p5.1 in
    let last : accepted_with x m (kind_of (kind_at m t)) ≡ accepted_with a n k = p6.1 in
    let same : kind_of (kind_at m t) ≡ k = ap kind_had last in (
      ap events_read last,
      ltb-false _ _ p3.0,
      ltb-false _ _ p6.0,
      ltb-false _ _ p5.0,
      eqb-true _ _ (not-false _ p2.0),
      own_number (kind_at m t) (not-false _ p4.0) ∙ ap kind_number same,
    )

counted_fits : (x : ℕ) (t : List ℕ) (room a n : ℕ) (k : Kind) → read_counted x t room ≡ accepted_with a n k → Fits t room n k
unfolding read_counted
counted_fits x t room a n k h =
    let p1 = passed (ltb (length t) head_bytes) TraceCut _ a n k h in
    let p2 = passed (ltb most_events (count_in t)) TooManyEvents _ a n k p1.1 in
    let p3 = passed (ltb (length t) (events_end (count_in t))) TraceCut _ a n k p2.1 in
    let fits = kind_fits x (count_in t) t room a n k p3.1 in
    let e : count_in t ≡ n = fits.0 in
    let few : count_in t ≤ most_events = ltb-false _ _ p2.0 in
    (rw e at fits.1, rw e at fits.2, rw e at few, e, rw e at fits.3, rw e at fits.4, rw e at fits.5)

strapped_fits : (s : Option ℕ) (t : List ℕ) (room a n : ℕ) (k : Kind) → read_strapped s t room ≡ accepted_with a n k → Fits t room n k
unfolding read_strapped
strapped_fits (Some x) t room a n k h = counted_fits x t room a n k h
strapped_fits None t room a n k h = absurd (not_both BadStraps a n k h)

pub accepted_fits : (t : List ℕ) (room a n : ℕ) (k : Kind) → read_trace t room ≡ accepted_with a n k → Fits t room n k
unfolding read_trace
accepted_fits t room a n k h =
    let p1 = passed (ltb (length t) 1) TraceCut _ a n k h in
    let p2 = passed (not (eqb (byte_at 0 t) pin_count)) BadCount _ a n k p1.1 in
    let p3 = passed (ltb (length t) pin_bytes) TraceCut _ a n k p2.1 in
    strapped_fits (address_of (pins_in t)) t room a n k p3.1

pub accepted_first : (t : List ℕ) (room a n : ℕ) (k : Kind) → read_trace t room ≡ accepted_with a n k → byte_at 0 t ≡ pin_count
unfolding read_trace
accepted_first t room a n k h =
    let p1 = passed (ltb (length t) 1) TraceCut _ a n k h in
    let p2 = passed (not (eqb (byte_at 0 t) pin_count)) BadCount _ a n k p1.1 in
    eqb-true _ _ (not-false _ p2.0)

-- ---- the number of a reading is the one that the report has

pub numbered : (t : List ℕ) (room : ℕ) (x : Result Accepted Refusal) → x ≡ read_trace t room
    → (x ≡ read_trace t room) × ((buffer : List ℕ) → length buffer ≡ room → read_number x ≡ (report t buffer).number)
unfolding report report_of
numbered t room x e = (e, λ buffer h. go x ∙ ap (λ (y : Result Accepted Refusal). (report_of y t).number) (e ∙ ap (read_trace t) (sym h)))
  where
    go : (y : Result Accepted Refusal) → read_number y ≡ (report_of y t).number
    go (Ok a) = refl
    go (Err r) = refl

-- ---- the events of an accepted trace, as a part of its bytes

-- the first event of what is taken, and the rest of it
first_taken : (n : ℕ) (l : List ℕ) → raw_in (take (event_bytes * suc n) l) ≡ raw_in l
first_taken n l = λ j. record { kind = at 0 (omega arith) j; x = at 1 (omega arith) j; y = at 2 (omega arith) j; z = at 3 (omega arith) j }
  where
    at : (i : ℕ) → i < event_bytes * suc n → byte_at i (take (event_bytes * suc n) l) ≡ byte_at i l
    at i h = get_or-take (event_bytes * suc n) l i 0 h

rest_taken : (n : ℕ) (l : List ℕ) → event_bytes ≤ length l → drop event_bytes (take (event_bytes * suc n) l) ≡ take (event_bytes * n) (drop event_bytes l)
rest_taken n l h =
    let size : event_bytes * suc n ≡ event_bytes + event_bytes * n = omega arith in
    ap (λ (k : ℕ). drop event_bytes (take k l)) size
    ∙ ap (drop event_bytes) (take-add event_bytes (event_bytes * n) l)
    ∙ drop_at (take event_bytes l) (take (event_bytes * n) (drop event_bytes l)) event_bytes (length-take-le event_bytes l h)

raws_taken : (n : ℕ) (l : List ℕ) → event_bytes * n ≤ length l → raws_in n (take (event_bytes * n) l) ≡ raws_in n l
unfolding raws_in
raws_taken zero l h = refl
raws_taken (suc n) l h =
    ap (λ (r : Raw). r ∷ raws_in n (drop event_bytes (take (event_bytes * suc n) l))) (first_taken n l)
    ∙ ap (λ (k : List ℕ). raw_in l ∷ raws_in n k) (rest_taken n l (omega arith))
    ∙ ap (λ (rs : List Raw). raw_in l ∷ rs) (raws_taken n (drop event_bytes l) (simp length-drop (omega arith)))

module _ (t : List ℕ) (room a n : ℕ) (k : Kind) (accepted : read_trace t room ≡ accepted_with a n k) where
  fits : Fits t room n k
  fits = accepted_fits t room a n k accepted

  part_is : events_part t ≡ take (event_bytes * n) (drop head_bytes t)
  unfolding events_part
  part_is = simp (fits.3, le-ltb (length t) (events_end n) (omega (arith, fits.0)))

  enough : event_bytes * n ≤ length (drop head_bytes t)
  enough = let whole = fits.0 in simp length-drop (omega (arith, whole))

  pub part_length : length (events_part t) ≡ event_bytes * n
  part_length = ap length part_is ∙ length-take-le (event_bytes * n) (drop head_bytes t) enough

  pub same_events : raws_in n (events_part t) ≡ events_in n t
  same_events = ap (raws_in n) part_is ∙ raws_taken n (drop head_bytes t) enough

-- ---- so a run of them from power-up gives the report and the buffer

module _ (t out : List ℕ) (a n : ℕ) (k : Kind) (accepted : read_trace t (length out) ≡ accepted_with a n k) where
  whole : length (events_part t) ≡ event_bytes * n
  whole = part_length t (length out) a n k accepted

  enough_room : event_bytes * n ≤ length out
  enough_room = (accepted_fits t (length out) a n k accepted).1

  events_are : raws_in n (events_part t) ≡ events_in n t
  events_are = same_events t (length out) a n k accepted

  pub played_report : (d : Device) (events : List ℕ) (r : Ran) → d ≡ power_up k → events ≡ events_part t → r ≡ ran d events out
      → report_with r.number a r.events r.device ≡ report t out
  unfolding report report_of run
  played_report d events r fresh part e =
      ap (λ (x : Ran). report_with x.number a x.events x.device)
      (e ∙ ap (λ (x : Device). ran x events out) fresh ∙ ap (λ (l : List ℕ). ran (power_up k) l out) part
      ∙ sym (all-ran (power_up k) (events_part t) out n whole enough_room))
      ∙ ap (λ (rs : List Raw). report_with 0 a n (run_from (power_up k) rs)) events_are
      ∙ ap (λ (x : Result Accepted Refusal). report_of x t) (sym accepted)

  pub never_refused : (d : Device) (events : List ℕ) (why : Refusal) → d ≡ power_up k → events ≡ events_part t
      → ran_of d (Err why) ≡ ran d events out → ⊥
  never_refused d events why fresh part e =
      no_refusal why
      (ap (λ (x : Ran). x.number)
      (e ∙ ap (λ (x : Device). ran x events out) fresh ∙ ap (λ (l : List ℕ). ran (power_up k) l out) part
      ∙ sym (all-ran (power_up k) (events_part t) out n whole enough_room)))

  pub played_buffer : (d : Device) (events : List ℕ) → d ≡ power_up k → events ≡ events_part t → buffer_ran d events out ≡ buffer_after t out
  unfolding buffer_after buffer_of
  played_buffer d events fresh part =
      ap (λ (x : Device). buffer_ran x events out) fresh
      ∙ ap (λ (l : List ℕ). buffer_ran (power_up k) l out) part
      ∙ sym (all-answered (power_up k) (events_part t) out n whole enough_room)
      ∙ ap (λ (rs : List Raw). bytes_of (answers_from (power_up k) rs) ++ drop (event_bytes * n) out) events_are
      ∙ ap (λ (x : Result Accepted Refusal). buffer_of x t out) (sym accepted)

-- ---- the report and the buffer of a refused trace

pub refused_report : (t out : List ℕ) (r : Refusal) → read_trace t (length out) ≡ Err r → report_with (refusal_number r) 0 0 (power_up Pca9641)
    ≡ report t out
unfolding report report_of
refused_report t out r h = ap (λ (x : Result Accepted Refusal). report_of x t) (sym h)

pub refused_buffer : (t out : List ℕ) (r : Refusal) → read_trace t (length out) ≡ Err r → out ≡ buffer_after t out
unfolding buffer_after buffer_of
refused_buffer t out r h = ap (λ (x : Result Accepted Refusal). buffer_of x t out) (sym h)

-- ---- a report's kind of part is the trace's, for a run keeps it

pub report_kind : (t out : List ℕ) (a n : ℕ) (k : Kind) → read_trace t (length out) ≡ accepted_with a n k → (report t out).device.kind ≡ k
unfolding report report_of
report_kind t out a n k h = ap (λ (x : Result Accepted Refusal). (report_of x t).device.kind) h ∙ runs_of_kind k (events_in n t)

-- ---- a report's count of events

pub report_few : (t out : List ℕ) → (report t out).events ≤ most_events
unfolding report report_of
report_few t out = go (read_trace t (length out)) refl
  where
    go : (x : Result Accepted Refusal) → read_trace t (length out) ≡ x → (report_of x t).events ≤ most_events
    go (Ok a) h = (accepted_fits t (length out) a.address a.events a.kind h).2
    go (Err r) h = omega arith
