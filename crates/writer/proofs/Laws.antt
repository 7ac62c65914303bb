-- Laws of `writer`: what the writing of a trace leaves: refused, or the head and the events stored one after the other.
-- Assumes nothing.
use mathlib.Core.Path.{◌≡◌, ◌∙◌, refl, sym, ap}
use mathlib.Core.Bool.{Bool, true, false, not}
use mathlib.Core.List.{List, ◌++◌}
use Prim.Native.Nat.{ℕ, ◌+◌, ◌*◌, ◌-◌, ◌%◌, ◌≤◌}
use native.Mathlib.Omega.{arith}
use lib.Dec.{eqb, ltb}
use lib.ListN.{length, drop, length-append, length-drop}
use lib.Seq.{take_at, drop-append-add, drop-drop}
use borrow.Author.Tests.{eq-eqb, ne_eqb, eqb-true, eqb-false, not-false, ltb-false, le-ltb}
use Rattle.arbiter.specs.Straps.{address_of, strapped_number}
use Rattle.arbiter.specs.Traces.{head_bytes, event_bytes, most_events, events_end, kind_bytes, whole_bytes, most_bytes, raws_in, kind_section, is_kind, kind_of}
use Rattle.arbiter.specs.Traces.{event_count, refusal_number}
use Rattle.arbiter.specs.Writing.{trace_head, raws_bytes, trace_of, written_number, written_bytes, written, buffer_written}
use Rattle.arbiter.specs.declared.Pins.{Pins}
use Rattle.arbiter.specs.declared.Refusal.{Refusal}
use Rattle.arbiter.specs.Types.{Written}
use Rattle.arbiter.proofs.Choice.{passed}
use Rattle.format.specs.Places.{with_head, with_bytes, with_kind}
use Rattle.format.proofs.Refused.{some_number}
use Rattle.writer.proofs.Back.{writes_as_given, raws_length}

-- ---- a number of 0 has passed every test

abbrev pub Fits : List ℕ → ℕ → Type 0
Fits events room = (length events ≡ event_bytes * event_count events) × (event_count events ≤ most_events) × (whole_bytes (event_count events) ≤ room)

pub zero_fits : (p : Pins) (kind : ℕ) (events : List ℕ) (room : ℕ) → written_number p kind events room ≡ 0 → Fits events room
unfolding written_number
zero_fits p kind events room h =
    let p1 = passed (not (eqb (strapped_number (address_of p)) 0)) 7 _ h in
    let p2 = passed (not (eqb (length events % event_bytes) 0)) 4 _ p1.1 in
    let p3 = passed (ltb most_events (event_count events)) 5 _ p2.1 in
    let p4 = passed (not (is_kind kind)) 2 _ p3.1 in
    let p5 = passed (ltb room (whole_bytes (event_count events))) 8 _ p4.1 in
    let fours : length events % event_bytes ≡ 0 = eqb-true _ _ (not-false _ p2.0) in
    (omega arith, ltb-false _ _ p3.0, ltb-false _ _ p5.0)

-- ---- refused: nothing is written

module _ (p : Pins) (kind : ℕ) (events out : List ℕ) (r : Refusal) (told : refusal_number r ≡ written_number p kind events (length out)) where
  refused : written_number p kind events (length out) ≡ 0 → ⊥
  refused h = some_number r (told ∙ h)

  pub refused_written : record { number = refusal_number r; length = 0 } ≡ written p kind events out
  unfolding written written_bytes
  refused_written = ap (λ (k : ℕ). record { number = k; length = 0 }) told ∙ simp (ne_eqb _ _ refused)

  pub refused_buffer : out ≡ buffer_written p kind events out
  unfolding buffer_written written_bytes
  refused_buffer = simp (ne_eqb _ _ refused)

-- ---- written: the head, the events' bytes as they are, the kind, and what was there before

module _ (p : Pins) (kind : ℕ) (events out : List ℕ) (accepted : written_number p kind events (length out) ≡ 0) where
  fits : Fits events (length out)
  fits = zero_fits p kind events (length out) accepted

  abbrev n : ℕ
  n = event_count events

  abbrev head : List ℕ
  head = trace_head p n

  abbrev section : List ℕ
  section = kind_section (kind_of kind)

  bytes_are : written_bytes p kind events (length out) ≡ head ++ events ++ section
  unfolding written_bytes trace_of
  bytes_are =
      simp (eq-eqb _ _ accepted)
      (ap (λ (k : ℕ). trace_head p k ++ raws_bytes (raws_in n events) ++ section) (raws_length n events)
      ∙ ap (λ (l : List ℕ). head ++ l ++ section) (writes_as_given events n fits.0))

  -- the head and the events end where the kind starts
  end_at : length (head ++ events) ≡ events_end n
  end_at = omega (arith, fits.0)

  sum_at : head_bytes + length events ≡ events_end n
  sum_at = omega (arith, fits.0)

  size : length (head ++ events ++ section) ≡ head_bytes + length events + kind_bytes
  size = let h = length-append events section in omega (arith, h)

  pub all_written : record { number = 0; length = head_bytes + length events + kind_bytes } ≡ written p kind events out
  unfolding written
  all_written = simp (accepted, bytes_are) (ap (λ (k : ℕ). record { number = 0; length = k }) (sym size))

  headed : with_head out p n ≡ head ++ drop head_bytes out
  unfolding with_head
  headed = simp (le-ltb (length out) head_bytes (omega (arith, fits.2)))

  placed : with_bytes (head ++ drop head_bytes out) head_bytes events ≡ (head ++ events) ++ drop (events_end n) out
  unfolding with_bytes
  placed =
      let whole = length-append head (drop head_bytes out) in
      let rest = length-drop head_bytes out in
      simp (le-ltb (length (head ++ drop head_bytes out)) (head_bytes + length events) (omega (arith, whole, rest, sum_at, fits.2)))
      (ap (λ (l : List ℕ). (head ++ events) ++ l) (drop-append-add head (drop head_bytes out) (length events) ∙ drop-drop (length events) head_bytes out)
      ∙ ap (λ (k : ℕ). (head ++ events) ++ drop k out) sum_at)

  -- the kind after them
  kinded : with_kind ((head ++ events) ++ drop (events_end n) out) n (kind_of kind) ≡ (head ++ events ++ section) ++ drop (whole_bytes n) out
  unfolding with_kind
  kinded =
      let whole : length ((head ++ events) ++ drop (events_end n) out) ≡ events_end n + length (drop (events_end n) out) =
      length-append (head ++ events) (drop (events_end n) out) ∙ ap (λ (k : ℕ). k + length (drop (events_end n) out)) end_at in
      let rest : length (drop (events_end n) out) ≡ length out - events_end n = length-drop (events_end n) out in
      simp (le-ltb (length ((head ++ events) ++ drop (events_end n) out)) (whole_bytes n) (omega (arith, whole, rest, fits.2)))
      (ap (λ (l : List ℕ). l ++ section ++ drop (whole_bytes n) ((head ++ events) ++ drop (events_end n) out))
      (take_at (head ++ events) (drop (events_end n) out) (events_end n) end_at)
      ∙ ap (λ (l : List ℕ). (head ++ events) ++ section ++ l)
      (ap (λ (k : ℕ). drop (k + kind_bytes) ((head ++ events) ++ drop (events_end n) out)) (sym end_at)
      ∙ drop-append-add (head ++ events) (drop (events_end n) out) kind_bytes
      ∙ drop-drop kind_bytes (events_end n) out))

  pub all_stored : (first second last : List ℕ) → first ≡ with_head out p n → second ≡ with_bytes first head_bytes events → last
      ≡ with_kind second n (kind_of kind)
      → last ≡ buffer_written p kind events out
  unfolding buffer_written
  all_stored first second last h e l =
      l
      ∙ ap (λ (b : List ℕ). with_kind b n (kind_of kind)) (e ∙ ap (λ (b : List ℕ). with_bytes b head_bytes events) (h ∙ headed) ∙ placed)
      ∙ kinded
      ∙ ap (λ (k : ℕ). (head ++ events ++ section) ++ drop k out) whole
      ∙ ap (λ (b : List ℕ). b ++ drop (length b) out) (sym bytes_are)
    where
      whole : whole_bytes n ≡ length (head ++ events ++ section)
      whole = omega (arith, size, fits.0)

-- ---- nothing written is longer than the longest trace

pub written_few : (p : Pins) (kind : ℕ) (events out : List ℕ) → (written p kind events out).length ≤ most_bytes
unfolding written written_bytes
written_few p kind events out = go (eqb (written_number p kind events (length out)) 0) refl
  where
    go : (b : Bool) → eqb (written_number p kind events (length out)) 0 ≡ b → (written p kind events out).length ≤ most_bytes
    go true e =
        let accepted = eqb-true _ _ e in
        let fits = zero_fits p kind events (length out) accepted in
        let size = ap (λ (w : Written). w.length) (all_written p kind events out accepted) in
        omega (arith, size, fits.0, fits.1)
    go false e = simp e (omega arith)
