-- The two calls undo each other: the statements of specs/Calls, proved.
-- Assumes nothing.
use mathlib.Core.Path.{◌≡◌, ◌∙◌, refl, sym, ap, subst}
use mathlib.Core.Bool.{true, false, not}
use mathlib.Core.List.{List, ◌++◌}
use Prim.Native.Nat.{ℕ, ◌*◌, ◌%◌, ◌≤◌}
use native.Mathlib.Omega.{arith}
use lib.Dec.{eqb, ltb}
use lib.ListN.{length, take, drop}
use lib.Seq.{take-append_seam}
use borrow.Author.Tests.{eq-eqb, eqb-true, not-false, le-ltb}
use Rattle.arbiter.specs.Straps.{address_of, strapped_number, strapped_address}
use Rattle.arbiter.specs.Traces.{pin_count, pin_bytes, event_bytes, most_events, whole_bytes, byte_at}
use Rattle.arbiter.specs.Traces.{pins_in, raws_in, events_in, kind_number, is_kind, accepted_with}
use Rattle.arbiter.specs.Traces.{kind_of}
use Rattle.arbiter.specs.Traces.{read_strapped, read_trace, event_count}
use Rattle.arbiter.specs.Writing.{raws_bytes, trace_of, written_number, written_bytes, written, buffer_written, Bytes}
use Rattle.arbiter.specs.declared.Kind.{Kind}
use Rattle.arbiter.specs.declared.Kind.TheVariants.{Pca9641, Tpt29641}
use Rattle.arbiter.specs.declared.Pins.{Pins}
use Rattle.arbiter.specs.declared.Raw.{Raw}
use Rattle.std.specs.Prelude.{Option, Some, None, Result, Err}
use Rattle.arbiter.specs.declared.Accepted.{Accepted}
use Rattle.arbiter.specs.declared.Refusal.{Refusal}
use Rattle.arbiter.proofs.Choice.{passed}
use Rattle.traces.proofs.Accepted.{Fits, accepted_fits, accepted_first}
use Rattle.writer.specs.Calls.{trace_left, WrittenReadBack, ReadWrittenBack, CallsUndo}
use Rattle.writer.proofs.Back.{raws_length, raws_back, bytes_length, reads_back, writes_back}
use Rattle.writer.proofs.Laws.{zero_fits}

-- ---- what was written, read

-- pins without a refusal have an address
listed : (s : Option ℕ) → strapped_number s ≡ 0 → s ≡ Some (strapped_address s)
listed (Some a) h = refl
listed None h = absurd (omega (arith, h))

module _ (p : Pins) (kind : ℕ) (events buffer : List ℕ) (accepted : written_number p kind events (length buffer) ≡ 0) where
  abbrev rs : List Raw
  rs = raws_in (event_count events) events

  has_address : address_of p ≡ Some (strapped_address (address_of p))
  unfolding written_number
  has_address = listed (address_of p) (eqb-true _ _ (not-false _ (passed (not (eqb (strapped_number (address_of p)) 0)) 7 _ accepted).0))

  bytes_are : written_bytes p kind events (length buffer) ≡ trace_of p rs (kind_of kind)
  unfolding written_bytes
  bytes_are = simp (eq-eqb _ _ accepted)

  left_is : trace_left p kind events buffer ≡ trace_of p rs (kind_of kind)
  unfolding written buffer_written
  left_is = take-append_seam (written_bytes p kind events (length buffer)) _ ∙ bytes_are

pub written_read_back : WrittenReadBack
unfolding written
written_read_back p kind events buffer room told fits =
    let few = zero_fits p kind events (length buffer) told in
    let count = raws_length (event_count events) events in
    let small = few.1 in
    let whole = few.0 in
    let back = reads_back p (rs p kind events buffer told) (kind_of kind) (strapped_address (address_of p)) room (has_address p kind events buffer told)
    (omega (arith, count, small)) (omega (arith, count, whole, fits)) in
    let is = left_is p kind events buffer told in (
      ap (λ (t : List ℕ). read_trace t room) is ∙ back.0 ∙ ap (λ (n : ℕ). accepted_with (strapped_address (address_of p)) n (kind_of kind)) count,
      ap pins_in is ∙ back.1,
      ap (λ (t : List ℕ). events_in (event_count events) t) is
          ∙ subst (λ (n : ℕ). events_in n (trace_of p (rs p kind events buffer told) (kind_of kind)) ≡ rs p kind events buffer told) count back.2,
    )

-- ---- what was read, written

strapped_zero : (s : Option ℕ) (t : List ℕ) (room a n : ℕ) (k : Kind) → read_strapped s t room ≡ accepted_with a n k → strapped_number s ≡ 0
unfolding read_strapped
strapped_zero (Some x) t room a n k h = refl
strapped_zero None t room a n k h = let z : ◌≡◌ {A = ℕ} 0 1 = cc in absurd (omega (arith, z))

kind_known : (k : Kind) → is_kind (kind_number k) ≡ true
kind_known Pca9641 = refl
kind_known Tpt29641 = refl

kind_same : (k : Kind) → kind_of (kind_number k) ≡ k
kind_same Pca9641 = refl
kind_same Tpt29641 = refl

module _ (t buffer : List ℕ) (address n room : ℕ) (k : Kind) (bytes : Bytes t) (accepted : read_trace t room ≡ accepted_with address n k)
    (fit : length t ≤ length buffer) where
  fits : Fits t room n k
  fits = accepted_fits t room address n k accepted

  abbrev events : List ℕ
  events = raws_bytes (events_in n t)

  size : length events ≡ event_bytes * n
  size = let h = raws_length n (drop 7 t) in bytes_length (events_in n t) ∙ ap (λ (m : ℕ). event_bytes * m) h

  count : event_count events ≡ n
  count = omega (arith, size)

  opened : read_trace t room ≡ read_strapped (address_of (pins_in t)) t room
  unfolding read_trace
  opened =
      let long = fits.0 in
      let first = accepted_first t room address n k accepted in
      let some : 1 ≤ length t = omega (arith, long) in
      let pins : pin_bytes ≤ length t = omega (arith, long) in
      simp (le-ltb _ _ some, eq-eqb _ _ first, le-ltb _ _ pins)

  has_pins : strapped_number (address_of (pins_in t)) ≡ 0
  has_pins = strapped_zero (address_of (pins_in t)) t room address n k (sym opened ∙ accepted)

  is_zero : written_number (pins_in t) (kind_number k) events (length buffer) ≡ 0
  unfolding written_number
  is_zero =
      let fours : length events % event_bytes ≡ 0 = omega (arith, size) in
      let few : event_count events ≤ most_events = omega (arith, count, fits.2) in
      let holds : whole_bytes (event_count events) ≤ length buffer = omega (arith, count, fits.0, fit) in
      simp (eq-eqb _ _ has_pins, eq-eqb _ _ fours, le-ltb _ _ few, kind_known k, le-ltb _ _ holds)

  bytes_back : written_bytes (pins_in t) (kind_number k) events (length buffer) ≡ t
  unfolding written_bytes
  bytes_back =
      simp (eq-eqb _ _ is_zero)
      (ap (λ (m : ℕ). trace_of (pins_in t) (raws_in m events) (kind_of (kind_number k))) (count ∙ sym (raws_length n (drop 7 t)))
      ∙ ap (λ (rs : List Raw). trace_of (pins_in t) rs (kind_of (kind_number k))) (raws_back (events_in n t))
      ∙ ap (λ (x : Kind). trace_of (pins_in t) (events_in n t) x) (kind_same k)
      ∙ writes_back t address n room k bytes accepted)

pub read_written_back : ReadWrittenBack
unfolding written buffer_written
read_written_back t buffer address n room k bytes accepted fit =
    let is = bytes_back t buffer address n room k bytes accepted fit in (
      (λ j. record { number = is_zero t buffer address n room k bytes accepted fit j; length = length (is j) }),
      ap (λ (b : List ℕ). b ++ drop (length b) buffer) is,
    )

pub calls_undo : CallsUndo
calls_undo = record { written_read_back = written_read_back; read_written_back = read_written_back }
