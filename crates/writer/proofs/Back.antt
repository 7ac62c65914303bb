-- Reading and writing undo each other: the statements of arbiter/specs/Writing, proved.
-- Assumes nothing.
use mathlib.Core.Path.{◌≡◌, ◌∙◌, refl, sym, ap}
use mathlib.Core.List.{List, [], ◌∷◌, ◌++◌}
use Prim.Native.Nat.{ℕ, zero, suc, ◌+◌, ◌*◌, ◌/◌, ◌%◌, ◌≤◌, ◌<◌}
use native.Mathlib.Numerals.{add-one}
use native.Mathlib.Omega.{arith}
use lib.ListN.{length, take, drop, length-append, length-drop, take-append-drop, drop_of_length-le}
use lib.Seq.{drop-cons, drop-drop, length-take-le, get_or_at, get_or-append-add}
use Rattle.arbiter.specs.Straps.{address_of}
use Rattle.arbiter.specs.Traces.{pin_count, head_bytes, event_bytes, events_end, kind_count, kind_bytes}
use Rattle.arbiter.specs.Traces.{whole_bytes, byte_at, pins_in, count_in, raws_in, accepted_with}
use Rattle.arbiter.specs.Traces.{events_in}
use Rattle.arbiter.specs.Traces.{kind_number, kind_section, kind_at, read_trace}
use Rattle.arbiter.specs.Writing.{trace_head, raws_bytes, trace_of, ReadsBack, WritesAsGiven, Bytes, WritesBack, UndoEachOther}
use Rattle.arbiter.specs.declared.Kind.{Kind}
use Rattle.arbiter.specs.declared.Pins.{Pins}
use Rattle.arbiter.specs.declared.Raw.{Raw}
use Rattle.arbiter.proofs.Traces.{accepts, raws_before}
use Rattle.traces.proofs.Accepted.{Fits, accepted_fits, accepted_first}

-- ---- events as bytes and back

pub writes_as_given : WritesAsGiven
unfolding raws_in
writes_as_given [] zero h = refl
writes_as_given (a ∷ l) zero h = absurd (omega arith)
writes_as_given [] (suc n) h = absurd (omega arith)
writes_as_given (a ∷ []) (suc n) h = absurd (omega arith)
writes_as_given (a ∷ b ∷ []) (suc n) h = absurd (omega arith)
writes_as_given (a ∷ b ∷ c ∷ []) (suc n) h = absurd (omega arith)
writes_as_given (a ∷ b ∷ c ∷ d ∷ l) (suc n) h = ap (λ (r : List ℕ). a ∷ b ∷ c ∷ d ∷ r) (writes_as_given l n (omega arith))

pub raws_length : (n : ℕ) (l : List ℕ) → length (raws_in n l) ≡ n
unfolding raws_in
raws_length zero l = refl
raws_length (suc n) l = ap suc (raws_length n (drop event_bytes l))

pub raws_back : (rs : List Raw) → raws_in (length rs) (raws_bytes rs) ≡ rs
unfolding raws_in
raws_back [] = refl
raws_back (r ∷ rs) = ap (λ (l : List Raw). r ∷ l) (raws_back rs)

pub bytes_length : (rs : List Raw) → length (raws_bytes rs) ≡ event_bytes * length rs
bytes_length [] = refl
bytes_length (r ∷ rs) = let h = bytes_length rs in omega (arith, h)

-- ---- reading what was written

module _ (p : Pins) (rs : List Raw) (k : Kind) where
  -- the head and the events, which end where the kind starts
  abbrev front : List ℕ
  front = trace_head p (length rs) ++ raws_bytes rs

  end_at : length front ≡ events_end (length rs)
  end_at = let h = bytes_length rs in omega (arith, h)

  whole : length (trace_of p rs k) ≡ whole_bytes (length rs)
  unfolding trace_of
  whole = length-append front (kind_section k) ∙ ap (λ (m : ℕ). m + kind_bytes) end_at

  count : count_in (trace_of p rs k) ≡ length rs
  unfolding trace_of
  count = omega arith

  same_pins_lem : pins_in (trace_of p rs k) ≡ p
  unfolding trace_of
  same_pins_lem = refl

  same_events : events_in (length rs) (trace_of p rs k) ≡ rs
  unfolding trace_of
  same_events = let h = bytes_length rs in raws_before (length rs) (raws_bytes rs) (kind_section k) (omega (arith, h)) ∙ raws_back rs

  first : byte_at 0 (trace_of p rs k) ≡ pin_count
  unfolding trace_of
  first = refl

  section : byte_at (events_end (length rs)) (trace_of p rs k) ≡ kind_count
  unfolding trace_of
  section = get_or_at front kind_count (kind_number k ∷ []) 0 (events_end (length rs)) end_at

  kind : kind_at (length rs) (trace_of p rs k) ≡ kind_number k
  unfolding trace_of
  kind = ap (λ (i : ℕ). byte_at (i + 1) (front ++ kind_section k)) (sym end_at) ∙ get_or-append-add front (kind_section k) 1 0

pub reads_back : ReadsBack
reads_back p rs k address room listed few fits =
    let t = trace_of p rs k in (
      accepts t room address (length rs) (first p rs k) (ap address_of (same_pins_lem p rs k) ∙ listed) (count p rs k) few k (whole p rs k) (section p rs k)
          (kind p rs k) fits,
      same_pins_lem p rs k,
      same_events p rs k,
    )

-- ---- writing what was read

-- a list of at least seven is its first seven elements and the rest
seven : (t : List ℕ) → head_bytes ≤ length t → t ≡ byte_at 0 t ∷ byte_at 1 t ∷ byte_at 2 t ∷ byte_at 3 t ∷ byte_at 4 t ∷ byte_at 5 t ∷ byte_at 6 t
    ∷ drop head_bytes t
seven t h =
    at 0 (omega arith)
    ∙ ap (λ (r : List ℕ). byte_at 0 t ∷ r)
    (at 1 (omega arith)
    ∙ ap (λ (r : List ℕ). byte_at 1 t ∷ r)
    (at 2 (omega arith)
    ∙ ap (λ (r : List ℕ). byte_at 2 t ∷ r)
    (at 3 (omega arith)
    ∙ ap (λ (r : List ℕ). byte_at 3 t ∷ r)
    (at 4 (omega arith)
    ∙ ap (λ (r : List ℕ). byte_at 4 t ∷ r)
    (at 5 (omega arith)
    ∙ ap (λ (r : List ℕ). byte_at 5 t ∷ r) (at 6 (omega arith)))))))
  where
    at : (i : ℕ) → i < length t → drop i t ≡ byte_at i t ∷ drop (suc i) t
    at i small = drop-cons t i 0 small

module _ (t : List ℕ) (address n room : ℕ) (k : Kind) (bytes : Bytes t) (accepted : read_trace t room ≡ accepted_with address n k) where
  fits : Fits t room n k
  fits = accepted_fits t room address n k accepted

  read_count : byte_at 5 t + 256 * byte_at 6 t ≡ n
  read_count = fits.3

  low : n % 256 ≡ byte_at 5 t
  low = omega (arith, read_count, bytes 5)

  high : n / 256 ≡ byte_at 6 t
  high = omega (arith, read_count, bytes 5)

  head_is : trace_head (pins_in t) n ++ drop head_bytes t ≡ t
  head_is =
      let first = sym (accepted_first t room address n k accepted) in
      let long = fits.0 in
      (λ j. first j ∷ byte_at 1 t ∷ byte_at 2 t ∷ byte_at 3 t ∷ byte_at 4 t ∷ low j ∷ high j ∷ drop head_bytes t)
      ∙ sym (seven t (omega (arith, long)))

  -- after the events there are the two bytes of the kind
  section_is : drop (events_end n) t ≡ kind_section k
  section_is =
      let long = fits.0 in
      let end : length t ≤ suc (suc (events_end n)) = omega (arith, fits.4) in
      drop-cons t (events_end n) 0 (omega (arith, long))
      ∙ ap (λ (r : List ℕ). byte_at (events_end n) t ∷ r) (drop-cons t (suc (events_end n)) 0 (omega (arith, long)))
      ∙ ap (λ (r : List ℕ). byte_at (events_end n) t ∷ byte_at (suc (events_end n)) t ∷ r) (drop_of_length-le t end)
      ∙ (λ j. fits.5 j ∷ named j ∷ [])
    where
      named : byte_at (suc (events_end n)) t ≡ kind_number k
      named = ap (λ (i : ℕ). byte_at i t) (sym (add-one (events_end n))) ∙ fits.6

  -- and the events are the bytes before them
  abbrev rest : List ℕ
  rest = drop head_bytes t

  long_rest : event_bytes * n ≤ length rest
  long_rest = let long = fits.0 in simp length-drop (omega (arith, long))

  events_are : raws_bytes (events_in n t) ≡ take (event_bytes * n) rest
  events_are =
      let part : List ℕ = take (event_bytes * n) rest in
      let size : length part ≡ event_bytes * n = length-take-le (event_bytes * n) rest long_rest in
      ap (λ (l : List ℕ). raws_bytes (raws_in n l)) (sym (take-append-drop (event_bytes * n) rest))
      ∙ ap raws_bytes (raws_before n part (drop (event_bytes * n) rest) (omega (arith, size)))
      ∙ writes_as_given part n size

  rest_is : raws_bytes (events_in n t) ++ kind_section k ≡ rest
  rest_is =
      ap (λ (l : List ℕ). l ++ kind_section k) events_are
      ∙ ap (λ (l : List ℕ). take (event_bytes * n) rest ++ l) (sym section_is ∙ sym (drop-drop (event_bytes * n) head_bytes t))
      ∙ take-append-drop (event_bytes * n) rest

pub writes_back : WritesBack
unfolding trace_of
writes_back t address n room k bytes accepted =
    ap (λ (m : ℕ). trace_head (pins_in t) m ++ raws_bytes (events_in n t) ++ kind_section k) (raws_length n (drop head_bytes t))
    ∙ ap (λ (l : List ℕ). trace_head (pins_in t) n ++ l) (rest_is t address n room k bytes accepted)
    ∙ head_is t address n room k bytes accepted

pub undo_each_other : UndoEachOther
undo_each_other = record { reads_back = reads_back; writes_as_given = writes_as_given; writes_back = writes_back }
