-- What becomes of a trace from before the kind of part: as it stands it is refused, and with its section added it is accepted.
-- Assumes nothing.
use mathlib.Core.Path.{◌≡◌, ◌∙◌, refl, sym, ap}
use native.Mathlib.Omega.{arith}
use lib.Dec.{lit<}
use lib.ListN.{length-append, length-drop, get_or-append}
use lib.Seq.{drop-append-le, get_or-append-add, get_or-append_seam}
use borrow.Author.Tests.{eqb-true, not-false, ltb-false, lt-ltb}
use Prim.Native.Nat.{◌≤◌, ◌<◌}
use Rattle.std.specs.Prelude.{◌+◌, ◌*◌, ◌∷◌, ◌++◌}
use Rattle.arbiter.specs.Types.{ℕ, not, List, [], eqb, ltb, length, drop, Pca9641, Raw, TraceCut, Option, Some, None}
use Rattle.arbiter.specs.Types.{Err}
use Rattle.arbiter.specs.Straps.{address_of}
use Rattle.arbiter.specs.Effects.{power_up}
use Rattle.arbiter.specs.Steps.{answers_from}
use Rattle.arbiter.specs.Traces.{pin_count, pin_bytes, head_bytes, event_bytes, most_events}
use Rattle.arbiter.specs.Traces.{events_end, whole_bytes, kind_count, kind_number, kind_section, accepted_with}
use Rattle.arbiter.specs.Traces.{kind_at}
use Rattle.arbiter.specs.Traces.{byte_at, pins_in, count_in, raws_in, events_in, read_kind, read_trace}
use Rattle.arbiter.specs.OldTraces.{old_counted, old_strapped, old_number, converted, ConvertedAccepted, OldRefused}
use Rattle.arbiter.proofs.Choice.{passed}
use Rattle.arbiter.proofs.Traces.{reads_on, accepts, raws_before}

-- ---- an old trace that document 01's rules accept has passed every test

-- its pins have an address,
abbrev Listed : Option ℕ → Type 0
Listed s = (a : ℕ) × (s ≡ Some a)

-- and it ends with its events
abbrev pub Whole : List ℕ → Type 0
Whole t = (byte_at 0 t ≡ pin_count) × (count_in t ≤ most_events) × (length t ≡ events_end (count_in t))

counted_whole : (t : List ℕ) → old_counted t ≡ 0 → (count_in t ≤ most_events) × (length t ≡ events_end (count_in t))
counted_whole t h =
    let p1 = passed (ltb (length t) head_bytes) 4 _ h in
    let p2 = passed (ltb most_events (count_in t)) 5 _ p1.1 in
    let p3 = passed (ltb (length t) (events_end (count_in t))) 4 _ p2.1 in
    let p4 = passed (ltb (events_end (count_in t)) (length t)) 6 _ p3.1 in
    let long : events_end (count_in t) ≤ length t = ltb-false _ _ p3.0 in
    let short : length t ≤ events_end (count_in t) = ltb-false _ _ p4.0 in
    (ltb-false _ _ p2.0, omega arith)

strapped_passed : (s : Option ℕ) (t : List ℕ) → old_strapped s t ≡ 0 → (old_counted t ≡ 0) × Listed s
strapped_passed (Some a) t h = (h, (a, refl))
strapped_passed None t h = absurd (omega arith)

old_passed : (t : List ℕ) → old_number t ≡ 0 → (byte_at 0 t ≡ pin_count) × (old_strapped (address_of (pins_in t)) t ≡ 0)
unfolding old_number
old_passed t h =
    let p1 = passed (ltb (length t) 1) 4 _ h in
    let p2 = passed (not (eqb (byte_at 0 t) pin_count)) 9 _ p1.1 in
    let p3 = passed (ltb (length t) pin_bytes) 4 _ p2.1 in
    (eqb-true _ _ (not-false _ p2.0), p3.1)

old_listed : (t : List ℕ) → old_number t ≡ 0 → Listed (address_of (pins_in t))
old_listed t h = (strapped_passed (address_of (pins_in t)) t (old_passed t h).1).1

pub old_whole : (t : List ℕ) → old_number t ≡ 0 → Whole t
old_whole t h =
    let tests = old_passed t h in
    let counted = counted_whole t (strapped_passed (address_of (pins_in t)) t tests.1).0 in
    (tests.0, counted.0, counted.1)

module _ (t : List ℕ) (a : ℕ) (old : old_number t ≡ 0) (listed : address_of (pins_in t) ≡ Some a) where
  abbrev n : ℕ
  n = count_in t

  fits : Whole t
  fits = old_whole t old

  refused : (room : ℕ) → read_trace t room ≡ Err TraceCut
  unfolding read_kind
  refused room =
      reads_on t room a n fits.0 listed refl fits.1 (omega (arith, fits.2))
      ∙ simp (lt-ltb (length t) (events_end n + 1) (omega (arith, fits.2)))

  -- ---- with the section added

  abbrev new : List ℕ
  new = t ++ kind_section Pca9641

  longer : length new ≡ whole_bytes n
  longer = length-append t (kind_section Pca9641) ∙ omega (arith, fits.2)

  kept : (i : ℕ) → i < head_bytes → byte_at i new ≡ byte_at i t
  kept i h = get_or-append t (kind_section Pca9641) 0 i (omega (arith, fits.2))

  same_pins_lem : pins_in new ≡ pins_in t
  same_pins_lem = λ j. record { ad3 = kept 1 (lit< tt) j; ad2 = kept 2 (lit< tt) j; ad1 = kept 3 (lit< tt) j; ad0 = kept 4 (lit< tt) j }

  same_count : count_in new ≡ n
  same_count = λ j. kept 5 (lit< tt) j + 256 * kept 6 (lit< tt) j

  section : byte_at (events_end n) new ≡ kind_count
  section = ap (λ (i : ℕ). byte_at i new) (sym fits.2) ∙ get_or-append_seam t kind_count (0 ∷ []) 0

  kind : kind_at n new ≡ kind_number Pca9641
  kind = ap (λ (i : ℕ). byte_at (i + 1) new) (sym fits.2) ∙ get_or-append-add t (kind_section Pca9641) 1 0

  taken : (room : ℕ) → event_bytes * n ≤ room → read_trace new room ≡ accepted_with a n Pca9641
  taken room answers =
      accepts new room a n (kept 0 (lit< tt) ∙ fits.0) (ap address_of same_pins_lem ∙ listed) same_count fits.1 Pca9641 longer section kind answers

  same_events : events_in n new ≡ events_in n t
  same_events =
      ap (raws_in n) (drop-append-le head_bytes t (kind_section Pca9641) (omega (arith, fits.2)))
      ∙ raws_before n (drop head_bytes t) (kind_section Pca9641) (simp length-drop (omega (arith, fits.2)))

pub old_refused : OldRefused
old_refused t room old = let found = old_listed t old in refused t found.0 old found.1 room

pub converted_accepted : ConvertedAccepted
unfolding converted
converted_accepted t room a old listed answers =
    let events = same_events t a old listed in
    (taken t a old listed room answers, events, ap (λ (rs : List Raw). answers_from (power_up Pca9641) rs) events)
