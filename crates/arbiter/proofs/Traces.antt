-- What makes a trace accepted, and that its events stay whatever follows them.
-- Assumes nothing.
use mathlib.Core.Path.{◌≡◌, ◌∙◌, refl, ap}
use native.Mathlib.Omega.{arith}
use borrow.Author.Tests.{le-ltb, eq-eqb}
use Prim.Native.Nat.{◌≤◌}
use Rattle.std.specs.Prelude.{◌+◌, ◌*◌, ◌∷◌, ◌++◌}
use Rattle.arbiter.specs.Types.{ℕ, zero, suc, List, [], true, length, Kind, Pca9641, Tpt29641, Raw, Some}
use Rattle.arbiter.specs.Straps.{address_of}
use Rattle.arbiter.specs.Traces.{pin_count, pin_bytes, head_bytes, event_bytes, most_events, events_end}
use Rattle.arbiter.specs.Traces.{whole_bytes, kind_count, kind_number, is_kind, kind_of, accepted_with}
use Rattle.arbiter.specs.Traces.{kind_at, byte_at, pins_in, count_in, raws_in, read_kind, read_counted, read_strapped, read_trace}

-- ---- a trace is accepted if all its sections are there

-- a kind's number is read as that kind
pub is_kind_lem : (k : Kind) → is_kind (kind_number k) ≡ true
is_kind_lem Pca9641 = refl
is_kind_lem Tpt29641 = refl

pub kind_back : (k : Kind) → kind_of (kind_number k) ≡ k
kind_back Pca9641 = refl
kind_back Tpt29641 = refl

read_as : (address n : ℕ) (t : List ℕ) (room : ℕ) (k : Kind) → length t ≡ whole_bytes n → byte_at (events_end n) t ≡ kind_count → kind_at n t ≡ kind_number k
    → event_bytes * n ≤ room → read_kind address n t room ≡ accepted_with address n k
unfolding read_kind
read_as address n t room k whole count kind fits =
    simp (
      le-ltb (length t) (events_end n + 1) (omega arith),
      eq-eqb _ _ count,
      le-ltb (length t) (whole_bytes n) (omega arith),
      kind,
      is_kind_lem k,
      le-ltb (whole_bytes n) (length t) (omega arith),
      le-ltb room (event_bytes * n) fits,
      kind_back k,
    )

module _ (t : List ℕ) (room address n : ℕ) (first : byte_at 0 t ≡ pin_count) (listed : address_of (pins_in t) ≡ Some address) (count : count_in t ≡ n)
    (few : n ≤ most_events) where
  -- up to its events
  pub reads_on : events_end n ≤ length t → read_trace t room ≡ read_kind address n t room
  unfolding read_trace read_strapped read_counted
  reads_on long =
      simp (
        le-ltb (length t) 1 (omega arith),
        eq-eqb _ _ first,
        le-ltb (length t) pin_bytes (omega arith),
        listed,
        le-ltb (length t) head_bytes (omega arith),
        count,
        le-ltb most_events n few,
        le-ltb (length t) (events_end n) long,
      )

  pub accepts : (k : Kind) → length t ≡ whole_bytes n → byte_at (events_end n) t ≡ kind_count → kind_at n t ≡ kind_number k → event_bytes * n ≤ room
      → read_trace t room
      ≡ accepted_with address n k
  accepts k whole counted kind fits = reads_on (omega arith) ∙ read_as address n t room k whole counted kind fits

-- ---- events are what they were, whatever follows them

pub raws_before : (n : ℕ) (l rest : List ℕ) → event_bytes * n ≤ length l → raws_in n (l ++ rest) ≡ raws_in n l
unfolding raws_in
raws_before zero l rest h = refl
raws_before (suc n) [] rest h = absurd (omega arith)
raws_before (suc n) (a ∷ []) rest h = absurd (omega arith)
raws_before (suc n) (a ∷ b ∷ []) rest h = absurd (omega arith)
raws_before (suc n) (a ∷ b ∷ c ∷ []) rest h = absurd (omega arith)
raws_before (suc n) (a ∷ b ∷ c ∷ d ∷ l) rest h =
    ap (λ (rs : List Raw). record { kind = a; x = b; y = c; z = d } ∷ rs) (raws_before n l rest (omega arith))
