-- An input longer than any trace lists as its beginning does, one byte more than the longest trace, so a program need not read further.
-- Assumes nothing.
use mathlib.Core.Path.{◌≡◌, refl, sym, ap, subst, ◌∙◌}
use mathlib.Core.Bool.{Bool, true, false, not}
use mathlib.Core.List.{List}
use Prim.Native.Nat.{ℕ, ◌+◌, ◌*◌, ◌≤◌, ◌<◌}
use native.Mathlib.Nat.{le_refl}
use native.Mathlib.Omega.{arith}
use lib.Dec.{eqb, ltb, lit<}
use lib.ListN.{length, take}
use lib.Seq.{get_or-take, length-take-le}
use borrow.Author.Tests.{ltb-false, le-ltb, lt-ltb}
use Rattle.std.specs.Prelude.{if◌then◌else◌}
use Rattle.arbiter.specs.Straps.{address_of}
use Rattle.arbiter.specs.Traces.{pin_count, pin_bytes, head_bytes, most_events, events_end, kind_count, whole_bytes, answer_room, byte_at, pins_in, count_in}
use Rattle.arbiter.specs.Traces.{is_kind}
use Rattle.arbiter.specs.Traces.{kind_at, read_kind, read_counted, read_strapped, read_trace}
use Rattle.arbiter.specs.Listing.{listing_of, listing}
use Rattle.arbiter.specs.declared.Pins.{Pins}
use Rattle.arbiter.specs.declared.Refusal.{Refusal}
use Rattle.arbiter.specs.declared.Refusal.TheVariants.{TraceCut, TooManyEvents, BytesAfterEnd, BadStraps, BadCount, UnknownPart}
use Rattle.std.specs.Prelude.{Option, Some, None, Result, Err}
use Rattle.arbiter.specs.declared.Accepted.{Accepted}
use Rattle.text.specs.Long.{enough, LongListing}

-- why it is refused: its first byte is not 4, its pins are unlisted, its count of events is above 4,096, or what stands after its events
abbrev why_long : Bool → Option ℕ → Bool → Refusal → Refusal
why_long true s many after = BadCount
why_long false None many after = BadStraps
why_long false (Some a) true after = TooManyEvents
why_long false (Some a) false after = after

-- there the count is not 1, the kind is another, or there is more than these
abbrev why_after : ℕ → ℕ → Refusal
why_after count kind = if not (eqb count kind_count) then BadCount else if not (is_kind kind) then UnknownPart else BytesAfterEnd

abbrev after_events : List ℕ → Refusal
after_events t = why_after (byte_at (events_end (count_in t)) t) (kind_at (count_in t) t)

module _ (t : List ℕ) (room : ℕ) (long : enough ≤ length t) where
  after : (a n : ℕ) → n ≤ most_events → read_kind a n t room ≡ Err (why_after (byte_at (events_end n) t) (kind_at n t))
  unfolding read_kind
  after a n few =
      simp (
        le-ltb (length t) (events_end n + 1) (omega arith),
        le-ltb (length t) (whole_bytes n) (omega arith),
        lt-ltb (whole_bytes n) (length t) (omega arith),
      )
      (go (not (eqb (byte_at (events_end n) t) kind_count)) (not (is_kind (kind_at n t))))
    where
      go : (wrong unknown : Bool)
          → ◌≡◌ {A = Result Accepted Refusal} (if wrong then Err BadCount else if unknown then Err UnknownPart else Err BytesAfterEnd)
          (Err (if wrong then BadCount else if unknown then UnknownPart else BytesAfterEnd))
      go true unknown = refl
      go false true = refl
      go false false = refl

  counted : (a : ℕ) → read_counted a t room ≡ Err (why_long false (Some a) (ltb most_events (count_in t)) (after_events t))
  unfolding read_counted
  counted a = simp (le-ltb (length t) head_bytes (omega arith)) (go (ltb most_events (count_in t)) refl)
    where
      n : ℕ
      n = count_in t

      go : (many : Bool) → ltb most_events n ≡ many
          → (if many then Err TooManyEvents else if ltb (length t) (events_end n) then Err TraceCut else read_kind a n t room)
          ≡ Err (why_long false (Some a) many (after_events t))
      go true h = refl
      go false h =
          let few = ltb-false most_events n h in
          simp (le-ltb (length t) (events_end n) (omega (arith, few))) (after a n few)

  read : read_trace t room ≡ Err (why_long (not (eqb (byte_at 0 t) pin_count)) (address_of (pins_in t)) (ltb most_events (count_in t)) (after_events t))
  unfolding read_trace read_strapped
  read =
      simp (le-ltb (length t) 1 (omega arith), le-ltb (length t) pin_bytes (omega arith)) (go (not (eqb (byte_at 0 t) pin_count)) (address_of (pins_in t)))
    where
      go : (b : Bool) (s : Option ℕ) → (if b then Err BadCount else read_strapped s t room)
          ≡ Err (why_long b s (ltb most_events (count_in t)) (after_events t))
      go true s = refl
      go false None = refl
      go false (Some a) = counted a

byte_kept : (t : List ℕ) (i : ℕ) → i < enough → byte_at i (take enough t) ≡ byte_at i t
byte_kept t i h = get_or-take enough t i 0 h

-- what stands after the events matters only where they are few enough
same_why : (b : Bool) (s : Option ℕ) (many : Bool) (x y : Refusal) → (many ≡ false → x ≡ y) → why_long b s many x ≡ why_long b s many y
same_why true s many x y h = refl
same_why false None many x y h = refl
same_why false (Some a) true x y h = refl
same_why false (Some a) false x y h = h refl

pub long_listing : LongListing
unfolding listing listing_of
long_listing t long =
    let k : List ℕ = take enough t in
    let whole : enough ≤ length k = subst (λ (n : ℕ). enough ≤ n) (sym (length-take-le enough t long)) (le_refl enough) in
    let pins : pins_in k ≡ pins_in t = λ j. record
    { ad3 = byte_kept t 1 (lit< tt) j; ad2 = byte_kept t 2 (lit< tt) j; ad1 = byte_kept t 3 (lit< tt) j; ad0 = byte_kept t 4 (lit< tt) j } in
    let count : count_in k ≡ count_in t = λ j. byte_kept t 5 (lit< tt) j + 256 * byte_kept t 6 (lit< tt) j in
    ap (λ (x : Result Accepted Refusal). listing_of x k) (read k answer_room whole)
    ∙ ap (λ (b : ℕ). listing_of (Err (why_long (not (eqb b pin_count)) (address_of (pins_in k)) (ltb most_events (count_in k)) (after_events k))) t)
    (byte_kept t 0 (lit< tt))
    ∙ ap (λ (p : Pins). listing_of
    (Err (why_long (not (eqb (byte_at 0 t) pin_count)) (address_of p) (ltb most_events (count_in k)) (after_events k))) t) pins
    ∙ ap (λ (n : ℕ). listing_of (Err (why_long (not (eqb (byte_at 0 t) pin_count)) (address_of (pins_in t)) (ltb most_events n)
    (why_after (byte_at (events_end n) k) (kind_at n k)))) t) count
    ∙ ap (λ (r : Refusal). listing_of (Err r) t)
    (same_why (not (eqb (byte_at 0 t) pin_count)) (address_of (pins_in t)) (ltb most_events (count_in t)) _ _ kept)
    ∙ sym (ap (λ (x : Result Accepted Refusal). listing_of x t) (read t answer_room long))
  where
    kept : ltb most_events (count_in t) ≡ false → why_after (byte_at (events_end (count_in t)) (take enough t)) (kind_at (count_in t) (take enough t))
        ≡ after_events t
    kept h =
        let few = ltb-false most_events (count_in t) h in
        ap (λ (c : ℕ). why_after c (kind_at (count_in t) (take enough t))) (byte_kept t (events_end (count_in t)) (omega (arith, few)))
        ∙ ap (why_after (byte_at (events_end (count_in t)) t)) (byte_kept t (events_end (count_in t) + 1) (omega (arith, few)))
