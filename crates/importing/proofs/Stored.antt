-- Bytes of events kept one after the other.
-- Assumes nothing.
use Prim.Native.Nat.{ℕ, ◌+◌, ◌*◌, ◌≤◌}
use mathlib.Core.Path.{◌≡◌, sym, ap, ◌∙◌}
use mathlib.Core.List.{List, [], ◌∷◌, ◌++◌, append_assoc, append-nil}
use native.Mathlib.Omega.{arith}
use lib.ListN.{length, take, drop, length-append}
use Rattle.std.specs.Prelude.{Option, Some, None}
use Rattle.arbiter.specs.declared.Event.{Event}
use Rattle.arbiter.specs.declared.Raw.{Raw}
use Rattle.capture.specs.Events.{raw_of, four_bytes, event_bytes}
use Rattle.importing.specs.Listed.{listed}

-- the events of one sample
abbrev Few : Type 0
Few = Option (Event × Option Event)

-- one more event: its four bytes stand after what was there
pub kept : (before old part : List ℕ) (e : Event) (r : Raw) → before ≡ old → part ≡ four_bytes r → r ≡ raw_of e → before ++ part ≡ old ++ event_bytes (e ∷ [])
unfolding event_bytes
kept before old part e r p q h = λ j. p j ++ (q ∙ ap four_bytes h) j

-- those of a sample
pub room_for_one : (old mid : List ℕ) (few : Few) (e f : Event) (rest : Option Event) → few ≡ Some (e, rest) → rest ≡ Some f → mid ≡ old ++ event_bytes (e ∷ [])
    → length old + 4 * length (listed few) ≤ 14560 → length mid + 4 ≤ 14560
unfolding event_bytes
room_for_one old mid few e f rest h r m room =
    omega (
      arith,
      room,
      ap (λ (x : Few). length (listed x)) (h ∙ ap (λ (x : Option Event). Some (e, x)) r),
      ap length m,
      length-append old (event_bytes (e ∷ [])),
    )

pub none_kept : (old : List ℕ) (few : Few) → few ≡ None → old ≡ old ++ event_bytes (listed few)
unfolding event_bytes
none_kept old few h = sym (append-nil old) ∙ ap (λ (x : Few). old ++ event_bytes (listed x)) (sym h)

pub one_kept : (old new : List ℕ) (few : Few) (e : Event) (rest : Option Event) → few ≡ Some (e, rest) → rest ≡ None
    → new ≡ old ++ event_bytes (e ∷ []) → new ≡ old ++ event_bytes (listed few)
one_kept old new few e rest h r n = n ∙ ap (λ (x : Few). old ++ event_bytes (listed x)) (sym (h ∙ ap (λ (x : Option Event). Some (e, x)) r))

pub two_kept : (old mid new : List ℕ) (few : Few) (e f : Event) (rest : Option Event) → few ≡ Some (e, rest) → rest ≡ Some f → mid ≡ old ++ event_bytes (e ∷ [])
    → new ≡ mid ++ event_bytes (f ∷ []) → new ≡ old ++ event_bytes (listed few)
unfolding event_bytes
two_kept old mid new few e f rest h r m n =
    n ∙ ap (λ (x : List ℕ). x ++ event_bytes (f ∷ [])) m
    ∙ append_assoc old (event_bytes (e ∷ [])) (event_bytes (f ∷ []))
    ∙ ap (λ (x : Few). old ++ event_bytes (listed x)) (sym (h ∙ ap (λ (x : Option Event). Some (e, x)) r))

-- copied into the lent buffer
pub front_copied : (p copied buffer : List ℕ) (n : ℕ) → copied ≡ p → copied ++ drop n buffer ≡ p ++ drop n buffer
front_copied p copied buffer n k = ap (λ (s : List ℕ). s ++ drop n buffer) k
