-- One turn of the walk through a capture: both buses, the events so far, and the bytes that they take.
-- Assumes nothing.
use Prim.Native.Nat.{ℕ, ◌+◌, ◌-◌, ◌*◌, ◌≤◌, ◌<◌}
use mathlib.Core.Path.{◌≡◌, sym, ap, ◌∙◌}
use mathlib.Core.List.{List, [], ◌++◌}
use native.Mathlib.Omega.{arith}
use lib.ListN.{length, get_or, take, length-append}
use Rattle.arbiter.specs.declared.Event.{Event}
use Rattle.capture.specs.declared.Both.{Both}
use Rattle.capture.specs.declared.Heard.{Heard}
use Rattle.capture.specs.Events.{event_bytes, captured}
use Rattle.capture.specs.Samples.{sampled, events_in, both_after, events_after}
use Rattle.capture.proofs.Bytes.{bytes_append, bytes_length}
use Rattle.capture.proofs.Bound.{most_captured}
use Rattle.capture.proofs.Joined.{events_joined}
use Rattle.capture.proofs.Prefix.{both_more, events_more, events_few, first_events}

-- ---- before the first turn

pub none_given : (address : ℕ) (samples : List ℕ) → [] ≡ event_bytes (events_after address (take 1 samples))
unfolding event_bytes
none_given address samples = ap event_bytes (sym (first_events address samples))

-- ---- what stands after the first n samples

abbrev pub Stands : ℕ → List ℕ → ℕ → Both → List ℕ → Type 0
Stands address samples n s list = (s ≡ both_after address (take n samples)) × (list ≡ event_bytes (events_after address (take n samples)))

-- a window from sample k on is that sample and the next
pub window_hears : (address k : ℕ) (samples w : List ℕ) (s : Both) (r : Heard) → r ≡ sampled address (get_or w 0 0) (get_or w 1 0) s
    → get_or w 0 0 ≡ get_or samples (k + 0) 0 → get_or w 1 0 ≡ get_or samples (k + 1) 0
    → r ≡ sampled address (get_or samples (k + 1 - 1) 0) (get_or samples (k + 1) 0) s
window_hears address k samples w s r e f g =
    let same : k + 0 ≡ k + 1 - 1 = omega arith in
    e ∙ (λ j. sampled address ((f ∙ ap (λ (n : ℕ). get_or samples n 0) same) j) (g j) s)

-- ---- sample i, heard as r where both buses are as s, with the events es

module _ (address : ℕ) (samples : List ℕ) (i : ℕ) (p : 1 ≤ i) (h : i < length samples) (s : Both) (at : s ≡ both_after address (take i samples))
    (r : Heard) (hears : r ≡ sampled address (get_or samples (i - 1) 0) (get_or samples i 0) s) where
  pub turn_both : r.both ≡ both_after address (take (i + 1) samples)
  turn_both =
      ap (λ (x : Heard). x.both) hears
      ∙ ap (λ (x : Both). (sampled address (get_or samples (i - 1) 0) (get_or samples i 0) x).both) at
      ∙ sym (both_more address samples i p h)

  module _ (es : List Event) (given : es ≡ events_in r) where
    turn_events : events_after address (take (i + 1) samples) ≡ events_after address (take i samples) ++ es
    turn_events =
        events_more address samples i p h
        ∙ ap (λ (x : Both). events_after address (take i samples) ++ events_in (sampled address (get_or samples (i - 1) 0) (get_or samples i 0) x)) (sym at)
        ∙ ap (λ (x : List Event). events_after address (take i samples) ++ x) (sym (given ∙ ap events_in hears))

    module _ (list : List ℕ) (so_far : list ≡ event_bytes (events_after address (take i samples))) where
      pub turn_room : length samples ≤ 32768 → length list + 4 * length es ≤ 14560
      turn_room short =
          let old : List Event = events_after address (take i samples) in
          omega (
            arith,
            ap length so_far,
            bytes_length old,
            ap length turn_events,
            length-append old es,
            events_few address samples (i + 1),
            ap length (events_joined address samples),
            most_captured address samples short,
          )

      pub turn_kept : list ++ event_bytes es ≡ event_bytes (events_after address (take (i + 1) samples))
      turn_kept =
          let old : List Event = events_after address (take i samples) in
          ap (λ (x : List ℕ). x ++ event_bytes es) so_far ∙ sym (bytes_append old es) ∙ ap event_bytes (sym turn_events)
