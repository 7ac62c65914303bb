-- Laws of `converter`: what the conversion of an old trace leaves: refused, or the old trace and then its section.
-- Assumes nothing.
use mathlib.Core.Path.{◌≡◌, ◌∙◌, refl, sym, ap}
use mathlib.Core.Bool.{Bool, true, false, not}
use mathlib.Core.List.{List, ◌++◌}
use Prim.Native.Nat.{ℕ, ◌+◌, ◌-◌, ◌≤◌}
use native.Mathlib.Omega.{arith}
use lib.Dec.{eqb, ltb}
use lib.ListN.{length, drop, length-append, length-drop}
use lib.Seq.{take_at, drop-append-add, drop-drop}
use borrow.Author.Tests.{eq-eqb, ne_eqb, eqb-true, eqb-false, ltb-false, le-ltb}
use Rattle.arbiter.specs.declared.Kind.TheVariants.{Pca9641}
use Rattle.std.specs.Prelude.{if◌then◌else◌}
use Rattle.arbiter.specs.Traces.{most_bytes, kind_bytes, events_end, whole_bytes, kind_section, count_in, refusal_number}
use Rattle.arbiter.specs.OldTraces.{old_number, converted, converted_number, converted_bytes, conversion, buffer_converted}
use Rattle.arbiter.specs.declared.Refusal.{Refusal}
use Rattle.arbiter.specs.Types.{Written}
use Rattle.arbiter.proofs.Choice.{passed}
use Rattle.arbiter.proofs.OldTraces.{Whole, old_whole}
use Rattle.format.specs.Places.{with_bytes, with_kind}
use Rattle.format.proofs.Refused.{some_number}

-- ---- a number of 0 has passed every test

old_passed : (b : Bool) (k y : ℕ) → eqb k 0 ≡ b → (if not b then k else y) ≡ 0 → (k ≡ 0) × (y ≡ 0)
old_passed true k y e h = (eqb-true _ _ e, h)
old_passed false k y e h = absurd (eqb-false _ _ e h)

pub zero_fits : (t : List ℕ) (room : ℕ) → converted_number t room ≡ 0 → Whole t × (length t + kind_bytes ≤ room)
unfolding converted_number converted
zero_fits t room h =
    let old = old_passed (eqb (old_number t) 0) (old_number t) (if ltb room (length (t ++ kind_section Pca9641)) then 9 else 0) refl h in
    let fits : length (t ++ kind_section Pca9641) ≤ room = ltb-false _ _ (passed (ltb room (length (t ++ kind_section Pca9641))) 8 0 old.1).0 in
    (old_whole t old.0, omega (arith, fits, length-append t (kind_section Pca9641)))

-- ---- refused: nothing is written

module _ (t out : List ℕ) (r : Refusal) (told : refusal_number r ≡ converted_number t (length out)) where
  refused : converted_number t (length out) ≡ 0 → ⊥
  refused h = some_number r (told ∙ h)

  pub refused_converted : record { number = refusal_number r; length = 0 } ≡ conversion t out
  unfolding conversion converted_bytes
  refused_converted = ap (λ (k : ℕ). record { number = k; length = 0 }) told ∙ simp (ne_eqb _ _ refused)

  pub refused_buffer : out ≡ buffer_converted t out
  unfolding buffer_converted converted_bytes
  refused_buffer = simp (ne_eqb _ _ refused)

-- ---- converted: the old trace as it is, its section, and what was there before

module _ (t out : List ℕ) (accepted : converted_number t (length out) ≡ 0) where
  abbrev n : ℕ
  n = count_in t

  abbrev section : List ℕ
  section = kind_section Pca9641

  room : length t + kind_bytes ≤ length out
  room = (zero_fits t (length out) accepted).1

  end : length t ≡ events_end n
  end = (zero_fits t (length out) accepted).0.2

  bytes_are : converted_bytes t (length out) ≡ t ++ section
  unfolding converted_bytes converted
  bytes_are = simp (eq-eqb _ _ accepted)

  size : length (t ++ section) ≡ length t + kind_bytes
  size = length-append t section

  pub all_converted : record { number = 0; length = length t + kind_bytes } ≡ conversion t out
  unfolding conversion
  all_converted = simp (accepted, bytes_are) (ap (λ (k : ℕ). record { number = 0; length = k }) (sym size))

  placed : with_bytes out 0 t ≡ t ++ drop (events_end n) out
  unfolding with_bytes
  placed =
      let front : 0 + length t ≡ events_end n = omega (arith, end) in
      simp (le-ltb (length out) (0 + length t) (omega (arith, room))) (ap (λ (k : ℕ). t ++ drop k out) front)

  kinded : with_kind (t ++ drop (events_end n) out) n Pca9641 ≡ (t ++ section) ++ drop (whole_bytes n) out
  unfolding with_kind
  kinded =
      let whole : length (t ++ drop (events_end n) out) ≡ length t + length (drop (events_end n) out) = length-append t (drop (events_end n) out) in
      let rest : length (drop (events_end n) out) ≡ length out - events_end n = length-drop (events_end n) out in
      simp (le-ltb (length (t ++ drop (events_end n) out)) (whole_bytes n) (omega (arith, whole, rest, end, room)))
      (ap (λ (l : List ℕ). l ++ section ++ drop (whole_bytes n) (t ++ drop (events_end n) out)) (take_at t (drop (events_end n) out) (events_end n) end)
      ∙ ap (λ (l : List ℕ). t ++ section ++ l)
      (ap (λ (k : ℕ). drop (k + kind_bytes) (t ++ drop (events_end n) out)) (sym end)
      ∙ drop-append-add t (drop (events_end n) out) kind_bytes
      ∙ drop-drop kind_bytes (events_end n) out))

  pub all_stored : (first last : List ℕ) → first ≡ with_bytes out 0 t → last ≡ with_kind first n Pca9641 → last ≡ buffer_converted t out
  unfolding buffer_converted
  all_stored first last e l =
      l
      ∙ ap (λ (b : List ℕ). with_kind b n Pca9641) (e ∙ placed)
      ∙ kinded
      ∙ ap (λ (k : ℕ). (t ++ section) ++ drop k out) whole
      ∙ ap (λ (b : List ℕ). b ++ drop (length b) out) (sym bytes_are)
    where
      whole : whole_bytes n ≡ length (t ++ section)
      whole = omega (arith, size, end)

-- ---- nothing written is longer than the longest trace

pub conversion_few : (t out : List ℕ) → (conversion t out).length ≤ most_bytes
unfolding conversion converted_bytes
conversion_few t out = go (eqb (converted_number t (length out)) 0) refl
  where
    go : (b : Bool) → eqb (converted_number t (length out)) 0 ≡ b → (conversion t out).length ≤ most_bytes
    go true e =
        let accepted = eqb-true _ _ e in
        let whole = (zero_fits t (length out) accepted).0 in
        let size = ap (λ (w : Written). w.length) (all_converted t out accepted) in
        omega (arith, size, whole.1, whole.2)
    go false e = simp e (omega arith)
