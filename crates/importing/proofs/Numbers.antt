-- The answer and the buffer of an import, case by case.
-- Assumes nothing.
use Prim.Native.Nat.{ℕ, ◌*◌, ◌/◌, ◌≤◌, ◌<◌}
use mathlib.Core.Path.{◌≡◌, refl, sym, ap, ◌∙◌}
use mathlib.Core.Bool.{Bool, true, false, ◌||◌}
use mathlib.Core.List.{List, ◌++◌}
use native.Mathlib.Omega.{arith}
use Rattle.std.specs.Prelude.{Result, Ok, Err}
use lib.ListN.{length, drop}
use borrow.Author.Tests.{lt-ltb, le-ltb}
use Rattle.arbiter.specs.Straps.{in_range}
use Rattle.capture.specs.declared.Both.{Both}
use Rattle.capture.specs.declared.ImportFault.{ImportFault}
use Rattle.capture.specs.declared.ImportFault.TheVariants.{TooLong, BadAddress, Cut, NoRoom}
use Rattle.capture.specs.OneBus.{is_cut}
use Rattle.capture.specs.Events.{captured, event_bytes}
use Rattle.capture.specs.Import.{Imported, refusal_number, import_told, cut_on_either, import_number, imported_by, buffer_by, imported, imported_buffer}
use Rattle.capture.specs.Samples.{both_after}
use Rattle.capture.proofs.Joined.{cut_joined}

pub cut_found : (address : ℕ) (samples : List ℕ) (s : Both) (b : Bool) → s ≡ both_after address samples → b ≡ (is_cut s.bus0 || is_cut s.bus1)
    → cut_on_either address samples ≡ b
cut_found address samples s b h k = sym (cut_joined address samples) ∙ ap (λ (x : Both). is_cut x.bus0 || is_cut x.bus1) (sym h) ∙ sym k

module _ (address : ℕ) (samples buffer : List ℕ) where
  abbrev number : ℕ
  number = import_number address samples (length buffer)

  -- what the call promises of its answer r, and of what is left in the buffer
  abbrev Promised : Result ℕ ImportFault → List ℕ → Type 0
  Promised r left = (import_told r ≡ imported address samples buffer) × (left ≡ imported_buffer address samples buffer)

  -- refused: no events, and the buffer as it was
  by_number : (f : ImportFault) → (import_told (Err f) ≡ imported_by (refusal_number f) address samples)
      × (buffer ≡ buffer_by (refusal_number f) address samples buffer)
  by_number TooLong = (refl, refl)
  by_number BadAddress = (refl, refl)
  by_number Cut = (refl, refl)
  by_number NoRoom = (refl, refl)

  refusal : (f : ImportFault) → number ≡ refusal_number f → Promised (Err f) buffer
  unfolding imported imported_buffer
  refusal f e =
      let told = by_number f in
      (told.0 ∙ ap (λ (n : ℕ). imported_by n address samples) (sym e), told.1 ∙ ap (λ (n : ℕ). buffer_by n address samples buffer) (sym e))

  pub refused_13 : 32768 < length samples → Promised (Err TooLong) buffer
  unfolding import_number
  refused_13 long = refusal TooLong (simp (lt-ltb _ _ long))

  module _ (short : length samples ≤ 32768) where
    pub refused_11 : in_range address ≡ false → Promised (Err BadAddress) buffer
    unfolding import_number
    refused_11 a = refusal BadAddress (simp (le-ltb _ _ short, a))

    module _ (a : in_range address ≡ true) where
      pub refused_12 : cut_on_either address samples ≡ true → Promised (Err Cut) buffer
      unfolding import_number
      refused_12 x = refusal Cut (simp (le-ltb _ _ short, a, x))

      pub refused_9 : cut_on_either address samples ≡ false → length buffer < 4 * length (captured address samples) → Promised (Err NoRoom) buffer
      unfolding import_number
      refused_9 x room = refusal NoRoom (simp (le-ltb _ _ short, a, x, lt-ltb _ _ room))

      -- accepted: n bytes are those of n / 4 events, and they stand at the front
      pub accepted : (n : ℕ) (left : List ℕ) → cut_on_either address samples ≡ false → 4 * length (captured address samples) ≤ length buffer
          → n ≡ 4 * length (captured address samples) → left ≡ event_bytes (captured address samples) ++ drop n buffer → Promised (Ok (n / 4)) left
      unfolding import_number imported imported_buffer
      accepted n left x room e l =
          let zero : number ≡ 0 = simp (le-ltb _ _ short, a, x, le-ltb _ _ room) in
          let c : n / 4 ≡ length (captured address samples) = omega (arith, e) in (
            (λ j. record { number = 0; count = c j }) ∙ ap (λ (k : ℕ). imported_by k address samples) (sym zero),
            l ∙ ap (λ (k : ℕ). event_bytes (captured address samples) ++ drop k buffer) e ∙ ap (λ (k : ℕ). buffer_by k address samples buffer) (sym zero),
          )
