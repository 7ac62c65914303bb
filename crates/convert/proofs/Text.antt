-- The text that is written, from what the call answers: the program's buffer has room for every converted trace, so a trace is refused by its own
-- number alone.
-- Assumes nothing.
use Rattle.std.proofs.Common.{arith, ℕ, ◌≤◌, ◌<◌, ◌≡◌, refl, sym, ap, ◌∙◌, subst, List, [], ◌∷◌}
use Rattle.std.proofs.Common.{◌++◌, length, take, drop, Bool, true, false, not, eqb, ltb, None, Some}
use Rattle.std.proofs.Common.{IfSome, Result, Ok, Err, OnOk}
use Rattle.std.specs.declared.option.Option.{Option}
use Rattle.std.specs.Io.KnownBytes.{Appends}
use Rattle.std.proofs.lemmas.List.{take_at}
use borrow.Author.Tests.{eq-eqb, ne_eqb, le-ltb, eqb-true, eqb-false}
use Rattle.std.specs.Prelude.{if◌then◌else◌}
use Rattle.std.specs.Fmt
use Rattle.arbiter.specs.Traces.{most_bytes, refusal_number}
use Rattle.arbiter.specs.Listing.{decimal, newline}
use Rattle.arbiter.specs.OldTraces.{old_number, converted, converted_number, converted_bytes, conversion, buffer_converted}
use Rattle.arbiter.specs.Types.{Written}
use Rattle.arbiter.specs.declared.Refusal.{Refusal}
use Rattle.arbiter.specs.declared.Refusal.TheVariants.{TraceCut, TooManyEvents, BytesAfterEnd, BadStraps, NoRoom, BadCount, UnknownPart}
use Rattle.format.specs.Refused.{written_of}
use Rattle.format.proofs.Refused.{some_number}
use Rattle.arbiter.proofs.Choice.{split}
use Rattle.converter.proofs.Laws.{conversion_few}
use Rattle.convert.specs.Text.{refused_line, conversion_text}

-- a call with room for the converted trace does it, so the bound on what a call writes is one on the trace
fits : (t : List ℕ) → old_number t ≡ 0 → length (converted t) ≤ most_bytes
unfolding conversion converted_bytes converted_number
fits t h =
    let few = conversion_few t (converted t) in
    simp (eq-eqb _ _ h, le-ltb (length (converted t)) (length (converted t)) (omega arith)) at few

module _ (t out : List ℕ) (room : length out ≡ most_bytes) where
  taken : old_number t ≡ 0 → converted_number t (length out) ≡ 0
  unfolding converted_number
  taken h =
      let enough = fits t h in
      simp (eq-eqb _ _ h, le-ltb (length out) (length (converted t)) (omega (arith, room, enough)))

  pub number_is : converted_number t (length out) ≡ old_number t
  unfolding converted_number
  number_is =
      split (eqb (old_number t) 0)
      (λ e. let none = eqb-true _ _ e in taken none ∙ sym none)
      (λ e. simp e)

  text_if_none : (conversion t out).number ≡ 0 → take (conversion t out).length (buffer_converted t out) ≡ conversion_text t
  unfolding conversion buffer_converted converted_bytes conversion_text
  text_if_none h =
      let bytes : List ℕ = converted_bytes t (length out) in
      let same : converted_bytes t (length out) ≡ converted t = simp (eq-eqb _ _ h) in
      let text : conversion_text t ≡ converted t = simp (eq-eqb _ _ (sym number_is ∙ h)) in
      take_at bytes (drop (length bytes) out) (length bytes) refl ∙ same ∙ sym text

  text_if_refused : ((conversion t out).number ≡ 0 → ⊥) → refused_line (conversion t out).number ≡ conversion_text t
  unfolding conversion conversion_text
  text_if_refused h =
      let text : conversion_text t ≡ refused_line (old_number t) = simp (ne_eqb _ _ (λ (e : old_number t ≡ 0). h (number_is ∙ e))) in
      ap refused_line number_is ∙ sym text

  -- what the call answers is written out: the front of the buffer, or the line of the refusal
  module _ (x : Result ℕ Refusal) (told : written_of x ≡ conversion t out) where
    pub length_fits : (n : ℕ) → x ≡ Ok n → n ≤ most_bytes
    length_fits n is =
        let few = conversion_few t out in
        let same : n ≡ (conversion t out).length = ap (λ (w : Written). w.length) (ap written_of (sym is) ∙ told) in
        omega (arith, same, few)

    pub text_of_written : (n : ℕ) (after : List ℕ) → x ≡ Ok n → after ≡ buffer_converted t out → take n after ≡ conversion_text t
    text_of_written n after is left =
        let same : record { number = 0; length = n } ≡ conversion t out = ap written_of (sym is) ∙ told in
        ap (λ (w : Written). take w.length after) same
        ∙ ap (take (conversion t out).length) left
        ∙ text_if_none (sym (ap (λ (w : Written). w.number) same))

    pub text_of_refusal : (r : Refusal) → x ≡ Err r → refused_line (refusal_number r) ≡ conversion_text t
    text_of_refusal r is =
        let same : refusal_number r ≡ (conversion t out).number = ap (λ (w : Written). w.number) (ap written_of (sym is) ∙ told) in
        ap refused_line same ∙ text_if_refused (λ (z : (conversion t out).number ≡ 0). some_number r (same ∙ z))

-- a number is printed as document 01 writes it
digits_of : (r : Refusal) → Fmt.decimal (refusal_number r) ≡ decimal (refusal_number r)
unfolding Fmt.digits
digits_of TraceCut = refl
digits_of TooManyEvents = refl
digits_of BytesAfterEnd = refl
digits_of BadStraps = refl
digits_of NoRoom = refl
digits_of BadCount = refl
digits_of UnknownPart = refl

pub line_of : (n : ℕ) (r : Refusal) → n ≡ refusal_number r → 0x52 ∷ Fmt.decimal n ++ newline ≡ refused_line (refusal_number r)
line_of n r e = ap (λ (k : ℕ). 0x52 ∷ Fmt.decimal k ++ newline) e ∙ ap (λ (l : List ℕ). 0x52 ∷ l ++ newline) (digits_of r)

-- what was put into an empty buffer is all that it holds
pub line_in : (n : ℕ) (r : Refusal) (empty filled shown : List ℕ) → n ≡ refusal_number r → empty ≡ [] → filled ≡ empty ++ (0x52 ∷ Fmt.decimal n ++ newline)
    → shown ≡ filled → shown ≡ refused_line (refusal_number r)
line_in n r empty filled shown e none put same =
    same ∙ put ∙ ap (λ (l : List ℕ). l ++ (0x52 ∷ Fmt.decimal n ++ newline)) none ∙ line_of n r e

-- where the bytes of a stream are known, what was read are its first ones
pub text_of_input : {T E : Type 0} (r : Result T E) (a : Option (List ℕ)) (bs : List ℕ) (room : ℕ) (x y : Option (List ℕ)) → room ≡ most_bytes
    → IfSome a (λ xs. bs ≡ take room xs) → OnOk r (Appends x y (conversion_text bs))
    → OnOk r (IfSome a (λ xs. Appends x y (conversion_text (take most_bytes xs))))
text_of_input (Ok v) None bs room x y e h k = tt
text_of_input (Ok v) (Some xs) bs room x y e h k =
    subst (λ (l : List ℕ). Appends x y (conversion_text l)) (h ∙ ap (λ (n : ℕ). take n xs) e) k
text_of_input (Err v) a bs room x y e h k = tt
