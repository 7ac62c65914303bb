-- A call that may be refused is told whole by its numbers: two results of the same numbers are one.
-- Assumes nothing.
use Rattle.std.proofs.Common.{ℕ, Bool, true, false, List, ◌≡◌, refl, sym, ap, ◌∙◌, Result, Ok, Err, eqb, if◌then◌else◌}
use Rattle.std.specs.Result.{is_ok}
use Rattle.layout.specs.declared.ImageRefusal.{ImageRefusal}
use Rattle.layout.specs.declared.ImageRefusal.TheVariants.{Length, Range, Argument}
use Rattle.layout.specs.Refusals.{Shown, number_of, shown_of}
use Rattle.layout.specs.Images.{image_number, is_image}

-- read back from the number, with what is given where it is 0
abbrev pub result_of : {T : Type 0} → T → ℕ → Result T ImageRefusal
result_of x n = if eqb n 0 then Ok x else if eqb n 9 then Err Length else if eqb n 16 then Err Range else Err Argument

of_number : (r : Result (Unit {0}) ImageRefusal) → result_of tt (number_of r) ≡ r
unfolding number_of
of_number (Ok tt) = refl
of_number (Err Length) = refl
of_number (Err Range) = refl
of_number (Err Argument) = refl

of_shown : (r : Result ℕ ImageRefusal) → result_of (shown_of r).byte (shown_of r).number ≡ r
unfolding shown_of
of_shown (Ok byte) = refl
of_shown (Err Length) = refl
of_shown (Err Range) = refl
of_shown (Err Argument) = refl

pub number_once : {n : ℕ} {x y : Result (Unit {0}) ImageRefusal} → number_of x ≡ n → number_of y ≡ n → x ≡ y
number_once p q = sym (of_number _) ∙ ap (result_of tt) (p ∙ sym q) ∙ of_number _

pub shown_once : {s : Shown} {x y : Result ℕ ImageRefusal} → shown_of x ≡ s → shown_of y ≡ s → x ≡ y
shown_once p q = sym (of_shown _) ∙ ap (λ (s : Shown). result_of s.byte s.number) (p ∙ sym q) ∙ of_shown _

-- ---- what a test tells of its buffer

pub is_good : (b : List ℕ) {given : Unit {0}} → number_of (Ok given) ≡ image_number b → is_image b ≡ true
unfolding number_of
is_good b p = ap (λ n. eqb n 0) (sym p)

pub is_bad : (b : List ℕ) (e : ImageRefusal) → number_of {T = Unit {0}} (Err e) ≡ image_number b → is_image b ≡ false
unfolding number_of
is_bad b Length p = ap (λ n. eqb n 0) (sym p)
is_bad b Range p = ap (λ n. eqb n 0) (sym p)
is_bad b Argument p = ap (λ n. eqb n 0) (sym p)

pub asked : (r : Result (Unit {0}) ImageRefusal) (b : List ℕ) → number_of r ≡ image_number b → is_ok r ≡ is_image b
asked (Ok given) b p = sym (is_good b p)
asked (Err e) b p = sym (is_bad b e p)
