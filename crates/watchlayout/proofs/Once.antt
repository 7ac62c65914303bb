-- A call that may be refused is told whole by its numbers: two results of the same numbers are one.
-- Assumes nothing.
use Rattle.std.proofs.Common.{ℕ, true, false, List, ◌≡◌, refl, sym, ap, ◌∙◌, Result, Ok, Err, eqb, if◌then◌else◌}
use Rattle.watchlayout.specs.declared.WatchRefusal.{WatchRefusal}
use Rattle.watchlayout.specs.declared.WatchRefusal.TheVariants.{Length, Range, Argument, Address}
use Rattle.watchlayout.specs.Refusals.{Heeded, number_of, heeded_of}
use Rattle.watchlayout.specs.Calls.{watch_number, is_watch}

-- read back from the number, with what is given where it is 0
abbrev result_of : {T : Type 0} → T → ℕ → Result T WatchRefusal
result_of x n =
    if eqb n 0 then Ok x
    else if eqb n 9 then Err Length
    else if eqb n 16 then Err Range
    else if eqb n 3 then Err Argument
    else Err Address

of_number : (r : Result (Unit {0}) WatchRefusal) → result_of tt (number_of r) ≡ r
unfolding number_of
of_number (Ok tt) = refl
of_number (Err Length) = refl
of_number (Err Range) = refl
of_number (Err Argument) = refl
of_number (Err Address) = refl

of_heeded : (r : Result ℕ WatchRefusal) → result_of (heeded_of r).taken (heeded_of r).number ≡ r
unfolding heeded_of
of_heeded (Ok taken) = refl
of_heeded (Err Length) = refl
of_heeded (Err Range) = refl
of_heeded (Err Argument) = refl
of_heeded (Err Address) = refl

pub number_once : {n : ℕ} {x y : Result (Unit {0}) WatchRefusal} → number_of x ≡ n → number_of y ≡ n → x ≡ y
number_once p q = sym (of_number _) ∙ ap (result_of tt) (p ∙ sym q) ∙ of_number _

pub heeded_once : {s : Heeded} {x y : Result ℕ WatchRefusal} → heeded_of x ≡ s → heeded_of y ≡ s → x ≡ y
heeded_once p q = sym (of_heeded _) ∙ ap (λ (s : Heeded). result_of s.taken s.number) (p ∙ sym q) ∙ of_heeded _

-- ---- what a test tells of what it asks

pub is_zero : (n : ℕ) {given : Unit {0}} → number_of (Ok given) ≡ n → eqb n 0 ≡ true
unfolding number_of
is_zero n p = ap (λ k. eqb k 0) (sym p)

pub is_above : (n : ℕ) (e : WatchRefusal) → number_of {T = Unit {0}} (Err e) ≡ n → eqb n 0 ≡ false
unfolding number_of
is_above n Length p = ap (λ k. eqb k 0) (sym p)
is_above n Range p = ap (λ k. eqb k 0) (sym p)
is_above n Argument p = ap (λ k. eqb k 0) (sym p)
is_above n Address p = ap (λ k. eqb k 0) (sym p)

pub is_good : (b : List ℕ) {given : Unit {0}} → number_of (Ok given) ≡ watch_number b → is_watch b ≡ true
is_good b p = is_zero (watch_number b) p

pub is_bad : (b : List ℕ) (e : WatchRefusal) → number_of {T = Unit {0}} (Err e) ≡ watch_number b → is_watch b ≡ false
is_bad b e p = is_above (watch_number b) e p
