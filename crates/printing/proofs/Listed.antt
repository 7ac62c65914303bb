-- What stands in a buffer that has room for a listing; and the listing of what a program reads, which is that of all that there is to read.
-- Assumes nothing.
use Rattle.std.proofs.Common.{arith, ℕ, ◌≤◌, ◌≡◌, sym, ap, ◌∙◌, subst, List, length, take, drop, ltb, None, Some, IfSome, Result, Ok, Err, OnOk}
use Rattle.std.specs.declared.option.Option.{Option}
use Rattle.std.specs.Io.KnownBytes.{Appends}
use Rattle.std.proofs.lemmas.List.{take_all, take_at}
use borrow.Author.Tests.{le-ltb, ltb-true, ltb-false}
use Rattle.arbiter.specs.Listing.{listing}
use Rattle.arbiter.proofs.Choice.{split}
use Rattle.text.specs.Long.{enough}
use Rattle.text.specs.Written.{fitted, text_after}
use Rattle.text.proofs.Long.{long_listing}

pub written : (t : List ℕ) (n : ℕ) (text after : List ℕ) → n ≤ length text → n ≡ length (listing t) → after ≡ text_after t text → take n after ≡ listing t
unfolding fitted
written t n text after h e f =
    let room = le-ltb (length text) (length (listing t)) (omega (arith, h, e)) in
    ap (take n) f ∙ simp room (take_at (listing t) (drop (length (listing t)) text) n (sym e))

pub whole_listing : (t : List ℕ) → listing (take enough t) ≡ listing t
whole_listing t =
    split (ltb (length t) enough)
    (λ short. let few = ltb-true _ _ short in ap listing (take_all enough t (omega (arith, few))))
    (λ long. long_listing t (ltb-false _ _ long))

-- what a stream has of as many bytes as a program reads is the listing of them all
pub printed : (a : Option (List ℕ)) (bs : List ℕ) (room : ℕ) (x y : Option (List ℕ)) → room ≡ enough → IfSome a (λ xs. bs ≡ take room xs)
    → Appends x y (listing bs) → IfSome a (λ xs. Appends x y (listing xs))
printed None bs room x y e h k = tt
printed (Some xs) bs room x y e h k = subst (Appends x y) (ap listing (h ∙ ap (λ (n : ℕ). take n xs) e) ∙ whole_listing xs) k

pub printed_if : {T E : Type 0} (r : Result T E) (a : Option (List ℕ)) (bs : List ℕ) (room : ℕ) (x y : Option (List ℕ)) → room ≡ enough
    → IfSome a (λ xs. bs ≡ take room xs) → OnOk r (Appends x y (listing bs)) → OnOk r (IfSome a (λ xs. Appends x y (listing xs)))
printed_if (Ok v) a bs room x y e h k = printed a bs room x y e h k
printed_if (Err v) a bs room x y e h k = tt

-- what holds holds of any result
pub in_any_case : {T E : Type 0} (r : Result T E) (P : Type 0) → P → OnOk r P
in_any_case (Ok v) P p = p
in_any_case (Err v) P p = tt
