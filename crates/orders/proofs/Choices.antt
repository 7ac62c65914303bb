-- The orders of two scripts are those that the choices of places make, each once, in their sequence.
-- Assumes nothing.
use mathlib.Core.Path.{◌≡◌, refl, sym, ap, ap₂, subst, ◌∙◌}
use mathlib.Core.Bool.{Bool, true, false, ◌&&◌, false≢true, and-eq-true_iff}
use mathlib.Core.List.{List, [], ◌∷◌, ◌++◌, map, map-map, map-append}
use Prim.Native.Nat.{ℕ, zero, suc, ◌+◌, ◌≤◌}
use native.Mathlib.Nat.{suc-ne-zero, zero-add, add-zero}
use native.Mathlib.Omega.{arith}
use lib.ListN.{length, replicate}
use Rattle.std.specs.Prelude.{if◌then◌else◌}
use Rattle.arbiter.specs.Words.{worth, partner, same_master}
use Rattle.arbiter.specs.declared.Master.{Master}
use Rattle.arbiter.specs.declared.Master.TheVariants.{Zero, One}
use Rattle.orders.specs.Orders.{orders, number_of_orders}
use Rattle.orders.specs.Choices.{at, Keeps, follow, choices, same_places, occurs, earlier, in_sequence, their_choices, OrdersOfAnyTwo}
use Rattle.orders.proofs.Numbers.{length_orders}

-- ---- each order is that of a choice

-- a place more in front of each choice is an event more in front of each order
module _ {A : Type 0} (xs ys : List A) (ps : List (List Master)) (os : List (List A)) where
  front_0 : (x : A) → os ≡ map (λ p. follow p xs ys) ps → map (λ o. x ∷ o) os ≡ map (λ p. follow p (x ∷ xs) ys) (map (λ p. Zero ∷ p) ps)
  unfolding follow
  front_0 x e =
      ap (map (λ (o : List A). x ∷ o)) e
      ∙ map-map (λ (o : List A). x ∷ o) (λ (p : List Master). follow p xs ys) ps
      ∙ sym (map-map (λ (p : List Master). follow p (x ∷ xs) ys) (λ (p : List Master). Zero ∷ p) ps)

  front_1 : (y : A) → os ≡ map (λ p. follow p xs ys) ps → map (λ o. y ∷ o) os ≡ map (λ p. follow p xs (y ∷ ys)) (map (λ p. One ∷ p) ps)
  unfolding follow
  front_1 y e =
      ap (map (λ (o : List A). y ∷ o)) e
      ∙ map-map (λ (o : List A). y ∷ o) (λ (p : List Master). follow p xs ys) ps
      ∙ sym (map-map (λ (p : List Master). follow p xs (y ∷ ys)) (λ (p : List Master). One ∷ p) ps)

by_choice : {A : Type 0} (xs ys : List A) → orders xs ys ≡ map (λ p. follow p xs ys) (choices (length xs) (length ys))
unfolding orders follow
by_choice [] [] = refl
by_choice (x ∷ xs) [] = front_0 xs [] (choices (length xs) 0) (orders xs []) x (by_choice xs [])
by_choice [] (y ∷ ys) = front_1 [] ys (choices 0 (length ys)) (orders [] ys) y (by_choice [] ys)
by_choice (x ∷ xs) (y ∷ ys) =
    let first = choices (length xs) (length (y ∷ ys)) in
    let second = choices (length (x ∷ xs)) (length ys) in
    ap₂ ◌++◌
    (front_0 xs (y ∷ ys) first (orders xs (y ∷ ys)) x (by_choice xs (y ∷ ys)))
    (front_1 (x ∷ xs) ys second (orders (x ∷ xs) ys) y (by_choice (x ∷ xs) ys))
    ∙ sym (map-append (λ (p : List Master). follow p (x ∷ xs) (y ∷ ys)) (map (λ p. Zero ∷ p) first) (map (λ p. One ∷ p) second))

-- ---- how often a choice is there

occurs_append : (p : List Master) (l r : List (List Master)) → occurs p (l ++ r) ≡ occurs p l + occurs p r
unfolding occurs
occurs_append p [] r = sym (zero-add (occurs p r))
occurs_append p (q ∷ l) r = go (same_places p q) (occurs_append p l r)
  where
    go : (b : Bool) → occurs p (l ++ r) ≡ occurs p l + occurs p r
        → (if b then suc (occurs p (l ++ r)) else occurs p (l ++ r)) ≡ (if b then suc (occurs p l) else occurs p l) + occurs p r
    go true e = omega (arith, e)
    go false e = e

occurs_none : (k : Master) (l : List (List Master)) → occurs [] (map (λ q. k ∷ q) l) ≡ 0
unfolding occurs same_places
occurs_none k [] = refl
occurs_none k (q ∷ l) = occurs_none k l

occurs_same : (k : Master) (p : List Master) (l : List (List Master)) → occurs (k ∷ p) (map (λ q. k ∷ q) l) ≡ occurs p l
unfolding occurs same_places
occurs_same k p [] = refl
occurs_same Zero p (q ∷ l) = ap (λ (n : ℕ). if same_places p q then suc n else n) (occurs_same Zero p l)
occurs_same One p (q ∷ l) = ap (λ (n : ℕ). if same_places p q then suc n else n) (occurs_same One p l)

occurs_other : (k : Master) (p : List Master) (l : List (List Master)) → occurs (k ∷ p) (map (λ q. partner k ∷ q) l) ≡ 0
unfolding occurs same_places
occurs_other k p [] = refl
occurs_other Zero p (q ∷ l) = occurs_other Zero p l
occurs_other One p (q ∷ l) = occurs_other One p l

-- m places are script 0's and n script 1's, and there is no other
unfoldable fits : List Master → ℕ → ℕ → Bool
fits [] zero zero = true
fits [] zero (suc n) = false
fits [] (suc m) n = false
fits (Zero ∷ p) zero n = false
fits (Zero ∷ p) (suc m) n = fits p m n
fits (One ∷ p) m zero = false
fits (One ∷ p) m (suc n) = fits p m n

occurs_choices : (p : List Master) (m n : ℕ) → occurs p (choices m n) ≡ worth 1 (fits p m n)
unfolding occurs same_places orders fits
occurs_choices [] zero zero = refl
occurs_choices (Zero ∷ p) zero zero = refl
occurs_choices (One ∷ p) zero zero = refl
occurs_choices [] (suc m) zero = occurs_none Zero (choices m 0)
occurs_choices (Zero ∷ p) (suc m) zero = occurs_same Zero p (choices m 0) ∙ occurs_choices p m zero
occurs_choices (One ∷ p) (suc m) zero = occurs_other One p (choices m 0)
occurs_choices [] zero (suc n) = occurs_none One (choices 0 n)
occurs_choices (Zero ∷ p) zero (suc n) = occurs_other Zero p (choices 0 n)
occurs_choices (One ∷ p) zero (suc n) = occurs_same One p (choices 0 n) ∙ occurs_choices p zero n
occurs_choices [] (suc m) (suc n) =
    occurs_append [] (map (λ q. Zero ∷ q) (choices m (suc n))) (map (λ q. One ∷ q) (choices (suc m) n))
    ∙ ap₂ ◌+◌ (occurs_none Zero (choices m (suc n))) (occurs_none One (choices (suc m) n))
occurs_choices (Zero ∷ p) (suc m) (suc n) =
    occurs_append (Zero ∷ p) (map (λ q. Zero ∷ q) (choices m (suc n))) (map (λ q. One ∷ q) (choices (suc m) n))
    ∙ ap₂ ◌+◌ (occurs_same Zero p (choices m (suc n)) ∙ occurs_choices p m (suc n)) (occurs_other Zero p (choices (suc m) n))
    ∙ add-zero (worth 1 (fits p m (suc n)))
occurs_choices (One ∷ p) (suc m) (suc n) =
    occurs_append (One ∷ p) (map (λ q. Zero ∷ q) (choices m (suc n))) (map (λ q. One ∷ q) (choices (suc m) n))
    ∙ ap₂ ◌+◌ (occurs_other One p (choices m (suc n))) (occurs_same One p (choices (suc m) n) ∙ occurs_choices p (suc m) n)
    ∙ zero-add (worth 1 (fits p (suc m) n))

-- ---- a choice that is there keeps both scripts

fits_keeps : {A : Type 0} (p : List Master) (xs ys : List A) → fits p (length xs) (length ys) ≡ true → Keeps p xs ys (follow p xs ys)
unfolding fits follow at
fits_keeps [] [] [] h = record { every_place = refl; keeps0 = refl; keeps1 = refl }
fits_keeps [] [] (y ∷ ys) h = absurd (false≢true h)
fits_keeps [] (x ∷ xs) ys h = absurd (false≢true h)
fits_keeps (Zero ∷ p) [] ys h = absurd (false≢true h)
fits_keeps (Zero ∷ p) (x ∷ xs) ys h =
    let k = fits_keeps p xs ys h in
    record { every_place = ap suc k.every_place; keeps0 = ap (λ o. x ∷ o) k.keeps0; keeps1 = k.keeps1 }
fits_keeps (One ∷ p) xs [] h = absurd (false≢true h)
fits_keeps (One ∷ p) xs (y ∷ ys) h =
    let k = fits_keeps p xs ys h in
    record { every_place = ap suc k.every_place; keeps0 = k.keeps0; keeps1 = ap (λ o. y ∷ o) k.keeps1 }

there_fits : (b : Bool) (n : ℕ) → n ≡ worth 1 b → 1 ≤ n → b ≡ true
there_fits true n e h = refl
there_fits false n e h = let none : ⊥ = omega (arith, e, h) in absurd none

-- ---- an order that keeps both scripts is that of its choice, which is there

-- with the scripts as they stand in it
found : {A : Type 0} (p : List Master) (o : List A) → length p ≡ length o
    → (o ≡ follow p (at Zero p o) (at One p o)) × (fits p (length (at Zero p o)) (length (at One p o)) ≡ true)
unfolding fits follow at
found [] [] h = (refl, refl)
found [] (e ∷ o) h = absurd (suc-ne-zero (length o) (sym h))
found (k ∷ p) [] h = absurd (suc-ne-zero (length p) h)
found (Zero ∷ p) (e ∷ o) h = let f = found p o (omega (arith, h)) in (ap (λ l. e ∷ l) f.0, f.1)
found (One ∷ p) (e ∷ o) h = let f = found p o (omega (arith, h)) in (ap (λ l. e ∷ l) f.0, f.1)

once_there : {A : Type 0} (xs ys : List A) (p : List Master) (o : List A) → Keeps p xs ys o
    → (o ≡ follow p xs ys) × (occurs p (choices (length xs) (length ys)) ≡ 1)
once_there xs ys p o k =
    let f = found p o k.every_place in (
      f.0 ∙ ap₂ (follow p) k.keeps0 k.keeps1,
      occurs_choices p (length xs) (length ys)
          ∙ ap (worth 1) (sym (ap₂ (λ (a b : List _). fits p (length a) (length b)) k.keeps0 k.keeps1) ∙ f.1),
    )

-- ---- the sequence

sequence_map : (k : Master) (l : List (List Master)) → in_sequence (map (λ q. k ∷ q) l) ≡ in_sequence l
unfolding in_sequence earlier
sequence_map k [] = refl
sequence_map k (p ∷ []) = refl
sequence_map Zero (p ∷ q ∷ l) = ap (λ (b : Bool). earlier p q && b) (sequence_map Zero (q ∷ l))
sequence_map One (p ∷ q ∷ l) = ap (λ (b : Bool). earlier p q && b) (sequence_map One (q ∷ l))

sequence_append : (l r : List (List Master)) → in_sequence l ≡ true → in_sequence r ≡ true
    → in_sequence (map (λ q. Zero ∷ q) l ++ map (λ q. One ∷ q) r) ≡ true
unfolding in_sequence earlier
sequence_append [] r h k = sequence_map One r ∙ k
sequence_append (p ∷ []) [] h k = refl
sequence_append (p ∷ []) (q ∷ r) h k = sequence_map One (q ∷ r) ∙ k
sequence_append (p ∷ q ∷ l) r h k =
    let both = (and-eq-true_iff (earlier p q) (in_sequence (q ∷ l))).0 h in
    (and-eq-true_iff (earlier p q) _).1 (both.0, sequence_append (q ∷ l) r both.1 k)

in_sequence_lem : (m n : ℕ) → in_sequence (choices m n) ≡ true
unfolding orders in_sequence
in_sequence_lem zero zero = refl
in_sequence_lem (suc m) zero = sequence_map Zero (choices m 0) ∙ in_sequence_lem m zero
in_sequence_lem zero (suc n) = sequence_map One (choices 0 n) ∙ in_sequence_lem zero n
in_sequence_lem (suc m) (suc n) = sequence_append (choices m (suc n)) (choices (suc m) n) (in_sequence_lem m (suc n)) (in_sequence_lem (suc m) n)

-- ---- all of it

pub orders_of_any_two : OrdersOfAnyTwo
orders_of_any_two A xs ys =
    record {
      byChoice = by_choice xs ys;
      eachKeeps = λ p h. fits_keeps p xs ys (there_fits (fits p (length xs) (length ys)) _ (occurs_choices p (length xs) (length ys)) h);
      eachOnce = once_there xs ys;
      sequence = in_sequence_lem (length xs) (length ys);
      number = length_orders xs ys;
    }
