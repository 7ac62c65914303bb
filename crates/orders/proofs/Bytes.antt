-- What the code goes through is the byte of each order, in their sequence; and the byte of an order is what the device shows after it.
-- Assumes nothing.
use mathlib.Core.Path.{◌≡◌, refl, sym, ap, ap₂, ◌∙◌}
use mathlib.Core.List.{List, [], ◌∷◌, ◌++◌, map, map-map, map-append}
use Prim.Native.Nat.{ℕ}
use Rattle.arbiter.specs.Steps.{owner_byte, refused, taken, step, run_from, answers_from}
use Rattle.arbiter.specs.declared.Device.{Device}
use Rattle.arbiter.specs.declared.Raw.{Raw}
use Rattle.arbiter.specs.declared.Stepped.{Stepped}
use Rattle.arbiter.proofs.Cases.{step_cases}
use Rattle.orders.specs.Orders.{orders, last_owner, byte_from}
use Rattle.orders.specs.Walk.{reached_with, reached, bytes_from}
use Rattle.orders.specs.declared.Reached.{Reached}

-- ---- the bytes from a point on

-- the byte after an order from there
abbrev byte_on : Reached → List Raw → ℕ
byte_on c o = last_owner c.byte (answers_from c.device o)

byte_front : (c : Reached) (e : Raw) (os : List (List Raw)) → map (byte_on (reached c e)) os ≡ map (byte_on c) (map (λ o. e ∷ o) os)
unfolding last_owner answers_from
byte_front c e os = sym (map-map (byte_on c) (λ (o : List Raw). e ∷ o) os)

bytes_on : (c : Reached) (xs ys : List Raw) → bytes_from c xs ys ≡ map (byte_on c) (orders xs ys)
unfolding bytes_from orders last_owner answers_from
bytes_on c [] [] = refl
bytes_on c (x ∷ xs) [] = bytes_on (reached c x) xs [] ∙ byte_front c x (orders xs [])
bytes_on c [] (y ∷ ys) = bytes_on (reached c y) [] ys ∙ byte_front c y (orders [] ys)
bytes_on c (x ∷ xs) (y ∷ ys) =
    ap₂ ◌++◌
    (bytes_on (reached c x) xs (y ∷ ys) ∙ byte_front c x (orders xs (y ∷ ys)))
    (bytes_on (reached c y) (x ∷ xs) ys ∙ byte_front c y (orders (x ∷ xs) ys))
    ∙ sym (map-append (byte_on c) (map (λ o. x ∷ o) (orders xs (y ∷ ys))) (map (λ o. y ∷ o) (orders (x ∷ xs) ys)))

pub bytes_are : (d : Device) (xs ys : List Raw) → bytes_from (reached_with d (owner_byte d)) xs ys ≡ map (byte_from d) (orders xs ys)
unfolding byte_from
bytes_are d xs ys = bytes_on (reached_with d (owner_byte d)) xs ys

-- ---- the byte is that of the device after the order

step_shows : (d : Device) (r : Raw) → (step d r).answer.owner ≡ owner_byte (step d r).device
unfolding taken refused
step_shows d r = step_cases (λ (s : Stepped). s.answer.owner ≡ owner_byte s.device) d r (λ e x s. refl) (λ n u. refl)

pub byte_shows : (d : Device) (o : List Raw) → byte_from d o ≡ owner_byte (run_from d o)
unfolding byte_from last_owner answers_from run_from
byte_shows d [] = refl
byte_shows d (r ∷ o) = ap (λ (b : ℕ). last_owner b (answers_from (step d r).device o)) (step_shows d r) ∙ byte_shows (step d r).device o
