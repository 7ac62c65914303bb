-- Request 109: the orders of two start-up scripts in the request's sequence, how many there are, and the byte that is listed of each.
-- Assumes nothing.
use Rattle.std.specs.Prelude.{ℕ, zero, suc, ◌+◌, List, [], ◌∷◌, ◌++◌, map}
use Rattle.arbiter.specs.Effects.{power_up}
use Rattle.arbiter.specs.Steps.{owner_byte, answers_from}
use Rattle.arbiter.specs.declared.Kind.TheVariants.{Pca9641}
use Rattle.arbiter.specs.declared.Device.{Device}
use Rattle.arbiter.specs.declared.Raw.{Raw}
use Rattle.arbiter.specs.declared.Answer.{Answer}

-- ---- the orders

-- "all the orders that keep each script's own order. Build each order by taking the next event from script 0 first, then from script 1;
-- what remains of the two scripts shrinks by one each time": those that go on with script 0 come first, at each point
unfoldable pub orders : {A : Type 0} → List A → List A → List (List A)
orders [] [] = [] ∷ []
orders (x ∷ xs) [] = map (λ o. x ∷ o) (orders xs [])
orders [] (y ∷ ys) = map (λ o. y ∷ o) (orders [] ys)
orders (x ∷ xs) (y ∷ ys) = map (λ o. x ∷ o) (orders xs (y ∷ ys)) ++ map (λ o. y ∷ o) (orders (x ∷ xs) ys)

-- how many ways there are to choose k of n places, by Pascal's rule
unfoldable pub choose : ℕ → ℕ → ℕ
choose n zero = 1
choose zero (suc k) = 0
choose (suc n) (suc k) = choose n k + choose n (suc k)

-- "the number of orders" of m events and n: m of the m + n places are script 0's
abbrev pub number_of_orders : ℕ → ℕ → ℕ
number_of_orders m n = choose (m + n) m

-- ---- what is listed

-- "the third answer byte after its last event": of the last of these answers, and where there is none the one before them
unfoldable pub last_owner : ℕ → List Answer → ℕ
last_owner before [] = before
last_owner before (a ∷ rest) = last_owner a.owner rest

unfoldable pub byte_from : Device → List Raw → ℕ
byte_from d order = last_owner (owner_byte d) (answers_from d order)

-- "Every order starts from a fresh PCA9641 and comes once, in that sequence; for each the third answer byte after its last event is
-- written"; "Two empty scripts have one order, whose byte is that of the fresh device."
unfoldable pub order_bytes : List Raw → List Raw → List ℕ
order_bytes script0 script1 = map (byte_from (power_up Pca9641)) (orders script0 script1)
