-- Request 109: what the orders of two scripts are, said without building them. An order is a choice of places: for each of its places, the
-- script from which the event comes. Two events that are equal bytes still have places of their own.
-- Assumes nothing.
use Rattle.std.specs.Prelude.{ℕ, suc, ◌+◌, ◌≤◌, ◌≡◌, Bool, true, false, ◌&&◌, List, [], ◌∷◌, map, length, replicate, if◌then◌else◌}
use Rattle.arbiter.specs.Words.{same_master}
use Rattle.arbiter.specs.declared.Master.{Master}
use Rattle.arbiter.specs.declared.Master.TheVariants.{Zero, One}
use Rattle.orders.specs.Orders.{orders, number_of_orders}

-- ---- choices of places

-- of an order, the events at the places of controller m
unfoldable pub at : {A : Type 0} → Master → List Master → List A → List A
at m [] order = []
at m (k ∷ places) [] = []
at m (k ∷ places) (e ∷ order) = if same_master m k then e ∷ at m places order else at m places order

-- An order "that keeps each script's own order": at script 0's places stands script 0, at script 1's stands script 1, each whole and in its
-- own sequence, and there is no other place.
pub record Keeps {A : Type 0} (places : List Master) (script0 script1 order : List A) : Type 0 where
  pub every_place : length places ≡ length order
  pub keeps0 : at Zero places order ≡ script0
  pub keeps1 : at One places order ≡ script1

-- the order that a choice of places makes of two scripts
unfoldable pub follow : {A : Type 0} → List Master → List A → List A → List A
follow [] xs ys = []
follow (Zero ∷ places) [] ys = []
follow (Zero ∷ places) (x ∷ xs) ys = x ∷ follow places xs ys
follow (One ∷ places) xs [] = []
follow (One ∷ places) xs (y ∷ ys) = y ∷ follow places xs ys

-- the choices for m events and n, in the sequence of the orders
abbrev pub choices : ℕ → ℕ → List (List Master)
choices m n = orders (replicate m Zero) (replicate n One)

-- how often a choice stands in a list of them
unfoldable pub same_places : List Master → List Master → Bool
same_places [] [] = true
same_places [] (l ∷ q) = false
same_places (k ∷ p) [] = false
same_places (k ∷ p) (l ∷ q) = same_master k l && same_places p q

unfoldable pub occurs : List Master → List (List Master) → ℕ
occurs p [] = 0
occurs p (q ∷ rest) = if same_places p q then suc (occurs p rest) else occurs p rest

-- "script 0 first, then .. script 1": of two choices the earlier is the one with script 0 where they first differ
unfoldable pub earlier : List Master → List Master → Bool
earlier [] q = false
earlier (k ∷ p) [] = false
earlier (Zero ∷ p) (Zero ∷ q) = earlier p q
earlier (Zero ∷ p) (One ∷ q) = true
earlier (One ∷ p) (Zero ∷ q) = false
earlier (One ∷ p) (One ∷ q) = earlier p q

unfoldable pub in_sequence : List (List Master) → Bool
in_sequence [] = true
in_sequence (p ∷ []) = true
in_sequence (p ∷ q ∷ rest) = earlier p q && in_sequence (q ∷ rest)

-- ---- what is proved of the orders of any two scripts

module _ {A : Type 0} (script0 script1 : List A) where
  -- the choices for these scripts
  abbrev pub their_choices : List (List Master)
  their_choices = choices (length script0) (length script1)

  pub record AllOrders : Type 0 where
    -- each order is that of a choice of places, in their sequence
    pub byChoice : orders script0 script1 ≡ map (λ places. follow places script0 script1) their_choices
    -- each of these keeps both scripts whole and in their own sequence
    pub eachKeeps : (places : List Master) → 1 ≤ occurs places their_choices → Keeps places script0 script1 (follow places script0 script1)
    -- every order that does so is there, once
    pub eachOnce :
        (places : List Master) (order : List A) → Keeps places script0 script1 order
        → (order ≡ follow places script0 script1) × (occurs places their_choices ≡ 1)
    pub sequence : in_sequence their_choices ≡ true
    pub number : length (orders script0 script1) ≡ number_of_orders (length script0) (length script1)

-- So it is of any two scripts, whatever their events are.
abbrev pub OrdersOfAnyTwo : Type 1
OrdersOfAnyTwo = (A : Type 0) (script0 script1 : List A) → AllOrders script0 script1
