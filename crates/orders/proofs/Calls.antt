-- The call: refused for its bytes, for a long script or for the room, or listed to the limit; and that a call lists the front of what one
-- without a limit lists.
-- Assumes nothing.
use mathlib.Core.Path.{◌≡◌, refl, sym, ap, ap₂, subst, ◌∙◌}
use mathlib.Core.Bool.{Bool, true, false, not, ◌&&◌, ◌||◌, false≢true}
use mathlib.Core.List.{List, [], ◌∷◌, ◌++◌, map}
use Prim.Native.Nat.{ℕ, zero, suc, ◌≤◌, ◌<◌, min}
use native.Mathlib.Omega.{arith}
use lib.Dec.{eqb, ltb}
use lib.ListN.{length, take, drop, length-map}
use lib.Seq.{take_all, take-length, take_at, drop_at, length-take-le}
use borrow.Author.Tests.{lt-ltb, le-ltb, eqb-true, ltb-true, ltb-false}
use Rattle.std.specs.Prelude.{if◌then◌else◌}
use Rattle.arbiter.specs.Effects.{power_up}
use Rattle.arbiter.specs.Steps.{owner_byte}
use Rattle.arbiter.specs.Traces.{event_bytes, raws_in, event_count}
use Rattle.arbiter.specs.declared.Kind.TheVariants.{Pca9641}
use Rattle.arbiter.proofs.Choice.{either, split, if_true, if_false}
use Rattle.orders.specs.Orders.{orders, number_of_orders, byte_from, order_bytes}
use Rattle.orders.specs.Call.{most_scripted, script_in, in_fours, too_long, smaller, list_count, list_number}
use Rattle.orders.specs.Call.{Listed, listed_with, listed_by, buffer_by, orders_listed, orders_buffer, Front, FrontOfAll}
use Rattle.orders.specs.Walk.{reached_with, bytes_from, pour}
use Rattle.orders.specs.declared.Reached.{Reached}
use Rattle.orders.proofs.Numbers.{length_orders, at_most}
use Rattle.orders.proofs.Bytes.{bytes_are}
use Rattle.orders.proofs.Pouring.{poured_front}

-- ---- how much there is to list

length_raws : (n : ℕ) (l : List ℕ) → length (raws_in n l) ≡ n
unfolding raws_in
length_raws zero l = refl
length_raws (suc n) l = ap suc (length_raws n (drop event_bytes l))

length_bytes : (a b : List ℕ) → length (order_bytes (script_in a) (script_in b)) ≡ number_of_orders (event_count a) (event_count b)
unfolding order_bytes script_in
length_bytes a b =
    length-map (orders (raws_in (event_count a) a) (raws_in (event_count b) b)) (byte_from (power_up Pca9641))
    ∙ length_orders (raws_in (event_count a) a) (raws_in (event_count b) b)
    ∙ ap₂ number_of_orders (length_raws (event_count a) a) (length_raws (event_count b) b)

smaller_below : (x y : ℕ) → smaller x y ≤ y
smaller_below x y =
    split (ltb x y)
    (λ h. omega (arith, if_true x y h, ltb-true x y h))
    (λ h. omega (arith, if_false x y h))

-- as the library says it
pub min_smaller : (x y : ℕ) → min x y ≡ smaller x y
min_smaller x y =
    split (ltb x y)
    (λ h. let e : min x y ≡ x = omega (arith, ltb-true x y h) in e ∙ sym (if_true x y h))
    (λ h. let e : min x y ≡ y = omega (arith, ltb-false x y h) in e ∙ sym (if_false x y h))

take_smaller : (x : ℕ) (l : List ℕ) → take (smaller x (length l)) l ≡ take x l
take_smaller x l =
    split (ltb x (length l))
    (λ h. ap (λ (n : ℕ). take n l) (if_true x (length l) h))
    (λ h. ap (λ (n : ℕ). take n l) (if_false x (length l) h) ∙ take-length l ∙ sym (take_all x l (ltb-false x (length l) h)))

module _ (a b : List ℕ) (limit : ℕ) where
  abbrev all : List ℕ
  all = order_bytes (script_in a) (script_in b)

  count_below : list_count a b limit ≤ length all
  count_below = omega (arith, smaller_below limit (number_of_orders (event_count a) (event_count b)), length_bytes a b)

  take_counted : take (list_count a b limit) all ≡ take limit all
  take_counted = ap (λ (n : ℕ). take (smaller limit n) all) (sym (length_bytes a b)) ∙ take_smaller limit all

  counted_length : length (take limit all) ≡ list_count a b limit
  counted_length = ap length (sym take_counted) ∙ length-take-le (list_count a b limit) all count_below

-- ---- neither script is too long

pub not_long : (a b : List ℕ) → (too_long a || too_long b) ≡ false → (event_count a ≤ most_scripted) × (event_count b ≤ most_scripted)
not_long a b h = let f = go (too_long a) (too_long b) h in (ltb-false most_scripted (event_count a) f.0, ltb-false most_scripted (event_count b) f.1)
  where
    go : (x y : Bool) → (x || y) ≡ false → (x ≡ false) × (y ≡ false)
    go true y e = absurd (false≢true (sym e))
    go false y e = (refl, e)

-- a call that is not refused passed every test
passed : (a b : List ℕ) (limit room : ℕ) → list_number a b limit room ≡ 0 → ((too_long a || too_long b) ≡ false) × (list_count a b limit ≤ room)
unfolding list_number
passed a b limit room h =
    let f = go (in_fours a && in_fours b) (too_long a || too_long b) (ltb room (list_count a b limit)) h in
    (f.0, ltb-false room (list_count a b limit) f.1)
  where
    go : (x y z : Bool) → ◌≡◌ {A = ℕ} (if not x then 5 else if y then 6 else if z then 9 else 0) 0 → (y ≡ false) × (z ≡ false)
    go false y z e = let none : ⊥ = omega (arith, e) in absurd none
    go true true z e = let none : ⊥ = omega (arith, e) in absurd none
    go true false true e = let none : ⊥ = omega (arith, e) in absurd none
    go true false false e = (refl, refl)

-- ---- what a call leaves

module _ (a b : List ℕ) (limit : ℕ) (buffer : List ℕ) where
  -- by its number
  abbrev Leaves : Listed → List ℕ → Type 0
  Leaves r left = (r ≡ orders_listed a b limit buffer) × (left ≡ orders_buffer a b limit buffer)

  refused_by : (number : ℕ) → eqb number 0 ≡ false → list_number a b limit (length buffer) ≡ number → Leaves (listed_with number 0) buffer
  unfolding orders_listed orders_buffer
  refused_by number other h = (
    ap (listed_with number) (sym (if_false _ 0 other)) ∙ ap (λ (n : ℕ). listed_by n a b limit) (sym h),
    sym (if_false _ buffer other) ∙ ap (λ (n : ℕ). buffer_by n a b limit buffer) (sym h),
  )

  pub odd_bytes : (in_fours a && in_fours b) ≡ false → Leaves (listed_with 5 0) buffer
  unfolding list_number
  odd_bytes h = refused_by 5 refl (if_true 5 _ (ap not h))

  module _ (fours : (in_fours a && in_fours b) ≡ true) where
    pub long-script : (too_long a || too_long b) ≡ true → Leaves (listed_with 6 0) buffer
    unfolding list_number
    long-script h = refused_by 6 refl (if_false 5 _ (ap not fours) ∙ if_true 6 _ h)

    module _ (short : (too_long a || too_long b) ≡ false) where
      pub no_room : length buffer < list_count a b limit → Leaves (listed_with 9 0) buffer
      unfolding list_number
      no_room h = refused_by 9 refl (if_false 5 _ (ap not fours) ∙ if_false 6 _ short ∙ if_true 9 0 (lt-ltb _ _ h))

      accepted : list_count a b limit ≤ length buffer → list_number a b limit (length buffer) ≡ 0
      unfolding list_number
      accepted h = if_false 5 _ (ap not fours) ∙ if_false 6 _ short ∙ if_false 9 0 (le-ltb _ _ h)

      pub all_listed : (l : ℕ) (c : Reached) (left : List ℕ) (n : ℕ)
          → l ≡ list_count a b limit → l ≤ length buffer → c ≡ reached_with (power_up Pca9641) (owner_byte (power_up Pca9641))
          → (left, n) ≡ pour l (buffer, 0) (bytes_from c (script_in a) (script_in b)) → Leaves (listed_with 0 n) left
      unfolding orders_listed orders_buffer order_bytes
      all_listed l c left n e room fresh p =
          let count = list_count a b limit in
          let zero_is = accepted (omega (arith, e, room)) in
          let whole : ◌≡◌ {A = List ℕ × ℕ} (left, n) (take count (all a b limit) ++ drop count buffer, count) =
          p
          ∙ ap₂ (λ (k : ℕ) (z : Reached). pour k (buffer, 0) (bytes_from z (script_in a) (script_in b))) e fresh
          ∙ ap (pour count (buffer, 0)) (bytes_are (power_up Pca9641) (script_in a) (script_in b))
          ∙ poured_front count buffer (all a b limit) (omega (arith, e, room)) (count_below a b limit) in (
            ap (λ (z : List ℕ × ℕ). listed_with 0 z.1) whole ∙ ap (λ (k : ℕ). listed_by k a b limit) (sym zero_is),
            ap (λ (z : List ℕ × ℕ). z.0) whole
                ∙ ap (λ (q : List ℕ). q ++ drop count buffer) (take_counted a b limit)
                ∙ ap (λ (k : ℕ). buffer_by k a b limit buffer) (sym zero_is),
          )

-- ---- the front of all, and how many there can be

pub front_of_all : FrontOfAll
unfolding orders_listed orders_buffer
front_of_all a b limit buffer h =
    record {
      count = counts ∙ sym (counted_length a b limit) ∙ ap length (sym front-is);
      front = front-is;
      whole = λ enough. front-is ∙ take_all limit (all a b limit) (omega (arith, enough, length_bytes a b));
      stays =
          ap₂ drop counts after
          ∙ drop_at (take limit (all a b limit)) (drop (list_count a b limit) buffer) _ (counted_length a b limit)
          ∙ sym (ap (λ (n : ℕ). drop n buffer) counts);
    }
  where
    counts : (orders_listed a b limit buffer).count ≡ list_count a b limit
    counts = ap (λ (n : ℕ). (listed_by n a b limit).count) h

    after : orders_buffer a b limit buffer ≡ take limit (all a b limit) ++ drop (list_count a b limit) buffer
    after = ap (λ (n : ℕ). buffer_by n a b limit buffer) h

    front-is : take (orders_listed a b limit buffer).count (orders_buffer a b limit buffer) ≡ take limit (all a b limit)
    front-is = ap₂ take counts after ∙ take_at (take limit (all a b limit)) (drop (list_count a b limit) buffer) _ (counted_length a b limit)

pub listed_few : (a b : List ℕ) (limit : ℕ) (buffer : List ℕ) → (orders_listed a b limit buffer).count ≤ 924
unfolding orders_listed
listed_few a b limit buffer =
    either (λ (n : ℕ). n ≤ 924) (eqb (list_number a b limit (length buffer)) 0)
    (λ t. let f = not_long a b (passed a b limit (length buffer) (eqb-true _ 0 t)).0 in
    omega (arith, smaller_below limit (number_of_orders (event_count a) (event_count b)), at_most (event_count a) (event_count b) f.0 f.1))
    (λ t. omega arith)
