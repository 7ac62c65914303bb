-- What is known of a row once it has been looked at tells whom an event reaches.
-- Assumes nothing.
use Prim.Native.Nat.{ℕ, zero, suc, ◌+◌, ◌-◌, ◌<◌, ◌≤◌}
use native.Mathlib.Omega.{arith}
use mathlib.Core.Path.{◌≡◌, refl, sym, ap, ◌∙◌, subst}
use mathlib.Core.Bool.{Bool, true, false, ◌||◌}
use mathlib.Core.List.{List, [], ◌∷◌, ◌++◌}
use lib.Dec.{eqb, ltb}
use lib.ListN.{length, get_or, set, take, length-set, length-append}
use lib.Seq.{take-suc, take-length, length-take-le}
use borrow.Author.Tests.{eqb-true, eqb-false, ltb-true, ltb-false, eq-eqb, ne_eqb, lt-ltb, le-ltb}
use Rattle.std.specs.Prelude.{Option, Some, None, Result, Ok, Err, if◌then◌else◌}
use Rattle.std.specs.List.{list_any}
use Rattle.arbiter.specs.declared.Raw.{Raw}
use Rattle.arbiter.proofs.Choice.{split, if_true, if_false}
use Rattle.shelf.specs.declared.Record.{Record}
use Rattle.shelf.specs.declared.Naming.{Naming}
use Rattle.shelf.specs.declared.Naming.TheVariants.{AnAddress, APlace, Nothing}
use Rattle.shelf.specs.declared.Fault.{Fault}
use Rattle.shelf.specs.declared.Fault.TheVariants.{EmptyRow, TooMany, EqualAddresses, NotInRow}
use Rattle.shelf.specs.declared.Reach.{Reach}
use Rattle.shelf.specs.declared.Reach.TheVariants.{At, Everyone}
use Rattle.shelf.specs.Shelf.{addresses_of, record_at, naming, is_in, two_equal, further, place_of, reach_by, reach_of, reaches}
use Rattle.shelf.proofs.Rows.{addresses_length}
use Rattle.routing.specs.declared.Seen.{Seen}
use Rattle.routing.specs.Deciding.{start_of, among_first, first_at, see_of, seen_to, seen_of, place_in, place_below, named_in, reach_for, reach_in}

-- ---- one address more at the end

eqb_swap : (a b : ℕ) → eqb a b ≡ eqb b a
eqb_swap a b = split (eqb a b)
    (λ q. q ∙ sym (eq-eqb b a (sym (eqb-true a b q))))
    (λ q. q ∙ sym (ne_eqb b a (λ e. eqb-false a b q (sym e))))

in_last : (x a : ℕ) (p : List ℕ) → is_in x (p ++ a ∷ []) ≡ is_in x p || eqb a x
in_last x a [] = or_none (eqb a x)
  where
    or_none : (b : Bool) → b || false ≡ b
    or_none true = refl
    or_none false = refl
in_last x a (b ∷ p) = ap (λ (z : Bool). eqb b x || z) (in_last x a p) ∙ one_by_one (eqb b x) (is_in x p) (eqb a x)
  where
    one_by_one : (u v w : Bool) → u || (v || w) ≡ (u || v) || w
    one_by_one true v w = refl
    one_by_one false v w = refl

pub among_in : (a : ℕ) (l : List ℕ) (n : ℕ) → n ≤ length l → among_first a l n ≡ is_in a (take n l)
unfolding among_first
among_in a l zero h = refl
among_in a l (suc n) h =
    ap (λ (b : Bool). b || eqb (get_or l n 0) a) (among_in a l n (omega arith))
    ∙ sym (in_last a (get_or l n 0) (take n l)) ∙ ap (λ (q : List ℕ). is_in a q) (sym (take-suc l n 0 h))

-- as the library looks for it
pub any_in : (a : ℕ) (p : List ℕ) → list_any (λ y. eqb y a) p ≡ is_in a p
any_in a [] = refl
any_in a (b ∷ p) = ap (λ (z : Bool). eqb b a || z) (any_in a p)

equal_last : (a : ℕ) (p : List ℕ) → two_equal (p ++ a ∷ []) ≡ two_equal p || is_in a p
equal_last a [] = refl
equal_last a (b ∷ p) =
    ap (λ (z : Bool). z || two_equal (p ++ a ∷ [])) (in_last b a p)
    ∙ ap (λ (z : Bool). (is_in b p || eqb a b) || z) (equal_last a p)
    ∙ ap (λ (z : Bool). (is_in b p || z) || (two_equal p || is_in a p)) (eqb_swap a b)
    ∙ crossed (is_in b p) (eqb b a) (two_equal p) (is_in a p)
  where
    crossed : (u v w x : Bool) → (u || v) || (w || x) ≡ (u || w) || (v || x)
    crossed true v w x = refl
    crossed false true true x = refl
    crossed false true false x = refl
    crossed false false w x = refl

-- one place more, of what is reached so far
abbrev or_here : Result Reach Fault → Bool → ℕ → Result Reach Fault
or_here (Ok (At i)) hit n = Ok (At i)
or_here (Ok Everyone) hit n = Ok Everyone
or_here (Err f) hit n = if hit then Ok (At n) else Err f

found_here : (place : Option ℕ) (hit : Bool) (n : ℕ) → place_in (first_at place hit n) ≡ or_here (place_in place) hit n
unfolding first_at
found_here (Some i) hit n = refl
found_here None true n = refl
found_here None false n = refl

further_last : (w : Result Reach Fault) (hit : Bool) (n : ℕ) → further (or_here w hit n) ≡ or_here (further w) hit (suc n)
further_last (Ok (At i)) hit n = refl
further_last (Ok Everyone) hit n = refl
further_last (Err f) true n = refl
further_last (Err f) false n = refl

place_last : (name a : ℕ) (p : List ℕ) → place_of name (p ++ a ∷ []) ≡ or_here (place_of name p) (eqb a name) (length p)
place_last name a [] = refl
place_last name a (b ∷ p) = split (eqb b name)
    (λ q. if_true (Ok (At 0)) (further (place_of name (p ++ a ∷ []))) q
    ∙ ap (λ (w : Result Reach Fault). or_here w (eqb a name) (suc (length p))) (sym (if_true (Ok (At 0)) (further (place_of name p)) q)))
    (λ q. if_false (Ok (At 0)) (further (place_of name (p ++ a ∷ []))) q
    ∙ ap further (place_last name a p) ∙ further_last (place_of name p) (eqb a name) (length p)
    ∙ ap (λ (w : Result Reach Fault). or_here w (eqb a name) (suc (length p))) (sym (if_false (Ok (At 0)) (further (place_of name p)) q)))

-- ---- what is known after the addresses p, of which there are no more than 16

pub record Tells (name : ℕ) (s : Seen) (p : List ℕ) : Type 0 where
  pub named : s.name ≡ name
  pub counted : s.count ≡ length p
  pub kept : take (length p) s.addresses ≡ p
  pub room : length s.addresses ≡ 16
  pub equals : s.equal ≡ two_equal p
  pub placed : place_in s.place ≡ place_of name p

tells_start : (name : ℕ) → Tells name (start_of name) []
unfolding start_of
tells_start name = record { named = refl; counted = refl; kept = refl; room = refl; equals = refl; placed = refl }

-- the array with the address stored at its place
stored : (l p : List ℕ) (a : ℕ) → take (length p) l ≡ p → length p < length l → take (length (p ++ a ∷ [])) (set l (length p) a) ≡ p ++ a ∷ []
stored l [] a e h = first l h
  where
    first : (l : List ℕ) → 0 < length l → take 1 (set l 0 a) ≡ a ∷ []
    first [] h = absurd (omega arith)
    first (x ∷ l) h = refl
stored [] (b ∷ p) a e h = absurd (omega arith)
stored (x ∷ l) (b ∷ p) a e h =
    ap (λ (y : ℕ). y ∷ take (length (p ++ a ∷ [])) (set l (length p) a)) (ap (head_or x) e)
    ∙ ap (λ (r : List ℕ). b ∷ r) (stored l p a (ap tail e) (omega arith))
  where
    head_or : ℕ → List ℕ → ℕ
    head_or d [] = d
    head_or d (y ∷ ys) = y

    tail : List ℕ → List ℕ
    tail [] = []
    tail (y ∷ ys) = ys

tells_next : (name a : ℕ) (s : Seen) (p : List ℕ) → Tells name s p → length p < 16 → Tells name (see_of s a) (p ++ a ∷ [])
unfolding see_of
tells_next name a s p t h =
    subst (λ (b : Bool). Tells name (if b then more else full) (p ++ a ∷ [])) (sym (lt-ltb s.count 16 (subst (λ (n : ℕ). n < 16) (sym t.counted) h)))
    (record {
      named = t.named;
      counted = ap (λ (n : ℕ). n + 1) t.counted ∙ sym (length-append p (a ∷ []));
      kept =
          ap (λ (n : ℕ). take (length (p ++ a ∷ [])) (set s.addresses n a)) t.counted
          ∙ stored s.addresses p a t.kept (subst (λ (n : ℕ). length p < n) (sym t.room) h);
      room = length-set s.addresses s.count a ∙ t.room;
      equals =
          ap (λ (n : ℕ). s.equal || among_first a s.addresses n) t.counted
          ∙ ap (λ (b : Bool). s.equal || b) (among_in a s.addresses (length p) (subst (λ (n : ℕ). length p ≤ n) (sym t.room) (omega (arith, h))))
          ∙ ap (λ (q : List ℕ). s.equal || is_in a q) t.kept
          ∙ ap (λ (b : Bool). b || is_in a p) t.equals ∙ sym (equal_last a p);
      placed =
          found_here s.place (eqb a s.name) s.count
          ∙ ap (λ (w : Result Reach Fault). or_here w (eqb a s.name) s.count) t.placed
          ∙ ap (λ (k : ℕ). or_here (place_of name p) (eqb a k) s.count) t.named
          ∙ ap (λ (n : ℕ). or_here (place_of name p) (eqb a name) n) t.counted ∙ sym (place_last name a p);
    })
  where
    more : Seen
    more = record {
      name = s.name;
      count = s.count + 1;
      equal = s.equal || among_first a s.addresses s.count;
      place = first_at s.place (eqb a s.name) s.count;
      addresses = set s.addresses s.count a;
    }

    full : Seen
    full = record { name = s.name; count = 17; equal = s.equal; place = s.place; addresses = s.addresses }

address_there : (row : List Record) (i : ℕ) → i < length row → (record_at row i).address ≡ get_or (addresses_of row) i 0
address_there [] i h = absurd (omega arith)
address_there (c ∷ row) zero h = refl
address_there (c ∷ row) (suc i) h = address_there row i (omega arith)

tells_to : (i name : ℕ) (row : List Record) → i ≤ length row → i ≤ 16 → Tells name (seen_to i name row) (take i (addresses_of row))
unfolding seen_to
tells_to zero name row h k = tells_start name
tells_to (suc i) name row h k =
    subst (λ (q : List ℕ). Tells name (see_of (seen_to i name row) (record_at row i).address) q)
    (ap (λ (a : ℕ). take i roll ++ a ∷ []) (address_there row i (omega arith)) ∙ sym (take-suc roll i 0 within))
    (tells_next name (record_at row i).address (seen_to i name row) (take i roll) (tells_to i name row (omega arith) (omega arith))
    (subst (λ (n : ℕ). n < 16) (sym (length-take-le i roll (omega (arith, within)))) (omega arith)))
  where
    roll : List ℕ
    roll = addresses_of row

    within : i < length (addresses_of row)
    within = subst (λ (n : ℕ). i < n) (sym (addresses_length row)) (omega arith)

-- ---- more than 16

full_stays : (s : Seen) (a : ℕ) → 16 ≤ s.count → (see_of s a).count ≡ 17
unfolding see_of
full_stays s a h = ap (λ (b : Bool). (counts b).count) (le-ltb s.count 16 h)
  where
    counts : Bool → Seen
    counts b =
        if b
        then record {
          name = s.name;
          count = s.count + 1;
          equal = s.equal || among_first a s.addresses s.count;
          place = first_at s.place (eqb a s.name) s.count;
          addresses = set s.addresses s.count a;
        }
        else record { name = s.name; count = 17; equal = s.equal; place = s.place; addresses = s.addresses }

sixteen : (name : ℕ) (row : List Record) → 16 ≤ length row → (seen_to 16 name row).count ≡ 16
sixteen name row h =
    (tells_to 16 name row h (omega arith)).counted
    ∙ length-take-le 16 (addresses_of row) (subst (λ (n : ℕ). 16 ≤ n) (sym (addresses_length row)) h)

-- k records more than 17
above : (k name : ℕ) (row : List Record) → 16 ≤ length row → (seen_to (k + 17) name row).count ≡ 17
unfolding seen_to
above zero name row h = full_stays (seen_to 16 name row) (record_at row 16).address (let e = sixteen name row h in omega arith)
above (suc k) name row h =
    ap (λ (n : ℕ). (seen_to n name row).count) (next k)
    ∙ full_stays (seen_to (k + 17) name row) (record_at row (k + 17)).address (let e = above k name row h in omega arith)
  where
    next : (k : ℕ) → suc k + 17 ≡ suc (k + 17)
    next k = omega arith

-- ---- whom an event reaches

named_is : (n : Naming) (name : ℕ) (s : Seen) (p : List ℕ) → Tells name s p → named_in n s ≡ reach_by n name p
unfolding named_in place_below
named_is AnAddress name s p t = t.placed
named_is APlace name s p t =
    ap (λ (k : ℕ). if ltb k s.count then Ok (At k) else Err NotInRow) t.named
    ∙ ap (λ (n : ℕ). if ltb name n then Ok (At name) else Err NotInRow) t.counted
named_is Nothing name s p t = refl

tells_reach : (n : Naming) (name : ℕ) (s : Seen) (p : List ℕ) → Tells name s p → reach_for s n ≡ reach_of n name p
unfolding reach_for
tells_reach n name s p t =
    ap (λ (k : ℕ). if eqb k 0 then Err EmptyRow else if ltb 16 k then Err TooMany else if s.equal then Err EqualAddresses else named_in n s)
    t.counted
    ∙ ap (λ (b : Bool). past (if b then Err EqualAddresses else named_in n s)) t.equals
    ∙ ap (λ (w : Result Reach Fault). past (if two_equal p then Err EqualAddresses else w)) (named_is n name s p t)
  where
    past : Result Reach Fault → Result Reach Fault
    past w = if eqb (length p) 0 then Err EmptyRow else if ltb 16 (length p) then Err TooMany else w

too_many : (n : Naming) (name : ℕ) (s : Seen) (p : List ℕ) → s.count ≡ 17 → 16 < length p → reach_for s n ≡ reach_of n name p
unfolding reach_for
too_many n name s p e h =
    ap (λ (k : ℕ). if eqb k 0 then Err EmptyRow else if ltb 16 k then Err TooMany else if s.equal then Err EqualAddresses else named_in n s) e
    ∙ sym (if_false (Err EmptyRow) _ (ne_eqb (length p) 0 (λ z. omega arith)) ∙ if_true (Err TooMany) _ (lt-ltb 16 (length p) h))

pub reach_for_is : (n : Naming) (name : ℕ) (row : List Record) → reach_for (seen_of name row) n ≡ reach_of n name (addresses_of row)
unfolding seen_of
reach_for_is n name row = split (ltb 16 (length row))
    (λ q. let h : 16 < length row = ltb-true 16 (length row) q in
    let e : length row ≡ (length row - 17) + 17 = omega arith in
    too_many n name (seen_to (length row) name row) (addresses_of row)
    (ap (λ (k : ℕ). (seen_to k name row).count) e ∙ above (length row - 17) name row (omega arith))
    (subst (λ (k : ℕ). 16 < k) (sym (addresses_length row)) h))
    (λ q. tells_reach n name (seen_to (length row) name row) (addresses_of row)
    (subst (λ (p : List ℕ). Tells name (seen_to (length row) name row) p)
    (ap (λ (k : ℕ). take k (addresses_of row)) (sym (addresses_length row)) ∙ take-length (addresses_of row))
    (tells_to (length row) name row (omega arith) (ltb-false 16 (length row) q))))

pub reach_is : (name : ℕ) (r : Raw) (row : List Record) → reach_in (seen_of name row) r.kind ≡ reaches (addresses_of row) name r
unfolding reach_in reaches
reach_is name r row = reach_for_is (naming r.kind) name row

-- how many there are, where they are not too many
pub count_is : (name : ℕ) (row : List Record) → length row ≤ 16 → (seen_of name row).count ≡ length row
unfolding seen_of
count_is name row h =
    (tells_to (length row) name row (omega arith) h).counted
    ∙ length-take-le (length row) (addresses_of row) (subst (λ (n : ℕ). length row ≤ n) (sym (addresses_length row)) (omega arith))

-- what is known of the first i of them, where they are not too many: the name, and that there are i
pub seen_at : (i name : ℕ) (row : List Record) → i ≤ length row → i ≤ 16 → ((seen_to i name row).name ≡ name) × ((seen_to i name row).count ≡ i)
seen_at i name row h k =
    let t = tells_to i name row h k in
    (t.named, t.counted ∙ length-take-le i (addresses_of row) (subst (λ (n : ℕ). i ≤ n) (sym (addresses_length row)) h))
