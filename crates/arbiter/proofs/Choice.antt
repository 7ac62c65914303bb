-- Proofs by a test and by the master: a choice has what both of its branches have, and an event of one of the two masters is m's or not.
-- Assumes nothing.
use mathlib.Core.Path.{◌≡◌, refl, sym, ap, ◌∙◌}
use mathlib.Core.Bool.{Bool, true, false, not, ◌||◌, not-not, true≢false, false≢true}
use native.Mathlib.Omega.{arith}
use Rattle.arbiter.specs.Types.{ℕ, suc, Master, Zero, One, Ground, Turn, Nobody, Claims, Owns, Side, Device}
use Rattle.std.specs.Prelude.{if◌then◌else◌}
use Rattle.arbiter.specs.Words.{partner, same_master, of, side}
use Rattle.arbiter.specs.State.{owns_turn}

-- ---- tests

-- What each branch has under the test's answer, the choice has.
pub either : {A : Type 0} (P : A → Type 0) (b : Bool) {x y : A} → (b ≡ true → P x) → (b ≡ false → P y) → P (if b then x else y)
either P true f g = f refl
either P false f g = g refl

-- What follows from either answer of a test, follows.
pub split : {A : Type 0} (b : Bool) → (b ≡ true → A) → (b ≡ false → A) → A
split true f g = f refl
split false f g = g refl

-- A test whose answer is known makes the choice.
pub if_true : {A : Type 0} {b : Bool} (x y : A) → b ≡ true → (if b then x else y) ≡ x
if_true x y h = ap (λ (b : Bool). if b then x else y) h

pub if_false : {A : Type 0} {b : Bool} (x y : A) → b ≡ false → (if b then x else y) ≡ y
if_false x y h = ap (λ (b : Bool). if b then x else y) h

-- A number of 0 is not that of a test, which is above 0: the test has failed, and what comes after it gives the number.
pub passed : (b : Bool) (k y : ℕ) → (if b then suc k else y) ≡ 0 → (b ≡ false) × (y ≡ 0)
passed true k y h = absurd (omega arith)
passed false k y h = (refl, h)

-- Where one or the other does not hold, neither does.
pub neither : (a b : Bool) → a || b ≡ false → (a ≡ false) × (b ≡ false)
neither true b h = absurd (true≢false h)
neither false b h = (refl, h)

-- What is not true is false.
pub not_true : (b : Bool) → not b ≡ true → b ≡ false
not_true b h = sym (not-not b) ∙ ap not h

-- ---- masters

-- Each master is itself, not its partner, and nobody else.
pub same_self : (m : Master) → same_master m m ≡ true
same_self Zero = refl
same_self One = refl

pub same_not : (m : Master) → same_master m (partner m) ≡ false
same_not Zero = refl
same_not One = refl

pub same_eq : (m k : Master) → same_master m k ≡ true → k ≡ m
same_eq Zero Zero h = refl
same_eq Zero One h = absurd (false≢true h)
same_eq One Zero h = absurd (false≢true h)
same_eq One One h = refl

-- m owns exactly if the turn is its own, on whatever ground it was won.
pub owns_turn_lem : (m : Master) (t : Turn) → owns_turn m t ≡ true → (g : Ground) × (t ≡ Owns m g)
owns_turn_lem m Nobody h = absurd (false≢true h)
owns_turn_lem m (Claims k g) h = absurd (false≢true h)
owns_turn_lem m (Owns k g) h = (g, ap (λ (j : Master). Owns j g) (same_eq m k h))

pub turn_owns : (m : Master) {g : Ground} (t : Turn) → t ≡ Owns m g → owns_turn m t ≡ true
turn_owns m t h = ap (owns_turn m) h ∙ same_self m

-- What holds of k's side and of its partner's, before and after k's event, holds of m's.
pub of_either : (P : Master → Bool → Side → Side → Type 0) (m k : Master) (d : Device) (s p : Side)
    → P k true (side k d) s → P (partner k) false (side (partner k) d) p → P m (same_master m k) (side m d) (of m (of k s p) (of k p s))
of_either P Zero Zero d s p mine other = mine
of_either P Zero One d s p mine other = other
of_either P One Zero d s p mine other = other
of_either P One One d s p mine other = mine
