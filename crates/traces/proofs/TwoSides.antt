-- The two sides in the array of the loop over events: the side of a master and its partner's, one or both of them replaced, and the lines that they show.
-- Assumes nothing.
use Prim.Native.Nat.{ℕ, zero, suc, ◌-◌, ◌%◌}
use mathlib.Core.Path.{◌≡◌, refl}
use mathlib.Core.Bool.{true, false}
use mathlib.Core.List.{List, [], ◌∷◌}
use native.Mathlib.Omega.{arith}
use lib.ListN.{length, get_or, set}
use borrow.Author.Tests.{ltb-true}
use Rattle.arbiter.specs.Words.{partner, side, device}
use Rattle.arbiter.specs.Parts.{with_side}
use Rattle.arbiter.specs.Events.{zero_or_one, master}
use Rattle.arbiter.specs.Steps.{lines_byte}
use Rattle.arbiter.specs.declared.Register.TheVariants.{Id}
use Rattle.arbiter.specs.declared.Port.TheVariants.{Rest}
use Rattle.arbiter.specs.declared.Side.{Side}
use Rattle.arbiter.specs.declared.Bus.{Bus}
use Rattle.arbiter.specs.declared.Arbitration.{Arbitration}
use Rattle.arbiter.specs.declared.Kind.{Kind}
use Rattle.arbiter.specs.declared.Device.{Device}
use Rattle.traces.specs.Sides.{lines_shown, device_of}

-- what the code would find past the end of it
abbrev pub no_side : Side
no_side =
    record {
      pointer = Id;
      rt = 0;
      contr = record { priority = false; smbusdis = false; idletimer = false; swrst = false; businit = false; busconnect = false; lockreq = false };
      ints = 0;
      mail = record { low = 0; high = 0; full = false };
      auto = false;
      port = Rest;
      mask = 0;
    }

abbrev pub side_at : List Side → ℕ → Side
side_at l n = get_or l n no_side

abbrev pub held : Kind → List Side → Bus → Arbitration → Device
held k l b a = device_of k (side_at l 0) (side_at l 1) b a

of_two : (P : List Side → Type 0) → ((s0 s1 : Side) → P (s0 ∷ s1 ∷ [])) → (l : List Side) → length l ≡ 2 → P l
of_two P f [] h = absurd (omega (arith, h))
of_two P f (s ∷ []) h = absurd (omega (arith, h))
of_two P f (s0 ∷ s1 ∷ []) h = f s0 s1
of_two P f (s0 ∷ s1 ∷ s2 ∷ l) h = absurd (omega (arith, h))

by_master : (P : ℕ → Type 0) → P 0 → P 1 → (x : ℕ) → zero_or_one x ≡ true → P x
by_master P p q zero h = p
by_master P p q (suc zero) h = q
by_master P p q (suc (suc x)) h = absurd (omega (arith, ltb-true (suc (suc x)) 2 h))

module _ (k : Kind) (b : Bus) (a : Arbitration) where
  pub side_at_lem : (l : List Side) (x : ℕ) → zero_or_one x ≡ true → side (master x) (held k l b a) ≡ side_at l (x % 2)
  side_at_lem l = by_master (λ x. side (master x) (held k l b a) ≡ side_at l (x % 2)) refl refl

  pub partner_at : (l : List Side) (x : ℕ) → zero_or_one x ≡ true → side (partner (master x)) (held k l b a) ≡ side_at l (1 - x % 2)
  partner_at l = by_master (λ x. side (partner (master x)) (held k l b a) ≡ side_at l (1 - x % 2)) refl refl

  pub set_one : (l : List Side) → length l ≡ 2 → (x : ℕ) → zero_or_one x ≡ true → (v : Side) → held k (set l (x % 2) v) b a
      ≡ with_side (master x) v (held k l b a)
  set_one l two x h v =
      of_two (λ m. held k (set m (x % 2) v) b a ≡ with_side (master x) v (held k m b a))
      (λ s0 s1. by_master (λ n. held k (set (s0 ∷ s1 ∷ []) (n % 2) v) b a ≡ with_side (master n) v (held k (s0 ∷ s1 ∷ []) b a)) refl refl x h) l two

  pub set_both : (l : List Side) → length l ≡ 2 → (x : ℕ) → zero_or_one x ≡ true → (v w : Side) → held k (set (set l (x % 2) v) (1 - x % 2) w) b a
      ≡ device (master x) v w b a (held k l b a)
  set_both l two x h v w =
      of_two (λ m. held k (set (set m (x % 2) v) (1 - x % 2) w) b a ≡ device (master x) v w b a (held k m b a))
      (λ s0 s1. by_master (λ n. held k (set (set (s0 ∷ s1 ∷ []) (n % 2) v) (1 - n % 2) w) b a ≡ device (master n) v w b a (held k (s0 ∷ s1 ∷ []) b a)) refl refl
      x h) l two

  pub set_all : (l : List Side) → length l ≡ 2 → (v w : Side) → held k (set (set l 0 v) 1 w) b a ≡ device_of k v w b a
  set_all l two v w = of_two (λ m. held k (set (set m 0 v) 1 w) b a ≡ device_of k v w b a) (λ s0 s1. refl) l two

pub lines_of : (k : Kind) (s0 s1 : Side) (b : Bus) (a : Arbitration) → lines_shown s0 s1 b ≡ lines_byte (device_of k s0 s1 b a)
unfolding lines_byte
lines_of k s0 s1 b a = refl
