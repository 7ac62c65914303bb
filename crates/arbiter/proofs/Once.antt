-- A promise that says what the result is leaves room for one result: two that meet it on the same input are equal. Each crate's
-- proofs/Unique.antt cites this of the contracts of its public calls.
-- Assumes nothing.
use mathlib.Core.Path.{◌≡◌, sym, ◌∙◌}

-- a contract as the check has it: lifetimes, arguments, result, and what the lent places hold at the end
module _ {ℓ₁ ℓ₂ ℓ₃ ℓ₄} {K : Type ℓ₁} {A : K → Type ℓ₂} {R : K → Type ℓ₃} {S : K → Type ℓ₄} where
  abbrev pub OneResult : ((κ : K) → A κ → R κ → S κ → Type 0) → Type (ℓ₁ ⊔ ℓ₂ ⊔ ℓ₃ ⊔ ℓ₄)
  OneResult Post = (κ : K) (a : A κ) (x y : R κ) (s t : S κ) → Post κ a x s → Post κ a y t → x ≡ y

  -- and one thing that is left in a lent place, as `left` reads it
  abbrev pub OneLeft : {B : Type 0} → ((κ : K) → S κ → B) → ((κ : K) → A κ → R κ → S κ → Type 0) → Type (ℓ₁ ⊔ ℓ₂ ⊔ ℓ₃ ⊔ ℓ₄)
  OneLeft left Post = (κ : K) (a : A κ) (x y : R κ) (s t : S κ) → Post κ a x s → Post κ a y t → (x ≡ y) × (left κ s ≡ left κ t)

pub once : {A : Type 0} {v x y : A} → x ≡ v → y ≡ v → x ≡ y
once p q = p ∙ sym q
