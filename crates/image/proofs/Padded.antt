-- A short buffer and the same with 0 after it are read as one device, and so are a long one and its first 38 bytes.
-- Assumes nothing.
use Prim.Native.Nat.{ℕ, zero, suc, ◌<◌, ◌/◌}
use mathlib.Core.Path.{◌≡◌, refl, sym, ap, ◌∙◌}
use mathlib.Core.List.{List, [], ◌∷◌, ◌++◌}
use native.Mathlib.Omega.{arith}
use lib.ListN.{length, take, drop, replicate, get_or}
use lib.Seq.{get_or-take, take-length}
use Rattle.std.specs.Simd.{first_chunks}
use Rattle.arbiter.specs.Traces.{byte_at}
use Rattle.std.specs.Prelude.{Bool, if◌then◌else◌}
use Rattle.layout.specs.Layout.{side_in, bus_in, arb_in, device_in, image_in_range}
use Rattle.layout.specs.Images.{image_number}

-- n times 0
abbrev pub none : ℕ → List ℕ
none n = replicate n 0

zeros : (n i : ℕ) → byte_at i (none n) ≡ byte_at i []
zeros zero i = refl
zeros (suc n) zero = refl
zeros (suc n) (suc i) = zeros n i

-- each byte of a buffer that is followed by the rest of n times 0
followed : (b : List ℕ) (n i : ℕ) → byte_at i (b ++ drop (length b) (none n)) ≡ byte_at i b
followed [] n i = zeros n i
followed (x ∷ b) n zero = refl
followed (x ∷ b) zero (suc i) = ended b i
  where
    ended : (l : List ℕ) (j : ℕ) → byte_at j (l ++ []) ≡ byte_at j l
    ended [] j = refl
    ended (y ∷ l) zero = refl
    ended (y ∷ l) (suc j) = ended l j
followed (x ∷ b) (suc n) (suc i) = followed b n i

-- a device is read off the first 38 bytes of a buffer alone
same_device : (l m : List ℕ) → ((i : ℕ) → i < 38 → byte_at i l ≡ byte_at i m) → device_in l ≡ device_in m
unfolding device_in side_in bus_in arb_in
same_device l m h =
    simp (
      h 0 (omega arith),
      h 1 (omega arith),
      h 2 (omega arith),
      h 3 (omega arith),
      h 4 (omega arith),
      h 5 (omega arith),
      h 6 (omega arith),
      h 7 (omega arith),
      h 8 (omega arith),
      h 9 (omega arith),
      h 10 (omega arith),
      h 11 (omega arith),
      h 12 (omega arith),
      h 13 (omega arith),
      h 14 (omega arith),
      h 15 (omega arith),
      h 16 (omega arith),
      h 17 (omega arith),
      h 18 (omega arith),
      h 19 (omega arith),
      h 20 (omega arith),
      h 21 (omega arith),
      h 22 (omega arith),
      h 23 (omega arith),
      h 24 (omega arith),
      h 25 (omega arith),
      h 26 (omega arith),
      h 27 (omega arith),
      h 28 (omega arith),
      h 29 (omega arith),
      h 30 (omega arith),
      h 31 (omega arith),
      h 32 (omega arith),
      h 33 (omega arith),
      h 34 (omega arith),
      h 35 (omega arith),
      h 36 (omega arith),
      h 37 (omega arith),
    )

pub padded : (b : List ℕ) (n : ℕ) → device_in (b ++ drop (length b) (none n)) ≡ device_in b
padded b n = same_device (b ++ drop (length b) (none n)) b (λ i p. followed b n i)

-- and so off the image that a longer buffer begins with
pub begun : (b : List ℕ) → device_in (take 38 b) ≡ device_in b
begun b = same_device (take 38 b) b (λ i p. get_or-take 38 b i 0 p)

-- a buffer of 38 bytes begins with itself
whole : (b : List ℕ) → length b ≡ 38 → take 38 b ≡ b
whole b e = ap (λ (n : ℕ). take n b) (sym e) ∙ take-length b

-- of 38 bytes there is one chunk, and it is these bytes
pub only_chunk : (xs : List ℕ) → length xs ≡ 38 → get_or (first_chunks 38 (length xs / 38) xs) 0 [] ≡ xs
only_chunk xs e = ap (λ (n : ℕ). get_or (first_chunks 38 (n / 38) xs) 0 []) e ∙ whole xs e

-- and the number of a buffer of that length goes by the ranges of what it begins with
pub number_of_front : (b front : List ℕ) (good : Bool) → length b ≡ 38 → front ≡ take 38 b → good ≡ image_in_range front
    → (if good then 0 else 16) ≡ image_number b
unfolding image_number
number_of_front b front good e f r = rw (e, r ∙ ap image_in_range (f ∙ whole b e)) refl
