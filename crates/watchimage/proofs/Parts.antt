-- Parts of a buffer, written one after the other.
-- Assumes nothing.
use Prim.Native.Nat.{ℕ, zero, suc, ◌+◌, ◌-◌, ◌≤◌, ◌<◌}
use mathlib.Core.Path.{◌≡◌, refl, sym, ap, ap₂, ◌∙◌}
use mathlib.Core.Bool.{true, ◌&&◌}
use mathlib.Core.List.{List, [], ◌++◌, append_assoc, append-nil}
use native.Mathlib.Omega.{arith}
use lib.ListN.{length, take, drop, get_or, length-append, length-drop, drop_of_length-le}
use lib.Seq.{take_at, take_all, drop-drop, drop-append-add, length-take-le, take-length}
use borrow.Author.Tests.{le-leb}
use borrow.Rule.Slice.PartMut.{mid_of, put_mid}
use Rattle.layout.specs.Layout.{image_length}
use Rattle.watchlayout.specs.Places.{watch_length, bytes_fit}
use Rattle.watchimage.specs.Parts.{with_part}

-- one part, and the next where it ends: both together
pub joined : (at : ℕ) (p q b : List ℕ) → at + length p + length q ≤ length b
    → with_part (at + length p) q (with_part at p b) ≡ with_part at (p ++ q) b
joined at p q b h =
    let front : List ℕ = take at b ++ p in
    let rest : List ℕ = drop (at + length p) b in
    let long : length front ≡ at + length p = length-append (take at b) p ∙ ap (λ (n : ℕ). n + length p) (length-take-le at b (omega arith)) in
    let whole : with_part at p b ≡ front ++ rest = sym (append_assoc (take at b) p rest) in
    let first : take (at + length p) (with_part at p b) ≡ front = ap (take (at + length p)) whole ∙ take_at front rest (at + length p) long in
    let size : at + length (p ++ q) ≡ at + length p + length q = omega (arith, length-append p q) in
    let last : drop (at + length p + length q) (with_part at p b) ≡ drop (at + length (p ++ q)) b =
    ap (drop (at + length p + length q)) whole
    ∙ ap (λ (n : ℕ). drop (n + length q) (front ++ rest)) (sym long)
    ∙ drop-append-add front rest (length q)
    ∙ drop-drop (length q) (at + length p) b
    ∙ ap (λ (n : ℕ). drop n b) (sym size) in
    ap₂ (λ (x y : List ℕ). x ++ (q ++ y)) first last
    ∙ append_assoc (take at b) p (q ++ drop (at + length (p ++ q)) b)
    ∙ ap (λ (l : List ℕ). take at b ++ l) (sym (append_assoc p q (drop (at + length (p ++ q)) b)))

-- a part that is the whole buffer
pub all_of : (p b : List ℕ) → length p ≡ length b → with_part 0 p b ≡ p
all_of p b h =
    let end : length b ≤ 0 + length p = omega arith in
    ap (λ (l : List ℕ). p ++ l) (drop_of_length-le b end) ∙ append-nil p

-- bytes copied to what stands from a place on
pub copied_part : (at : ℕ) (p b : List ℕ) → at + length p ≤ length b
    → put_mid at (length b - at) b (take (length p) p ++ drop (length p) (mid_of at (length b - at) b)) ≡ with_part at p b
copied_part at p b h =
    let rest : length (drop at b) ≤ length b - at = omega (arith, length-drop at b) in
    let there : mid_of at (length b - at) b ≡ drop at b = take_all (length b - at) (drop at b) rest in
    let none : drop (length b - at) (drop at b) ≡ [] = drop_of_length-le (drop at b) rest in
    let written : take (length p) p ++ drop (length p) (mid_of at (length b - at) b) ≡ p ++ drop (at + length p) b =
    ap₂ (λ (x y : List ℕ). x ++ y) (take-length p) (ap (drop (length p)) there ∙ drop-drop (length p) at b) in
    ap₂ (λ (x y : List ℕ). take at b ++ (x ++ y)) written none ∙ ap (λ (l : List ℕ). take at b ++ l) (append-nil (p ++ drop (at + length p) b))

-- the image's part of a buffer
pub image_length_lem : (b : List ℕ) → length b ≡ watch_length → length (take image_length b) ≡ image_length
image_length_lem b h = length-take-le image_length b (omega arith)

-- numbers below 256 are bytes
pub bytes_fit_lem : (n at : ℕ) (b : List ℕ) → ((i : ℕ) → get_or b i 0 < 256) → bytes_fit at n b ≡ true
unfolding bytes_fit
bytes_fit_lem zero at b known = refl
bytes_fit_lem (suc n) at b known =
    let byte : get_or b at 0 < 256 = known at in
    ap₂ ◌&&◌ (le-leb (get_or b at 0) 255 (omega arith)) (bytes_fit_lem n (suc at) b known)
