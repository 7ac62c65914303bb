-- What is read into the rest of a buffer stands behind what was there.
-- Assumes nothing.
use Rattle.std.proofs.Common.{ℕ, ◌≤◌, ◌+◌, ◌≡◌, sym, ap, ◌∙◌, List, ◌++◌, length, take}
use Rattle.std.specs.declared.option.Option.{Option}
use Rattle.std.specs.Io.KnownBytes.{Consumes}
use Rattle.std.proofs.Math.Seq.{take-append-add}
use Rattle.std.proofs.lemmas.List.{take-append-le, length-take-le}
use Rattle.std.proofs.KnownBytes.{Consumes-trans}
use borrow.Rule.Slice.PartMut.{put_mid, post_of}

pub take_filled : (d m n : ℕ) (xs ys : List ℕ) → d ≤ length xs → n ≤ length ys → take (d + n) (put_mid d m xs ys) ≡ take d xs ++ take n ys
take_filled d m n xs ys h k =
    ap (λ (i : ℕ). take (i + n) (put_mid d m xs ys)) (sym (length-take-le d xs h)) ∙ take-append-add (take d xs) (ys ++ post_of d m xs) n
    ∙ ap (λ (l : List ℕ). take d xs ++ l) (take-append-le n ys (post_of d m xs) k)

pub filled : (a b c : Option (List ℕ)) (d m n : ℕ) (xs ys : List ℕ) → d ≤ length xs → n ≤ length ys → Consumes a b (take d xs) → Consumes b c (take n ys)
    → Consumes a c (take (d + n) (put_mid d m xs ys))
filled a b c d m n xs ys h k p q = rw (take_filled d m n xs ys h k) (Consumes-trans a b c (take d xs) (take n ys) p q)
