-- The lines of a listing: stored piece by piece, and their lengths.
-- Assumes nothing.
use mathlib.Core.Path.{◌≡◌, refl, sym, ap, ◌∙◌}
use mathlib.Core.Bool.{Bool}
use mathlib.Core.List.{List, [], ◌∷◌, ◌++◌, append_assoc}
use Prim.Native.Nat.{ℕ, zero, suc, ◌+◌, ◌*◌, ◌/◌, ◌%◌, ◌≤◌, ◌<◌}
use native.Mathlib.Nat.{add-zero}
use native.Mathlib.Numerals.{add-one}
use native.Mathlib.Omega.{arith}
use lib.ListN.{length, drop, get_or, set}
use lib.Seq.{sets, drop-drop, get_or-drop}
use borrow.Author.Tests.{le-ltb, lt-ltb}
use Rattle.std.specs.Prelude.{if◌then◌else◌}
use Rattle.arbiter.specs.Traces.{event_bytes}
use Rattle.arbiter.specs.Listing.{newline, hex2, head_line, head_chars, line_chars}
use Rattle.text.specs.Written.{line_in, lines_in, refusal_line}
use Rattle.text.proofs.Stores.{sets_on}

-- ---- a line in pieces

pub line_stored : (l : List ℕ) (at a b c d : ℕ)
    → set (sets (sets (sets (sets l at (hex2 a)) (at + 2) (hex2 b)) (at + 4) (hex2 c)) (at + 6) (hex2 d)) (at + 8) 0x0A
    ≡ sets l at (hex2 a ++ hex2 b ++ hex2 c ++ hex2 d ++ newline)
line_stored l at a b c d =
    let l1 : List ℕ = sets l at (hex2 a) in
    let l2 : List ℕ = sets l1 (at + 2) (hex2 b) in
    sets_on (hex2 d) newline (sets l2 (at + 4) (hex2 c)) (at + 6) (at + 8) (omega arith)
    ∙ sets_on (hex2 c) (hex2 d ++ newline) l2 (at + 4) (at + 6) (omega arith)
    ∙ sets_on (hex2 b) (hex2 c ++ hex2 d ++ newline) l1 (at + 2) (at + 4) (omega arith)
    ∙ sets_on (hex2 a) (hex2 b ++ hex2 c ++ hex2 d ++ newline) l at (at + 2) refl

pub head_stored : (l : List ℕ) (a n : ℕ) → set (sets (sets (set (sets l 0 (hex2 a)) 2 0x20) 3 (hex2 (n / 256))) 5 (hex2 (n % 256))) 7 0x0A
    ≡ sets l 0 (head_line a n)
head_stored l a n = refl

-- the line of the answer at `from` reads its bytes there
pub line_at : (b : List ℕ) (from : ℕ) → line_in (drop from b) ≡ hex2 (get_or b from 0) ++ hex2 (get_or b (from + 1) 0) ++ hex2 (get_or b (from + 2) 0)
    ++ hex2 (get_or b (from + 3) 0) ++ newline
line_at b from = simp (get_or-drop, add-zero)

-- ---- lines after lines

pub lines_more : (k : ℕ) (b : List ℕ) → lines_in (k + 1) b ≡ lines_in k b ++ line_in (drop (event_bytes * k) b)
unfolding lines_in
lines_more k b = ap (λ (n : ℕ). lines_in n b) (add-one k) ∙ go k b
  where
    go : (j : ℕ) (l : List ℕ) → lines_in (suc j) l ≡ lines_in j l ++ line_in (drop (event_bytes * j) l)
    go zero l = refl
    go (suc j) l =
        let e : event_bytes + event_bytes * j ≡ event_bytes * suc j = omega arith in
        ap (λ (r : List ℕ). line_in l ++ r) (go j (drop event_bytes l))
        ∙ sym (append_assoc (line_in l) (lines_in j (drop event_bytes l)) (line_in (drop (event_bytes * j) (drop event_bytes l))))
        ∙ ap (λ (m : List ℕ). lines_in (suc j) l ++ line_in m) (drop-drop (event_bytes * j) event_bytes l ∙ ap (λ (n : ℕ). drop n l) e)

pub lines_length : (k : ℕ) (b : List ℕ) → length (lines_in k b) ≡ line_chars * k
unfolding lines_in
lines_length zero b = refl
lines_length (suc k) b = let h = lines_length k (drop event_bytes b) in omega (arith, h)

pub listed_length : (a n : ℕ) (b : List ℕ) → head_chars + line_chars * n ≡ length (head_line a n ++ lines_in n b)
listed_length a n b = let h = lines_length n b in omega (arith, h)
