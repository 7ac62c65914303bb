-- One turn of the walk through a chunk, and the whole walk.
-- Assumes nothing.
use Prim.Native.Nat.{ℕ, ◌+◌, ◌-◌, ◌≤◌, ◌<◌, suc}
use mathlib.Core.Path.{◌≡◌, refl, sym, ap, subst, ◌∙◌}
use mathlib.Core.Bool.{Bool, true, false}
use mathlib.Core.List.{List, [], ◌∷◌, ◌++◌}
use native.Mathlib.Omega.{arith}
use lib.ListN.{length, get_or, take, drop, length-drop, take-append-drop}
use lib.Seq.{drop-cons, drop-drop, take-add, length-take-le}
use Rattle.std.specs.Prelude.{if◌then◌else◌}
use Rattle.watch.specs.declared.Watcher.{Watcher}
use Rattle.watch.specs.Stream.{watched_at, watched}
use Rattle.watch.specs.Told.{tells, taken, listened}
use Rattle.watch.proofs.Chunks.{chunks_alike}
use Rattle.watching.specs.Resting.{are_all, is_ready, rested}
use Rattle.watching.specs.Turns.{turned, goes_on}
use Rattle.watching.proofs.Resting.{Ready, ready, still_all, taken_all}

-- ---- one sample

module _ (samples : List ℕ) (i : ℕ) (w : Watcher) (h : i < length samples) where
  one_there : drop i samples ≡ get_or samples i 0 ∷ drop (i + 1) samples
  one_there = let next : suc i ≡ i + 1 = omega arith in drop-cons samples i 0 h ∙ ap (λ (n : ℕ). get_or samples i 0 ∷ drop n samples) next

  pub turn_one : turned samples i (i + 1) w ≡ watched_at (get_or samples i 0) w
  unfolding watched
  turn_one = let one : i + 1 - i ≡ 1 = omega arith in (λ j. watched (take (one j) (one_there j)) w)

  pub one_goes : goes_on samples i (i + 1) w (tells w.tally (watched_at (get_or samples i 0) w).tally) ≡ taken (drop i samples) w
  unfolding taken
  one_goes =
      let one : i + 1 - i ≡ 1 = omega arith in
      let told : Bool = tells w.tally (watched_at (get_or samples i 0) w).tally in
      (λ j. if told then one j else one j + taken (drop (i + 1) samples) (turn_one j)) ∙ sym (ap (λ (l : List ℕ). taken l w) one_there)

-- ---- several that repeat the one before

module _ (samples : List ℕ) (i n : ℕ) (w : Watcher) (some : 0 < n) (h : i + n ≤ length samples) (r : is_ready w.settings w.ear n ≡ true)
    (a : are_all w.ear.before (take n (drop i samples)) ≡ true) where
  part_length : length (take n (drop i samples)) ≡ n
  part_length = length-take-le n (drop i samples) (omega (arith, length-drop-of samples i))
    where
      length-drop-of : (l : List ℕ) (k : ℕ) → length (drop k l) ≡ length l - k
      length-drop-of l k = length-drop k l

  still_part : (l : List ℕ) → length l ≡ n → are_all w.ear.before l ≡ true → (zs : List ℕ)
      → (watched l w ≡ rested n w) × (taken (l ++ zs) w ≡ n + taken zs (rested n w))
  still_part [] e b zs = absurd (let none : 0 ≡ n = e in omega arith)
  still_part (y ∷ ys) e b zs =
      let q : Ready w.settings w.ear (length (y ∷ ys)) = subst (λ (k : ℕ). Ready w.settings w.ear k) (sym e) (ready w.settings w.ear n r) in (
        still_all ys y w q b ∙ ap (λ (k : ℕ). rested k w) e,
        taken_all ys y zs w q b ∙ ap (λ (k : ℕ). k + taken zs (rested k w)) e,
      )

  pub turn_still : rested n w ≡ turned samples i (i + n) w
  turn_still =
      let so : i + n - i ≡ n = omega arith in
      sym (ap (λ (k : ℕ). watched (take k (drop i samples)) w) so ∙ (still_part (take n (drop i samples)) part_length a []).0)

  pub still_goes : goes_on samples i (i + n) w false ≡ taken (drop i samples) w
  still_goes =
      let so : i + n - i ≡ n = omega arith in
      let rest = (still_part (take n (drop i samples)) part_length a (drop n (drop i samples))).1 in
      (λ j. so j + taken (drop (i + n) samples) (sym turn_still j))
      ∙ ap (λ (l : List ℕ). n + taken l (rested n w)) (sym (drop-drop n i samples))
      ∙ sym (sym (ap (λ (l : List ℕ). taken l w) (take-append-drop n (drop i samples))) ∙ rest)

-- ---- the whole walk: so far all samples up to i were heard, and what is taken is known from there

module _ (samples : List ℕ) (w : Watcher) (i j : ℕ) (v : Watcher) (so_far : v ≡ watched (take i samples) w) (on : i < j) where
  pub turned_on : turned samples i j v ≡ watched (take j samples) w
  turned_on =
      let all : i + (j - i) ≡ j = omega arith in
      ap (λ (u : Watcher). watched (take (j - i) (drop i samples)) u) so_far
      ∙ sym (chunks_alike (take i samples) (take (j - i) (drop i samples)) w)
      ∙ ap (λ (l : List ℕ). watched l w) (sym (take-add i (j - i) samples))
      ∙ ap (λ (k : ℕ). watched (take k samples) w) all

  pub taken_on : (told : Bool) (u : Watcher) → u ≡ turned samples i j v → taken samples w ≡ i + taken (drop i samples) v
      → goes_on samples i j v told ≡ taken (drop i samples) v → taken samples w ≡ (if told then j else j + taken (drop j samples) u)
  taken_on true u p t g = let all : i + (j - i) ≡ j = omega arith in t ∙ ap (λ (n : ℕ). i + n) (sym g) ∙ all
  taken_on false u p t g =
      let rest : ℕ = taken (drop j samples) (turned samples i j v) in
      let all : i + (j - i + rest) ≡ j + rest = omega arith in
      t ∙ ap (λ (n : ℕ). i + n) (sym g) ∙ all ∙ ap (λ (x : Watcher). j + taken (drop j samples) x) (sym p)

-- ---- where the walk ends

none_left : (l : List ℕ) (w : Watcher) → length l ≡ 0 → taken l w ≡ 0
unfolding taken
none_left [] w h = refl
none_left (x ∷ l) w h = absurd (let some : suc (length l) ≡ 0 = h in omega arith)

module _ (samples : List ℕ) (w v : Watcher) (at : ℕ) (so_far : v ≡ watched (take at samples) w) (inside : at ≤ length samples) where
  pub ended : at ≡ taken samples w → (v ≡ listened samples w) × (at ≡ taken samples w)
  ended p = (so_far ∙ ap (λ (n : ℕ). watched (take n samples) w) p, p)

  pub walked : taken samples w ≡ at + taken (drop at samples) v → length samples ≤ at → (v ≡ listened samples w) × (at ≡ taken samples w)
  walked t past =
      let none = none_left (drop at samples) v (length-drop at samples ∙ (let gone : length samples - at ≡ 0 = omega arith in gone)) in
      ended (omega (arith, t, none))
