-- What one call takes: some, nothing to tell before its last sample, and something there if it leaves any.
-- Assumes nothing.
use Prim.Native.Nat.{zero, suc, ◌-◌, ◌≤◌, ◌<◌}
use mathlib.Core.Path.{◌≡◌, sym, ap, subst, ◌∙◌}
use native.Mathlib.Omega.{arith}
use lib.ListN.{take}
use borrow.Author.Tests.{ltb-false}
use Rattle.arbiter.proofs.Choice.{split, if_true, if_false, neither}
use Rattle.std.specs.Prelude.{◌+◌, ◌∷◌}
use Rattle.watch.specs.Names.{ℕ, true, false, List, [], ltb, length, Tally, Watcher}
use Rattle.watch.specs.Stream.{watched_at, watched}
use Rattle.watch.specs.Told.{tells, taken}
use Rattle.watch.specs.Answers.{SomeTaken, NoneMissed, LeftWhereTold}

-- the first sample tells, or the rest is taken from there
told_here : (x : ℕ) (xs : List ℕ) (w : Watcher) → tells w.tally (watched_at x w).tally ≡ true → taken (x ∷ xs) w ≡ 1
unfolding taken
told_here x xs w t = if_true _ _ t

told_later : (x : ℕ) (xs : List ℕ) (w : Watcher) → tells w.tally (watched_at x w).tally ≡ false → taken (x ∷ xs) w ≡ 1 + taken xs (watched_at x w)
unfolding taken
told_later x xs w f = if_false _ _ f

few_taken : (xs : List ℕ) (w : Watcher) → taken xs w ≤ length xs
unfolding taken
few_taken [] w = omega arith
few_taken (x ∷ xs) w =
    split (tells w.tally (watched_at x w).tally)
    (λ t. let one = told_here x xs w t in omega (arith, one))
    (λ f. let more = told_later x xs w f in omega (arith, more, few_taken xs (watched_at x w)))

pub some_taken : SomeTaken
some_taken x xs w = (
  split (tells w.tally (watched_at x w).tally) (λ t. omega (arith, told_here x xs w t)) (λ f. omega (arith, told_later x xs w f)),
  few_taken (x ∷ xs) w,
)

-- where a sample does not tell, nothing was counted
not_told : (s t : Tally) → tells s t ≡ false → (t.differences ≤ s.differences) × (t.faults ≤ s.faults)
unfolding tells
not_told s t f =
    let two = neither (ltb s.differences t.differences) (ltb s.faults t.faults) f in
    (ltb-false s.differences t.differences two.0, ltb-false s.faults t.faults two.1)

pub none_missed : NoneMissed
unfolding watched taken
none_missed [] w n h = absurd (let none : n < 0 = h in omega arith)
none_missed (x ∷ xs) w zero h = (omega arith, omega arith)
none_missed (x ∷ xs) w (suc n) h =
    split (tells w.tally (watched_at x w).tally)
    (λ t. absurd (let one = told_here x xs w t in omega (arith, one, h)))
    (λ f. let more = told_later x xs w f in
    let now = not_told w.tally (watched_at x w).tally f in
    let later = none_missed xs (watched_at x w) n (omega (arith, more, h)) in
    (omega (arith, now.0, later.0), omega (arith, now.1, later.1)))

first_two : (x : ℕ) (xs : List ℕ) (w : Watcher) → tells w.tally (watched_at x w).tally ≡ true
    → tells (watched (take 0 (x ∷ xs)) w).tally (watched (take 1 (x ∷ xs)) w).tally ≡ true
unfolding watched
first_two x xs w t = t

-- where there are samples some are taken
there : (xs : List ℕ) (w : Watcher) → taken xs w < length xs → 0 < taken xs w
there [] w h = absurd (let none : taken [] w < 0 = h in omega arith)
there (x ∷ xs) w h = (some_taken x xs w).0

-- one sample more in front
shifted : (x : ℕ) (xs : List ℕ) (w : Watcher) (k : ℕ) → 0 < k
    → tells (watched (take (k - 1) xs) (watched_at x w)).tally (watched (take k xs) (watched_at x w)).tally ≡ true
    → tells (watched (take k (x ∷ xs)) w).tally (watched (take (suc k) (x ∷ xs)) w).tally ≡ true
unfolding watched
shifted x xs w zero h p = absurd (let none : 0 < 0 = h in omega arith)
shifted x xs w (suc m) h p =
    let less : m ≡ suc m - 1 = omega arith in
    ap (λ (n : ℕ). tells (watched (take n xs) (watched_at x w)).tally (watched (take (suc m) xs) (watched_at x w)).tally) less ∙ p

at : (xs : List ℕ) (w : Watcher) (before after : ℕ) → Type 0
at xs w before after = tells (watched (take before xs) w).tally (watched (take after xs) w).tally ≡ true

pub left_where_told : LeftWhereTold
unfolding at
left_where_told [] w h = absurd (let none : taken [] w < 0 = h in omega arith)
left_where_told (x ∷ xs) w h =
    split (tells w.tally (watched_at x w).tally) (λ t. here (told_here x xs w t) t)
    (λ f. let more = told_later x xs w f in later more (left_where_told xs (watched_at x w) (omega (arith, more, h))))
  where
    all : ℕ
    all = taken (x ∷ xs) w

    -- where the last two are so many and one less
    moved : (k : ℕ) → all - 1 ≡ k → all ≡ suc k → at (x ∷ xs) w k (suc k) → at (x ∷ xs) w (all - 1) all
    moved k less whole p = subst (λ (n : ℕ). at (x ∷ xs) w n all) (sym less) (subst (λ (n : ℕ). at (x ∷ xs) w k n) (sym whole) p)

    here : all ≡ 1 → tells w.tally (watched_at x w).tally ≡ true → at (x ∷ xs) w (all - 1) all
    here one t = let none : all - 1 ≡ 0 = omega (arith, one) in moved 0 none one (first_two x xs w t)

    later : all ≡ 1 + taken xs (watched_at x w) → at xs (watched_at x w) (taken xs (watched_at x w) - 1) (taken xs (watched_at x w))
        → at (x ∷ xs) w (all - 1) all
    later more rest =
        let k : ℕ = taken xs (watched_at x w) in
        let whole : all ≡ suc k = omega (arith, more) in
        let less : all - 1 ≡ k = omega (arith, more) in
        moved k less whole (shifted x xs w k (there xs (watched_at x w) (omega (arith, more, h))) rest)
