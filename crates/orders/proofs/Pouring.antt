-- Bytes poured into a buffer up to a limit: one list after another, by which script has events left, and the front of all of them in the end.
-- Assumes nothing.
use mathlib.Core.Path.{◌≡◌, refl, sym, ap, ap₂, ◌∙◌}
use mathlib.Core.Bool.{Bool, true, false}
use mathlib.Core.List.{List, [], ◌∷◌, ◌++◌, append_assoc, append-nil}
use Prim.Native.Nat.{ℕ, zero, suc, ◌+◌, ◌*◌, ◌-◌, ◌/◌, ◌≤◌, ◌<◌}
use native.Mathlib.Nat.{zero-add, le_of_eq, not-suc-le-zero}
use native.Mathlib.Numerals.{add-one}
use native.Mathlib.Omega.{arith}
use lib.Dec.{leb}
use lib.ListN.{length, get_or, take, drop, set, length-append, length-drop, length-set, drop_of_length-le, take-append-drop}
use lib.Seq.{take_all, drop-cons, set_at, length-take-le}
use borrow.Author.Tests.{le-leb, lt-leb, leb-true, leb-false}
use borrow.Rule.Slice.PartMut.{put_mid}
use Rattle.std.proofs.lemmas.List.{set-append_left, set-append_right}
use Rattle.std.specs.Prelude.{if◌then◌else◌}
use Rattle.arbiter.proofs.Choice.{split, if_true, if_false}
use Rattle.arbiter.specs.Traces.{event_bytes, raw_in, raws_in, event_count}
use Rattle.orders.specs.Call.{script_in}
use Rattle.orders.specs.Walk.{reached, bytes_from, pour}
use Rattle.orders.specs.declared.Reached.{Reached}

-- ---- one list after another

pub pour_full : (l : ℕ) (s : List ℕ × ℕ) (bs : List ℕ) → l ≤ s.1 → s ≡ pour l s bs
unfolding pour
pour_full l s [] h = refl
pour_full l s (b ∷ bs) h = sym (ap (λ (t : Bool). if t then s else pour l (set s.0 s.1 b, s.1 + 1) bs) (le-leb l s.1 h))

full_still : (l : ℕ) (s : List ℕ × ℕ) (ys : List ℕ) (t : Bool) (x : List ℕ × ℕ) → leb l s.1 ≡ t
    → (if t then s else pour l x ys) ≡ pour l (if t then s else x) ys
full_still l s ys true x e = pour_full l s ys (leb-true l s.1 e)
full_still l s ys false x e = refl

pour_append : (l : ℕ) (s : List ℕ × ℕ) (xs ys : List ℕ) → pour l s (xs ++ ys) ≡ pour l (pour l s xs) ys
unfolding pour
pour_append l s [] ys = refl
pour_append l s (x ∷ xs) ys =
    ap (λ (r : List ℕ × ℕ). if leb l s.1 then s else r) (pour_append l (set s.0 s.1 x, s.1 + 1) xs ys)
    ∙ full_still l s ys (leb l s.1) (pour l (set s.0 s.1 x, s.1 + 1) xs) refl

-- ---- a part of the buffer by itself

leb_after : (n l k : ℕ) → leb (n + l) (n + k) ≡ leb l k
leb_after n l k = split (leb l k)
    (λ t. let h : l ≤ k = leb-true l k t in le-leb (n + l) (n + k) (omega (arith, h)) ∙ sym t)
    (λ t. let h : k < l = leb-false l k t in lt-leb (n + l) (n + k) (omega (arith, h)) ∙ sym t)

set_after : (n k b : ℕ) (p q : List ℕ) → length p ≡ n → set (p ++ q) (n + k) b ≡ p ++ set q k b
set_after n k b p q e =
    set-append_right p q n (n + k) b e (omega arith)
    ∙ ap (λ (j : ℕ). p ++ set q j b) (let back : n + k - n ≡ k = omega arith in back)

-- after n bytes that stand already
pour_after : (n l k : ℕ) (p q bs : List ℕ) → length p ≡ n → pour (n + l) (p ++ q, n + k) bs ≡ (p ++ (pour l (q, k) bs).0, n + (pour l (q, k) bs).1)
unfolding pour
pour_after n l k p q [] e = refl
pour_after n l k p q (b ∷ bs) e = split (leb l k)
    (λ t. if_true (p ++ q, n + k) _ (leb_after n l k ∙ t) ∙ sym (ap (λ (x : List ℕ × ℕ). (p ++ x.0, n + x.1)) (if_true (q, k) _ t)))
    (λ t. if_false (p ++ q, n + k) _ (leb_after n l k ∙ t)
    ∙ ap₂ (λ (x : List ℕ) (j : ℕ). pour (n + l) (x, j) bs) (set_after n k b p q e) (next n k)
    ∙ pour_after n l (k + 1) p (set q k b) bs e ∙ sym (ap (λ (x : List ℕ × ℕ). (p ++ x.0, n + x.1)) (if_false (q, k) _ t)))
  where
    next : (n k : ℕ) → n + k + 1 ≡ n + (k + 1)
    next n k = omega arith

-- before bytes that are out of reach
pour_before : (l k : ℕ) (q r bs : List ℕ) → length q ≡ l → pour l (q ++ r, k) bs ≡ ((pour l (q, k) bs).0 ++ r, (pour l (q, k) bs).1)
unfolding pour
pour_before l k q r [] e = refl
pour_before l k q r (b ∷ bs) e = split (leb l k)
    (λ t. if_true (q ++ r, k) _ t ∙ sym (ap (λ (x : List ℕ × ℕ). (x.0 ++ r, x.1)) (if_true (q, k) _ t)))
    (λ t. let h : k < l = leb-false l k t in
    if_false (q ++ r, k) _ t
    ∙ ap (λ (x : List ℕ). pour l (x, k + 1) bs) (set-append_left q r k b (omega (arith, h, e)))
    ∙ pour_before l (k + 1) (set q k b) r bs (length-set q k b ∙ e)
    ∙ sym (ap (λ (x : List ℕ × ℕ). (x.0 ++ r, x.1)) (if_false (q, k) _ t)))

-- what is poured into the buffer from its place n on, as it is poured into that part
pub poured_on : (l n m : ℕ) (buffer left bs : List ℕ) → length buffer ≡ l → n ≤ l
    → (left, m) ≡ pour (length (take (l - n) (drop n buffer))) (take (l - n) (drop n buffer), 0) bs
    → (put_mid n (l - n) buffer left, n + m) ≡ pour l (buffer, n) bs
poured_on l n m buffer left bs e h p =
    ap (λ (x : List ℕ). (take n buffer ++ (left ++ x), n + m)) none
    ∙ ap (λ (x : List ℕ). (take n buffer ++ x, n + m)) (append-nil left)
    ∙ ap (λ (x : List ℕ × ℕ). (take n buffer ++ x.0, n + x.1))
    (p ∙ ap (λ (q : List ℕ). pour (length q) (q, 0) bs) part ∙ ap (λ (k : ℕ). pour k (drop n buffer, 0) bs) size)
    ∙ sym (pour_after n (l - n) 0 (take n buffer) (drop n buffer) bs (length-take-le n buffer (omega (arith, e, h))))
    ∙ ap₂ (λ (x : List ℕ) (k : ℕ). pour (n + (l - n)) (x, k) bs) (take-append-drop n buffer) (last n)
    ∙ ap (λ (k : ℕ). pour k (buffer, n) bs) (let whole : n + (l - n) ≡ l = omega (arith, h) in whole)
  where
    size : length (drop n buffer) ≡ l - n
    size = length-drop n buffer ∙ ap (λ (k : ℕ). k - n) e

    part : take (l - n) (drop n buffer) ≡ drop n buffer
    part = take_all (l - n) (drop n buffer) (le_of_eq size)

    none : drop (l - n) (drop n buffer) ≡ []
    none = drop_of_length-le (drop n buffer) {i = l - n} (le_of_eq size)

    last : (n : ℕ) → n + 0 ≡ n
    last n = omega arith

-- and into its front
pub poured_before : (l m : ℕ) (buffer left bs : List ℕ) → l ≤ length buffer
    → (left, m) ≡ pour (length (take l buffer)) (take l buffer, 0) bs → (put_mid 0 l buffer left, m) ≡ pour l (buffer, 0) bs
poured_before l m buffer left bs h p =
    ap (λ (x : List ℕ × ℕ). (x.0 ++ drop l buffer, x.1)) (p ∙ ap (λ (k : ℕ). pour k (take l buffer, 0) bs) size)
    ∙ sym (pour_before l 0 (take l buffer) (drop l buffer) bs size)
    ∙ ap (λ (x : List ℕ). pour l (x, 0) bs) (take-append-drop l buffer)
  where
    size : length (take l buffer) ≡ l
    size = length-take-le l buffer h

-- one byte stored right after what was written
put_one : (p : List ℕ) (k b : ℕ) (buffer : List ℕ) → length p ≡ k → k < length buffer
    → set (p ++ drop k buffer) k b ≡ (p ++ (b ∷ [])) ++ drop (k + 1) buffer
put_one p k b buffer e h =
    ap (λ (r : List ℕ). set (p ++ r) k b) (drop-cons buffer k 0 h)
    ∙ set_at p (get_or buffer k 0) (drop (suc k) buffer) b k e
    ∙ sym (append_assoc p (b ∷ []) (drop (suc k) buffer))
    ∙ ap (λ (j : ℕ). (p ++ (b ∷ [])) ++ drop j buffer) (sym (add-one k))

-- ---- a script with its next event, or none

-- what is left of a script without its next event, as the code lends it
abbrev pub rest : List ℕ → List ℕ
rest b = take (length b - event_bytes) (drop event_bytes b)

rest_is : (b : List ℕ) → rest b ≡ drop event_bytes b
rest_is b = take_all (length b - event_bytes) (drop event_bytes b) (le_of_eq (length-drop event_bytes b))

-- with each event taken there is one less
pub one_less : (b : List ℕ) → event_bytes ≤ length b → event_count b ≡ suc (event_count (rest b))
one_less b h = omega (arith, h, ap length (rest_is b), length-drop event_bytes b)

script_next : (b : List ℕ) → event_bytes ≤ length b → script_in b ≡ raw_in b ∷ script_in (rest b)
unfolding script_in raws_in
script_next b h =
    ap (λ (n : ℕ). raws_in n b) (one_less b h)
    ∙ ap (λ (l : List ℕ). raw_in b ∷ raws_in (event_count (rest b)) l) (sym (rest_is b))

script_ends : (b : List ℕ) → length b < event_bytes → script_in b ≡ []
unfolding script_in raws_in
script_ends b h = let none : event_count b ≡ 0 = omega arith in ap (λ (n : ℕ). raws_in n b) none

-- ---- what is poured from a point on, by which script has events left

module _ (c : Reached) (a b : List ℕ) (l : ℕ) (s : List ℕ × ℕ) where
  -- what there is to pour
  abbrev all : List ℕ
  all = bytes_from c (script_in a) (script_in b)

  module _ (more : event_bytes ≤ length a) (c₀ : Reached) (e₀ : c₀ ≡ reached c (raw_in a)) where
    abbrev first : List ℕ
    first = bytes_from c₀ (script_in (rest a)) (script_in b)

    pub by-0 : (s₀ : List ℕ × ℕ) → length b < event_bytes → s₀ ≡ pour l s first → s₀ ≡ pour l s all
    unfolding bytes_from
    by-0 s₀ ends p₀ =
        p₀ ∙ ap (λ (z : Reached). pour l s (bytes_from z (script_in (rest a)) (script_in b))) e₀
        ∙ sym (rw (script_next a more, script_ends b ends))

    pub by_both : (s₀ : List ℕ × ℕ) (c₁ : Reached) (s₁ : List ℕ × ℕ) → event_bytes ≤ length b → c₁ ≡ reached c (raw_in b)
        → s₀ ≡ pour l s first → s₁ ≡ pour l s₀ (bytes_from c₁ (script_in a) (script_in (rest b))) → s₁ ≡ pour l s all
    unfolding bytes_from
    by_both s₀ c₁ s₁ more₁ e₁ p₀ p₁ =
        let second : List ℕ = bytes_from c₁ (script_in a) (script_in (rest b)) in
        p₁
        ∙ ap (λ (z : List ℕ × ℕ). pour l z second) p₀
        ∙ sym (pour_append l s first second)
        ∙ ap (λ (z : Reached). pour l s (bytes_from z (script_in (rest a)) (script_in b) ++ second)) e₀
        ∙ ap
        (λ (z : Reached). pour l s (bytes_from (reached c (raw_in a)) (script_in (rest a)) (script_in b) ++ bytes_from z (script_in a) (script_in (rest b)))) e₁
        ∙ sym (ap (pour l s) both_left)
      where
        both_left :
            all ≡ bytes_from (reached c (raw_in a)) (script_in (rest a)) (script_in b) ++ bytes_from (reached c (raw_in b)) (script_in a) (script_in (rest b))
        both_left = rw (script_next a more, script_next b more₁)

  pub by_1 : (c₁ : Reached) (s₁ : List ℕ × ℕ) → length a < event_bytes → event_bytes ≤ length b → c₁ ≡ reached c (raw_in b)
      → s₁ ≡ pour l s (bytes_from c₁ (script_in a) (script_in (rest b))) → s₁ ≡ pour l s all
  unfolding bytes_from
  by_1 c₁ s₁ ends more e₁ p₁ =
      p₁ ∙ ap (λ (z : Reached). pour l s (bytes_from z (script_in a) (script_in (rest b)))) e₁
      ∙ sym (rw (script_ends a ends, script_next b more))

  pub by_none : length a < event_bytes → length b < event_bytes → s.1 < l → (set s.0 s.1 c.byte, s.1 + 1) ≡ pour l s all
  unfolding bytes_from pour
  by_none ends₀ ends₁ below =
      sym (ap (λ (t : Bool). if t then s else (set s.0 s.1 c.byte, s.1 + 1)) (lt-leb l s.1 below))
      ∙ sym (rw (script_ends a ends₀, script_ends b ends₁))

-- ---- all of it: what is poured from the first place on, where there is as much and the buffer has room

-- n more bytes after those of p
poured : (l : ℕ) (buffer : List ℕ) → l ≤ length buffer → (n k : ℕ) (p bs : List ℕ) → length p ≡ k → k + n ≡ l → n ≤ length bs
    → pour l (p ++ drop k buffer, k) bs ≡ ((p ++ take n bs) ++ drop l buffer, l)
unfolding pour
poured l buffer room zero k p bs e f h =
    let full : k ≡ l = omega arith in
    sym (pour_full l (p ++ drop k buffer, k) bs (omega arith))
    ∙ ap (λ (j : ℕ). (p ++ drop j buffer, j)) full
    ∙ ap (λ (q : List ℕ). (q ++ drop l buffer, l)) (sym (append-nil p))
poured l buffer room (suc n) k p [] e f h = absurd (not-suc-le-zero h)
poured l buffer room (suc n) k p (b ∷ bs) e f h =
    let more : k < l = omega arith in
    let longer : length (p ++ (b ∷ [])) ≡ k + 1 = length-append p (b ∷ []) ∙ ap (λ (j : ℕ). j + 1) e in
    ap (λ (t : Bool). if t then (p ++ drop k buffer, k) else pour l (set (p ++ drop k buffer) k b, k + 1) bs) (lt-leb l k more)
    ∙ ap (λ (q : List ℕ). pour l (q, k + 1) bs) (put_one p k b buffer e (omega arith))
    ∙ poured l buffer room n (k + 1) (p ++ (b ∷ [])) bs longer (omega arith) (omega arith)
    ∙ ap (λ (q : List ℕ). (q ++ drop l buffer, l)) (append_assoc p (b ∷ []) (take n bs))

pub poured_front : (l : ℕ) (buffer bs : List ℕ) → l ≤ length buffer → l ≤ length bs → pour l (buffer, 0) bs ≡ (take l bs ++ drop l buffer, l)
poured_front l buffer bs room h = poured l buffer room l 0 [] bs refl (zero-add l) h
