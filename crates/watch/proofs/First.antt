-- The first difference of a stream is the one that is kept; and all that is counted, from the beginning on.
-- Assumes nothing.
use Prim.Native.Nat.{◌≤◌}
use mathlib.Core.Path.{◌≡◌, refl, sym, ap, ◌∙◌}
use native.Mathlib.Omega.{arith}
use borrow.Author.Tests.{ne_eqb}
use Rattle.arbiter.proofs.Choice.{split, if_true, if_false}
use Rattle.std.specs.Prelude.{◌+◌, ◌&&◌, ◌∷◌, ◌++◌, if◌then◌else◌}
use Rattle.watch.specs.Names.{ℕ, Bool, true, false, List, [], eqb, ltb, length, Master, Event, Command, Write}
use Rattle.watch.specs.Names.{Read, Stop, Pair, Lines, Tick, Pulse, Reset, GeneralCall, Check, Tally, Watcher}
use Rattle.watch.specs.Stream.{top, up_to, plus, check_of, differs, with_event, first_with, with_read, tally_with, followed, followed_all, with_sample}
use Rattle.watch.specs.Stream.{heard_by}
use Rattle.watch.specs.Stream.{events_now, watched_at, watched, events_in, no_tally, beginning}
use Rattle.watch.specs.Found.{checks_of, checks_among, checks, differing, first_or, faults}
use Rattle.watch.specs.Answers.{AllCounted}
use Rattle.watch.proofs.Sums.{plus_below, plus_none, none_counted, none_below}
use Rattle.watch.proofs.Counted.{differing_append, of_all, of_stream, one_event, kept_events, all_events, some_reads, kept_reads, all_reads, some_differ}
use Rattle.watch.proofs.Counted.{kept_differences, differ_among, differences_from, samples_from, faults_from}

-- ---- the first difference

-- with n differences before, k is the first of them, if there was one
abbrev pick : ℕ → Check → List Check → Check
pick n k l = if eqb n 0 then first_or k l else k

pick_none : (n : ℕ) (k : Check) → pick n k [] ≡ k
pick_none n k = split (eqb n 0) (λ t. rw t refl) (λ f. rw f refl)

not_none : (n m : ℕ) → 1 ≤ m → eqb (plus n m) 0 ≡ false
unfolding plus top
not_none n m h = ne_eqb (up_to (n + m)) 0 some
  where
    some : up_to (n + m) ≡ 0 → ⊥
    some e =
        split (ltb top (n + m)) (λ t. let past : top ≡ 0 = sym (if_true top (n + m) t) ∙ e in omega arith)
        (λ f. let none : n + m ≡ 0 = sym (if_false top (n + m) f) ∙ e in omega arith)

pick_append : (n : ℕ) (k : Check) (p q : List Check) → n ≤ top → pick (plus n (length p)) (pick n k p) q ≡ pick n k (p ++ q)
pick_append n k [] q h =
    ap (λ (m : ℕ). pick m (pick n k []) q) (sym (plus_none n h)) ∙ ap (λ (first : Check). pick n first q) (pick_none n k)
pick_append n k (f ∷ p) q h = if_false (first_or (pick n k (f ∷ p)) q) (pick n k (f ∷ p)) (not_none n (length (f ∷ p)) (omega arith))

first_read : (m : Master) (w : Watcher)
    → first_with w.tally (check_of w.tally.samples w.ear.both m w.device)
    ≡ pick w.tally.differences w.tally.first (differing (check_of w.tally.samples w.ear.both m w.device ∷ []))
unfolding differing
first_read m w = go (eqb w.tally.differences 0) (differs (check_of w.tally.samples w.ear.both m w.device))
  where
    go : (none other : Bool)
        → (if none && other then check_of w.tally.samples w.ear.both m w.device else w.tally.first)
        ≡ (if none then first_or w.tally.first (if other then check_of w.tally.samples w.ear.both m w.device ∷ [] else []) else w.tally.first)
    go true true = refl
    go true false = refl
    go false other = refl

first_event : (e : Event) (w : Watcher) → (tally_with e w.ear.both w.device w.tally).first
    ≡ pick w.tally.differences w.tally.first (differing (checks_of e w))
unfolding tally_with with_event with_read checks_of differing
first_event (Command m c) w = sym (pick_none w.tally.differences w.tally.first)
first_event (Write m v) w = sym (pick_none w.tally.differences w.tally.first)
first_event (Read m) w = first_read m w
first_event (Stop m) w = sym (pick_none w.tally.differences w.tally.first)
first_event (Pair v0 v1) w = sym (pick_none w.tally.differences w.tally.first)
first_event (Lines scl sda intin) w = sym (pick_none w.tally.differences w.tally.first)
first_event Tick w = sym (pick_none w.tally.differences w.tally.first)
first_event (Pulse sda) w = sym (pick_none w.tally.differences w.tally.first)
first_event Reset w = sym (pick_none w.tally.differences w.tally.first)
first_event (GeneralCall m b) w = sym (pick_none w.tally.differences w.tally.first)

first_among : (es : List Event) (w : Watcher) → w.tally.differences ≤ top
    → (followed_all es w).tally.first ≡ pick w.tally.differences w.tally.first (differing (checks_among es w))
unfolding followed_all followed checks_among differing
first_among [] w h = sym (pick_none w.tally.differences w.tally.first)
first_among (e ∷ es) w h =
    let now : List Check = differing (checks_of e w) in
    let later : List Check = differing (checks_among es (followed e w)) in
    let n : ℕ = w.tally.differences in
    first_among es (followed e w) (omega (arith, some_differ e w h, plus_below n (length now)))
    ∙ (λ j. pick (some_differ e w h j) (first_event e w j) later)
    ∙ pick_append n w.tally.first now later h
    ∙ ap (pick n w.tally.first) (sym (differing_append (checks_of e w) (checks_among es (followed e w))))

differ_all : (es : List Event) (w : Watcher) → w.tally.differences ≤ top
    → (followed_all es w).tally.differences ≡ plus w.tally.differences (length (differing (checks_among es w)))
differ_all es w h =
    of_all (λ (t : Tally). t.differences) (λ e w. length (differing (checks_of e w))) some_differ kept_differences es w h
    ∙ ap (plus w.tally.differences) (differ_among es w)

first_from : (samples : List ℕ) (w : Watcher) → w.tally.differences ≤ top
    → (watched samples w).tally.first ≡ pick w.tally.differences w.tally.first (differing (checks samples w))
unfolding watched watched_at heard_by with_sample checks differing
first_from [] w h = sym (pick_none w.tally.differences w.tally.first)
first_from (x ∷ rest) w h =
    let es : List Event = events_now x w in
    let now : List Check = differing (checks_among es w) in
    let later : List Check = differing (checks rest (watched_at x w)) in
    let n : ℕ = w.tally.differences in
    first_from rest (watched_at x w) (omega (arith, differ_all es w h, plus_below n (length now)))
    ∙ (λ j. pick (differ_all es w h j) (first_among es w h j) later)
    ∙ pick_append n w.tally.first now later h
    ∙ ap (pick n w.tally.first) (sym (differing_append (checks_among es w) (checks rest (watched_at x w))))

-- ---- from the beginning

pub all_counted : AllCounted
unfolding beginning no_tally
all_counted k c samples =
    let w : Watcher = beginning k c in
    record {
      all_samples = samples_from samples w none_below ∙ none_counted (length samples);
      all_events = of_stream (λ (t : Tally). t.events) (λ e w. 1) one_event kept_events samples w none_below
          ∙ ap (plus 0) (all_events samples w) ∙ none_counted (length (events_in samples w));
      all_reads = of_stream (λ (t : Tally). t.reads) (λ e w. length (checks_of e w)) some_reads kept_reads samples w none_below
          ∙ ap (plus 0) (all_reads samples w) ∙ none_counted (length (checks samples w));
      all_differences = differences_from samples w none_below ∙ none_counted (length (differing (checks samples w)));
      all_faults = faults_from samples w none_below ∙ none_counted (faults samples w);
      first_difference = first_from samples w none_below;
    }
