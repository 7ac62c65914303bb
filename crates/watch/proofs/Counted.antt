-- The counts of a stream are those of its samples, events, READs, differences and faults, up to the top of 64 bits.
-- Assumes nothing.
use Prim.Native.Nat.{◌≤◌}
use mathlib.Core.Path.{◌≡◌, refl, sym, ap, ◌∙◌}
use native.Mathlib.Omega.{arith}
use lib.ListN.{length-append}
use Rattle.arbiter.proofs.Choice.{split, if_true, if_false}
use Rattle.std.specs.Prelude.{◌+◌, ◌∷◌, ◌++◌}
use Rattle.watch.specs.Names.{ℕ, List, [], length, worth, Event, Command, Write, Read, Stop, Pair, Lines, Tick, Pulse, Reset}
use Rattle.watch.specs.Names.{GeneralCall, Check, Tally, Watcher}
use Rattle.watch.specs.Stream.{top, plus, check_of, differs, with_event, with_read, tally_with, followed, followed_all, with_sample, heard_by, events_now}
use Rattle.watch.specs.Stream.{faults_now, watched_at, watched, events_in}
use Rattle.watch.specs.Found.{checks_of, checks_among, checks, differing, faults}
use Rattle.watch.proofs.Sums.{plus_twice, plus_below, plus_none}

-- ---- differences, one list after the other

pub differing_append : (p q : List Check) → differing (p ++ q) ≡ differing p ++ differing q
unfolding differing
differing_append [] q = refl
differing_append (k ∷ p) q =
    split (differs k)
    (λ t. if_true (k ∷ differing (p ++ q)) (differing (p ++ q)) t ∙ ap (λ (l : List Check). k ∷ l) (differing_append p q)
    ∙ ap (λ (l : List Check). l ++ differing q) (sym (if_true (k ∷ differing p) (differing p) t)))
    (λ f. if_false (k ∷ differing (p ++ q)) (differing (p ++ q)) f ∙ differing_append p q
    ∙ ap (λ (l : List Check). l ++ differing q) (sym (if_false (k ∷ differing p) (differing p) f)))

-- ---- a count to which each event adds so many

module _ (count : Tally → ℕ) (adds : Event → Watcher → ℕ)
    (law : (e : Event) (w : Watcher) → count w.tally ≤ top → count (tally_with e w.ear.both w.device w.tally) ≡ plus (count w.tally) (adds e w))
    (kept : (n : ℕ) (t : Tally) → count (with_sample n t) ≡ count t) where
  pub among : List Event → Watcher → ℕ
  among [] w = 0
  among (e ∷ es) w = adds e w + among es (followed e w)

  pub through : List ℕ → Watcher → ℕ
  through [] w = 0
  through (x ∷ xs) w = among (events_now x w) w + through xs (watched_at x w)

  below : (e : Event) (w : Watcher) → count w.tally ≤ top → count (tally_with e w.ear.both w.device w.tally) ≤ top
  below e w h = omega (arith, law e w h, plus_below (count w.tally) (adds e w))

  pub of_all : (es : List Event) (w : Watcher) → count w.tally ≤ top → count (followed_all es w).tally ≡ plus (count w.tally) (among es w)
  unfolding followed_all followed among
  of_all [] w h = plus_none (count w.tally) h
  of_all (e ∷ es) w h =
      of_all es (followed e w) (below e w h) ∙ ap (λ (n : ℕ). plus n (among es (followed e w))) (law e w h)
      ∙ plus_twice (count w.tally) (adds e w) (among es (followed e w))

  pub of_stream : (samples : List ℕ) (w : Watcher) → count w.tally ≤ top → count (watched samples w).tally ≡ plus (count w.tally) (through samples w)
  unfolding watched watched_at heard_by through
  of_stream [] w h = plus_none (count w.tally) h
  of_stream (x ∷ rest) w h =
      let now : ℕ = among (events_now x w) w in
      let here : count (watched_at x w).tally ≡ plus (count w.tally) now = kept (faults_now x w) (followed_all (events_now x w) w).tally
      ∙ of_all (events_now x w) w h in
      of_stream rest (watched_at x w) (omega (arith, here, plus_below (count w.tally) now))
      ∙ ap (λ (n : ℕ). plus n (through rest (watched_at x w))) here
      ∙ plus_twice (count w.tally) now (through rest (watched_at x w))

-- ---- events: each adds one

pub one_event : (e : Event) (w : Watcher) → w.tally.events ≤ top → (tally_with e w.ear.both w.device w.tally).events ≡ plus w.tally.events 1
unfolding tally_with with_event with_read
one_event (Command m c) w h = refl
one_event (Write m v) w h = refl
one_event (Read m) w h = refl
one_event (Stop m) w h = refl
one_event (Pair v0 v1) w h = refl
one_event (Lines scl sda intin) w h = refl
one_event Tick w h = refl
one_event (Pulse sda) w h = refl
one_event Reset w h = refl
one_event (GeneralCall m b) w h = refl

pub kept_events : (n : ℕ) (t : Tally) → (with_sample n t).events ≡ t.events
unfolding with_sample
kept_events n t = refl

events_among : (es : List Event) (w : Watcher) → among (λ (t : Tally). t.events) (λ e w. 1) one_event kept_events es w ≡ length es
unfolding among
events_among [] w = refl
events_among (e ∷ es) w =
    let later : ℕ = among (λ (t : Tally). t.events) (λ e w. 1) one_event kept_events es (followed e w) in
    let same : later ≡ length es = events_among es (followed e w) in
    omega (arith, same)

pub all_events : (samples : List ℕ) (w : Watcher) → through (λ (t : Tally). t.events) (λ e w. 1) one_event kept_events samples w ≡ length (events_in samples w)
unfolding through events_in
all_events [] w = refl
all_events (x ∷ rest) w =
    let now = events_among (events_now x w) w in
    let later = all_events rest (watched_at x w) in
    omega (arith, now, later, length-append (events_now x w) (events_in rest (watched_at x w)))

-- ---- READs: each adds its check

pub some_reads : (e : Event) (w : Watcher) → w.tally.reads ≤ top → (tally_with e w.ear.both w.device w.tally).reads
    ≡ plus w.tally.reads (length (checks_of e w))
unfolding tally_with with_event with_read checks_of
some_reads (Command m c) w h = plus_none w.tally.reads h
some_reads (Write m v) w h = plus_none w.tally.reads h
some_reads (Read m) w h = refl
some_reads (Stop m) w h = plus_none w.tally.reads h
some_reads (Pair v0 v1) w h = plus_none w.tally.reads h
some_reads (Lines scl sda intin) w h = plus_none w.tally.reads h
some_reads Tick w h = plus_none w.tally.reads h
some_reads (Pulse sda) w h = plus_none w.tally.reads h
some_reads Reset w h = plus_none w.tally.reads h
some_reads (GeneralCall m b) w h = plus_none w.tally.reads h

pub kept_reads : (n : ℕ) (t : Tally) → (with_sample n t).reads ≡ t.reads
unfolding with_sample
kept_reads n t = refl

reads_among : (es : List Event) (w : Watcher)
    → among (λ (t : Tally). t.reads) (λ e w. length (checks_of e w)) some_reads kept_reads es w ≡ length (checks_among es w)
unfolding among checks_among
reads_among [] w = refl
reads_among (e ∷ es) w =
    let later = reads_among es (followed e w) in
    omega (arith, later, length-append (checks_of e w) (checks_among es (followed e w)))

pub all_reads : (samples : List ℕ) (w : Watcher)
    → through (λ (t : Tally). t.reads) (λ e w. length (checks_of e w)) some_reads kept_reads samples w ≡ length (checks samples w)
unfolding through checks
all_reads [] w = refl
all_reads (x ∷ rest) w =
    let now = reads_among (events_now x w) w in
    let later = all_reads rest (watched_at x w) in
    omega (arith, now, later, length-append (checks_among (events_now x w) w) (checks rest (watched_at x w)))

-- ---- differences: a check adds one if it differs

one_differs : (k : Check) → worth 1 (differs k) ≡ length (differing (k ∷ []))
unfolding differing
one_differs k = split (differs k) (λ t. rw t refl) (λ f. rw f refl)

pub some_differ : (e : Event) (w : Watcher) → w.tally.differences ≤ top
    → (tally_with e w.ear.both w.device w.tally).differences ≡ plus w.tally.differences (length (differing (checks_of e w)))
unfolding tally_with with_event with_read checks_of differing
some_differ (Command m c) w h = plus_none w.tally.differences h
some_differ (Write m v) w h = plus_none w.tally.differences h
some_differ (Read m) w h = ap (plus w.tally.differences) (one_differs (check_of w.tally.samples w.ear.both m w.device))
some_differ (Stop m) w h = plus_none w.tally.differences h
some_differ (Pair v0 v1) w h = plus_none w.tally.differences h
some_differ (Lines scl sda intin) w h = plus_none w.tally.differences h
some_differ Tick w h = plus_none w.tally.differences h
some_differ (Pulse sda) w h = plus_none w.tally.differences h
some_differ Reset w h = plus_none w.tally.differences h
some_differ (GeneralCall m b) w h = plus_none w.tally.differences h

pub kept_differences : (n : ℕ) (t : Tally) → (with_sample n t).differences ≡ t.differences
unfolding with_sample
kept_differences n t = refl

differing_length : (p q : List Check) → length (differing (p ++ q)) ≡ length (differing p) + length (differing q)
differing_length p q = ap length (differing_append p q) ∙ length-append (differing p) (differing q)

pub differ_among : (es : List Event) (w : Watcher)
    → among (λ (t : Tally). t.differences) (λ e w. length (differing (checks_of e w))) some_differ kept_differences es w
    ≡ length (differing (checks_among es w))
unfolding among checks_among differing
differ_among [] w = refl
differ_among (e ∷ es) w =
    let later = differ_among es (followed e w) in
    omega (arith, later, differing_length (checks_of e w) (checks_among es (followed e w)))

all_differ : (samples : List ℕ) (w : Watcher)
    → through (λ (t : Tally). t.differences) (λ e w. length (differing (checks_of e w))) some_differ kept_differences samples w
    ≡ length (differing (checks samples w))
unfolding through checks differing
all_differ [] w = refl
all_differ (x ∷ rest) w =
    let now = differ_among (events_now x w) w in
    let later = all_differ rest (watched_at x w) in
    omega (arith, now, later, differing_length (checks_among (events_now x w) w) (checks rest (watched_at x w)))

pub differences_from : (samples : List ℕ) (w : Watcher) → w.tally.differences ≤ top
    → (watched samples w).tally.differences ≡ plus w.tally.differences (length (differing (checks samples w)))
differences_from samples w h =
    of_stream (λ (t : Tally). t.differences) (λ e w. length (differing (checks_of e w))) some_differ kept_differences samples w h
    ∙ ap (plus w.tally.differences) (all_differ samples w)

-- ---- samples and faults: no event touches them, and each sample adds its own

untouched : (e : Event) (w : Watcher) → ((tally_with e w.ear.both w.device w.tally).samples ≡ w.tally.samples)
    × ((tally_with e w.ear.both w.device w.tally).faults ≡ w.tally.faults)
unfolding tally_with with_event with_read
untouched (Command m c) w = (refl, refl)
untouched (Write m v) w = (refl, refl)
untouched (Read m) w = (refl, refl)
untouched (Stop m) w = (refl, refl)
untouched (Pair v0 v1) w = (refl, refl)
untouched (Lines scl sda intin) w = (refl, refl)
untouched Tick w = (refl, refl)
untouched (Pulse sda) w = (refl, refl)
untouched Reset w = (refl, refl)
untouched (GeneralCall m b) w = (refl, refl)

all_untouched : (es : List Event) (w : Watcher)
    → ((followed_all es w).tally.samples ≡ w.tally.samples) × ((followed_all es w).tally.faults ≡ w.tally.faults)
unfolding followed_all followed
all_untouched [] w = (refl, refl)
all_untouched (e ∷ es) w =
    let later = all_untouched es (followed e w) in
    (later.0 ∙ (untouched e w).0, later.1 ∙ (untouched e w).1)

pub samples_from : (samples : List ℕ) (w : Watcher) → w.tally.samples ≤ top → (watched samples w).tally.samples ≡ plus w.tally.samples (length samples)
unfolding watched watched_at heard_by with_sample
samples_from [] w h = plus_none w.tally.samples h
samples_from (x ∷ rest) w h =
    let more : 1 + length rest ≡ length (x ∷ rest) = omega arith in
    samples_from rest (watched_at x w) (plus_below (followed_all (events_now x w) w).tally.samples 1)
    ∙ ap (λ (n : ℕ). plus (plus n 1) (length rest)) (all_untouched (events_now x w) w).0
    ∙ plus_twice w.tally.samples 1 (length rest) ∙ ap (plus w.tally.samples) more

pub faults_from : (samples : List ℕ) (w : Watcher) → w.tally.faults ≤ top → (watched samples w).tally.faults ≡ plus w.tally.faults (faults samples w)
unfolding watched faults watched_at heard_by with_sample
faults_from [] w h = plus_none w.tally.faults h
faults_from (x ∷ rest) w h =
    faults_from rest (watched_at x w) (plus_below (followed_all (events_now x w) w).tally.faults (faults_now x w))
    ∙ ap (λ (n : ℕ). plus (plus n (faults_now x w)) (faults rest (watched_at x w))) (all_untouched (events_now x w) w).1
    ∙ plus_twice w.tally.faults (faults_now x w) (faults rest (watched_at x w))
