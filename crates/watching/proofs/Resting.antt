-- Samples that repeat the one before and bring no TICK: many at once come to the same as one after the other, and none of them has anything to tell.
-- Assumes nothing.
use Prim.Native.Nat.{ℕ, zero, suc, ◌+◌, ◌-◌, ◌≤◌, ◌<◌}
use mathlib.Core.Path.{◌≡◌, refl, sym, ap, ap₂, ◌∙◌}
use mathlib.Core.Bool.{Bool, true, false, not, ◌&&◌, ◌||◌, false≢true}
use mathlib.Core.List.{List, [], ◌∷◌, ◌++◌}
use native.Mathlib.Omega.{arith}
use lib.Dec.{eqb, ltb}
use lib.ListN.{length, take}
use borrow.Author.Tests.{ltb-true, ltb-false, eqb-true, eq-eqb, ne_eqb, lt-ltb, le-ltb}
use Rattle.std.specs.Prelude.{if◌then◌else◌}
use Rattle.std.specs.List.{prefix_len}
use mathlib.Core.Bool.{cond}
use Rattle.arbiter.proofs.Choice.{split, if_true, if_false, not_true}
use Rattle.arbiter.specs.declared.Event.{Event}
use Rattle.capture.specs.declared.Listener.{Listener}
use Rattle.capture.specs.declared.Heard.{Heard}
use Rattle.capture.specs.Events.{together}
use Rattle.hearing.specs.Light.{is_still, unheard}
use Rattle.hearing.proofs.Light.{still_sampled}
use Rattle.watch.specs.declared.Settings.{Settings}
use Rattle.watch.specs.declared.Ear.{Ear}
use Rattle.watch.specs.declared.Tally.{Tally}
use Rattle.watch.specs.declared.Watcher.{Watcher}
use Rattle.watch.specs.Sample.{levels_below, lines_given, heard_now, mended, both_mended, faults_in, is_timed, is_due, ticks_given, since_after, events_at}
use Rattle.watch.specs.Sample.{ear_after}
use Rattle.watch.specs.Stream.{top, up_to, plus, followed_all, fault_with, with_sample, events_now, faults_now, heard_by, watched_at, watched}
use Rattle.watch.specs.Told.{tells, taken}
use Rattle.watch.proofs.Sums.{plus_twice}
use Rattle.watching.specs.Resting.{are_all, is_ready, with_samples, since_more, ear_rested, rested}

-- ---- what is asked of a listener

both_true : (a b : Bool) → (a && b) ≡ true → (a ≡ true) × (b ≡ true)
both_true true b h = (refl, h)
both_true false b h = absurd (false≢true h)

pub record Ready (c : Settings) (e : Ear) (n : ℕ) : Type 0 where
  pub begun : e.begun ≡ true
  pub whole0 : e.both.bus0.broken ≡ false
  pub whole1 : e.both.bus1.broken ≡ false
  pub soon : (eqb c.every 0 || ltb (e.since + n) c.every) ≡ true

pub ready : (c : Settings) (e : Ear) (n : ℕ) → is_ready c e n ≡ true → Ready c e n
unfolding is_ready
ready c e n h =
    let two = both_true (e.begun && not e.both.bus0.broken && not e.both.bus1.broken) (eqb c.every 0 || ltb (e.since + n) c.every) h in
    let last = both_true (e.begun && not e.both.bus0.broken) (not e.both.bus1.broken) two.0 in
    let first = both_true e.begun (not e.both.bus0.broken) last.0 in
    record { begun = first.0; whole0 = not_true _ first.1; whole1 = not_true _ last.1; soon = two.1 }

pub is_ready_lem : (c : Settings) (e : Ear) (n : ℕ) → Ready c e n → is_ready c e n ≡ true
unfolding is_ready
is_ready_lem c e n r = simp (r.begun, r.whole0, r.whole1, r.soon)

-- fewer are asked for less
pub sooner : (every since n m : ℕ) → m ≤ n → (eqb every 0 || ltb (since + n) every) ≡ true → (eqb every 0 || ltb (since + m) every) ≡ true
sooner every since n m h s =
    split (eqb every 0) (λ t. rw t refl)
    (λ f. let far = ltb-true (since + n) every (sym (ap (λ (b : Bool). b || ltb (since + n) every) f) ∙ s) in
    rw f (lt-ltb (since + m) every (omega arith)))

pub fewer : (c : Settings) (e : Ear) (n m : ℕ) → m ≤ n → is_ready c e n ≡ true → is_ready c e m ≡ true
fewer c e n m h r =
    let q = ready c e n r in
    is_ready_lem c e m (record { begun = q.begun; whole0 = q.whole0; whole1 = q.whole1; soon = sooner c.every e.since n m h q.soon })

-- a TICK is farther away than they are many
pub ready_far : (c : Settings) (e : Ear) (n : ℕ) → is_ready c e n ≡ true → eqb c.every 0 ≡ false → e.since + n < c.every
ready_far c e n r f = ltb-true (e.since + n) c.every (sym (ap (λ (b : Bool). b || ltb (e.since + n) c.every) f) ∙ (ready c e n r).soon)

pub soon_room : (every since : ℕ) → since < every → (eqb every 0 || ltb (since + (every - since - 1)) every) ≡ true
soon_room every since h =
    let some = ne_eqb every 0 (λ p. absurd (let small : since < every = h in omega (arith, p))) in
    simp (some, lt-ltb (since + (every - since - 1)) every (omega arith))

pub or_true : (b : Bool) → (b || true) ≡ true
or_true true = refl
or_true false = refl

pub positive : (n : ℕ) → (n ≡ 0 → ⊥) → 0 < n
positive n some = split (ltb 0 n) (λ t. ltb-true 0 n t) (λ f. let small = ltb-false 0 n f in absurd (some (omega arith)))

-- as many as are found, where there is room for them
pub ready_still : (c : Settings) (e : Ear) (room n : ℕ) → (eqb room 0 || is_ready c e room) ≡ true → n ≤ room → (n ≡ 0 → ⊥) → is_ready c e n ≡ true
ready_still c e room n r h some =
    fewer c e room n h
    (split (eqb room 0) (λ t. let none = eqb-true room 0 t in absurd (some (omega arith))) (λ f. sym (ap (λ (b : Bool). b || is_ready c e room) f) ∙ r))

-- where nothing is broken there is nothing to mend
unbroken : (l : Listener) → l.broken ≡ false → mended l ≡ l
unbroken l whole = λ j. record { awaited = l.awaited; clocks = l.clocks; value = l.value; owed = l.owed; broken = sym whole j }

-- ---- one of them

module _ (w : Watcher) (r : Ready w.settings w.ear 1) where
  heard_none : heard_now w.settings w.ear.before w.ear ≡ unheard w.ear.both
  unfolding heard_now is_still
  heard_none =
      let same : is_still w.ear.before w.ear.before ≡ true = still-self w.ear.before in
      if_true _ _ r.begun ∙ sym (still_sampled w.settings.address w.ear.before w.ear.before w.ear.both same)
    where
      still-self : (x : ℕ) → is_still x x ≡ true
      still-self x = rw (eq-eqb x x refl) refl

  and_false : (b : Bool) → (b && false) ≡ false
  and_false true = refl
  and_false false = refl

  lines_none : lines_given w.settings w.ear.before w.ear ≡ []
  unfolding lines_given
  lines_none = simp (r.begun, eq-eqb (levels_below w.ear.before) (levels_below w.ear.before) refl, and_false w.settings.below)

  not_due : (is_timed w.settings w.ear && is_due w.settings w.ear) ≡ false
  not_due =
      split (eqb w.settings.every 0)
      (λ t. simp (r.begun, t))
      (λ f. simp (r.begun, f, sym (ap (λ (b : Bool). b || ltb (w.ear.since + 1) w.settings.every) f) ∙ r.soon))

  ticks_none : ticks_given w.settings w.ear ≡ []
  unfolding ticks_given
  ticks_none = if_false _ _ not_due

  since_one : since_after w.settings w.ear ≡ since_more w.settings w.ear 1
  unfolding since_after since_more
  since_one =
      split (eqb w.settings.every 0)
      (λ t. simp (r.begun, t))
      (λ f. simp (r.begun, f, sym (ap (λ (b : Bool). b || ltb (w.ear.since + 1) w.settings.every) f) ∙ r.soon))

  events_none : events_now w.ear.before w ≡ []
  unfolding events_at together
  events_none = simp (lines_none, heard_none, ticks_none)

  mended_both : both_mended w.ear.both ≡ w.ear.both
  mended_both = λ j. record { bus0 = unbroken w.ear.both.bus0 r.whole0 j; bus1 = unbroken w.ear.both.bus1 r.whole1 j }

  faults_none : faults_now w.ear.before w ≡ 0
  faults_none = ap (λ (h : Heard). faults_in h.both) heard_none ∙ simp (r.whole0, r.whole1)

  ear_one : ear_after w.settings w.ear.before w.ear ≡ ear_rested w.settings w.ear 1
  unfolding ear_after ear_rested
  ear_one =
      let both : both_mended (heard_now w.settings w.ear.before w.ear).both ≡ w.ear.both = ap (λ (h : Heard). both_mended h.both) heard_none
      ∙ mended_both in
      λ j. record { begun = sym r.begun j; before = w.ear.before; since = since_one j; both = both j }

  pub still_one : watched_at w.ear.before w ≡ rested 1 w
  unfolding watched_at heard_by followed_all rested with_sample with_samples
  still_one =
      ap (λ (es : List Event). heard_by w.ear.before w (followed_all es w)) events_none
      ∙ (λ j. record {
        settings = w.settings;
        ear = ear_one j;
        device = w.device;
        tally = (ap (λ (n : ℕ). with_sample n w.tally) faults_none ∙ tally-one) j;
      })
    where
      no-fault : (t : Tally) → fault_with 0 t ≡ t.fault
      no-fault t = simp (and_false (eqb t.faults 0))

      tally-one : with_sample 0 w.tally ≡ with_samples 1 w.tally
      tally-one = simp (no-fault w.tally)

-- ---- many of them

pub rested_more : (n : ℕ) (w : Watcher) → rested n (rested 1 w) ≡ rested (suc n) w
unfolding rested ear_rested with_samples since_more
rested_more n w =
    λ j. record {
      settings = w.settings;
      ear = record { begun = w.ear.begun; before = w.ear.before; since = since j; both = w.ear.both };
      device = w.device;
      tally = record {
        samples = (plus_twice w.tally.samples 1 n ∙ ap (plus w.tally.samples) one_more) j;
        events = w.tally.events;
        reads = w.tally.reads;
        differences = w.tally.differences;
        faults = (plus_twice w.tally.faults 0 0) j;
        fault = w.tally.fault;
        first = w.tally.first;
        read0 = w.tally.read0;
        read1 = w.tally.read1;
      };
    }
  where
    one_more : 1 + n ≡ suc n
    one_more = omega arith

    since : (if eqb w.settings.every 0 then 0 else (if eqb w.settings.every 0 then 0 else w.ear.since + 1) + n)
        ≡ (if eqb w.settings.every 0 then 0 else w.ear.since + suc n)
    since =
        split (eqb w.settings.every 0) (λ t. rw t refl)
        (λ f. let same : w.ear.since + 1 + n ≡ w.ear.since + suc n = omega arith in rw f same)

ready_next : (n : ℕ) (w : Watcher) → Ready w.settings w.ear (suc n) → Ready (rested 1 w).settings (rested 1 w).ear n
unfolding rested ear_rested since_more
ready_next n w r = record { begun = r.begun; whole0 = r.whole0; whole1 = r.whole1; soon = soon }
  where
    soon : (eqb w.settings.every 0 || ltb ((if eqb w.settings.every 0 then 0 else w.ear.since + 1) + n) w.settings.every) ≡ true
    soon =
        split (eqb w.settings.every 0) (λ t. rw t refl)
        (λ f. let later = sym (ap (λ (b : Bool). b || ltb (w.ear.since + suc n) w.settings.every) f) ∙ r.soon in
        let far = ltb-true (w.ear.since + suc n) w.settings.every later in
        rw f (lt-ltb (w.ear.since + 1 + n) w.settings.every (omega arith)))

ready_first : (n : ℕ) (c : Settings) (e : Ear) → Ready c e (suc n) → Ready c e 1
ready_first n c e r =
    record { begun = r.begun; whole0 = r.whole0; whole1 = r.whole1; soon = sooner c.every e.since (suc n) 1 (omega arith) r.soon }

-- the one before again
one_alike : (x y : ℕ) (ys : List ℕ) → are_all x (y ∷ ys) ≡ true → (y ≡ x) × (are_all x ys ≡ true)
unfolding are_all
one_alike x y ys h = let two = both_true (eqb y x) (are_all x ys) h in (eqb-true y x two.0, two.1)

one_watched : (y : ℕ) (w : Watcher) → y ≡ w.ear.before → Ready w.settings w.ear 1 → watched_at y w ≡ rested 1 w
one_watched y w p r = ap (λ (x : ℕ). watched_at x w) p ∙ still_one w r

pub still_all : (ys : List ℕ) (y : ℕ) (w : Watcher) → Ready w.settings w.ear (length (y ∷ ys)) → are_all w.ear.before (y ∷ ys) ≡ true
    → watched (y ∷ ys) w ≡ rested (length (y ∷ ys)) w
unfolding watched rested ear_rested
still_all [] y w r a = one_watched y w (one_alike w.ear.before y [] a).0 r
still_all (z ∷ ys) y w r a =
    let alike = one_alike w.ear.before y (z ∷ ys) a in
    ap (λ (v : Watcher). watched (z ∷ ys) v) (one_watched y w alike.0 (ready_first (length (z ∷ ys)) w.settings w.ear r))
    ∙ still_all ys z (rested 1 w) (ready_next (length (z ∷ ys)) w r) alike.1
    ∙ rested_more (length (z ∷ ys)) w

-- ---- they have nothing to tell

not_above : (n : ℕ) → ltb n (plus n 0) ≡ false
unfolding plus
not_above n =
    let none : n + 0 ≡ n = omega arith in
    le-ltb n (plus n 0) (split (ltb top (n + 0))
    (λ t. let past = ltb-true top (n + 0) t in let e : up_to (n + 0) ≡ top = if_true top (n + 0) t in omega arith)
    (λ f. let e : up_to (n + 0) ≡ n + 0 = if_false top (n + 0) f in omega arith))

nothing_told : (w : Watcher) → tells w.tally (rested 1 w).tally ≡ false
unfolding tells rested with_samples
nothing_told w = simp (le-ltb w.tally.differences w.tally.differences (omega arith), not_above w.tally.faults)

one_taken_lem : (y : ℕ) (zs : List ℕ) (w : Watcher) → y ≡ w.ear.before → Ready w.settings w.ear 1 → taken (y ∷ zs) w ≡ 1 + taken zs (rested 1 w)
unfolding taken
one_taken_lem y zs w p r =
    ap (λ (v : Watcher). if tells w.tally v.tally then 1 else 1 + taken zs v) (one_watched y w p r) ∙ if_false _ _ (nothing_told w)

pub taken_all : (ys : List ℕ) (y : ℕ) (zs : List ℕ) (w : Watcher) → Ready w.settings w.ear (length (y ∷ ys))
    → are_all w.ear.before (y ∷ ys) ≡ true
    → taken ((y ∷ ys) ++ zs) w ≡ length (y ∷ ys) + taken zs (rested (length (y ∷ ys)) w)
unfolding rested ear_rested
taken_all [] y zs w r a = one_taken_lem y zs w (one_alike w.ear.before y [] a).0 r
taken_all (z ∷ ys) y zs w r a =
    let alike = one_alike w.ear.before y (z ∷ ys) a in
    let later = taken_all ys z zs (rested 1 w) (ready_next (length (z ∷ ys)) w r) alike.1 in
    let more : taken zs (rested (length (z ∷ ys)) (rested 1 w)) ≡ taken zs (rested (suc (length (z ∷ ys))) w) =
    ap (taken zs) (rested_more (length (z ∷ ys)) w) in
    let rest : ℕ = taken zs (rested (suc (length (z ∷ ys))) w) in
    let sum : 1 + (length (z ∷ ys) + rest) ≡ suc (length (z ∷ ys)) + rest = omega arith in
    one_taken_lem y ((z ∷ ys) ++ zs) w alike.0 (ready_first (length (z ∷ ys)) w.settings w.ear r)
    ∙ ap (λ (n : ℕ). 1 + n) (later ∙ ap (λ (n : ℕ). length (z ∷ ys) + n) more)
    ∙ sum

-- ---- so many samples as are x, and `room` at most

abbrev pub StillAt : ℕ → ℕ → List ℕ → ℕ → Type 0
StillAt x room l n = (n ≤ room) × (n ≤ length l) × (are_all x (take n l) ≡ true)

pub still_at : (x room : ℕ) (l : List ℕ) → StillAt x room l (prefix_len (λ (y : ℕ). eqb y x) (take room l))
unfolding are_all
still_at x zero l = (omega arith, omega arith, refl)
still_at x (suc room) [] = (omega arith, omega arith, refl)
still_at x (suc room) (y ∷ l) = step (still_at x room l) (eqb y x) refl
  where
    k : ℕ
    k = prefix_len (λ (z : ℕ). eqb z x) (take room l)

    step : StillAt x room l k → (b : Bool) → eqb y x ≡ b → StillAt x (suc room) (y ∷ l) (cond b (1 + k) 0)
    step rest true e =
        let next : 1 + k ≡ suc k = omega arith in
        (omega (arith, rest.0), omega (arith, rest.1), ap (λ (n : ℕ). are_all x (take n (y ∷ l))) next ∙ ap₂ ◌&&◌ e rest.2)
    step rest false e = (omega arith, omega arith, refl)
