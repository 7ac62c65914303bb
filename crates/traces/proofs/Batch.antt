-- TICKs taken together: from a settled device, j TICKs that its counts have left move the loop's device, buffer and last two answer bytes on by
-- j events.
-- Assumes nothing.
use mathlib.Core.Path.{◌≡◌, ◌∙◌, refl, sym, ap, ap₂, subst}
use mathlib.Core.Bool.{Bool, true, false, not, ◌&&◌, ◌||◌, false≢true}
use mathlib.Core.List.{List, ◌++◌}
use Prim.Native.Nat.{ℕ, zero, suc, ◌+◌, ◌-◌, ◌*◌, ◌≤◌, ◌<◌}
use native.Mathlib.Numerals.{add-one}
use native.Mathlib.Omega.{arith}
use lib.Dec.{eqb, ltb}
use lib.ListN.{length, drop, length-set}
use borrow.Author.Tests.{eq-eqb, ne_eqb, eqb-true, eqb-false, ltb-true, ltb-false}
use Rattle.std.specs.Prelude.{min, if◌then◌else◌}
use Rattle.arbiter.specs.State.{scl_high, sda_high, is_idle}
use Rattle.arbiter.specs.Steps.{owner_byte, lines_byte, answer, step, run_from, answers_from}
use Rattle.arbiter.specs.Traces.{event_bytes, raws_in, bytes_of, event_count}
use Rattle.arbiter.specs.declared.Bus.{Bus}
use Rattle.arbiter.specs.declared.Device.{Device}
use Rattle.arbiter.specs.declared.Raw.{Raw}
use Rattle.arbiter.specs.declared.Answer.{Answer}
use Rattle.arbiter.specs.declared.Stepped.{Stepped}
use Rattle.format.specs.Places.{event_at, put_at, with_answer}
use Rattle.arbitration.specs.Quiet.{no_loss, no_cut, no_claim, no_grant}
use Rattle.connection.specs.Quiet.{switch_stays}
use Rattle.step.specs.Carried.{is_quiet}
use Rattle.light.specs.Light.{Still, Settled}
use Rattle.light.proofs.Settles.{stays_settled}
use Rattle.light.proofs.Ended.{answer_shows}
use Rattle.quiet.specs.Counts.{after_ticks}
use Rattle.quiet.specs.Quiet.{is_still, counts_left, quiet_ticks, tick, ticks}
use Rattle.quiet.proofs.Ticks.{quiet, quiet_together}
use Rattle.traces.specs.Ticks.{is_tick_raw, AllTicks, with_same}
use Rattle.traces.proofs.Runs.{again_device, again_out}

-- ---- a settled device is quiet as long as its counts last

first_three : (a b c x y : Bool) → a && b && c && x && y ≡ true → a && b && c ≡ true
first_three true true true x y h = refl
first_three true true false x y h = h
first_three true false c x y h = h
first_three false b c x y h = h

zero_if : (t : Bool) (n : ℕ) → (t ≡ true → n ≡ 0) → not t || eqb n 0 ≡ true
zero_if true n h = eq-eqb n 0 (h refl)
zero_if false n h = refl

zero_unless : (t : Bool) (n : ℕ) → (t ≡ false → n ≡ 0) → t || eqb n 0 ≡ true
zero_unless true n h = refl
zero_unless false n h = eq-eqb n 0 (h refl)

three : (a b c : Bool) → a ≡ true → b ≡ true → c ≡ true → a && b && c ≡ true
three a b c p q r = ap (λ (x : Bool). x && b && c) p ∙ ap (λ (x : Bool). x && c) q ∙ r

still_test : (b : Bus) → Still b → is_still b ≡ true
still_test b h =
    three _ _ _
    (zero_if (scl_high b) b.lowscl h.0)
    (zero_if (sda_high b) b.lowsda h.1)
    (zero_unless (is_idle b) b.idle h.2)

pub settled_left : (d : Device) → Settled d → quiet_ticks d ≡ counts_left d
unfolding quiet_ticks is_quiet
settled_left d h =
    ap₂ (λ (x y : Bool). if x && y then counts_left d else 0) (still_test d.bus h.0)
    (first_three (switch_stays d.arb.turn d) (no_grant d.arb.turn d) (no_claim d.arb.turn d) (no_cut false d.arb.turn d) (no_loss d.arb.turn d)
    h.1)

-- ---- the four bytes of a TICK

-- the one number that the code looks at
abbrev word : ℕ → ℕ → ℕ → ℕ → ℕ
word k x y z = k + 256 * x + 65536 * y + 16777216 * z

pub word_tick : (k x y z : ℕ) → eqb (k + 256 * x + 65536 * y + 16777216 * z) 6 ≡ eqb k 6 && eqb x 0 && eqb y 0 && eqb z 0
word_tick k x y z = go (eqb k 6) (eqb x 0) (eqb y 0) (eqb z 0) refl refl refl refl
  where
    go : (a b c e : Bool) → eqb k 6 ≡ a → eqb x 0 ≡ b → eqb y 0 ≡ c → eqb z 0 ≡ e → eqb (k + 256 * x + 65536 * y + 16777216 * z) 6 ≡ a && b && c && e
    go true true true true p q r s =
        eq-eqb (word k x y z) 6 (omega (arith, eqb-true k 6 p, eqb-true x 0 q, eqb-true y 0 r, eqb-true z 0 s))
    go true true true false p q r s = ne_eqb (word k x y z) 6 (λ w. eqb-false z 0 s (omega (arith, w)))
    go true true false e p q r s = ne_eqb (word k x y z) 6 (λ w. eqb-false y 0 r (omega (arith, w)))
    go true false c e p q r s = ne_eqb (word k x y z) 6 (λ w. eqb-false x 0 q (omega (arith, w)))
    go false b c e p q r s = ne_eqb (word k x y z) 6 (λ w. eqb-false k 6 p (omega (arith, w)))

all_four : (a b c e : Bool) → a && b && c && e ≡ true → (a ≡ true) × (b ≡ true) × (c ≡ true) × (e ≡ true)
all_four true true true true h = (refl, refl, refl, refl)
all_four true true true false h = absurd (false≢true h)
all_four true true false e h = absurd (false≢true h)
all_four true false c e h = absurd (false≢true h)
all_four false b c e h = absurd (false≢true h)

pub is_tick_raw_lem : (r : Raw) → is_tick_raw r ≡ true → r ≡ tick
is_tick_raw_lem r h =
    let all = all_four _ _ _ _ h in
    let kind = eqb-true r.kind 6 all.0 in
    let x = eqb-true r.x 0 all.1 in
    let y = eqb-true r.y 0 all.2 in
    let z = eqb-true r.z 0 all.3 in
    λ i. record { kind = kind i; x = x i; y = y i; z = z i }

-- ---- the same answer at some places

same_length : (l : List ℕ) (i : ℕ) (a : Answer) → length (with_answer l i a) ≡ length l
unfolding with_answer put_at
same_length l i a = go (ltb i (event_count l))
  where
    go : (t : Bool) → length (if t then put_at l (event_bytes * i) a else l) ≡ length l
    go true = simp length-set
    go false = refl

pub same_none : (l : List ℕ) (i : ℕ) (a : Answer) → l ≡ with_same l i (i - i) a
unfolding with_same
same_none l i a = let none : 0 ≡ i - i = omega arith in ap (λ (k : ℕ). with_same l i k a) none

pub same_next : (l : List ℕ) (i at : ℕ) (a : Answer) → i ≤ at → with_answer (with_same l i (at - i) a) at a ≡ with_same l i (at + 1 - i) a
unfolding with_same
same_next l i at a h =
    let place : i + (at - i) ≡ at = omega arith in
    let more : suc (at - i) ≡ at + 1 - i = omega arith in
    ap (λ (n : ℕ). with_answer (with_same l i (at - i) a) n a) (sym place) ∙ ap (λ (k : ℕ). with_same l i k a) more

-- the first of them by itself
from_first : (l : List ℕ) (i k : ℕ) (a : Answer) → with_same (with_answer l i a) (i + 1) k a ≡ with_same l i (suc k) a
unfolding with_same
from_first l i zero a = let place : i ≡ i + 0 = omega arith in ap (λ (n : ℕ). with_answer l n a) place
from_first l i (suc k) a =
    let place : i + 1 + k ≡ i + suc k = omega arith in
    ap₂ (λ (m : List ℕ) (n : ℕ). with_answer m n a) (from_first l i k a) place

pub same_from : (l : List ℕ) (i at : ℕ) (a : Answer) → i < at → with_same (with_answer l i a) (i + 1) (at - (i + 1)) a ≡ with_same l i (at - i) a
same_from l i at a h =
    let more : suc (at - (i + 1)) ≡ at - i = omega arith in
    from_first l i (at - (i + 1)) a ∙ ap (λ (k : ℕ). with_same l i k a) more

-- ---- one TICK more

pub all_more : (from at : ℕ) (b : List ℕ) → AllTicks from at b → is_tick_raw (event_at at b) ≡ true → AllTicks from (at + 1) b
all_more from at b all here k f t = go (ltb k at) refl
  where
    go : (x : Bool) → ltb k at ≡ x → is_tick_raw (event_at k b) ≡ true
    go true e = all k f (ltb-true k at e)
    go false e = let same : at ≡ k = omega (arith, ltb-false k at e) in subst (λ (n : ℕ). is_tick_raw (event_at n b) ≡ true) same here

pub all_from : (i j : ℕ) (b : List ℕ) → is_tick_raw (event_at i b) ≡ true → AllTicks (i + 1) j b → AllTicks i j b
all_from i j b here all k f t = go (ltb i k) refl
  where
    go : (x : Bool) → ltb i k ≡ x → is_tick_raw (event_at k b) ≡ true
    go true e = all k (omega (arith, ltb-true i k e)) t
    go false e = let same : i ≡ k = omega (arith, ltb-false i k e) in subst (λ (n : ℕ). is_tick_raw (event_at n b) ≡ true) same here

-- ---- the loop over TICKs: what it knows before event at, with the buffer out, start being the one with the first answer

abbrev pub Passed : List ℕ → List ℕ → ℕ → ℕ → Answer → List ℕ → ℕ → Type 0
Passed events start i last a out at =
    (i < at) × (at ≤ last) × (length out ≡ length start) × AllTicks (i + 1) at events × (out ≡ with_same start (i + 1) (at - (i + 1)) a)

module _ (events start : List ℕ) (i last : ℕ) (a : Answer) where
  pub passed_none : i < last → Passed events start i last a start (i + 1)
  passed_none h = (omega arith, omega arith, refl, λ k f t. absurd (omega arith), same_none _ _ _)

  pub passed_more : (out : List ℕ) (at : ℕ) → Passed events start i last a out at → at < last → is_tick_raw (event_at at events) ≡ true
      → (next : List ℕ) → length next ≡ length out → next ≡ with_answer out at a → (to : ℕ) → to ≡ at + 1 → Passed events start i last a next to
  passed_more out at known within tick next same put to e = (
    omega (arith, known.0, e),
    omega (arith, within, e),
    same ∙ known.2,
    subst (λ (n : ℕ). AllTicks (i + 1) n events) (sym e) (all_more _ _ _ known.3 tick),
    put ∙ ap (λ (l : List ℕ). with_answer l at a) known.4 ∙ same_next start (i + 1) at a (omega (arith, known.0))
        ∙ ap (λ (n : ℕ). with_same start (i + 1) (n - (i + 1)) a) (sym e),
  )

  pub passed_all : (out : List ℕ) (at : ℕ) → Passed events start i last a out at → (l : List ℕ) → start ≡ with_answer l i a
      → (i < at) × (at ≤ last) × AllTicks (i + 1) at events × (out ≡ with_same l i (at - i) a)
  passed_all out at known l first = (
    known.0,
    known.1,
    known.3,
    known.4 ∙ ap (λ (m : List ℕ). with_same m (i + 1) (at - (i + 1)) a) first ∙ same_from _ _ _ _ known.0,
  )

-- ---- j TICKs together, from the device d before event i

module _ (from : Device) (b l : List ℕ) (i : ℕ) (d : Device) (out : List ℕ) (settled : Settled d) where
  -- what the loop knows before event m, after j of them
  abbrev Known : ℕ → ℕ → Type 0
  Known m j =
      (after_ticks j d ≡ run_from from (raws_in m b))
      × (with_same out i j (answer 0 0 d) ≡ bytes_of (answers_from from (raws_in m b)) ++ drop (event_bytes * m) l)
      × (length (with_same out i j (answer 0 0 d)) ≡ length l)
      × Settled (after_ticks j d)
      × (owner_byte (after_ticks j d) ≡ owner_byte d)
      × (lines_byte (after_ticks j d) ≡ lines_byte d)

  module _ (j : ℕ) (known : Known (i + j) j) (left : j < counts_left d) (more : i + j < event_count b) (room : event_bytes * (i + j + 1) ≤ length l)
      (here : is_tick_raw (event_at (i + j) b) ≡ true) where
    next : step (after_ticks j d) tick ≡ record { device = after_ticks (j + 1) d; answer = answer 0 0 d }
    next = quiet d j (subst (λ (n : ℕ). j < n) (sym (settled_left d settled)) left)

    stepped : record { device = after_ticks (j + 1) d; answer = answer 0 0 d } ≡ step (after_ticks j d) (event_at (i + j) b)
    stepped = sym next ∙ ap (step (after_ticks j d)) (sym (is_tick_raw_lem (event_at (i + j) b) here))

    one_more : after_ticks (j + 1) d ≡ after_ticks (suc j) d
    one_more = ap (λ (n : ℕ). after_ticks n d) (add-one j)

    shows : ((step (after_ticks j d) tick).answer.owner ≡ owner_byte (step (after_ticks j d) tick).device)
        × ((step (after_ticks j d) tick).answer.lines ≡ lines_byte (step (after_ticks j d) tick).device)
    shows = answer_shows (after_ticks j d) tick

    known_next : Known (i + j + 1) (suc j)
    unfolding with_same
    known_next = (
      sym one_more ∙ again_device from b (i + j) (after_ticks j d) _ more known.0 stepped,
      again_out from b (i + j) (after_ticks j d) _ more known.0 stepped l (with_same out i j (answer 0 0 d)) _ known.1 known.2 refl room,
      same_length (with_same out i j (answer 0 0 d)) (i + j) (answer 0 0 d) ∙ known.2,
      subst Settled (ap (λ (s : Stepped). s.device) next ∙ one_more) (stays_settled (after_ticks j d) tick known.3),
      ap owner_byte (sym (ap (λ (s : Stepped). s.device) next ∙ one_more)) ∙ sym shows.0 ∙ ap (λ (s : Stepped). s.answer.owner) next,
      ap lines_byte (sym (ap (λ (s : Stepped). s.device) next ∙ one_more)) ∙ sym shows.1 ∙ ap (λ (s : Stepped). s.answer.lines) next,
    )

  none : after_ticks 0 d ≡ d
  unfolding ticks run_from
  none = sym (quiet_together d 0 (omega arith)).0

  module _ (device : d ≡ run_from from (raws_in i b)) (buffer : out ≡ bytes_of (answers_from from (raws_in i b)) ++ drop (event_bytes * i) l)
      (same : length out ≡ length l) where
    known-none : Known i 0
    unfolding with_same
    known-none = (none ∙ device, buffer, same, subst Settled (sym none) settled, ap owner_byte none, ap lines_byte none)

    pub known-after : (j : ℕ) → j ≤ counts_left d → i + j ≤ event_count b → event_bytes * (i + j) ≤ length l → AllTicks i (i + j) b → Known (i + j) j
    known-after zero left more room all = let e : i ≡ i + 0 = omega arith in subst (λ (m : ℕ). Known m 0) e known-none
    known-after (suc j) left more room all =
        let e : i + j + 1 ≡ i + suc j = omega arith in
        subst (λ (m : ℕ). Known m (suc j)) e
        (known_next j (known-after j (omega arith) (omega arith) (omega arith) (λ k f t. all k f (omega arith))) (omega arith) (omega arith) (omega arith)
        (all (i + j) (omega arith) (omega arith)))

-- ---- what the code's tests tell

pub least_both : (x y r : ℕ) → r ≡ min x y → (r ≤ x) × (r ≤ y) × (1 ≤ x → 1 ≤ y → 1 ≤ r)
least_both x y r h = (omega (arith, h), omega (arith, h), λ a b. omega (arith, h, a, b))

pub some_one : (k : ℕ) → (k ≡ 0 → ⊥) → 1 ≤ k
some_one zero h = absurd (h refl)
some_one (suc k) h = omega arith

-- ---- the whole run of TICKs, from event i to before event j, with what the code made of it: the device x and the buffer last

module _ (from : Device) (b l : List ℕ) (i j : ℕ) (d x : Device) (out last : List ℕ) (a : Answer) where
  pub together : Settled d → d ≡ run_from from (raws_in i b) → out ≡ bytes_of (answers_from from (raws_in i b)) ++ drop (event_bytes * i) l → length out
      ≡ length l
      → i < j → j - i ≤ counts_left d → j ≤ event_count b → event_bytes * j ≤ length l → AllTicks i j b
      → a ≡ answer 0 0 d → last ≡ with_same out i (j - i) a → x ≡ after_ticks (j - i) d
      → (x ≡ run_from from (raws_in j b)) × (last ≡ bytes_of (answers_from from (raws_in j b)) ++ drop (event_bytes * j) l) × Settled x
      × (owner_byte d ≡ owner_byte x)
      × (lines_byte d ≡ lines_byte x)
  together settled device buffer same some left more room all alike put moved =
      let e : i + (j - i) ≡ j = omega (arith, some) in
      let known =
      subst (λ (m : ℕ). Known from b l i d out settled m (j - i)) e
      (known-after from b l i d out settled device buffer same (j - i) left (omega (arith, e, more)) (omega (arith, e, room))
      (λ k f t. all k f (omega (arith, e, t))))
      in (
        moved ∙ known.0,
        put ∙ ap (λ (y : Answer). with_same out i (j - i) y) alike ∙ known.1,
        subst Settled (sym moved) known.3,
        sym known.4 ∙ ap owner_byte (sym moved),
        sym known.5 ∙ ap lines_byte (sym moved),
      )
