-- One turn of the loop over events: what the loop knows before event i, and that it knows it again after a step or after a batch of TICKs.
-- Assumes nothing.
use Prim.Native.Nat.{ℕ, ◌+◌, ◌-◌, ◌*◌, ◌≤◌, ◌<◌}
use mathlib.Core.Path.{◌≡◌, refl, sym, ap, ap₂, subst, ◌∙◌}
use mathlib.Core.Bool.{true}
use mathlib.Core.List.{List, ◌++◌}
use native.Mathlib.Omega.{arith}
use lib.ListN.{length, drop, set, length-set}
use Rattle.std.specs.Prelude.{min}
use Rattle.arbiter.specs.Steps.{owner_byte, lines_byte, step, run_from, answers_from}
use Rattle.arbiter.specs.Traces.{event_bytes, raws_in, bytes_of, event_count}
use Rattle.arbiter.specs.declared.Side.{Side}
use Rattle.arbiter.specs.declared.Bus.{Bus}
use Rattle.arbiter.specs.declared.Arbitration.{Arbitration}
use Rattle.arbiter.specs.declared.Kind.{Kind}
use Rattle.arbiter.specs.declared.Device.{Device}
use Rattle.arbiter.specs.declared.Raw.{Raw}
use Rattle.arbiter.specs.declared.Answer.{Answer}
use Rattle.arbiter.specs.declared.Stepped.{Stepped}
use Rattle.arbiter.proofs.KindKept.{keeps_kind}
use Rattle.format.specs.Places.{event_at, with_answer}
use Rattle.quiet.specs.Counts.{with_counts, after_ticks}
use Rattle.quiet.specs.Quiet.{counts_left}
use Rattle.step.specs.Carried.{kept}
use Rattle.light.specs.Light.{Settled}
use Rattle.light.proofs.Settles.{stays_settled}
use Rattle.light.proofs.Ended.{answer_shows}
use Rattle.traces.specs.Sides.{device_of}
use Rattle.traces.specs.Ticks.{is_tick_raw, AllTicks, with_same}
use Rattle.traces.proofs.Runs.{again_device, again_out}
use Rattle.traces.proofs.Batch.{least_both, some_one, all_from, together}
use Rattle.traces.proofs.TwoSides.{held, set_all}

-- what the loop knows before event i, of n: the device is the one after i events, their answers stand before the untouched rest, and the last two answer
-- bytes are the device's
abbrev pub Known : List ℕ → List ℕ → ℕ → Device → List ℕ → ℕ → ℕ → Device → ℕ → Type 0
Known events buffer n from out owner lines d i =
    (i ≤ n)
    × (length out ≡ length buffer)
    × (d ≡ run_from from (raws_in i events))
    × (out ≡ bytes_of (answers_from from (raws_in i events)) ++ drop (event_bytes * i) buffer)
    × Settled d
    × (owner ≡ owner_byte d)
    × (lines ≡ lines_byte d)

module _ (events buffer : List ℕ) (n : ℕ) (from : Device) (out : List ℕ) (owner lines : ℕ) (d : Device) (i : ℕ)
    (known : Known events buffer n from out owner lines d i) (within : i < n) (enough : event_bytes * n ≤ length events)
    (room : event_bytes * n ≤ length buffer) where
  -- a step, and its answer stored
  pub turned : (s : Stepped) (r : Raw) → r ≡ event_at i events → s ≡ step d r → (last : List ℕ) (a : Answer) → length last ≡ length out → last
      ≡ with_answer out i a → a ≡ s.answer
      → Known events buffer n from last s.answer.owner s.answer.lines s.device (i + 1)
  turned s r read stepped last a same put told =
      let more : i < event_count events = omega (arith, within, enough) in
      let fits : event_bytes * (i + 1) ≤ length buffer = omega (arith, within, room) in
      let truly : s ≡ step d (event_at i events) = stepped ∙ ap (step d) read in
      let shows = answer_shows d (event_at i events) in (
        omega (arith, within),
        same ∙ known.1,
        again_device from events i d s more known.2 truly,
        again_out from events i d s more known.2 truly buffer out last known.3 known.1 (put ∙ ap (with_answer out i) told) fits,
        subst Settled (sym (ap (λ (x : Stepped). x.device) truly)) (stays_settled d (event_at i events) known.4),
        ap (λ (x : Stepped). x.answer.owner) truly ∙ shows.0 ∙ ap (λ (x : Stepped). owner_byte x.device) (sym truly),
        ap (λ (x : Stepped). x.answer.lines) truly ∙ shows.1 ∙ ap (λ (x : Stepped). lines_byte x.device) (sym truly),
      )

  -- TICKs up to event j, of k that the counts have left, answered alike
  module _ (k : ℕ) (left : k ≡ counts_left d) (some : k ≡ 0 → ⊥) (r : Raw) (read : r ≡ event_at i events) (tick : is_tick_raw r ≡ true) (few : ℕ)
      (least-is : few ≡ min k (n - i)) where
    pub last_fits : (few ≤ n - i) × (few ≤ k) × (1 ≤ few)
    last_fits =
        let both = least_both k (n - i) few least-is in
        let rest : 1 ≤ n - i = omega (arith, within) in
        (both.1, both.0, both.2 (some_one k some) rest)

    pub ticked : (j : ℕ) → i < j → j ≤ i + few → AllTicks (i + 1) j events → (a : Answer) → a ≡ kept 0 0 owner lines → (last : List ℕ) → length last
        ≡ length out → last ≡ with_same out i (j - i) a
        → (e : Device) → e ≡ after_ticks (j - i) d → Known events buffer n from last owner lines e j
    ticked j past till all a told last same put e moved =
        let fits = last_fits in
        let end : j ≤ n = omega (arith, till, fits.0, within) in
        let first : is_tick_raw (event_at i events) ≡ true = ap is_tick_raw (sym read) ∙ tick in
        let found =
        together from events buffer i j d e out last a known.4 known.2 known.3 known.1 past (omega (arith, till, fits.1, left))
        (omega (arith, end, enough)) (omega (arith, end, room))
        (all_from i j events first all) (told ∙ ap₂ (kept 0 0) known.5 known.6) put moved
        in
        (end, same ∙ known.1, found.0, found.1, found.2, known.5 ∙ found.3, known.6 ∙ found.4)

-- ---- a whole device taken apart into the two sides, the bus and the arbitration

pub apart : (k : Kind) (l : List Side) → length l ≡ 2 → (d : Device) → d.kind ≡ k → held k (set (set l 0 d.side0) 1 d.side1) d.bus d.arb ≡ d
apart k l two d e = set_all k d.bus d.arb l two d.side0 d.side1 ∙ ap (λ (x : Kind). device_of x d.side0 d.side1 d.bus d.arb) (sym e)

pub step_apart : (k : Kind) (l : List Side) → length l ≡ 2 → (d : Device) (r : Raw) (s : Stepped) → s ≡ step d r → d.kind ≡ k
    → held k (set (set l 0 s.device.side0) 1 s.device.side1) s.device.bus s.device.arb ≡ s.device
step_apart k l two d r s h e = apart k l two s.device (ap (λ (x : Stepped). x.device.kind) h ∙ keeps_kind d r ∙ e)

pub ticks_apart : (k : Kind) (l : List Side) (b : Bus) (a : Arbitration) (j : ℕ) (e : Device) → e ≡ after_ticks j (held k l b a) → held k l e.bus e.arb ≡ e
unfolding after_ticks with_counts
ticks_apart k l b a j e h =
    ap (λ (x : Device). held k l x.bus x.arb) h ∙ sym h

pub two_on : (l : List Side) (i : ℕ) (v : Side) → length l ≡ 2 → length (set l i v) ≡ 2
two_on l i v h = length-set l i v ∙ h

-- ---- the same with the device in the loop's hands by its parts

module _ (events buffer : List ℕ) (n : ℕ) (from : Device) (out : List ℕ) (owner lines : ℕ) (k : Kind) (l : List Side) (b : Bus)
    (a : Arbitration) (i : ℕ) (two : length l ≡ 2) (known : Known events buffer n from out owner lines (held k l b a) i) (within : i < n)
    (enough : event_bytes * n ≤ length events) (room : event_bytes * n ≤ length buffer) where
  -- a step of the whole device
  pub stepped_on : (s : Stepped) (r : Raw) → r ≡ event_at i events → s ≡ step (held k l b a) r → (last : List ℕ) (x : Answer) → length last ≡ length out → last
      ≡ with_answer out i x → x ≡ s.answer
      → Known events buffer n from last s.answer.owner s.answer.lines
      (held k (set (set l 0 s.device.side0) 1 s.device.side1) s.device.bus s.device.arb) (i + 1)
  stepped_on s r read stepped last x same put told =
      subst (λ (d : Device). Known events buffer n from last s.answer.owner s.answer.lines d (i + 1))
      (sym (step_apart k l two (held k l b a) r s stepped refl))
      (turned events buffer n from out owner lines (held k l b a) i known within enough room s r read stepped last x same put told)

  -- TICKs together, which leave the sides
  pub ticked_on : (d : Device) → d ≡ held k l b a → (left : ℕ) → left ≡ counts_left d → (left ≡ 0 → ⊥) → (r : Raw) → r
      ≡ event_at i events → is_tick_raw r ≡ true → (few : ℕ) → few ≡ min left (n - i)
      → (j : ℕ) → i < j → j ≤ i + few → AllTicks (i + 1) j events → (x : Answer) → x ≡ kept 0 0 owner lines → (last : List ℕ) → length last ≡ length out → last
      ≡ with_same out i (j - i) x
      → (e : Device) → e ≡ after_ticks (j - i) d → Known events buffer n from last owner lines (held k l e.bus e.arb) j
  ticked_on d is left counts some r read tick few least-is j past till all x told last same put e moved =
      let gone : e ≡ after_ticks (j - i) (held k l b a) = moved ∙ ap (after_ticks (j - i)) is in
      subst (λ (y : Device). Known events buffer n from last owner lines y j) (sym (ticks_apart k l b a (j - i) e gone))
      (ticked events buffer n from out owner lines (held k l b a) i known within enough room left (counts ∙ ap counts_left is) some r read tick few
      least-is j past till all x told last same put e gone)
