-- What holds of the counts in the list of states of one run.
-- Assumes nothing.
use Prim.Native.Nat.{ℕ, zero, suc, ◌+◌, ◌≤◌}
use mathlib.Core.Path.{◌≡◌, refl, sym, ap, ◌∙◌}
use mathlib.Core.Bool.{Bool, true, false, not, ◌&&◌, false≢true}
use mathlib.Core.List.{List, [], ◌∷◌}
use native.Mathlib.Nat.{le_refl, le_trans, zero-add}
use native.Mathlib.Omega.{arith}
use lib.ListN.{length, drop}
use Rattle.std.specs.Prelude.{if◌then◌else◌}
use Rattle.arbiter.specs.Words.{worth}
use Rattle.arbiter.specs.State.{owns_turn, owns, connected}
use Rattle.arbiter.specs.Effects.{power_up}
use Rattle.arbiter.specs.Steps.{run_from, run}
use Rattle.arbiter.specs.Traces.{event_bytes, raws_in}
use Rattle.arbiter.specs.AuditWords.{next, requests, tick, ticks_in}
use Rattle.arbiter.specs.declared.Master.{Master}
use Rattle.arbiter.specs.declared.Master.TheVariants.{Zero, One}
use Rattle.arbiter.specs.declared.Turn.{Turn}
use Rattle.arbiter.specs.declared.Turn.TheVariants.{Nobody, Claims, Owns}
use Rattle.arbiter.specs.declared.Kind.{Kind}
use Rattle.arbiter.specs.declared.Device.{Device}
use Rattle.arbiter.specs.declared.Raw.{Raw}
use Rattle.arbiter.proofs.Connected.{Served, step_served, all_served, serves_owner, closed_served}
use Rattle.share.specs.States.{listed_if, states_from, tick_states, waits, unowned, count, front, longest}
use Rattle.share.specs.Laws.{StatesAreTicks, WaitingNotOwning}
use Rattle.share.proofs.Numbers.{larger_most}

-- ---- as many states as ticks, and no more than events

listed_length : (c : Bool) (x : Device) (ds : List Device) → length (listed_if c x ds) ≡ worth 1 c + length ds
listed_length true x ds = omega arith
listed_length false x ds = sym (zero-add _)

states_length : (d : Device) (rs : List Raw) → length (states_from d rs) ≡ ticks_in d rs
unfolding states_from ticks_in
states_length d [] = refl
states_length d (r ∷ rs) =
    listed_length (tick r d) (next d r) (states_from (next d r) rs) ∙ ap (λ (n : ℕ). worth 1 (tick r d) + n) (states_length (next d r) rs)

pub states_are_ticks : StatesAreTicks
states_are_ticks k rs = states_length (power_up k) rs

one_at_most : (c : Bool) → worth 1 c ≤ 1
one_at_most true = le_refl 1
one_at_most false = omega arith

pub few_states : (d : Device) (rs : List Raw) → length (states_from d rs) ≤ length rs
unfolding states_from
few_states d [] = le_refl 0
few_states d (r ∷ rs) =
    let e = listed_length (tick r d) (next d r) (states_from (next d r) rs) in
    let h = few_states (next d r) rs in
    let o = one_at_most (tick r d) in
    omega (arith, e, h, o)

pub raws_length : (n : ℕ) (l : List ℕ) → length (raws_in n l) ≡ n
unfolding raws_in
raws_length zero l = refl
raws_length (suc n) l = ap suc (raws_length n (drop event_bytes l))

-- ---- each state is counted as owned by 0, by 1 or by none

one_of_three : (t : Turn) → worth 1 (owns_turn Zero t) + worth 1 (owns_turn One t) + worth 1 (not (owns_turn Zero t) && not (owns_turn One t)) ≡ 1
one_of_three Nobody = refl
one_of_three (Claims m g) = refl
one_of_three (Owns Zero g) = refl
one_of_three (Owns One g) = refl

three_counts : (f g h : Device → Bool) → ((d : Device) → worth 1 (f d) + worth 1 (g d) + worth 1 (h d) ≡ 1) → (ds : List Device)
    → count f ds + count g ds + count h ds ≡ length ds
unfolding count
three_counts f g h one [] = refl
three_counts f g h one (d ∷ ds) = let e = one d in let i = three_counts f g h one ds in omega (arith, e, i)

pub owned_add_up : (ds : List Device) → count (owns Zero) ds + count (owns One) ds + count unowned ds ≡ length ds
owned_add_up ds = three_counts (owns Zero) (owns One) unowned (λ d. one_of_three d.arb.turn) ds

-- ---- who waits does not own

waits_alone : (r o : Bool) → r && not o ≡ true → o ≡ false
waits_alone true true h = absurd (false≢true h)
waits_alone true false h = refl
waits_alone false o h = absurd (false≢true h)

pub waiting_not_owning : WaitingNotOwning
waiting_not_owning m d h = waits_alone (requests m d) (owns m d) h

one_of_two : (r o : Bool) → worth 1 (r && not o) + worth 1 o ≤ 1
one_of_two true true = le_refl 1
one_of_two true false = le_refl 1
one_of_two false true = le_refl 1
one_of_two false false = omega arith

two_counts : (f g : Device → Bool) → ((d : Device) → worth 1 (f d) + worth 1 (g d) ≤ 1) → (ds : List Device) → count f ds + count g ds ≤ length ds
unfolding count
two_counts f g one [] = le_refl 0
two_counts f g one (d ∷ ds) = let e = one d in let i = two_counts f g one ds in omega (arith, e, i)

pub waited_or_owned_in : (m : Master) (ds : List Device) → count (waits m) ds + count (owns m) ds ≤ length ds
waited_or_owned_in m ds = two_counts (waits m) (owns m) (λ d. one_of_two (requests m d) (owns m d)) ds

-- ---- who is connected owns, in a run from power-up

implied : (a b : Bool) → (a ≡ true → b ≡ true) → worth 1 a ≤ worth 1 b
implied true true h = le_refl 1
implied true false h = absurd (false≢true (h refl))
implied false b h = omega arith

module _ (f g : Device → Bool) where
  listed_le : (c : Bool) (x : Device) (ds : List Device) → worth 1 (f x) ≤ worth 1 (g x) → count f ds ≤ count g ds
      → count f (listed_if c x ds) ≤ count g (listed_if c x ds)
  unfolding count
  listed_le true x ds p q = omega (arith, p, q)
  listed_le false x ds p q = q

  counts_le : (P : Device → Type 0) → ((d : Device) (r : Raw) → P d → P (next d r)) → ((d : Device) → P d → f d ≡ true → g d ≡ true)
      → (d : Device) (rs : List Raw) → P d → count f (states_from d rs) ≤ count g (states_from d rs)
  unfolding states_from count
  counts_le P keeps gives d [] p = le_refl 0
  counts_le P keeps gives d (r ∷ rs) p =
      let q = keeps d r p in
      listed_le (tick r d) (next d r) (states_from (next d r) rs) (implied (f (next d r)) (g (next d r)) (gives (next d r) q))
      (counts_le P keeps gives (next d r) rs q)

started : (k : Kind) → Served (power_up k)
unfolding run run_from
started k = all_served k []

pub connected_owned_in : (m : Master) (k : Kind) (rs : List Raw) → count (connected m) (tick_states k rs) ≤ count (owns m) (tick_states k rs)
connected_owned_in m k rs =
    counts_le (connected m) (owns m) Served step_served (λ d p h. serves_owner d p m (closed_served m d.arb.switch h)) (power_up k) rs (started k)

-- ---- a longest wait is among the ticks waited

front_in_count : (such : Device → Bool) (ds : List Device) → front such ds ≤ count such ds
unfolding front count
front_in_count such [] = le_refl 0
front_in_count such (d ∷ ds) = go (such d) (front such ds) (count such ds) (front_in_count such ds)
  where
    go : (b : Bool) (f c : ℕ) → f ≤ c → (if b then 1 + f else 0) ≤ worth 1 b + c
    go true f c h = omega arith
    go false f c h = omega arith

more_in_count : (such : Device → Bool) (d : Device) (ds : List Device) → count such ds ≤ count such (d ∷ ds)
unfolding count
more_in_count such d ds = omega arith

pub longest_in_count : (such : Device → Bool) (ds : List Device) → longest such ds ≤ count such ds
unfolding longest
longest_in_count such [] = omega arith
longest_in_count such (d ∷ ds) =
    larger_most (front such (d ∷ ds)) (longest such ds) (count such (d ∷ ds)) (front_in_count such (d ∷ ds))
    (le_trans (longest_in_count such ds) (more_in_count such d ds))
