-- Every row of specs/FurtherWitnesses.antt meets its premises: antt computes each. And they are the premises of the statement that the row is
-- for: with the statement, they give what it concludes.
-- Assumes nothing.
use Prim.Native.Nat.{◌<◌}
use mathlib.Core.Path.{◌≡◌, refl, sym, ap, ◌∙◌, subst}
use mathlib.Core.Bool.{false≢true, and-eq-true_iff}
use mathlib.Core.List.{append_assoc}
use native.Mathlib.Omega.{arith}
use borrow.Author.Tests.{ltb-true, leb-true, eqb-true, not-true}
use Rattle.std.specs.Prelude.{◌+◌, ◌*◌, ◌&&◌, ◌∷◌, ◌++◌, if◌then◌else◌}
use Rattle.ranges.specs.Names.{ℕ, Bool, true, false, not, List, [], eqb, ltb, Master, Kind, Pca9641, Tpt29641, Device, Raw, Pair}
use Rattle.std.specs.Prelude.{Option, Some, None, Err}
use Rattle.ranges.specs.Names.{Ok}
use Rattle.arbiter.specs.declared.Refusal.TheVariants.{TraceCut}
use Rattle.arbiter.specs.Rules.{rules_of}
use Rattle.arbiter.specs.Words.{worth, byte_of}
use Rattle.arbiter.specs.Straps.{address_of}
use Rattle.arbiter.specs.State.{bus_hung}
use Rattle.arbiter.specs.Registers.{contr_byte, status_byte, register_byte, is_asserted, own_written, mail_written, drives_written, turn_written}
use Rattle.arbiter.specs.Events.{decode, in_sequence, acknowledged, outcome}
use Rattle.arbiter.specs.Effects.{commanded, written, paired, was_read, lined, ticked, fresh_side, was_reset, power_up, effect}
use Rattle.arbiter.specs.Order.{levels, lost, losses_from, losses, cut_from, cut, winner, claim, granted, grant_from, grant, joined, clocked, kept_joined}
use Rattle.arbiter.specs.Order.{connect_from, connect}
use Rattle.arbiter.specs.Steps.{parts, owner_byte, lines_byte, byte_read, refused, taken, step_event, step_decoded, step, run_from, run}
use Rattle.arbiter.specs.AuditWords.{next, tick, ticks_in, never, throughout}
use Rattle.arbiter.specs.Grounds.{ground_shown, chosen_by, GroundOfChoice, GroundStays, ContestIsPair}
use Rattle.arbiter.specs.Hung.{scl_moves, ClockRuns, ClockNotHung}
use Rattle.arbiter.specs.HungRows.{slow_clock}
use Rattle.arbiter.specs.Traces.{event_bytes, pins_in, count_in, read_trace, accepted_with}
use Rattle.arbiter.specs.OldTraces.{old_number, converted, ConvertedAccepted, OldRefused}
use Rattle.arbiter.specs.Marks.{lines}
use Rattle.arbiter.specs.Witnesses.{all_met}
use Rattle.audit.specs.FurtherWitnesses.{ground_of_choice, ground_stays, contest_is_pair, is_address, converted_accepted, old_refused, ground_rows}
use Rattle.audit.specs.FurtherWitnesses.{old_rows}
use Rattle.audit.specs.FurtherWitnesses.{FurtherWitnessesMeet, SlowClockRuns}
use Rattle.arbiter.proofs.Choice.{split, if_false}
use Rattle.arbiter.proofs.Witnesses.{Holds}

grounds_meet : (k : Kind) → all_met (ground_rows k) ≡ true
unfolding rules_of byte_of contr_byte status_byte register_byte is_asserted own_written mail_written drives_written turn_written
    decode in_sequence acknowledged outcome commanded written paired was_read lined ticked fresh_side was_reset power_up effect
    levels lost losses_from losses cut_from cut winner claim granted grant_from grant joined clocked kept_joined connect_from connect
    parts owner_byte lines_byte byte_read refused taken step_event step_decoded step run_from run throughout ground_rows
grounds_meet Pca9641 = refl
grounds_meet Tpt29641 = refl

olds_meet : all_met old_rows ≡ true
unfolding address_of old_number old_rows
olds_meet = refl

pub further_witnesses_meet : FurtherWitnessesMeet
further_witnesses_meet = (grounds_meet, olds_meet)

-- ---- the tests of a row are the premises of its statement

pub ground_of_choice_met : GroundOfChoice → (g : ℕ) (k : Kind) (m : Master) (rs : List Raw) (r : Raw) → Holds (ground_of_choice g k m rs r)
    → ground_shown r (run k rs) ≡ g
ground_of_choice_met told g k m rs r (by, (made, _)) = told k m rs r made ∙ eqb-true (chosen_by m (next (run k rs) r)) g by

pub ground_stays_met : GroundStays → (k : Kind) (m : Master) (rs : List Raw) (r : Raw) (later : List Raw) (t : Raw)
    → Holds (ground_stays k m rs r later t) → ground_shown t (run_from (next (run k rs) r) later) ≡ ground_shown r (run k rs)
ground_stays_met told k m rs r later t (mine, (still, _)) = told k m rs r later t mine still

pub contest_is_pair_met : ContestIsPair → (k : Kind) (m : Master) (rs : List Raw) (r : Raw) → Holds (contest_is_pair k m rs r)
    → (v0 : ℕ) × (v1 : ℕ) × (decode r ≡ Ok (Pair v0 v1))
contest_is_pair_met told k m rs r (made, (contest, _)) = told k m rs r made (not-true (eqb (ground_shown r (run k rs)) 1) contest)

is_address_lem : (a : ℕ) (s : Option ℕ) → is_address a s ≡ true → s ≡ Some a
is_address_lem a (Some b) h = ap Some (sym (eqb-true a b h))
is_address_lem a None h = absurd (false≢true h)

pub converted_accepted_met : ConvertedAccepted → (t : List ℕ) (room a : ℕ) → Holds (converted_accepted t room a)
    → read_trace (converted t) room ≡ accepted_with a (count_in t) Pca9641
converted_accepted_met told t room a (old, (strapped, (fits, _))) =
    (told t room a (eqb-true (old_number t) 0 old) (is_address_lem a (address_of (pins_in t)) strapped) (leb-true (event_bytes * count_in t) room fits)).0

pub old_refused_met : OldRefused → (t : List ℕ) (room : ℕ) → Holds (old_refused t) → read_trace t room ≡ Err TraceCut
old_refused_met told t room (old, _) = told t room (eqb-true (old_number t) 0 old)

-- ---- a clock that runs: found in one pass, with the ticks counted since SCL's last change

unfoldable steady : ℕ → Device → List Raw → Bool
steady n d [] = ltb n 500
steady n d (r ∷ rs) = ltb n 500 && steady (if scl_moves r d then 0 else n + worth 1 (tick r d)) (next d r) rs

steady_now : (n : ℕ) (d : Device) (rs : List Raw) → steady n d rs ≡ true → n < 500
unfolding steady
steady_now n d [] h = ltb-true n 500 h
steady_now n d (r ∷ rs) h = ltb-true n 500 ((and-eq-true_iff (ltb n 500) (steady (if scl_moves r d then 0 else n + worth 1 (tick r d)) (next d r) rs)).0 h).0

-- it is so from any point on
steady_later : (n : ℕ) (d : Device) (before rest : List Raw) → steady n d (before ++ rest) ≡ true → (c : ℕ) × (steady c (run_from d before) rest ≡ true)
unfolding steady run_from
steady_later n d [] rest h = (n, h)
steady_later n d (r ∷ rs) rest h =
    let c : ℕ = if scl_moves r d then 0 else n + worth 1 (tick r d) in
    steady_later c (next d r) rs rest ((and-eq-true_iff (ltb n 500) (steady c (next d r) (rs ++ rest))).0 h).1

-- and where SCL does not change, fewer than 500 ticks come
steady_short : (n : ℕ) (d : Device) (since after : List Raw) → steady n d (since ++ after) ≡ true → never scl_moves d since ≡ true
    → n + ticks_in d since < 500
unfolding steady never ticks_in
steady_short n d [] after h still =
    let now : n < 500 = steady_now n d after h in
    omega arith
steady_short n d (r ∷ rs) after h still =
    let c : ℕ = if scl_moves r d then 0 else n + worth 1 (tick r d) in
    let on = ((and-eq-true_iff (ltb n 500) (steady c (next d r) (rs ++ after))).0 h).1 in
    let two = (and-eq-true_iff (not (scl_moves r d)) (never scl_moves (next d r) rs)).0 still in
    let counts : c ≡ n + worth 1 (tick r d) = if_false 0 (n + worth 1 (tick r d)) (not-true (scl_moves r d) two.0) in
    let rest : n + worth 1 (tick r d) + ticks_in (next d r) rs < 500 =
    subst (λ (k : ℕ). k + ticks_in (next d r) rs < 500) counts (steady_short c (next d r) rs after on two.1) in
    omega arith

steady_runs : (k : Kind) (rs : List Raw) → steady 0 (power_up k) rs ≡ true → ClockRuns k rs
unfolding run
steady_runs k rs h before since after whole long =
    split (never scl_moves (run k before) since)
    (λ still. let from = steady_later 0 (power_up k) before (since ++ after)
    (subst (λ (es : List Raw). steady 0 (power_up k) es ≡ true) (whole ∙ append_assoc before since after) h) in
    let few : from.0 + ticks_in (run k before) since < 500 = steady_short from.0 (run k before) since after from.1 still in
    absurd (omega arith))
    (λ moves. moves)

slow_steady : (k : Kind) → steady 0 (power_up k) (lines 1 0 1 ∷ slow_clock ++ slow_clock ++ slow_clock) ≡ true
unfolding rules_of own_written mail_written drives_written turn_written
    decode in_sequence commanded written paired was_read lined ticked fresh_side was_reset power_up effect
    levels lost losses_from losses cut_from cut winner claim granted grant_from grant joined clocked kept_joined connect_from connect
    parts refused taken step_event step_decoded step steady
slow_steady Pca9641 = refl
slow_steady Tpt29641 = refl

pub slow_clock_runs : SlowClockRuns
slow_clock_runs k = steady_runs k (lines 1 0 1 ∷ slow_clock ++ slow_clock ++ slow_clock) (slow_steady k)

-- so BUS_HUNG is not shown after it, by the statement
pub clock_not_hung_met : ClockNotHung → (k : Kind) → bus_hung (run k (lines 1 0 1 ∷ slow_clock ++ slow_clock ++ slow_clock)).bus ≡ false
clock_not_hung_met told k = told k (lines 1 0 1 ∷ slow_clock ++ slow_clock ++ slow_clock) (slow_clock_runs k)
