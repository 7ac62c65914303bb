-- Every field takes every value of its range along its run: antt computes each. So for each value there is a run that ends with it.
-- Assumes nothing.
use Prim.Native.Nat.{◌≤◌, ◌<◌}
use mathlib.Core.Path.{◌≡◌, refl, ap, ap₂, ◌∙◌}
use mathlib.Core.Bool.{and-eq-true_iff, false≢true}
use native.Mathlib.Omega.{arith}
use borrow.Author.Tests.{eqb-true, ltb-true, ltb-false}
use Rattle.std.specs.Prelude.{◌-◌, ◌&&◌, ◌∷◌, ◌++◌}
use Rattle.ranges.specs.Names.{ℕ, suc, Bool, true, List, [], eqb, ltb, Kind, Pca9641, Tpt29641, Device, Raw}
use Rattle.arbiter.specs.Rules.{rules_of}
use Rattle.arbiter.specs.Words.{byte_of}
use Rattle.arbiter.specs.Registers.{contr_byte, status_byte, register_byte, is_asserted, own_written, mail_written, drives_written, turn_written}
use Rattle.arbiter.specs.Events.{decode, in_sequence, acknowledged, outcome}
use Rattle.arbiter.specs.Effects.{commanded, written, paired, was_read, lined, ticked, fresh_side, was_reset, power_up, effect}
use Rattle.arbiter.specs.Order.{levels, lost, losses_from, losses, cut_from, cut, winner, claim, granted, grant_from, grant, joined, clocked, kept_joined}
use Rattle.arbiter.specs.Order.{connect_from, connect}
use Rattle.arbiter.specs.Steps.{parts, owner_byte, lines_byte, byte_read, refused, taken, step_event, step_decoded, step, run_from, run}
use Rattle.arbiter.specs.AuditWords.{next}
use Rattle.ranges.specs.Ranges.{Field, narrow, bytes, choices, is_bytes, are_bytes}
use Rattle.ranges.specs.RangeWitnesses.{Reached, AllReached, EveryValueReached, Way, rises, falls, met, met_along, meets_all, covers, all_cover, ways_of}
use Rattle.ranges.specs.RangeWitnesses.{AllCover}
use Rattle.arbiter.proofs.Choice.{either, split}

pub all_cover_lem : AllCover
unfolding rules_of byte_of contr_byte status_byte register_byte is_asserted own_written mail_written drives_written turn_written
    decode in_sequence acknowledged outcome commanded written paired was_read lined ticked fresh_side was_reset power_up effect
    levels lost losses_from losses cut_from cut winner claim granted grant_from grant joined clocked kept_joined connect_from connect
    parts owner_byte lines_byte byte_read refused taken step_event step_decoded step run_from run
    are_bytes met_along all_cover
all_cover_lem Pca9641 = refl
all_cover_lem Tpt29641 = refl

-- ---- a value that was met is reached

-- if one more has been met than before, it is the field's own
here : (want : ℕ → ℕ) (n i j : ℕ) → i ≤ j → j < met want n i → n ≡ want j
here want n i j low high =
    either (λ (w : ℕ). j < w → n ≡ want j) (eqb n (want i)) (λ e h. let last : i ≡ j = omega arith in eqb-true n (want i) e ∙ ap want last)
    (λ e h. omega arith) high

-- so along a run each value that was met stands after some of its events, which are bytes as all are
met_after : (want : ℕ → ℕ) (value : Device → ℕ) (i j : ℕ) (rs : List Raw) (d : Device) → are_bytes rs ≡ true → i ≤ j → j < met_along want value i d rs
    → (some : List Raw) × (are_bytes some ≡ true) × (value (run_from d some) ≡ want j)
unfolding met_along run_from are_bytes
met_after want value i j [] d b low high = ([], refl, here want (value d) i j low high)
met_after want value i j (r ∷ rs) d b low high =
    split (ltb j (met want (value d) i))
    (λ l. ([], refl, here want (value d) i j low (ltb-true j (met want (value d) i) l)))
    (λ l. let two = (and-eq-true_iff (is_bytes r) (are_bytes rs)).0 b in
    let rest = met_after want value (met want (value d) i) j rs (next d r) two.1 (ltb-false j (met want (value d) i) l) high in
    (r ∷ rest.0, ap₂ (λ (a b : Bool). a && b) two.0 rest.1, rest.2))

all_met : (want : ℕ → ℕ) (k : Kind) (f : Field) (rs : List Raw) → meets_all want k f rs ≡ true → (j : ℕ) → j ≤ f.top k
    → (some : List Raw) × (are_bytes some ≡ true) × (f.value (run k some) ≡ want j)
unfolding run
all_met want k f rs t j h =
    let two = (and-eq-true_iff (eqb (met_along want f.value 0 (power_up k) rs) (suc (f.top k))) (are_bytes rs)).0 t in
    let end = eqb-true (met_along want f.value 0 (power_up k) rs) (suc (f.top k)) two.0 in
    met_after want f.value 0 j rs (power_up k) two.1 (omega arith) (omega arith)

covered : (k : Kind) (f : Field) (w : Way) → covers k f w ≡ true → Reached k f
covered k f (rises rs) t v h = all_met (λ (i : ℕ). i) k f rs t v h
covered k f (falls rs) t v h =
    let top : ℕ = f.top k in
    let back : top - (top - v) ≡ v = omega (arith, h) in
    let found = all_met (λ (i : ℕ). top - i) k f rs t (top - v) (omega arith) in
    (found.0, found.1, found.2 ∙ back)

all_covered : (k : Kind) (fs : List Field) (ws : List Way) → all_cover k fs ws ≡ true → AllReached k fs
unfolding all_cover
all_covered k [] [] t = tt
all_covered k [] (w ∷ ws) t = absurd (false≢true t)
all_covered k (f ∷ fs) [] t = absurd (false≢true t)
all_covered k (f ∷ fs) (w ∷ ws) t =
    let two = (and-eq-true_iff (covers k f w) (all_cover k fs ws)).0 t in
    (covered k f w two.0, all_covered k fs ws two.1)

pub every_value_reached : EveryValueReached
every_value_reached k = all_covered k (narrow ++ bytes ++ choices) (ways_of k) (all_cover_lem k)
