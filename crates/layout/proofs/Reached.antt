-- Runs reach every value that a row lets in: those of arbiter/specs/RangeWitnesses, and for CONTR a WRITE of each byte.
-- Assumes nothing.
use Prim.Native.Nat.{ℕ, ◌≤◌}
use mathlib.Core.Path.{◌≡◌, refl, sym, ap, ◌∙◌}
use mathlib.Core.Bool.{Bool, true, not, ◌&&◌, ◌||◌, and-eq-true_iff}
use native.Mathlib.Omega.{arith}
use lib.Dec.{eqb, leb}
use borrow.Author.Tests.{eqb-true, leb-true, not-true}
use Rattle.arbiter.specs.Rules.{rules_of, limit_of}
use Rattle.arbiter.specs.Words.{bit, byte_of}
use Rattle.arbiter.specs.Registers.{contr_byte, status_byte, register_byte, is_asserted, own_written, mail_written, drives_written, turn_written}
use Rattle.arbiter.specs.Events.{decode, in_sequence, acknowledged, outcome}
use Rattle.arbiter.specs.Effects.{commanded, written, paired, was_read, lined, ticked, fresh_side, was_reset, power_up, effect}
use Rattle.arbiter.specs.Order.{levels, lost, losses_from, losses, cut_from, cut, winner, claim, granted, grant_from, grant}
use Rattle.arbiter.specs.Order.{joined, clocked, kept_joined, connect_from, connect}
use Rattle.arbiter.specs.Steps.{parts, owner_byte, lines_byte, byte_read, refused, taken, step_event, step_decoded, step, run_from, run}
use Rattle.ranges.specs.Ranges.{are_bytes}
use Rattle.ranges.specs.RangeWitnesses.{contr_run}
use Rattle.arbiter.specs.declared.Master.{Master}
use Rattle.arbiter.specs.declared.Master.TheVariants.{Zero, One}
use Rattle.arbiter.specs.declared.Kind.{Kind}
use Rattle.arbiter.specs.declared.Kind.TheVariants.{Pca9641, Tpt29641}
use Rattle.arbiter.proofs.Every.{every, every_at}
use Rattle.ranges.proofs.RangeWitnesses.{every_value_reached}
use Rattle.layout.specs.Layout.{contr}
use Rattle.layout.specs.Laws.{RowReached, EveryRowReached}
use Rattle.layout.proofs.Numbers.{◌also◌}

up : {X : ℕ → Type 0} (top : ℕ) → ((v : ℕ) → v ≤ top → X v) → (v : ℕ) → leb v top ≡ true → X v
up top reached v h = reached v (leb-true v top h)

-- ---- CONTR

abbrev contr_test : Kind → Master → ℕ → Bool
contr_test k m v = bit 1 v || (eqb ((contr m).value (run k (contr_run m v))) v && are_bytes (contr_run m v))

contr_tests : (k : Kind) (m : Master) → every (contr_test k m) 256 ≡ true
unfolding rules_of byte_of contr_byte status_byte register_byte is_asserted own_written mail_written drives_written turn_written
    decode in_sequence acknowledged outcome commanded written paired was_read lined ticked fresh_side was_reset power_up effect
    levels lost losses_from losses cut_from cut winner claim granted grant_from grant joined clocked kept_joined connect_from connect
    parts owner_byte lines_byte byte_read refused taken step_event step_decoded step run_from run
    are_bytes
contr_tests Pca9641 Zero = refl
contr_tests Pca9641 One = refl
contr_tests Tpt29641 Zero = refl
contr_tests Tpt29641 One = refl

contr_reached : (k : Kind) (m : Master) → RowReached k (contr m)
contr_reached k m v h =
    let two = (and-eq-true_iff (leb v 255) (not (bit 1 v))).0 h in
    let most : v ≤ 255 = leb-true v 255 two.0 in
    let given = eqb ((contr m).value (run k (contr_run m v))) v && are_bytes (contr_run m v) in
    let tested = sym (ap (λ (x : Bool). x || given) (not-true (bit 1 v) two.1)) ∙ every_at (contr_test k m) 256 (contr_tests k m) v (omega arith) in
    let done = (and-eq-true_iff (eqb ((contr m).value (run k (contr_run m v))) v) (are_bytes (contr_run m v))).0 tested in
    (contr_run m v, done.1, eqb-true _ v done.0)

-- ---- every row

pub every_row_reached : EveryRowReached
every_row_reached k =
    let (ints0, (mask0, (ints1, (mask1, (hold, (idle, (scl, (sda, (pulsed, more))))))))) = every_value_reached k in
    let (rt0, (low0, (high0, (rt1, (low1, (high1, (reserve, choices))))))) = more in
    let (pointer0, (_, (_, (_, (_, (_, (_, (_, (full0, (auto0, (port0, one))))))))))) = choices in
    let (pointer1, (_, (_, (_, (_, (_, (_, (_, (full1, (auto1, (port1, both))))))))))) = one in
    let (outscl, (outsda, (intin, (drivescl, (drivesda, (busy, (initfail, (last, (turn, (switch, _)))))))))) = both in
    let from-ports = up 2 port0 also up 7 pointer0 also up 1 auto0 also up 2 port1 also up 7 pointer1 also up 1 auto1 also tt in
    let from-turn = up 12 turn also up 2 last also up 20 switch also up 1 initfail also from-ports in
    let from-levels = up 1 outscl also up 1 outsda also up 1 intin also up 1 drivescl also up 1 drivesda also up 1 busy also from-turn in
    let from-counts = up 255 reserve also up 35 hold also up 500 scl also up 501 sda also up (limit_of k) idle also from-levels in
    let from_one = up 255 rt1 also up 63 ints1 also up 127 mask1 also up 255 low1 also up 255 high1 also up 1 full1 also from-counts in
    contr_reached k Zero also up 255 rt0 also up 63 ints0 also up 127 mask0 also up 255 low0 also up 255 high0 also up 1 full0
    also contr_reached k One also from_one
