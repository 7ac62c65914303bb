-- Every row of specs/WaitWitnesses.antt meets its premises: antt computes each. And they are the premises of the statements.
-- Assumes nothing.
use Prim.Native.Nat.{◌≤◌}
use mathlib.Core.Path.{◌≡◌, refl, sym, ap, ap₂, ◌∙◌}
use mathlib.Core.Bool.{and-eq-true_iff}
use lib.Dec.{leb}
use native.Mathlib.Nat.{add-zero}
use native.Mathlib.Omega.{arith}
use borrow.Author.Tests.{leb-true}
use Rattle.std.specs.Prelude.{◌+◌, ◌&&◌, ◌∷◌}
use Rattle.ranges.specs.Names.{ℕ, Bool, true, not, List, [], ltb, Master, Kind, Pca9641, Tpt29641, Device, Raw}
use Rattle.arbiter.specs.Rules.{rules_of}
use Rattle.arbiter.specs.Words.{worth, byte_of, partner}
use Rattle.arbiter.specs.State.{owns, is_idle}
use Rattle.arbiter.specs.Registers.{contr_byte, status_byte, register_byte, is_asserted, own_written, mail_written, drives_written, turn_written}
use Rattle.arbiter.specs.Events.{decode, in_sequence, acknowledged, outcome}
use Rattle.arbiter.specs.Effects.{commanded, written, paired, was_read, lined, ticked, fresh_side, was_reset, power_up, effect}
use Rattle.arbiter.specs.Order.{levels, lost, losses_from, losses, cut_from, cut, winner, claim, granted, grant_from, grant, joined, clocked, kept_joined}
use Rattle.arbiter.specs.Order.{connect_from, connect}
use Rattle.arbiter.specs.Steps.{parts, owner_byte, lines_byte, byte_read, refused, taken, step_event, step_decoded, step, run_from, run}
use Rattle.arbiter.specs.AuditWords.{next, requests, resting, reset, tick, ticks_in, never, throughout}
use Rattle.audit.specs.WorstWait.{reserves_within, delayed, stops_after, WorstWaitWithin, WorstWait}
use Rattle.audit.specs.WaitWitnesses.{goes_through, is_free, worst_wait, wait_witnesses, WaitWitnessesMeet}

pub wait_witnesses_meet : WaitWitnessesMeet
unfolding rules_of byte_of contr_byte status_byte register_byte is_asserted own_written mail_written drives_written turn_written
    decode in_sequence acknowledged outcome commanded written paired was_read lined ticked fresh_side was_reset power_up effect
    levels lost losses_from losses cut_from cut winner claim granted grant_from grant joined clocked kept_joined connect_from connect
    parts owner_byte lines_byte byte_read refused taken step_event step_decoded step run_from run
    goes_through wait_witnesses
wait_witnesses_meet Pca9641 = refl
wait_witnesses_meet Tpt29641 = refl

-- ---- what is found in one pass are the premises of the statement

record Passed (ends : ℕ → Device → Bool) (most more : ℕ) (m : Master) (n ticks : ℕ) (d : Device) (rs : List Raw) : Type 0 where
  asks : throughout (requests (partner m)) d rs ≡ true
  resets : never reset d rs ≡ true
  well : throughout (reserves_within most m) d rs ≡ true
  stops : stops_after m more n d rs ≡ true
  end : ends (ticks + ticks_in d rs) (run_from d rs) ≡ true

passed : (ends : ℕ → Device → Bool) (most more : ℕ) (m : Master) (n ticks : ℕ) (rs : List Raw) (d : Device) → goes_through ends most more m n ticks d rs ≡ true
    → Passed ends most more m n ticks d rs
unfolding goes_through throughout never stops_after ticks_in run_from
passed ends most more m n ticks [] d h =
    let outer = (and-eq-true_iff (requests (partner m) d && reserves_within most m d) (ends ticks d)).0 h in
    let inner = (and-eq-true_iff (requests (partner m) d) (reserves_within most m d)).0 outer.0 in
    record { asks = inner.0; resets = refl; well = inner.1; stops = refl; end = ap (λ (k : ℕ). ends k d) (add-zero ticks) ∙ outer.1 }
passed ends most more m n ticks (r ∷ rs) d h =
    let p : Master = partner m in
    let x : Device = next d r in
    let late : Bool = ltb (delayed m n r d) (more + 2) in
    let on : Bool = goes_through ends most more m (delayed m n r d) (ticks + worth 1 (tick r d)) x rs in
    let four = (and-eq-true_iff (requests p d && reserves_within most m d && not (reset r d) && late) on).0 h in
    let three = (and-eq-true_iff (requests p d && reserves_within most m d && not (reset r d)) late).0 four.0 in
    let two = (and-eq-true_iff (requests p d && reserves_within most m d) (not (reset r d))).0 three.0 in
    let one = (and-eq-true_iff (requests p d) (reserves_within most m d)).0 two.0 in
    let rest = passed ends most more m (delayed m n r d) (ticks + worth 1 (tick r d)) rs x four.1 in
    let sum : ticks + worth 1 (tick r d) + ticks_in x rs ≡ ticks + (worth 1 (tick r d) + ticks_in x rs) = omega arith in
    record {
      asks = ap₂ ◌&&◌ one.0 rest.asks;
      resets = ap₂ ◌&&◌ two.1 rest.resets;
      well = ap₂ ◌&&◌ one.1 rest.well;
      stops = ap₂ ◌&&◌ three.1 rest.stops;
      end = ap (λ (k : ℕ). ends k (run_from x rs)) (sym sum) ∙ rest.end;
    }

-- and so, by the statement, what it concludes
pub worst_wait_within_met : WorstWaitWithin → (k : Kind) (m : Master) (rs later : List Raw) (most more : ℕ) → 1 ≤ most
    → worst_wait most more (35 + most + more) k m rs later ≡ true → owns (partner m) (run_from (run k rs) later) ≡ true
worst_wait_within_met told k m rs later most more some h =
    let figure : ℕ = 35 + most + more in
    let d : Device = run k rs in
    let end : Device = run_from d later in
    let x = passed (λ (ticks : ℕ) (d : Device). is_free m d && leb figure ticks) most more m 0 0 later d h in
    let long = (and-eq-true_iff (is_free m end) (leb figure (0 + ticks_in d later))).0 x.end in
    let free = (and-eq-true_iff (is_idle end.bus) (resting (partner m) end)).0 long.0 in
    let many : figure ≤ 0 + ticks_in d later = leb-true figure (0 + ticks_in d later) long.1 in
    told k m rs later most more some (omega arith) x.asks x.resets x.well x.stops free.0 free.1

pub worst_wait_met : WorstWait → (k : Kind) (m : Master) (rs later : List Raw) → worst_wait 255 0 290 k m rs later ≡ true
    → owns (partner m) (run_from (run k rs) later) ≡ true
worst_wait_met told k m rs later h =
    let d : Device = run k rs in
    let end : Device = run_from d later in
    let x = passed (λ (ticks : ℕ) (d : Device). is_free m d && leb 290 ticks) 255 0 m 0 0 later d h in
    let long = (and-eq-true_iff (is_free m end) (leb 290 (0 + ticks_in d later))).0 x.end in
    let free = (and-eq-true_iff (is_idle end.bus) (resting (partner m) end)).0 long.0 in
    let many : 290 ≤ 0 + ticks_in d later = leb-true 290 (0 + ticks_in d later) long.1 in
    told k m rs later (omega arith) x.asks x.resets x.well x.stops free.0 free.1
