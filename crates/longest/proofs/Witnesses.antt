-- Every row of specs/Witnesses.antt is as it says: antt computes each. And what is tested there are the premises of the statements.
-- Assumes nothing.
use Prim.Native.Nat.{ℕ}
use mathlib.Core.Path.{◌≡◌, refl}
use mathlib.Core.Bool.{true, ◌&&◌, and-eq-true_iff}
use mathlib.Core.List.{List}
use lib.Dec.{ltb}
use borrow.Author.Tests.{ltb-true, leb-true}
use native.Mathlib.Omega.{arith}
use Rattle.arbiter.specs.Rules.{rules_of}
use Rattle.arbiter.specs.Words.{byte_of, partner}
use Rattle.arbiter.specs.Registers.{contr_byte, status_byte, register_byte, is_asserted, own_written, mail_written, drives_written, turn_written}
use Rattle.arbiter.specs.Events.{decode, in_sequence, acknowledged, outcome}
use Rattle.arbiter.specs.Effects.{commanded, written, paired, was_read, lined, ticked, fresh_side, was_reset, power_up, effect}
use Rattle.arbiter.specs.Order.{levels, lost, losses_from, losses, cut_from, cut, winner, claim, granted, grant_from, grant, joined, clocked, kept_joined}
use Rattle.arbiter.specs.Order.{connect_from, connect}
use Rattle.arbiter.specs.Steps.{parts, owner_byte, lines_byte, byte_read, refused, taken, step_event, step_decoded, step}
use Rattle.arbiter.specs.AuditWords.{never, throughout}
use Rattle.arbiter.specs.Straps.{address_of}
use Rattle.arbiter.specs.Traces.{raws_in, read_kind, read_counted, read_strapped, read_trace}
use Rattle.arbiter.specs.Writing.{trace_of}
use Rattle.arbiter.specs.declared.Master.{Master}
use Rattle.arbiter.specs.declared.Kind.{Kind}
use Rattle.arbiter.specs.declared.Kind.TheVariants.{Pca9641, Tpt29641}
use Rattle.arbiter.specs.declared.Raw.{Raw}
use Rattle.audit.specs.WorstWait.{reserves_within, stops_after, sends_stops}
use Rattle.share.specs.Numbers.{larger}
use Rattle.share.specs.States.{states_from, tick_states, count, front, longest}
use Rattle.share.specs.Share.{shares_in, totals_of}
use Rattle.longest.specs.Longest.{keeps_asking, waits_unready, Meets}
use Rattle.longest.specs.Witnesses.{holds_back, asks_on, ready_but, meets, longest_witnesses, LongestWitnessesMeet}

pub longest_witnesses_meet : LongestWitnessesMeet
unfolding rules_of byte_of contr_byte status_byte register_byte is_asserted own_written mail_written drives_written turn_written
    decode in_sequence acknowledged outcome commanded written paired was_read lined ticked fresh_side was_reset power_up effect
    levels lost losses_from losses cut_from cut winner claim granted grant_from grant joined clocked kept_joined connect_from connect
    parts owner_byte lines_byte byte_read refused taken step_event step_decoded step never throughout stops_after
    address_of raws_in read_kind read_counted read_strapped read_trace trace_of larger states_from count front longest shares_in totals_of keeps_asking
    longest_witnesses
longest_witnesses_meet Pca9641 = refl
longest_witnesses_meet Tpt29641 = refl

-- What is met by the tests is met.
pub tests_meet : (most more busy : ℕ) (k : Kind) (m : Master) (rs : List Raw) → meets most more busy k m rs ≡ true → Meets k rs m most more busy
tests_meet most more busy k m rs h =
    let ends = (and-eq-true_iff (holds_back most more k m rs && asks_on k m rs) (ready_but busy k m rs)).0 h in
    let both = (and-eq-true_iff (holds_back most more k m rs) (asks_on k m rs)).0 ends.0 in
    let late = (and-eq-true_iff (ltb 0 most && throughout (reserves_within most m) (power_up k) rs) (sends_stops more m (power_up k) rs)).0 both.0 in
    let well = (and-eq-true_iff (ltb 0 most) (throughout (reserves_within most m) (power_up k) rs)).0 late.0 in
    let positive = ltb-true 0 most well.0 in
    record {
      some = omega arith;
      reserves = well.1;
      stops = late.1;
      asks = both.1;
      ready = leb-true (longest (waits_unready (partner m)) (tick_states k rs)) busy ends.1;
    }
