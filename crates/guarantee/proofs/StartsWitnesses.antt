-- The starts of specs/StartsWitnesses.antt are such starts, and come to what it says: antt computes each.
-- Assumes nothing.
use mathlib.Core.Path.{◌≡◌, refl}
use mathlib.Core.Bool.{true}
use mathlib.Core.List.{List, [], ◌∷◌}
use native.Mathlib.Omega.{arith}
use Rattle.arbiter.specs.Rules.{rules_of}
use Rattle.arbiter.specs.Words.{byte_of, partner}
use Rattle.arbiter.specs.Registers.{contr_byte, status_byte, register_byte, is_asserted, own_written, mail_written, drives_written, turn_written}
use Rattle.arbiter.specs.Events.{decode, in_sequence, acknowledged, outcome}
use Rattle.arbiter.specs.Effects.{commanded, written, paired, was_read, lined, ticked, fresh_side, was_reset, power_up, effect}
use Rattle.arbiter.specs.Order.{levels, lost, losses_from, losses, cut_from, cut, winner, claim, granted, grant_from, grant, joined, clocked, kept_joined}
use Rattle.arbiter.specs.Order.{connect_from, connect}
use Rattle.arbiter.specs.Steps.{parts, owner_byte, lines_byte, byte_read, refused, taken, step_event, step_decoded, step, run_from, run}
use Rattle.arbiter.specs.AuditWords.{ticks_in, never, throughout}
use Rattle.arbiter.specs.Marks.{command, write, stop}
use Rattle.arbiter.specs.Witnesses.{number, all_met}
use Rattle.arbiter.specs.declared.Master.{Master}
use Rattle.arbiter.specs.declared.Master.TheVariants.{Zero, One}
use Rattle.arbiter.specs.declared.Kind.{Kind}
use Rattle.arbiter.specs.declared.Kind.TheVariants.{Pca9641, Tpt29641}
use Rattle.arbiter.specs.declared.Raw.{Raw}
use Rattle.audit.specs.WorstWait.{stops_after}
use Rattle.sheets.specs.Settings.{control_byte, setting_events}
use Rattle.guarantee.specs.Starts.{those}
use Rattle.guarantee.specs.StartsWitnesses.{setting_for, reserve_for, until_bytes, asking_byte, after_byte, StartsSo, starts_witnesses, StartsWitnessesMeet}

-- m's four events before its CONTR byte
abbrev until_byte : Master → List Raw
until_byte m = command (number m) 0x03 ∷ write (number m) (reserve_for m) ∷ stop (number m) ∷ command (number m) 0x01 ∷ []

abbrev then_partner : Master → List Raw
then_partner m = stop (number m) ∷ setting_events (number (partner m)) (setting_for (partner m))

so : (m : Master) → StartsSo m
unfolding those control_byte
so Zero =
    record {
      after_other = record { first = refl; second = refl; others = refl };
      by_event = record { first = refl; second = refl; others = refl };
      losing = record { first = refl; second = refl; others = refl };
      tickless = refl;
      tickless_too = refl;
      first = record { before = until_byte Zero; r = asking_byte Zero; after = then_partner Zero; whole = refl; fifth = refl; own = refl; later = omega arith };
      first_too = record {
        before = until_bytes Zero;
        r = asking_byte Zero;
        after = after_byte Zero;
        whole = refl;
        fifth = refl;
        own = refl;
        later = omega arith;
      };
    }
so One =
    record {
      after_other = record { first = refl; second = refl; others = refl };
      by_event = record { first = refl; second = refl; others = refl };
      losing = record { first = refl; second = refl; others = refl };
      tickless = refl;
      tickless_too = refl;
      first = record { before = until_byte One; r = asking_byte One; after = then_partner One; whole = refl; fifth = refl; own = refl; later = omega arith };
      first_too = record { before = until_bytes One; r = asking_byte One; after = after_byte One; whole = refl; fifth = refl; own = refl; later = omega arith };
    }

computed : (k : Kind) → all_met (starts_witnesses k) ≡ true
unfolding rules_of byte_of contr_byte status_byte register_byte is_asserted own_written mail_written drives_written turn_written
    decode in_sequence acknowledged outcome commanded written paired was_read lined ticked fresh_side was_reset power_up effect
    levels lost losses_from losses cut_from cut winner claim granted grant_from grant joined clocked kept_joined connect_from connect
    parts owner_byte lines_byte byte_read refused taken step_event step_decoded step run_from run
    ticks_in never throughout stops_after control_byte starts_witnesses
computed Pca9641 = refl
computed Tpt29641 = refl

pub starts_witnesses_meet : StartsWitnessesMeet
starts_witnesses_meet = (so, computed)
