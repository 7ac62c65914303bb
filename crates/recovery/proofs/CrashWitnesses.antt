-- Every row of specs/CrashWitnesses.antt meets its premises: antt computes each.
-- Assumes nothing.
use mathlib.Core.Path.{◌≡◌, refl}
use Rattle.arbiter.specs.Rules.{rules_of}
use Rattle.arbiter.specs.Words.{byte_of}
use Rattle.arbiter.specs.Registers.{contr_byte, status_byte, register_byte, is_asserted, own_written, mail_written, drives_written, turn_written}
use Rattle.arbiter.specs.Events.{decode, in_sequence, acknowledged, outcome}
use Rattle.arbiter.specs.Effects.{commanded, written, paired, was_read, lined, ticked, fresh_side, was_reset, power_up, effect}
use Rattle.arbiter.specs.Order.{levels, lost, losses_from, losses, cut_from, cut, winner, claim, granted, grant_from, grant, joined, clocked, kept_joined}
use Rattle.arbiter.specs.Order.{connect_from, connect}
use Rattle.arbiter.specs.Steps.{parts, owner_byte, lines_byte, byte_read, refused, taken, step_event, step_decoded, step, run_from, run}
use Rattle.arbiter.specs.AuditWords.{ticks_in, never, throughout}
use Rattle.arbiter.specs.Witnesses.{all_met}
use Rattle.ranges.specs.Names.{true, Master, Zero, One, Kind, Pca9641, Tpt29641}
use Rattle.recovery.specs.CrashWitnesses.{crash_witnesses, kept_out_witnesses, CrashWitnessesMeet}

reached : (k : Kind) (m : Master) → all_met (crash_witnesses k m) ≡ true
unfolding rules_of byte_of contr_byte status_byte register_byte is_asserted own_written mail_written drives_written turn_written
    decode in_sequence acknowledged outcome commanded written paired was_read lined ticked fresh_side was_reset power_up effect
    levels lost losses_from losses cut_from cut winner claim granted grant_from grant joined clocked kept_joined connect_from connect
    parts owner_byte lines_byte byte_read refused taken step_event step_decoded step run_from run
    ticks_in never throughout crash_witnesses
reached Pca9641 Zero = refl
reached Pca9641 One = refl
reached Tpt29641 Zero = refl
reached Tpt29641 One = refl

kept_out : (k : Kind) (m : Master) → all_met (kept_out_witnesses k m) ≡ true
unfolding rules_of byte_of contr_byte status_byte register_byte is_asserted own_written mail_written drives_written turn_written
    decode in_sequence acknowledged outcome commanded written paired was_read lined ticked fresh_side was_reset power_up effect
    levels lost losses_from losses cut_from cut winner claim granted grant_from grant joined clocked kept_joined connect_from connect
    parts owner_byte lines_byte byte_read refused taken step_event step_decoded step run_from run
    ticks_in never throughout kept_out_witnesses
kept_out Pca9641 Zero = refl
kept_out Pca9641 One = refl
kept_out Tpt29641 Zero = refl
kept_out Tpt29641 One = refl

pub crash_witnesses_meet : CrashWitnessesMeet
crash_witnesses_meet k m = (reached k m, kept_out k m)
