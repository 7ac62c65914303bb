-- Every row of specs/SettingsWitnesses.antt meets its premises and comes to what it says: antt computes each.
-- Assumes nothing.
use mathlib.Core.Path.{refl}
use Rattle.ranges.specs.Names.{Zero, One, Pca9641, Tpt29641}
use Rattle.arbiter.specs.Rules.{rules_of}
use Rattle.arbiter.specs.Words.{byte_of}
use Rattle.arbiter.specs.Registers.{contr_byte, status_byte, register_byte, is_asserted, own_written, mail_written, drives_written, turn_written}
use Rattle.arbiter.specs.Events.{decode, in_sequence, acknowledged, outcome}
use Rattle.arbiter.specs.Effects.{commanded, written, paired, was_read, lined, ticked, fresh_side, was_reset, power_up, effect}
use Rattle.arbiter.specs.Order.{levels, lost, losses_from, losses, cut_from, cut, winner, claim, granted, grant_from, grant, joined, clocked, kept_joined}
use Rattle.arbiter.specs.Order.{connect_from, connect}
use Rattle.arbiter.specs.Steps.{parts, owner_byte, lines_byte, byte_read, refused, taken, step_event, step_decoded, step, run_from, run}
use Rattle.arbiter.specs.AuditWords.{ticks_in, never, throughout}
use Rattle.audit.specs.WorstWait.{stops_after}
use Rattle.audit.specs.SettingsWitnesses.{settings_rows, SettingsWitnessesMeet}

pub settings_witnesses_meet : SettingsWitnessesMeet
unfolding rules_of byte_of contr_byte status_byte register_byte is_asserted own_written mail_written drives_written turn_written
    decode in_sequence acknowledged outcome commanded written paired was_read lined ticked fresh_side was_reset power_up effect
    levels lost losses_from losses cut_from cut winner claim granted grant_from grant joined clocked kept_joined connect_from connect
    parts owner_byte lines_byte byte_read refused taken step_event step_decoded step run_from run
    ticks_in never throughout stops_after settings_rows
settings_witnesses_meet Pca9641 Zero = refl
settings_witnesses_meet Pca9641 One = refl
settings_witnesses_meet Tpt29641 Zero = refl
settings_witnesses_meet Tpt29641 One = refl
