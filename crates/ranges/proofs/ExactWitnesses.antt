-- Every row of specs/ExactWitnesses.antt meets its premises: antt computes each.
-- Assumes nothing.
use mathlib.Core.Path.{refl}
use Rattle.ranges.specs.Names.{Pca9641, Tpt29641}
use Rattle.arbiter.specs.Rules.{rules_of}
use Rattle.arbiter.specs.Words.{byte_of}
use Rattle.arbiter.specs.Registers.{contr_byte, status_byte, register_byte, is_asserted, own_written, mail_written, drives_written, turn_written}
use Rattle.arbiter.specs.Events.{decode, in_sequence, acknowledged, outcome}
use Rattle.arbiter.specs.Effects.{commanded, written, paired, was_read, lined, ticked, fresh_side, was_reset, power_up, effect}
use Rattle.arbiter.specs.Order.{levels, lost, losses_from, losses, cut_from, cut, winner, claim, granted, grant_from, grant, joined, clocked, kept_joined}
use Rattle.arbiter.specs.Order.{connect_from, connect}
use Rattle.arbiter.specs.Steps.{parts, owner_byte, lines_byte, byte_read, refused, taken, step_event, step_decoded, step, run_from, run}
use Rattle.ranges.specs.ExactWitnesses.{exact_witnesses, ExactWitnessesMeet}

pub exact_witnesses_meet : ExactWitnessesMeet
unfolding rules_of byte_of contr_byte status_byte register_byte is_asserted own_written mail_written drives_written turn_written
    decode in_sequence acknowledged outcome commanded written paired was_read lined ticked fresh_side was_reset power_up effect
    levels lost losses_from losses cut_from cut winner claim granted grant_from grant joined clocked kept_joined connect_from connect
    parts owner_byte lines_byte byte_read refused taken step_event step_decoded step run_from run exact_witnesses
exact_witnesses_meet Pca9641 = refl
exact_witnesses_meet Tpt29641 = refl
