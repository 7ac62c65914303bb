-- Every row of specs/Runs.antt holds, and every premise there is met: antt computes each.
-- Assumes nothing.
use mathlib.Core.Path.{refl}
use Rattle.mail.specs.Names.{Zero, One, Pca9641, Tpt29641}
use Rattle.mail.specs.Mail.{listed_from, filled, emptied, low_from, last_low}
use Rattle.mail.specs.Runs.{rows, RowsHold, met, PremisesMet}
use Rattle.arbiter.specs.Rules.{rules_of}
use Rattle.arbiter.specs.Words.{byte_of}
use Rattle.arbiter.specs.Registers.{contr_byte, status_byte, register_byte, is_asserted, own_written, mail_written, drives_written, turn_written}
use Rattle.arbiter.specs.Events.{decode, in_sequence, acknowledged, outcome}
use Rattle.arbiter.specs.Effects.{commanded, written, paired, was_read, lined, ticked, fresh_side, was_reset, power_up, effect}
use Rattle.arbiter.specs.Order.{levels, lost, losses_from, losses, cut_from, cut, winner, claim, granted, grant_from, grant, joined, clocked, kept_joined}
use Rattle.arbiter.specs.Order.{connect_from, connect}
use Rattle.arbiter.specs.Steps.{parts, owner_byte, lines_byte, byte_read, refused, taken, step_event, step_decoded, step, run_from, run}
use Rattle.arbiter.specs.AuditWords.{never}

pub rows_hold : RowsHold
unfolding rules_of byte_of contr_byte status_byte register_byte is_asserted own_written mail_written drives_written turn_written
    decode in_sequence acknowledged outcome commanded written paired was_read lined ticked fresh_side was_reset power_up effect
    levels lost losses_from losses cut_from cut winner claim granted grant_from grant joined clocked kept_joined connect_from connect
    parts owner_byte lines_byte byte_read refused taken step_event step_decoded step run_from run listed_from filled emptied rows
rows_hold Pca9641 Zero = refl
rows_hold Pca9641 One = refl
rows_hold Tpt29641 Zero = refl
rows_hold Tpt29641 One = refl

pub premises_met : PremisesMet
unfolding rules_of byte_of contr_byte status_byte register_byte is_asserted own_written mail_written drives_written turn_written
    decode in_sequence acknowledged outcome commanded written paired was_read lined ticked fresh_side was_reset power_up effect
    levels lost losses_from losses cut_from cut winner claim granted grant_from grant joined clocked kept_joined connect_from connect
    parts owner_byte lines_byte byte_read refused taken step_event step_decoded step run_from run low_from last_low never met
premises_met Pca9641 Zero = refl
premises_met Pca9641 One = refl
premises_met Tpt29641 Zero = refl
premises_met Tpt29641 One = refl
