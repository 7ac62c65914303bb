-- Every row of specs/MoreWitnesses.antt meets its premises and comes to what it says: antt computes each.
-- Assumes nothing.
use mathlib.Core.Path.{refl}
use Rattle.arbiter.specs.Rules.{rules_of}
use Rattle.arbiter.specs.Words.{byte_of}
use Rattle.arbiter.specs.Registers.{contr_byte, status_byte, register_byte, is_asserted, own_written, mail_written, drives_written, turn_written}
use Rattle.arbiter.specs.Events.{decode, in_sequence, acknowledged, outcome}
use Rattle.arbiter.specs.Effects.{commanded, written, paired, was_read, lined, ticked, fresh_side, was_reset, power_up, effect}
use Rattle.arbiter.specs.Order.{levels, lost, losses_from, losses, cut_from, cut, winner, claim, granted, grant_from, grant, joined, clocked, kept_joined}
use Rattle.arbiter.specs.Order.{connect_from, connect}
use Rattle.arbiter.specs.Steps.{parts, owner_byte, lines_byte, byte_read, refused, taken, step_event, step_decoded, step, run_from, run}
use Rattle.arbiter.specs.AuditWords.{ticks_in, never, throughout}
use Rattle.arbiter.specs.Traces.{raws_in}
use Rattle.arbiter.specs.declared.Master.TheVariants.{Zero, One}
use Rattle.arbiter.specs.declared.Kind.TheVariants.{Pca9641, Tpt29641}
use Rattle.audit.specs.WorstWait.{stops_after}
use Rattle.sheets.specs.Sheets.{counts_right, box_right, flag_right, boxes_right, check_sheet, check_pair}
use Rattle.sheets.specs.Settings.{ticked_on_either, is_complete, value_at, setting_of, order_of, control_byte, order_events, read_complete, read_order}
use Rattle.sheets.specs.Settings.{ordered_of}
use Rattle.sheets.specs.Settings.{buffer_of, ordered, ordered_buffer}
use Rattle.sheets.specs.Waits.{wait_behind, wait_on, wait_of}
use Rattle.guarantee.specs.MoreWitnesses.{more_witnesses, MoreWitnessesMeet}

pub more_witnesses_meet : MoreWitnessesMeet
unfolding rules_of byte_of contr_byte status_byte register_byte is_asserted own_written mail_written drives_written turn_written
    decode in_sequence acknowledged outcome commanded written paired was_read lined ticked fresh_side was_reset power_up effect
    levels lost losses_from losses cut_from cut winner claim granted grant_from grant joined clocked kept_joined connect_from connect
    parts owner_byte lines_byte byte_read refused taken step_event step_decoded step run_from run
    ticks_in never throughout stops_after counts_right box_right flag_right boxes_right check_sheet check_pair
    ticked_on_either is_complete value_at setting_of order_of control_byte order_events read_complete read_order ordered_of buffer_of ordered ordered_buffer
    raws_in wait_behind wait_on wait_of more_witnesses
more_witnesses_meet Pca9641 Zero = refl
more_witnesses_meet Pca9641 One = refl
more_witnesses_meet Tpt29641 Zero = refl
more_witnesses_meet Tpt29641 One = refl
