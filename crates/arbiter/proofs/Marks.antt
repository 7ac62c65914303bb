-- Every row of the two tables of specs/Marks.antt holds: antt computes each, and finds what the paper says.
-- Assumes nothing.
use mathlib.Core.Path.{refl}
use Rattle.arbiter.specs.Rules.{rules_of}
use Rattle.arbiter.specs.Words.{byte_of}
use Rattle.arbiter.specs.Straps.{address_of}
use Rattle.arbiter.specs.Registers.{contr_byte, status_byte, register_byte, is_asserted, own_written, mail_written, drives_written, turn_written}
use Rattle.arbiter.specs.Events.{decode, in_sequence, acknowledged, outcome}
use Rattle.arbiter.specs.Effects.{commanded, written, paired, was_read, lined, ticked, fresh_side, was_reset, power_up, effect}
use Rattle.arbiter.specs.Order.{levels, lost, losses_from, losses, cut_from, cut, winner, claim, granted, grant_from, grant, joined, clocked, kept_joined}
use Rattle.arbiter.specs.Order.{connect_from, connect}
use Rattle.arbiter.specs.Steps.{parts, owner_byte, lines_byte, byte_read, refused, taken, step_event, step_decoded, step, run_from, answers_from, run}
use Rattle.arbiter.specs.Traces.{raws_in, read_kind, read_counted, read_strapped, read_trace}
use Rattle.arbiter.specs.Listing.{listing_of, listing}
use Rattle.arbiter.specs.OldTraces.{old_number, converted, converted_number, converted_bytes}
use Rattle.arbiter.specs.Writing.{trace_of}
use Rattle.arbiter.specs.Marks.{marked, paid_for, contests, sections, MarksHold, ReadingsHold}

pub marks_hold : MarksHold
unfolding rules_of byte_of address_of contr_byte status_byte register_byte is_asserted own_written mail_written drives_written turn_written
    decode in_sequence acknowledged outcome commanded written paired was_read lined ticked fresh_side was_reset power_up effect
    levels lost losses_from losses cut_from cut winner claim granted grant_from grant joined clocked kept_joined connect_from connect
    parts owner_byte lines_byte byte_read refused taken step_event step_decoded step run_from answers_from run
    raws_in read_kind read_counted read_strapped read_trace listing_of listing marked
marks_hold = refl

pub readings_hold : ReadingsHold
unfolding rules_of byte_of address_of contr_byte status_byte register_byte is_asserted own_written mail_written drives_written turn_written
    decode in_sequence acknowledged outcome commanded written paired was_read lined ticked fresh_side was_reset power_up effect
    levels lost losses_from losses cut_from cut winner claim granted grant_from grant joined clocked kept_joined connect_from connect
    parts owner_byte lines_byte byte_read refused taken step_event step_decoded step run_from answers_from run
    raws_in read_kind read_counted read_strapped read_trace listing_of listing old_number converted converted_number converted_bytes trace_of paid_for contests
    sections
readings_hold = refl
