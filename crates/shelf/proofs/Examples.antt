-- Every row of the table of specs/Examples.antt holds: antt computes each, and finds what the request says.
-- Assumes nothing.
use mathlib.Core.Path.{refl}
use Rattle.arbiter.specs.Rules.{rules_of}
use Rattle.arbiter.specs.Words.{byte_of}
use Rattle.arbiter.specs.Registers.{contr_byte, status_byte, register_byte, is_asserted, own_written, mail_written, drives_written, turn_written}
use Rattle.arbiter.specs.Events.{decode, in_sequence, acknowledged, outcome}
use Rattle.arbiter.specs.Effects.{commanded, written, paired, was_read, lined, ticked, fresh_side, was_reset, power_up, effect}
use Rattle.arbiter.specs.Order.{levels, lost, losses_from, losses, cut_from, cut, winner, claim, granted, grant_from, grant, joined, clocked, kept_joined}
use Rattle.arbiter.specs.Order.{connect_from, connect}
use Rattle.arbiter.specs.Steps.{parts, owner_byte, lines_byte, byte_read, refused, taken, step_event, step_decoded, step}
use Rattle.shelf.specs.Shelf.{no_record, naming, reaches, step_record, shelf_row, shelf_answer, shelf_show}
use Rattle.shelf.specs.Runs.{shelf_run}
use Rattle.shelf.specs.Examples.{examples, ExamplesHold}

pub examples_hold : ExamplesHold
unfolding rules_of byte_of contr_byte status_byte register_byte is_asserted own_written mail_written drives_written turn_written
    decode in_sequence acknowledged outcome commanded written paired was_read lined ticked fresh_side was_reset power_up effect
    levels lost losses_from losses cut_from cut winner claim granted grant_from grant joined clocked kept_joined connect_from connect
    parts owner_byte lines_byte byte_read refused taken step_event step_decoded step
    no_record naming reaches step_record shelf_row shelf_answer shelf_show shelf_run examples
examples_hold = refl
