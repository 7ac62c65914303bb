-- The rows of specs/Examples.antt: antt computes each run, and finds the figures that were counted by hand.
-- Assumes nothing.
use mathlib.Core.Path.{refl}
use Rattle.arbiter.specs.Rules.{rules_of}
use Rattle.arbiter.specs.Registers.{contr_byte, status_byte, register_byte, is_asserted, own_written, mail_written, drives_written, turn_written}
use Rattle.arbiter.specs.Events.{decode, in_sequence, acknowledged, outcome}
use Rattle.arbiter.specs.Effects.{commanded, written, paired, was_read, lined, ticked, fresh_side, was_reset, power_up, effect}
use Rattle.arbiter.specs.Order.{levels, lost, losses_from, losses, cut_from, cut, winner, claim, granted, grant_from, grant, joined, clocked, kept_joined}
use Rattle.arbiter.specs.Order.{connect_from, connect}
use Rattle.arbiter.specs.Steps.{parts, refused, taken, step_event, step_decoded, step}
use Rattle.arbiter.specs.Traces.{read_trace}
use Rattle.share.specs.Numbers.{top, plus, larger}
use Rattle.share.specs.States.{states_from, count, front, longest}
use Rattle.share.specs.Share.{shares_in, refused_by, no_totals, totals_of, together, added}
use Rattle.share.specs.Examples.{rows, RowsHold, Refusals}

pub rows_hold : RowsHold
unfolding rules_of contr_byte status_byte register_byte is_asserted own_written mail_written drives_written turn_written
    decode in_sequence acknowledged outcome commanded written paired was_read lined ticked fresh_side was_reset power_up effect
    levels lost losses_from losses cut_from cut winner claim granted grant_from grant joined clocked kept_joined connect_from connect
    parts refused taken step_event step_decoded step larger states_from count front longest shares_in rows
rows_hold = refl

pub refusals : Refusals
unfolding read_trace top plus larger refused_by no_totals totals_of together added
refusals = (refl, refl, refl, refl, refl, refl, refl)
