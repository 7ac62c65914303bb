-- The table of specs/Examples.antt: each row gives what it should.
-- Assumes nothing.
use mathlib.Core.Path.{refl}
use Rattle.arbiter.specs.Registers.{register_byte}
use Rattle.arbiter.specs.Events.{decode, in_sequence}
use Rattle.arbiter.specs.Effects.{fresh_side, power_up}
use Rattle.arbiter.specs.Steps.{byte_read, taken, step_event, step_decoded, step}
use Rattle.capture.specs.OneBus.{sign, addressed, awaited_after, byte_gives, owes, is_outside, started, stopped, shifted, ended, at_clock, heard, gives}
use Rattle.capture.specs.Events.{together, raw_of, event_bytes}
use Rattle.capture.specs.Samples.{sampled}
use Rattle.watch.specs.Sample.{lines_given, heard_now, ticks_given, since_after, events_at, ear_after, silent_ear}
use Rattle.watch.specs.Stream.{top, plus, check_of, with_event, with_read, tally_with, followed, followed_all, with_sample, heard_by, watched_at, watched}
use Rattle.watch.specs.Stream.{events_in, no_check, no_tally, beginning}
use Rattle.watch.specs.Examples.{examples, ExamplesHold}

pub examples_hold : ExamplesHold
unfolding examples watched events_in watched_at heard_by with_sample followed_all followed tally_with with_event with_read check_of beginning no_tally no_check
    silent_ear ear_after events_at lines_given heard_now ticks_given since_after plus top
    sampled together sign heard gives started stopped shifted ended at_clock addressed awaited_after byte_gives owes is_outside raw_of event_bytes
    step step_decoded step_event taken byte_read decode in_sequence register_byte fresh_side power_up
examples_hold = refl
