-- The table of specs/Examples.antt: each row gives what it should.
-- Assumes nothing.
use mathlib.Core.Path.{refl}
use Rattle.capture.specs.OneBus.{sign, signs_after, signs, addressed, awaited_after, byte_gives, owes, is_outside, started, stopped, shifted, ended, at_clock}
use Rattle.capture.specs.OneBus.{heard, gives, heard_from, given_from, given, cut_on}
use Rattle.capture.specs.Events.{together, merged, captured, raw_of, event_bytes}
use Rattle.capture.specs.Import.{import_number}
use Rattle.capture.specs.Examples.{examples, ExamplesHold}

pub examples_hold : ExamplesHold
unfolding examples import_number captured merged together given given_from signs signs_after sign heard gives started stopped shifted ended at_clock addressed
    awaited_after byte_gives owes is_outside heard_from cut_on raw_of event_bytes
examples_hold = refl
