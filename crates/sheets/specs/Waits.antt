-- How long a controller can wait, by what a complete pair of sheets orders for the other: a grade and a number of ticks. What each grade promises is
-- said and proved in the crate `guarantee`.
-- Assumes nothing.
use Rattle.std.specs.Prelude.{ℕ, ◌+◌, ◌-◌, not, List, ltb, if◌then◌else◌, Result, Ok, Err}
use Rattle.arbiter.specs.Rules.{limit_of}
use Rattle.arbiter.specs.Traces.{is_kind, kind_of}
use Rattle.arbiter.specs.declared.Kind.{Kind}
use Rattle.sheets.specs.declared.Fault.{Fault}
use Rattle.sheets.specs.declared.Fault.TheVariants.{BadBox, NoSuchBox, Unticked}
use Rattle.sheets.specs.declared.Setting.{Setting}
use Rattle.sheets.specs.declared.Bound.{Bound}
use Rattle.sheets.specs.declared.Bound.TheVariants.{BehindLive, BehindSilent, Unbounded}
use Rattle.sheets.specs.Sheets.{OrFault, check_pair, fault_number}
use Rattle.sheets.specs.Settings.{is_complete, setting_of}

-- ---- the grades

-- bounded behind a live holder, which sends its STOPs
abbrev pub live : ℕ
live = 1

-- bounded only behind a silent holder on an idle bus, from its grant on and while its CONTR keeps its idle timer on
abbrev pub silent : ℕ
silent = 2

-- not bounded
abbrev pub unbounded : ℕ
unbounded = 3

-- 0, a grade and the ticks of it, 0 for `unbounded`; or a refusal's number, 0 and 0
pub record Wait : Type 0 where
  pub number : ℕ
  pub grade : ℕ
  pub ticks : ℕ

abbrev pub wait : ℕ → ℕ → Wait
wait grade ticks = record { number = 0; grade = grade; ticks = ticks }

-- By what is ordered for the holder: with a reserve of 1 to 255 the reserve and one tick, in which it sends its STOP; with a reserve of 0, which
-- is without limit, the part's idle limit if its idle timer is ordered on, and no figure if not.
unfoldable pub wait_behind : Kind → Setting → Wait
wait_behind k holder =
    if ltb 0 holder.reserve then wait live (holder.reserve + 1)
    else if holder.idle then wait silent (limit_of k)
    else wait unbounded 0

-- ---- the call

-- no grade and no ticks
abbrev pub withheld : Fault → Wait
withheld f = record { number = fault_number f; grade = 0; ticks = 0 }

-- The controller that waits and the kind of part are numbers. After the refusals of the two sheets 15 says that there is no such controller, 3
-- that there is no such kind, and 14 that a box is empty on both sheets. The holder is the other controller.
unfoldable pub wait_on : ℕ → ℕ → List ℕ → List ℕ → Wait
wait_on controller kind board house =
    if not (ltb controller 2) then withheld NoSuchBox
    else if not (is_kind kind) then withheld BadBox
    else if not (is_complete board house) then withheld Unticked
    else wait_behind (kind_of kind) (setting_of (1 - controller) board house)

abbrev pub once_sound_wait : OrFault (Unit {0}) → Wait → Wait
once_sound_wait (Ok tt) found = found
once_sound_wait (Err f) found = withheld f

unfoldable pub wait_of : ℕ → ℕ → List ℕ → List ℕ → Wait
wait_of controller kind board house = once_sound_wait (check_pair board house) (wait_on controller kind board house)

-- ---- what the call hands back

abbrev pub wait_told : Result Bound Fault → Wait
wait_told (Ok (BehindLive n)) = wait live n
wait_told (Ok (BehindSilent n)) = wait silent n
wait_told (Ok Unbounded) = wait unbounded 0
wait_told (Err f) = withheld f
