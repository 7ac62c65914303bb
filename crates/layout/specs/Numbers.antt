-- The numbers that stand in an image for a port, a turn, the last granted master and a switch are those of arbiter/specs/Ranges; here they
-- are read back. (A pointer's and a kind's are register_at of Effects and kindOf of Traces.) Numbers past the top never come to it: an image
-- with one is refused.
-- Assumes nothing.
use Rattle.std.specs.Prelude.{ℕ, ◌-◌, eqb, ltb, if◌then◌else◌}
use Rattle.arbiter.specs.declared.Master.TheVariants.{Zero, One}
use Rattle.arbiter.specs.declared.Ground.TheVariants.{Sole, Priority, LastGranted}
use Rattle.arbiter.specs.declared.Port.{Port}
use Rattle.arbiter.specs.declared.Port.TheVariants.{Rest, Open, Writing}
use Rattle.arbiter.specs.declared.Turn.{Turn}
use Rattle.arbiter.specs.declared.Turn.TheVariants.{Nobody, Claims, Owns}
use Rattle.std.specs.Prelude.{Option, Some, None}
use Rattle.arbiter.specs.declared.Master.{Master}
use Rattle.arbiter.specs.declared.Switch.{Switch}
use Rattle.arbiter.specs.declared.Switch.TheVariants.{Apart, Initialising, Closed}

abbrev pub port_of : ℕ → Port
port_of v = if eqb v 0 then Rest else if eqb v 1 then Open else Writing

abbrev pub last_of : ℕ → Option Master
last_of v = if eqb v 0 then None else if eqb v 1 then Some Zero else Some One

abbrev pub turn_of : ℕ → Turn
turn_of v =
    if eqb v 0 then Nobody
    else if eqb v 1 then Claims Zero Sole
    else if eqb v 2 then Claims Zero Priority
    else if eqb v 3 then Claims Zero LastGranted
    else if eqb v 4 then Claims One Sole
    else if eqb v 5 then Claims One Priority
    else if eqb v 6 then Claims One LastGranted
    else if eqb v 7 then Owns Zero Sole
    else if eqb v 8 then Owns Zero Priority
    else if eqb v 9 then Owns Zero LastGranted
    else if eqb v 10 then Owns One Sole
    else if eqb v 11 then Owns One Priority
    else Owns One LastGranted

-- 3 to 11 is an initialisation for master 0 after 0 to 8 PULSEs of 0, and 12 to 20 one for master 1
abbrev pub switch_of : ℕ → Switch
switch_of v =
    if eqb v 0 then Apart
    else if eqb v 1 then Closed Zero
    else if eqb v 2 then Closed One
    else if ltb v 12 then Initialising Zero (v - 3)
    else Initialising One (v - 12)
