-- What a state shows, in document 01's words: who owns and who is connected, a port at rest, the levels of the lines, an idle bus, BUS_HUNG.
-- Assumes nothing.
use Rattle.std.specs.Prelude.{◌&&◌, ◌||◌}
use Rattle.arbiter.specs.Types.{ℕ, Bool, true, false, not, eqb, Master, Turn, Nobody, Claims, Owns, Port, Rest, Open, Writing, Bus, Switch, Apart, Initialising, Closed, Device}
use Rattle.arbiter.specs.Words.{same_master}

-- ---- turn and switch

abbrev pub owns_turn : Master → Turn → Bool
owns_turn m Nobody = false
owns_turn m (Claims k g) = false
owns_turn m (Owns k g) = same_master m k

-- m is granted: it owns the bus
abbrev pub owns : Master → Device → Bool
owns m d = owns_turn m d.arb.turn

abbrev pub claims_turn : Master → Turn → Bool
claims_turn m Nobody = false
claims_turn m (Claims k g) = same_master m k
claims_turn m (Owns k g) = false

-- m is the claimant and waits for the grant
abbrev pub claims : Master → Device → Bool
claims m d = claims_turn m d.arb.turn

abbrev pub closed_for : Master → Switch → Bool
closed_for m Apart = false
closed_for m (Initialising k n) = false
closed_for m (Closed k) = same_master m k

-- m is connected: the switch is closed for m
abbrev pub connected : Master → Device → Bool
connected m d = closed_for m d.arb.switch

abbrev pub is_initialising : Switch → Bool
is_initialising Apart = false
is_initialising (Initialising k n) = true
is_initialising (Closed k) = false

-- ---- ports

abbrev pub at_rest : Port → Bool
at_rest Rest = true
at_rest Open = false
at_rest Writing = false

abbrev pub for_writing : Port → Bool
for_writing Rest = false
for_writing Open = false
for_writing Writing = true

-- ---- the downstream lines

-- "Levels: outside, drives and hold, low if any is low." The hold holds SCL.
abbrev pub scl_high : Bus → Bool
scl_high b = b.outscl && b.drivescl && eqb b.hold 0

abbrev pub sda_high : Bus → Bool
sda_high b = b.outsda && b.drivesda

-- "idle means not busy and both high"
abbrev pub is_idle : Bus → Bool
is_idle b = not b.busy && scl_high b && sda_high b

-- BUS_HUNG, as request #102 amends document 01 (which had "either low count at 500"): SCL low for 500 ticks, or SDA low and SCL
-- unchanged for 501. "So the SDA count restarts at every change of SCL's level and must reach 501, where it stops; the SCL count stays
-- at 500."
abbrev pub scl_hung_limit : ℕ
scl_hung_limit = 500

abbrev pub sda_hung_limit : ℕ
sda_hung_limit = 501

abbrev pub bus_hung : Bus → Bool
bus_hung b = eqb b.lowscl scl_hung_limit || eqb b.lowsda sda_hung_limit
