-- Three things said exactly: whose the switch is, what PAIR is to two WRITEs, and what power-up is to a reset. proofs/Exact.antt proves them.
-- Assumes nothing.
use Rattle.std.specs.Prelude.{◌≡◌, ◌&&◌, ◌||◌}
use Rattle.ranges.specs.Names.{ℕ, Bool, true, false, not, List, eqb, Master, Zero, One, Switch, Apart, Initialising, Closed, Kind, Bus, Device, Raw}
use Rattle.arbiter.specs.Words.{bit, partner, same_master, side}
use Rattle.arbiter.specs.State.{owns, connected}
use Rattle.arbiter.specs.Registers.{register_number}
use Rattle.arbiter.specs.Effects.{written, paired, power_up}
use Rattle.arbiter.specs.Steps.{run}
use Rattle.arbiter.specs.AuditWords.{next, reset}

-- ---- the switch

abbrev pub initialising_for : Master → Switch → Bool
initialising_for m Apart = false
initialising_for m (Initialising k n) = same_master m k
initialising_for m (Closed k) = false

-- the switch is m's: closed for m, or initialising for m
abbrev pub has_switch : Master → Device → Bool
has_switch m d = connected m d || initialising_for m d.arb.switch

-- m owns, and its BUS_CONNECT is 1
abbrev pub owns_connecting : Master → Device → Bool
owns_connecting m d = owns m d && (side m d).contr.busconnect

-- Over every run the switch is m's exactly if m owns with BUS_CONNECT 1.
abbrev pub SwitchExact : Type 0
SwitchExact = (k : Kind) (rs : List Raw) (m : Master) → has_switch m (run k rs) ≡ owns_connecting m (run k rs)

-- ---- PAIR

-- m's byte v clears bit 5 of its INT_STATUS, and at the same instant its partner's byte fills m's box and sets that bit: "A bit one clears
-- and the other sets ends set."
abbrev pub clashes : Master → ℕ → Device → Bool
clashes m v d =
    eqb (register_number (side m d).pointer) 4 && bit 5 v && eqb (register_number (side (partner m) d).pointer) 7 && not (side m d).mail.full

-- In every run the two bytes of a PAIR do what the two WRITEs do one after the other, in either order, unless the byte that comes second
-- clears what the first has set.
abbrev pub PairAsWrites : Type 0
PairAsWrites =
    (k : Kind) (rs : List Raw) (v0 v1 : ℕ) → let d : Device = run k rs in
    (clashes One v1 d ≡ false → paired v0 v1 d ≡ written One v1 (written Zero v0 d))
    × (clashes Zero v0 d ≡ false → paired v0 v1 d ≡ written Zero v0 (written One v1 d))

-- So where neither does, the order of the two is all one.
abbrev pub PairEitherOrder : Type 0
PairEitherOrder =
    (k : Kind) (rs : List Raw) (v0 v1 : ℕ) → let d : Device = run k rs in
    clashes Zero v0 d ≡ false → clashes One v1 d ≡ false → written One v1 (written Zero v0 d) ≡ written Zero v0 (written One v1 d)

-- And where one does, the bit is set after the PAIR, as 01 has it, whichever of the two would come second.
abbrev pub ClashEndsSet : Type 0
ClashEndsSet =
    (k : Kind) (rs : List Raw) (v0 v1 : ℕ) → let d : Device = run k rs in
    (clashes Zero v0 d ≡ true → bit 5 (paired v0 v1 d).side0.ints ≡ true) × (clashes One v1 d ≡ true → bit 5 (paired v0 v1 d).side1.ints ≡ true)

-- ---- power-up

abbrev pub outside_high : Bus → Bool
outside_high b = b.outscl && b.outsda && b.intin

-- "Power-up is a reset with all outside levels 1": the pin reset of any device, or a soft reset of one after which SCL is not held, leaves the
-- device of power-up where the outside levels are 1.
abbrev pub PowerUpIsReset : Type 0
PowerUpIsReset =
    (d : Device) (r : Raw) → reset r d ≡ true → (next d r).bus.hold ≡ 0 → outside_high d.bus ≡ true → next d r ≡ power_up d.kind
