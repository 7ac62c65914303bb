-- Runs that meet the premises of the statements of Exact, each for both masters of a part of each kind. proofs/ExactWitnesses.antt computes
-- them all.
-- Assumes nothing.
use Rattle.std.specs.Prelude.{◌≡◌, ◌∷◌, ◌++◌}
use Rattle.ranges.specs.Names.{ℕ, Bool, true, not, List, [], eqb, Master, Zero, One, Kind, Device, Raw}
use Rattle.arbiter.specs.Words.{bit, partner, of, side}
use Rattle.arbiter.specs.State.{owns, connected}
use Rattle.arbiter.specs.Effects.{written, paired}
use Rattle.arbiter.specs.Steps.{run}
use Rattle.arbiter.specs.AuditWords.{next, reset}
use Rattle.arbiter.specs.Marks.{command, lines, tick, pulse, reset as pinReset, general_call, times}
use Rattle.arbiter.specs.Witnesses.{number, sets_rt, sets_contr, both_masters, all_met}
use Rattle.ranges.specs.Exact.{initialising_for, has_switch, owns_connecting, clashes, outside_high}

-- ---- the switch

-- it is closed for m, or initialising for m
abbrev pub closed_mine : Kind → Master → List Raw → List Bool
closed_mine k m rs = connected m (run k rs) ∷ owns_connecting m (run k rs) ∷ []

abbrev pub initialising_mine : Kind → Master → List Raw → List Bool
initialising_mine k m rs = initialising_for m (run k rs).arb.switch ∷ owns_connecting m (run k rs) ∷ []

-- it is not m's: m owns with BUS_CONNECT 0, or has BUS_CONNECT 1 and does not own
abbrev pub owns_apart : Kind → Master → List Raw → List Bool
owns_apart k m rs = owns m (run k rs) ∷ not (has_switch m (run k rs)) ∷ []

abbrev pub asks_apart : Kind → Master → List Raw → List Bool
asks_apart k m rs = (side m (run k rs)).contr.busconnect ∷ not (has_switch m (run k rs)) ∷ []

-- ---- PAIR

abbrev pub pair_as_writes : Kind → List Raw → ℕ → ℕ → List Bool
pair_as_writes k rs v0 v1 = not (clashes Zero v0 (run k rs)) ∷ not (clashes One v1 (run k rs)) ∷ []

-- m's byte v clears its bit 5 and the partner's w brings mail: after the PAIR the bit is set, after the partner's WRITE and then m's it is not
abbrev pub clashing : Kind → Master → List Raw → ℕ → ℕ → List Bool
clashing k m rs v w =
    let d : Device = run k rs in
    clashes m v d
    ∷ not (clashes (partner m) w d)
    ∷ bit 5 (side m (paired (of m v w) (of m w v) d)).ints
    ∷ not (bit 5 (side m (written m v (written (partner m) w d))).ints)
    ∷ []

-- ---- power-up

abbrev pub power_up_is_reset : Device → Raw → List Bool
power_up_is_reset d r = reset r d ∷ eqb (next d r).bus.hold 0 ∷ outside_high d.bus ∷ []

-- m owns and is connected with RT 50, its partner's port is open at the mailbox, and the bus is idle again after a transfer of three ticks
abbrev pub used : Kind → Master → Device
used k m = run k (sets_rt m 50 ++ sets_contr m 0x05 ++ command (number (partner m)) 7 ∷ lines 1 0 1 ∷ times 3 tick ++ lines 1 1 1 ∷ [])

-- ---- the rows

unfoldable pub exact_witnesses : Kind → List Bool
exact_witnesses k =
    both_masters (λ m. closed_mine k m (sets_contr m 0x05))
    ++ both_masters (λ m. closed_mine k m (sets_contr m 0x0D ++ pulse 1 ∷ []))
    ++ both_masters (λ m. initialising_mine k m (sets_contr m 0x0D ++ times 8 (pulse 0)))
    ++ both_masters (λ m. owns_apart k m (sets_contr m 0x01))
    ++ both_masters (λ m. owns_apart k m (sets_contr m 0x0D ++ times 9 (pulse 0)))
    ++ both_masters (λ m. asks_apart k m (sets_contr (partner m) 0x05 ++ sets_contr m 0x05))
    -- both ask at once; one withdraws while the other asks; both send mail; both clear their interrupts
    ++ pair_as_writes k (command 0 1 ∷ command 1 1 ∷ []) 0x01 0x01
    ++ both_masters (λ m. pair_as_writes k (sets_contr m 0x05 ++ command 0 1 ∷ command 1 1 ∷ []) (of m 0x00 0x01) (of m 0x01 0x00))
    ++ pair_as_writes k (command 0 7 ∷ command 1 7 ∷ []) 0x12 0x34
    ++ pair_as_writes k (command 0 4 ∷ command 1 4 ∷ []) 0xFF 0xFF
    -- one clears its interrupts while the other sends mail
    ++ both_masters (λ m. clashing k m (command (number m) 4 ∷ command (number (partner m)) 7 ∷ []) 0x3F 0x12)
    -- the pin reset; the owner's and its partner's soft reset
    ++ both_masters (λ m. power_up_is_reset (used k m) pinReset)
    ++ both_masters (λ m. power_up_is_reset (used k m) (general_call (number m) 0x06))
    ++ both_masters (λ m. power_up_is_reset (used k m) (general_call (number (partner m)) 0x06))

abbrev pub ExactWitnessesMeet : Type 0
ExactWitnessesMeet = (k : Kind) → all_met (exact_witnesses k) ≡ true
