-- What INT_STATUS tells a master of its grants: bit 2 of each that begins, bit 1 of each that ends by a loss, and of nothing else.
-- From any device, one event. proofs/Told.antt proves it.
-- Assumes nothing.
use Rattle.std.specs.Prelude.{◌≡◌, ◌&&◌}
use Rattle.ranges.specs.Names.{Bool, true, false, not, List, IntStatus, Master, Kind, Device, Raw}
use Rattle.arbiter.specs.Words.{bit}
use Rattle.arbiter.specs.Registers.{reads_at, output}
use Rattle.arbiter.specs.Steps.{step, run_from, run}
use Rattle.arbiter.specs.AuditWords.{next, reset, withdrawal_of, grant_taken, grant_ended, never}
use Rattle.arbiter.specs.Witnesses.{number}
use Rattle.audit.specs.SettingsKept.{mask_of, writes_to_mask}
use Rattle.sheets.specs.declared.Order.{Order}
use Rattle.sheets.specs.Settings.{order_events}

-- m, reading its INT_STATUS, sees "2 granted", and "1 lost"
abbrev pub sees_grant : Master → Device → Bool
sees_grant m d = bit 2 (reads_at IntStatus m d)

abbrev pub sees_loss : Master → Device → Bool
sees_loss m d = bit 1 (reads_at IntStatus m d)

-- m's grant ends by a loss: neither by a reset nor by m's withdrawal
abbrev pub loss_of : Master → Raw → Device → Bool
loss_of m r d = grant_ended m r d && not (reset r d) && not (withdrawal_of m r d)

-- Bit 2 is set after each event that gives m the grant, and where it was clear, after no other.
abbrev pub GrantTold : Type 0
GrantTold =
    (m : Master) (d : Device) (r : Raw)
    → (grant_taken m r d ≡ true → sees_grant m (next d r) ≡ true) × (sees_grant m d ≡ false → sees_grant m (next d r) ≡ grant_taken m r d)

-- Bit 1 is set after each event in which m loses its grant, and where it was clear, after no other.
abbrev pub LossTold : Type 0
LossTold =
    (m : Master) (d : Device) (r : Raw)
    → (loss_of m r d ≡ true → sees_loss m (next d r) ≡ true) × (sees_loss m d ≡ false → sees_loss m (next d r) ≡ loss_of m r d)

-- ---- on m's interrupt line

-- INTm as the answer to r shows it, bit 0 or 1 of its last byte
abbrev pub line_of : Master → Raw → Device → Bool
line_of m r d = bit (number m) (step d r).answer.lines

-- With the mask bit 0 the line is asserted in the answer to that very event. The mask is the one after the event: of a device that no run reaches,
-- m's own byte at INT_MSK can be the event in which it loses.
abbrev pub LineTells : Type 0
LineTells =
    (m : Master) (d : Device) (r : Raw)
    → (grant_taken m r d ≡ true → bit 2 (mask_of m (next d r)) ≡ false → line_of m r d ≡ true)
    × (loss_of m r d ≡ true → bit 1 (mask_of m (next d r)) ≡ false → line_of m r d ≡ true)

-- After the twelve events of an order INT_MSK is 7Fh, and it stays so until m writes it, resets or not: m's line is not asserted, whatever happens. The
-- waiting one is not told by its line.
abbrev pub SheetsMasked : Type 0
SheetsMasked =
    (k : Kind) (o : Order) (m : Master) (later : List Raw) → let start : Device = run k (order_events o) in
    never (writes_to_mask m) start later ≡ true → (mask_of m (run_from start later) ≡ 0x7F) × (output m (run_from start later) ≡ false)
