-- Request #108: "Lay the device out flat: master 0's registers, master 1's, shared counts, then ports". The image as a table of its fields in
-- their order, which docs/IMAGE.md prints: what stands in each, in one byte or two, and which values are in range there. Then a device laid
-- out by it, read back from it, and the test of the ranges.
-- Assumes nothing.
use Rattle.std.specs.Prelude.{ℕ, ◌+◌, ◌*◌, ◌/◌, ◌%◌, Bool, true, false, not, ◌&&◌, List, [], ◌∷◌, ◌++◌, eqb, leb, if◌then◌else◌}
use Rattle.arbiter.specs.Words.{bit, side}
use Rattle.arbiter.specs.Rules.{limit_of}
use Rattle.arbiter.specs.Registers.{register_number, contr_byte, control_of}
use Rattle.arbiter.specs.Effects.{register_at}
use Rattle.arbiter.specs.Traces.{byte_at, kind_number, kind_of}
use Rattle.ranges.specs.Ranges.{Field, ◌up_to◌, flag, port_number, last_number, turn_number, state_number}
use Rattle.arbiter.specs.declared.Master.{Master}
use Rattle.arbiter.specs.declared.Master.TheVariants.{Zero, One}
use Rattle.arbiter.specs.declared.Kind.{Kind}
use Rattle.arbiter.specs.declared.Side.{Side}
use Rattle.arbiter.specs.declared.Bus.{Bus}
use Rattle.arbiter.specs.declared.Arbitration.{Arbitration}
use Rattle.arbiter.specs.declared.Device.{Device}
use Rattle.layout.specs.Numbers.{port_of, last_of, turn_of, switch_of}

-- ---- a row of the table

-- a field of one byte or of two, as a number, and whether a value of it is in range for a part of this kind
pub record Row : Type 0 where
  pub wide : Bool
  pub value : Device → ℕ
  pub holds : Kind → ℕ → Bool

-- a field up to its top, in one byte
abbrev pub byte : Field → Row
byte f = record { wide = false; value = f.value; holds = λ k v. leb v (f.top k) }

-- and in two, the low one first
abbrev pub word : Field → Row
word f = record { wide = true; value = f.value; holds = λ k v. leb v (f.top k) }

-- CONTR as it is stored, in the bits of its register: bit 1 is LOCK_GRANT, which is read off the turn, and clear here
abbrev pub contr : Master → Row
contr m = record { wide = false; value = λ (d : Device). contr_byte false (side m d).contr; holds = λ k v. leb v 255 && not (bit 1 v) }

-- ---- the table

-- from 0 on master 0's, from 7 on master 1's: CONTR, RT, INT_STATUS bits 5 to 0, INT_MSK, the mailbox low and high, and whether it is full
abbrev pub registers : Master → List Row
registers m =
    contr m
    ∷ byte ((λ (d : Device). (side m d).rt) up_to 255)
    ∷ byte ((λ (d : Device). (side m d).ints) up_to 63)
    ∷ byte ((λ (d : Device). (side m d).mask) up_to 127)
    ∷ byte ((λ (d : Device). (side m d).mail.low) up_to 255)
    ∷ byte ((λ (d : Device). (side m d).mail.high) up_to 255)
    ∷ byte (flag (λ (d : Device). (side m d).mail.full))
    ∷ []

-- from 14 on: the reserve count, the hold, the low counts of SCL and SDA, and the idle count up to the limit of the kind in the image
abbrev pub counts : List Row
counts =
    byte ((λ (d : Device). d.arb.reserve) up_to 255)
    ∷ byte ((λ (d : Device). d.bus.hold) up_to 35)
    ∷ word ((λ (d : Device). d.bus.lowscl) up_to 500)
    ∷ word ((λ (d : Device). d.bus.lowsda) up_to 501)
    ∷ byte (record { value = λ (d : Device). d.bus.idle; top = limit_of })
    ∷ []

-- from 21 on what else is shared: the outside levels, the drives, busy, the turn with its ground, the last granted, the switch with its
-- PULSEs, and BUS_INIT_FAIL
abbrev pub shared : List Row
shared =
    byte (flag (λ (d : Device). d.bus.outscl))
    ∷ byte (flag (λ (d : Device). d.bus.outsda))
    ∷ byte (flag (λ (d : Device). d.bus.intin))
    ∷ byte (flag (λ (d : Device). d.bus.drivescl))
    ∷ byte (flag (λ (d : Device). d.bus.drivesda))
    ∷ byte (flag (λ (d : Device). d.bus.busy))
    ∷ byte ((λ (d : Device). turn_number d.arb.turn) up_to 12)
    ∷ byte ((λ (d : Device). last_number d.arb.last) up_to 2)
    ∷ byte ((λ (d : Device). state_number d.arb.switch) up_to 20)
    ∷ byte (flag (λ (d : Device). d.arb.initfail))
    ∷ []

-- at 31 the kind of part
abbrev pub part : List Row
part = byte ((λ (d : Device). kind_number d.kind) up_to 1) ∷ []

-- from 32 on master 0's, from 35 on master 1's: the port, its pointer and its auto-increment
abbrev pub port : Master → List Row
port m =
    byte ((λ (d : Device). port_number (side m d).port) up_to 2)
    ∷ byte ((λ (d : Device). register_number (side m d).pointer) up_to 7)
    ∷ byte (flag (λ (d : Device). (side m d).auto))
    ∷ []

abbrev pub image_length : ℕ
image_length = 38

-- ---- a device laid out: the bytes of the rows, one after the other

abbrev pub row_bytes : Row → Device → List ℕ
row_bytes r d = if r.wide then r.value d % 256 ∷ r.value d / 256 ∷ [] else r.value d ∷ []

unfoldable pub laid_out : List Row → Device → List ℕ
laid_out [] d = []
laid_out (r ∷ rs) d = row_bytes r d ++ laid_out rs d

unfoldable pub image_of : Device → List ℕ
image_of d =
    laid_out (registers Zero) d ++ laid_out (registers One) d ++ laid_out counts d ++ laid_out shared d ++ laid_out part d
    ++ laid_out (port Zero) d ++ laid_out (port One) d

-- ---- a device read back

-- two bytes, the low one first
abbrev pub word_at : ℕ → List ℕ → ℕ
word_at at b = byte_at at b + 256 * byte_at (at + 1) b

abbrev pub flag_at : ℕ → List ℕ → Bool
flag_at at b = eqb (byte_at at b) 1

abbrev pub kind_in : List ℕ → Kind
kind_in b = kind_of (byte_at 31 b)

-- a master's registers from `at` on, and its port from `port` on
unfoldable pub side_in : ℕ → ℕ → List ℕ → Side
side_in at port b =
    record {
      contr = control_of (byte_at at b);
      rt = byte_at (at + 1) b;
      ints = byte_at (at + 2) b;
      mask = byte_at (at + 3) b;
      mail = record { low = byte_at (at + 4) b; high = byte_at (at + 5) b; full = flag_at (at + 6) b };
      port = port_of (byte_at port b);
      pointer = register_at (byte_at (port + 1) b);
      auto = flag_at (port + 2) b;
    }

unfoldable pub bus_in : List ℕ → Bus
bus_in b =
    record {
      hold = byte_at 15 b;
      lowscl = word_at 16 b;
      lowsda = word_at 18 b;
      idle = byte_at 20 b;
      outscl = flag_at 21 b;
      outsda = flag_at 22 b;
      intin = flag_at 23 b;
      drivescl = flag_at 24 b;
      drivesda = flag_at 25 b;
      busy = flag_at 26 b;
    }

unfoldable pub arb_in : List ℕ → Arbitration
arb_in b =
    record {
      reserve = byte_at 14 b;
      turn = turn_of (byte_at 27 b);
      last = last_of (byte_at 28 b);
      switch = switch_of (byte_at 29 b);
      initfail = flag_at 30 b;
    }

unfoldable pub device_in : List ℕ → Device
device_in b = record { kind = kind_in b; side0 = side_in 0 32 b; side1 = side_in 7 35 b; bus = bus_in b; arb = arb_in b }

-- ---- "each field's range": every row's value is in range, for the kind of part in the image

-- the row that stands from `at` on
abbrev pub fits_at : ℕ → Row → List ℕ → Bool
fits_at at r b = if r.wide then leb (byte_at at b) 255 && r.holds (kind_in b) (word_at at b) else r.holds (kind_in b) (byte_at at b)

-- where the row after it stands
abbrev pub after : Row → ℕ → ℕ
after r at = if r.wide then at + 2 else at + 1

unfoldable pub rows_fit_too : Bool → ℕ → List Row → List ℕ → Bool
rows_fit_too before at [] b = before
rows_fit_too before at (r ∷ rs) b = rows_fit_too (before && fits_at at r b) (after r at) rs b

-- the rows that stand from `at` on
abbrev pub rows_fit : ℕ → List Row → List ℕ → Bool
rows_fit at rs b = rows_fit_too true at rs b

unfoldable pub image_in_range : List ℕ → Bool
image_in_range b =
    rows_fit 0 (registers Zero) b && rows_fit 7 (registers One) b && rows_fit 14 counts b && rows_fit 21 shared b
    && rows_fit 31 part b && rows_fit 32 (port Zero) b && rows_fit 35 (port One) b
