-- What a written byte does to one register alone, as the code's small functions have it.
-- Assumes nothing.
use Rattle.std.specs.Prelude.{ℕ, Bool, false, not, ◌&&◌, ◌||◌, eqb, if◌then◌else◌}
use Rattle.arbiter.specs.Words.{bit}
use Rattle.arbiter.specs.Parts.{with_bus_connect}
use Rattle.arbiter.specs.Registers.{test_int, raised, withdraws, control_of, cleared}
use Rattle.arbiter.specs.declared.Control.{Control}
use Rattle.arbiter.specs.declared.Mailbox.{Mailbox}

-- CONTR by the byte v
abbrev pub contr_written : Bool → ℕ → Control
contr_written granted v = if withdraws granted v then with_bus_connect false (control_of v) else control_of v

-- the interrupts, where the byte v is written to INT_STATUS or to STATUS
abbrev pub ints_written : Bool → Bool → ℕ → ℕ → ℕ
ints_written clears tests v i =
    if clears then cleared v (raised test_int (tests && bit 5 v) i) else raised test_int (tests && bit 5 v) i

-- the box, where the byte v is written at the register number n
abbrev pub mail_after : ℕ → ℕ → Mailbox → Mailbox
mail_after n v m =
    record {
      low = if eqb n 6 && not m.full then v else m.low;
      high = if eqb n 7 && not m.full then v else m.high;
      full = eqb n 7 || m.full;
    }
