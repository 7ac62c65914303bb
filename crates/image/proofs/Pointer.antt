-- What a register reads does not hang on the pointer.
-- Assumes nothing.
use mathlib.Core.Path.{◌≡◌, refl}
use mathlib.Core.Bool.{Bool}
use Rattle.arbiter.specs.Parts.{with_pointer}
use Rattle.arbiter.specs.Registers.{status_byte, register_byte}
use Rattle.arbiter.specs.declared.Register.{Register}
use Rattle.arbiter.specs.declared.Register.TheVariants.{Id, Contr, Status, Rt, IntStatus, IntMask, MailLow, MailHigh}
use Rattle.arbiter.specs.declared.Side.{Side}
use Rattle.arbiter.specs.declared.Bus.{Bus}

pub at_pointer : (r : Register) (granted theirs : Bool) (own other : Side) (b : Bus) (initfail : Bool)
    → register_byte r granted theirs (with_pointer r own) other b initfail ≡ register_byte r granted theirs own other b initfail
unfolding register_byte status_byte
at_pointer Id granted theirs own other b initfail = refl
at_pointer Contr granted theirs own other b initfail = refl
at_pointer Status granted theirs own other b initfail = refl
at_pointer Rt granted theirs own other b initfail = refl
at_pointer IntStatus granted theirs own other b initfail = refl
at_pointer IntMask granted theirs own other b initfail = refl
at_pointer MailLow granted theirs own other b initfail = refl
at_pointer MailHigh granted theirs own other b initfail = refl
