-- What each public call of `advance` promises leaves room for one result.
-- Assumes nothing.
use Rattle.std.proofs.Common.{◌≡◌, refl, sym, ap, ◌∙◌, eqb, Result, Ok, Err, if◌then◌else◌}
use Rattle.arbiter.specs.declared.Device.{Device}
use Rattle.arbiter.proofs.Once.{OneResult, once}
use Rattle.advance.specs.declared.Moved.{Moved}
use Rattle.advance.specs.declared.Refused.{Refused}
use Rattle.advance.specs.declared.Refused.TheVariants.{TooManyTicks}
use Rattle.advance.specs.Advance.{Advanced, told}
use Rattle.advance.proofs.changes.is_changed.Reads as is-changed
use Rattle.advance.proofs.changes.same_shown.Reads as same-shown
use Rattle.advance.proofs.advance.Reads as advance

pub is_changed_once : OneResult is-changed.Post
is_changed_once κ a x y s t p q = once p q

pub same_shown_once : OneResult same-shown.Post
same_shown_once κ a x y s t p q = once p q

-- the code's answer read back from what is told
abbrev back : Advanced → Result Moved Refused
back a = if eqb a.number 0 then Ok (record { device = a.device; reported = a.reported }) else Err TooManyTicks

back_told : (d : Device) (x : Result Moved Refused) → back (told d x) ≡ x
back_told d (Ok m) = refl
back_told d (Err TooManyTicks) = refl

pub advance_once : OneResult advance.Post
advance_once κ a x y s t p q = sym (back_told _ x) ∙ ap back (once p q) ∙ back_told _ y
