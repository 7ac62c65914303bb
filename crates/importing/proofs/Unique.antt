-- What the public calls of `importing` promise leaves room for one result.
-- Assumes nothing.
use mathlib.Core.Path.{◌≡◌, refl, sym, ap, ◌∙◌}
use mathlib.Core.List.{List, [], ◌∷◌}
use Rattle.std.specs.Prelude.{Option}
use Rattle.arbiter.specs.declared.Event.{Event}
use Rattle.arbiter.proofs.Once.{OneResult, OneLeft, once}
use Rattle.std.specs.Prelude.{ℕ, eqb, Result, Ok, Err, Some, None, if◌then◌else◌}
use Rattle.capture.specs.declared.ImportFault.{ImportFault}
use Rattle.capture.specs.declared.ImportFault.TheVariants.{TooLong, BadAddress, Cut, NoRoom}
use Rattle.capture.specs.Import.{Imported, refusal_number, import_told}
use Rattle.importing.specs.Listed.{listed}
use Rattle.importing.proofs.few_of.Reads as few_of
use Rattle.importing.proofs.raw_of.Reads as raw_of
use Rattle.importing.proofs.import_capture.Reads as import-capture

-- the events of one sample
abbrev Few : Type 0
Few = Option (Event × Option Event)

-- a list of at most two events is that of one value
few_in : List Event → Few
few_in [] = None
few_in (e ∷ []) = Some (e, None)
few_in (e ∷ f ∷ rest) = Some (e, Some f)

few_back : (f : Few) → few_in (listed f) ≡ f
unfolding few_in
few_back None = refl
few_back (Some (e, None)) = refl
few_back (Some (e, Some f)) = refl

pub few_of_once : OneResult few_of.Post
few_of_once κ a x y s t p q = sym (few_back x) ∙ ap few_in (once p q) ∙ few_back y

pub raw_of_once : OneResult raw_of.Post
raw_of_once κ a x y s t p q = once p q

-- each refusal has a number of its own, and none has 0
fault_of : ℕ → ImportFault
fault_of n = if eqb n 13 then TooLong else if eqb n 11 then BadAddress else if eqb n 12 then Cut else NoRoom

import_from : Imported → Result ℕ ImportFault
import_from r = if eqb r.number 0 then Ok r.count else Err (fault_of r.number)

import_back : (r : Result ℕ ImportFault) → import_from (import_told r) ≡ r
unfolding import_from fault_of
import_back (Ok n) = refl
import_back (Err TooLong) = refl
import_back (Err BadAddress) = refl
import_back (Err Cut) = refl
import_back (Err NoRoom) = refl

pub import_capture_once : OneLeft (λ κ s. s.1.1.0.now) import-capture.Post
import_capture_once κ a x y s t p q = (sym (import_back x) ∙ ap import_from (once p.0 q.0) ∙ import_back y, once p.1 q.1)
