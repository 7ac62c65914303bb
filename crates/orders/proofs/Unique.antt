-- What each public call of `orders` promises leaves room for one result.
-- Assumes nothing.
use Prim.Native.Nat.{ℕ}
use mathlib.Core.Path.{◌≡◌, refl, sym, ap, ◌∙◌}
use lib.Dec.{eqb}
use Rattle.std.specs.Prelude.{Result, Ok, Err, if◌then◌else◌}
use Rattle.arbiter.proofs.Once.{OneResult, OneLeft, once}
use Rattle.orders.specs.declared.ScriptFault.{ScriptFault}
use Rattle.orders.specs.declared.ScriptFault.TheVariants.{NotInFours, TooLong, NoRoom}
use Rattle.orders.specs.Call.{Listed, listed_of}
use Rattle.orders.proofs.script_fault_number.Reads as script-fault-number
use Rattle.orders.proofs.list_orders.Reads as list-orders

-- what a report tells
abbrev told_by : Listed → Result ℕ ScriptFault
told_by r =
    if eqb r.number 0 then Ok r.count
    else if eqb r.number 5 then Err NotInFours
    else if eqb r.number 6 then Err TooLong
    else Err NoRoom

told_back : (r : Result ℕ ScriptFault) → told_by (listed_of r) ≡ r
told_back (Ok n) = refl
told_back (Err NotInFours) = refl
told_back (Err TooLong) = refl
told_back (Err NoRoom) = refl

-- so two results of one report are one
same_listed : (r s : Result ℕ ScriptFault) → listed_of r ≡ listed_of s → r ≡ s
same_listed r s e = sym (told_back r) ∙ ap told_by e ∙ told_back s

pub script_fault_number_once : OneResult script-fault-number.Post
script_fault_number_once κ a x y s t p q = once p q

pub list_orders_once : OneLeft (λ κ s. s.1.1.1.0.now) list-orders.Post
list_orders_once κ a x y s t p q = (same_listed x y (once p.0 q.0), once p.1 q.1)
