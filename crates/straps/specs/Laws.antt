-- Laws of `straps`: what holds of the two maps of document 01, "Straps", for all pins and all numbers: each undoes the other, and every address
-- 08h to 77h has exactly one strapping. proofs/Laws.antt proves it.
-- Assumes nothing.
use Rattle.std.specs.Prelude.{ℕ, ◌≡◌, true, false}
use Rattle.arbiter.specs.Straps.{in_range, address_of, straps_of}
use Rattle.arbiter.specs.declared.Pins.{Pins}
use Rattle.std.specs.Prelude.{Some, None}

-- pins that have an address: it lies in 08h to 77h, and they are the strapping of it
abbrev pub BackToPins : Type 0
BackToPins = (p : Pins) (a : ℕ) → address_of p ≡ Some a → (in_range a ≡ true) × (straps_of a ≡ Some p)

-- an address of 08h to 77h has a strapping, and it is the address of that
abbrev pub BackToAddress : Type 0
BackToAddress = (a : ℕ) → in_range a ≡ true → (p : Pins) × (straps_of a ≡ Some p) × (address_of p ≡ Some a)

-- no other number has one
abbrev pub NoneOutside : Type 0
NoneOutside = (a : ℕ) → in_range a ≡ false → straps_of a ≡ None

-- exactly one: two strappings of one address are the same
abbrev pub OneStrapping : Type 0
OneStrapping = (p q : Pins) (a : ℕ) → address_of p ≡ Some a → address_of q ≡ Some a → p ≡ q

-- all of them, which proofs/Laws.antt fills with one term, so that a lost proof fails the check
pub record StrapsHold : Type 0 where
  pub back_to_pins : BackToPins
  pub back_to_address : BackToAddress
  pub none_outside : NoneOutside
  pub one_strapping : OneStrapping
