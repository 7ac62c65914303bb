-- Document 01, "Straps": from the four pins to the address, and from the address to its pins.
-- Assumes nothing.
use Rattle.std.specs.Prelude.{◌+◌, ◌*◌, ◌%◌, ◌&&◌, ◌∷◌, ◌++◌, if◌then◌else◌}
use Rattle.arbiter.specs.Types.{ℕ, Bool, true, false, not, List, [], map, eqb, ltb, Pins, Option, Some, None}

-- "Pin codes: 0 VSS, 1 VDD, 2 pull-down, 3 pull-up. VSS and VDD are ties, the others resistors."
abbrev pub is_code : ℕ → Bool
is_code p = ltb p 4

abbrev pub is_tie : ℕ → Bool
is_tie p = ltb p 2

-- "VSS and pull-down count 0, VDD and pull-up count 1."
abbrev pub counts : ℕ → ℕ
counts p = p % 2

-- "AD2, AD1, AD0 give the low three address bits."
abbrev pub low_bits : Pins → ℕ
low_bits p = 4 * counts p.ad2 + 2 * counts p.ad1 + counts p.ad0

-- "The class of AD2 AD1 AD0 (t tie, r resistor) gives the first address of eight." Each row has two, for AD3 at VSS and for
-- AD3 at VDD; the paper's "none" is 0 here.
abbrev pub of_class : Bool → Bool → Bool → Bool → ℕ
of_class true true true low = if low then 0x70 else 0
of_class true true false low = if low then 0 else 0x08
of_class true false true low = if low then 0x10 else 0x18
of_class true false false low = if low then 0x20 else 0x28
of_class false true true low = if low then 0x30 else 0x38
of_class false true false low = if low then 0x40 else 0x48
of_class false false true low = if low then 0x50 else 0x58
of_class false false false low = if low then 0x60 else 0x68

abbrev pub first_address : Pins → ℕ
first_address p = of_class (is_tie p.ad2) (is_tie p.ad1) (is_tie p.ad0) (eqb p.ad3 0)

-- "AD3 is always a tie." A code above 3 and a strapping that the table does not have are unlisted.
abbrev pub listed : Pins → Bool
listed p = is_tie p.ad3 && is_code p.ad2 && is_code p.ad1 && is_code p.ad0 && not (eqb (first_address p) 0)

-- the address of four pins
unfoldable pub address_of : Pins → Option ℕ
address_of p = if listed p then Some (first_address p + low_bits p) else None

-- ---- from the address to the pins

-- addresses that a strapping can give
abbrev pub in_range : ℕ → Bool
in_range a = not (ltb a 0x08) && ltb a 0x78

abbrev pub codes : List ℕ
codes = 0 ∷ 1 ∷ 2 ∷ 3 ∷ []

abbrev pub pins : ℕ → ℕ → ℕ → ℕ → Pins
pins p3 p2 p1 p0 = record { ad3 = p3; ad2 = p2; ad1 = p1; ad0 = p0 }

-- "Every address 08h to 77h has exactly one strapping": the one among all 256 settings of the pins whose address it is
abbrev pub has_address : ℕ → Option ℕ → Bool
has_address a (Some b) = eqb a b
has_address a None = false

abbrev pub concat : List (List Pins) → List Pins
concat [] = []
concat (x ∷ xs) = x ++ concat xs

unfoldable pub settings : List Pins
settings =
    concat
    (map (λ (p3 : ℕ). concat
    (map (λ (p2 : ℕ). concat
    (map (λ (p1 : ℕ). map (λ (p0 : ℕ). pins p3 p2 p1 p0) codes) codes)) codes)) codes)

abbrev pub first_with : ℕ → List Pins → Option Pins
first_with a [] = None
first_with a (p ∷ ps) = if has_address a (address_of p) then Some p else first_with a ps

unfoldable pub straps_of : ℕ → Option Pins
straps_of a = if in_range a then first_with a settings else None

-- ---- the paper's numbers: "8 pin code above 3 or unlisted strapping .. alone: no address", "11 address outside 08h to 77h .. no strapping"

abbrev pub strapped_number : Option ℕ → ℕ
strapped_number (Some a) = 0
strapped_number None = 8

-- no address is written 00h
abbrev pub strapped_address : Option ℕ → ℕ
strapped_address (Some a) = a
strapped_address None = 0

abbrev pub strapping_number : Option Pins → ℕ
strapping_number (Some p) = 0
strapping_number None = 11

-- 0 and the address for pins that are listed, 8 and no address for all others
abbrev pub address_number : Pins → ℕ
address_number p = if listed p then 0 else 8

abbrev pub address_value : Pins → ℕ
address_value p = if listed p then first_address p + low_bits p else 0

-- 0 for an address that has a strapping, 11 for all others
abbrev pub straps_number : ℕ → ℕ
straps_number a = if in_range a then 0 else 11
