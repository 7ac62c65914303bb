-- Laws of `straps`, those of specs/Laws.antt. One test is computed over all settings of the pins; for the addresses Worked.antt has the test.
-- Assumes nothing.
use mathlib.Core.Path.{◌≡◌, refl, sym, ◌∙◌, ap}
use mathlib.Core.Bool.{Bool, true, false, not, ◌&&◌, false≢true, and-eq-true_iff}
use Prim.Native.Nat.{ℕ, ◌+◌}
use lib.Dec.{eqb}
use borrow.Author.Tests.{eqb-true}
use Rattle.std.specs.Prelude.{if◌then◌else◌}
use Rattle.arbiter.specs.Straps.{listed, first_address, low_bits, in_range, address_of, settings, straps_of}
use Rattle.arbiter.specs.declared.Pins.{Pins}
use Rattle.std.specs.Prelude.{Option, Some, None}
use Rattle.straps.specs.Laws.{BackToPins, BackToAddress, NoneOutside, OneStrapping, StrapsHold}
use Rattle.straps.proofs.Worked.{coded, all_settings, at_setting, worked_pins, pins_worked}

-- ---- pins that have an address are listed, and so each has a code

listed_of : (p : Pins) (a : ℕ) → address_of p ≡ Some a → listed p ≡ true
unfolding address_of
listed_of p a e = go (listed p) e
  where
    go : (b : Bool) → (if b then Some (first_address p + low_bits p) else None) ≡ Some a → b ≡ true
    go true h = refl
    go false h = absurd (false≢true (ap (λ (s : Option ℕ). is_address_lem s) h))
      where
        is_address_lem : Option ℕ → Bool
        is_address_lem (Some b) = true
        is_address_lem None = false

-- ---- the strapping of an address, as a test

abbrev same_pins : Pins → Pins → Bool
same_pins p q = eqb p.ad3 q.ad3 && eqb p.ad2 q.ad2 && eqb p.ad1 q.ad1 && eqb p.ad0 q.ad0

same_pins_lem : (p q : Pins) → same_pins p q ≡ true → p ≡ q
same_pins_lem p q t =
    let c = (and-eq-true_iff (eqb p.ad3 q.ad3 && eqb p.ad2 q.ad2 && eqb p.ad1 q.ad1) (eqb p.ad0 q.ad0)).0 t in
    let d = (and-eq-true_iff (eqb p.ad3 q.ad3 && eqb p.ad2 q.ad2) (eqb p.ad1 q.ad1)).0 c.0 in
    let e = (and-eq-true_iff (eqb p.ad3 q.ad3) (eqb p.ad2 q.ad2)).0 d.0 in
    let e3 : p.ad3 ≡ q.ad3 = eqb-true _ _ e.0 in
    let e2 : p.ad2 ≡ q.ad2 = eqb-true _ _ e.1 in
    let e1 : p.ad1 ≡ q.ad1 = eqb-true _ _ d.1 in
    let e0 : p.ad0 ≡ q.ad0 = eqb-true _ _ c.1 in
    λ i. record { ad3 = e3 i; ad2 = e2 i; ad1 = e1 i; ad0 = e0 i }

-- is it the strapping of these pins?
abbrev is_pins : Pins → Option Pins → Bool
is_pins p (Some q) = same_pins q p
is_pins p None = false

is_pins_lem : (p : Pins) (s : Option Pins) → is_pins p s ≡ true → s ≡ Some p
is_pins_lem p None t = absurd (false≢true t)
is_pins_lem p (Some q) t = ap Some (same_pins_lem q p t)

-- ---- over all settings of the pins: an address has the pins as its strapping, and is in range

abbrev back_from_lem : Pins → Option ℕ → Bool
back_from_lem p (Some a) = in_range a && is_pins p (straps_of a)
back_from_lem p None = true

all_back : all_settings (λ p. back_from_lem p (address_of p)) ≡ true
unfolding address_of settings straps_of
all_back = refl

back_from : (p : Pins) (a : ℕ) → address_of p ≡ Some a → back_from_lem p (address_of p) ≡ true
back_from p a e =
    let c = (and-eq-true_iff (coded p) (not (eqb (first_address p) 0))).0 (listed_of p a e) in
    at_setting (λ p. back_from_lem p (address_of p)) all_back p c.0

pub back_to_pins : BackToPins
back_to_pins p a e =
    let t = (and-eq-true_iff (in_range a) (is_pins p (straps_of a))).0 (ap (back_from_lem p) (sym e) ∙ back_from p a e) in
    (t.0, is_pins_lem p (straps_of a) t.1)

pub one_strapping : OneStrapping
one_strapping p q a e f =
    let h : straps_of a ≡ Some p = (back_to_pins p a e).1 in
    let k : straps_of a ≡ Some q = (back_to_pins q a f).1 in
    cc

-- ---- an address in range has a strapping, the worked-out pins

pub straps_worked : (a : ℕ) → in_range a ≡ true → straps_of a ≡ Some (worked_pins a)
straps_worked a h = (back_to_pins (worked_pins a) a (pins_worked a h)).1

pub back_to_address : BackToAddress
back_to_address a h = (worked_pins a, straps_worked a h, pins_worked a h)

pub none_outside : NoneOutside
unfolding straps_of
none_outside a h = rw h

pub straps_hold : StrapsHold
straps_hold = record { back_to_pins = back_to_pins; back_to_address = back_to_address; none_outside = none_outside; one_strapping = one_strapping }
