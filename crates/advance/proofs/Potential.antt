-- How many ticks can still change something, as a number that a device shows. While a hold runs, 3. On an idle bus an owner can lose, and
-- after it its partner, if that asks. On a bus that is not idle nobody loses, and no level moves by a tick: where SCL is low the owner can
-- be cut off and the bus be hung, and where SDA alone is low it can be hung.
-- Assumes nothing.
use Prim.Native.Nat.{ℕ, ◌+◌, ◌≤◌}
use mathlib.Core.Path.{◌≡◌, refl, ap}
use mathlib.Core.Bool.{Bool, true, false, not, ◌&&◌, true≢false, false≢true}
use lib.Dec.{eqb, ltb}
use native.Mathlib.Omega.{arith}
use Rattle.std.specs.Prelude.{if◌then◌else◌}
use Rattle.arbiter.specs.Words.{worth, of}
use Rattle.arbiter.specs.State.{scl_high, sda_high, is_idle, bus_hung}
use Rattle.arbiter.specs.Order.{cut_ticks}
use Rattle.arbiter.specs.AuditWords.{requests}
use Rattle.arbiter.specs.declared.Master.TheVariants.{Zero, One}
use Rattle.arbiter.specs.declared.Turn.{Turn}
use Rattle.arbiter.specs.declared.Turn.TheVariants.{Nobody, Claims, Owns}
use Rattle.arbiter.specs.declared.Bus.{Bus}
use Rattle.arbiter.specs.declared.Device.{Device}
use Rattle.arbiter.proofs.Choice.{either, if_true}

-- ---- the number

-- the losses to come: the owner's, and its partner's if that asks. What master 0 and master 1 ask, in this order.
abbrev pub losing : Turn → Bool → Bool → ℕ
losing Nobody r0 r1 = 0
losing (Claims m g) r0 r1 = 0
losing (Owns m g) r0 r1 = 1 + worth 1 (of m r1 r0)

-- by whether the bus is idle, SCL high and SDA high; whether SCL's count is below that of the cut, and the bus is hung
abbrev pub left_of : Bool → Bool → Bool → ℕ → Bool → Bool → ℕ
left_of true scl sda losses uncut hung = losses
left_of false true true losses uncut hung = 0
left_of false true false losses uncut hung = worth 1 (not hung)
left_of false false sda losses uncut hung = worth 1 uncut + worth 1 (not hung)

abbrev pub left_on : ℕ → Bus → ℕ
left_on losses b = left_of (is_idle b) (scl_high b) (sda_high b) losses (ltb b.lowscl cut_ticks) (bus_hung b)

abbrev pub left : Device → ℕ
left d = if eqb d.bus.hold 0 then left_on (losing d.arb.turn (requests Zero d) (requests One d)) d.bus else 3

-- ---- it is 3 at most, and 2 without a hold

pub worth_most : (b : Bool) → worth 1 b ≤ 1
worth_most true = omega arith
worth_most false = omega arith

losing_most : (t : Turn) (r0 r1 : Bool) → losing t r0 r1 ≤ 2
losing_most Nobody r0 r1 = omega arith
losing_most (Claims m g) r0 r1 = omega arith
losing_most (Owns m g) r0 r1 = omega (arith, worth_most (of m r1 r0))

of_most : (idle scl sda : Bool) (losses : ℕ) (uncut hung : Bool) → losses ≤ 2 → left_of idle scl sda losses uncut hung ≤ 2
of_most true scl sda losses uncut hung l = l
of_most false true true losses uncut hung l = omega arith
of_most false true false losses uncut hung l = omega (arith, worth_most (not hung))
of_most false false sda losses uncut hung l = omega (arith, worth_most uncut, worth_most (not hung))

on_most : (d : Device) → left_on (losing d.arb.turn (requests Zero d) (requests One d)) d.bus ≤ 2
on_most d = of_most (is_idle d.bus) (scl_high d.bus) (sda_high d.bus) _ _ _ (losing_most d.arb.turn (requests Zero d) (requests One d))

pub left_unheld : (d : Device) → eqb d.bus.hold 0 ≡ true → left d ≤ 2
left_unheld d h = omega (arith, if_true (left_on (losing d.arb.turn (requests Zero d) (requests One d)) d.bus) 3 h, on_most d)

pub left_most : (d : Device) → left d ≤ 3
left_most d = either (λ (n : ℕ). n ≤ 3) (eqb d.bus.hold 0) (λ h. omega (arith, on_most d)) (λ h. omega arith)

-- ---- it does not rise, and falls by a cut or by BUS_HUNG

worth_rises : (a b : Bool) → (a ≡ true → b ≡ true) → worth 1 a ≤ worth 1 b
worth_rises false b f = omega arith
worth_rises true true f = omega arith
worth_rises true false f = absurd (false≢true (f refl))

not_falls : (a b : Bool) → (a ≡ true → b ≡ true) → worth 1 (not b) ≤ worth 1 (not a)
not_falls true true f = omega arith
not_falls true false f = absurd (false≢true (f refl))
not_falls false b f = worth_most (not b)

-- SCL's count does not come below that of the cut, and the bus stays hung
module _ (idle scl sda : Bool) (losses : ℕ) (uncut after hung now : Bool) (cuts : after ≡ true → uncut ≡ true) (hangs : hung ≡ true → now ≡ true) where
  pub of_stays : left_of idle scl sda losses after now ≤ left_of idle scl sda losses uncut hung
  of_stays = go idle scl sda
    where
      go : (idle scl sda : Bool) → left_of idle scl sda losses after now ≤ left_of idle scl sda losses uncut hung
      go true scl sda = omega arith
      go false true true = omega arith
      go false true false = not_falls hung now hangs
      go false false sda = let c = worth_rises after uncut cuts in let h = not_falls hung now hangs in omega arith

  -- a bus with a low line that is newly hung
  pub of_hung : idle ≡ false → scl && sda ≡ false → hung ≡ false → now ≡ true
      → left_of idle scl sda losses after now + 1 ≤ left_of idle scl sda losses uncut hung
  of_hung i low h n = go idle scl sda i low
    where
      was : worth 1 (not hung) ≡ 1
      was = ap (λ (x : Bool). worth 1 (not x)) h

      is : worth 1 (not now) ≡ 0
      is = ap (λ (x : Bool). worth 1 (not x)) n

      go : (idle scl sda : Bool) → idle ≡ false → scl && sda ≡ false → left_of idle scl sda losses after now + 1 ≤ left_of idle scl sda losses uncut hung
      go true scl sda i low = absurd (true≢false i)
      go false true true i low = absurd (true≢false low)
      go false true false i low = omega (arith, was, is)
      go false false sda i low = let c = worth_rises after uncut cuts in omega (arith, was, is)

  -- SCL low for so long that the cut is behind it
  pub of_cut : idle ≡ false → scl ≡ false → uncut ≡ true → after ≡ false → left_of idle scl sda losses after now + 1 ≤ left_of idle scl sda losses uncut hung
  of_cut i low u a = go idle scl i low
    where
      was : worth 1 uncut ≡ 1
      was = ap (worth 1) u

      is : worth 1 after ≡ 0
      is = ap (worth 1) a

      go : (idle scl : Bool) → idle ≡ false → scl ≡ false → left_of idle scl sda losses after now + 1 ≤ left_of idle scl sda losses uncut hung
      go true scl i low = absurd (true≢false i)
      go false true i low = absurd (true≢false low)
      go false false i low = let h = not_falls hung now hangs in omega (arith, was, is)
