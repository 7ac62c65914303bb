-- Laws of `registers`: what the code writes as one literal with a choice for each field is the definition's choice between two sides.
-- Assumes nothing.
use mathlib.Core.Path.{◌≡◌, refl, ap}
use mathlib.Core.Bool.{Bool, true, false, not, ◌&&◌}
use Prim.Native.Nat.{ℕ}
use lib.Bits.{bit_or, or_zero_r}
use Rattle.std.specs.Prelude.{if◌then◌else◌}
use Rattle.arbiter.specs.Parts.{with_port, with_pointer, with_ints, with_mail}
use Rattle.arbiter.specs.Effects.{after_read, empties, reader_side}
use Rattle.arbiter.specs.declared.Port.TheVariants.{Open}
use Rattle.arbiter.specs.declared.Side.{Side}

-- where nothing is raised, the code's `| 0` changes nothing
pub unraised : (s : Side) → with_ints (bit_or s.ints 0) s ≡ s
unraised s = ap (λ (i : ℕ). with_ints i s) (or_zero_r s.ints)

-- ---- reading

abbrev taken : Side → Side
taken s = with_mail (record { low = s.mail.low; high = s.mail.high; full = s.mail.full && not (empties s) }) s

pub reader_law : (s : Side) → with_port Open (with_pointer (if s.auto then after_read s.pointer else s.pointer) (taken s)) ≡ reader_side s
reader_law s = go s.auto
  where
    go : (auto : Bool) → with_port Open (with_pointer (if auto then after_read s.pointer else s.pointer) (taken s))
        ≡ with_port Open (if auto then with_pointer (after_read s.pointer) (taken s) else taken s)
    go true = refl
    go false = refl
