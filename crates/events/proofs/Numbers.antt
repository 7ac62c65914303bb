-- The paper's number of four bytes: whoever answers by the map from bytes to events answers by its number too.
-- Assumes nothing.
use Prim.Native.Nat.{ℕ, suc, zero, ◌≤◌}
use mathlib.Core.Path.{◌≡◌, refl, ap, ◌∙◌}
use mathlib.Core.Bool.{Bool, true, false, not, ◌&&◌}
use native.Mathlib.Omega.{arith}
use borrow.Author.Tests.{ne_eqb, le-ltb}
use Rattle.std.specs.Prelude.{if◌then◌else◌}
use Rattle.arbiter.specs.Events.{unused, zero_or_one, master, level, fitting, decode, decoded_number, raw_number}
use Rattle.arbiter.specs.declared.Raw.{Raw}
use Rattle.arbiter.specs.declared.Event.{Event}
use Rattle.arbiter.specs.declared.Event.TheVariants.{Command, Write, Read, Stop, Pair, Lines, Tick, Pulse, Reset, GeneralCall}
use Rattle.std.specs.Prelude.{Result}
use Rattle.arbiter.specs.declared.Unread.{Unread}

-- one kind: whether its fields fit decides
fitting_number : (ok : Bool) (e : Event) → decoded_number (fitting ok e) ≡ (if not ok then 3 else 0)
fitting_number true e = refl
fitting_number false e = refl

-- the same where the second field may be any byte
any_number : (first third : Bool) (e : Event) → decoded_number (fitting (first && third) e) ≡ (if not (first && true && third) then 3 else 0)
any_number true third e = fitting_number third e
any_number false third e = refl

-- ---- all kinds: from 10 on none is known

abbrev raw : ℕ → ℕ → ℕ → ℕ → Raw
raw k x y z = record { kind = k; x = x; y = y; z = z }

unknown_number : (r : Raw) → 10 ≤ r.kind → decoded_number (decode r) ≡ raw_number r
unfolding decode raw_number
unknown_number r h =
    simp (
      ne_eqb r.kind 0 (λ e. omega arith),
      ne_eqb r.kind 1 (λ e. omega arith),
      ne_eqb r.kind 2 (λ e. omega arith),
      ne_eqb r.kind 3 (λ e. omega arith),
      ne_eqb r.kind 4 (λ e. omega arith),
      ne_eqb r.kind 5 (λ e. omega arith),
      ne_eqb r.kind 6 (λ e. omega arith),
      ne_eqb r.kind 7 (λ e. omega arith),
      ne_eqb r.kind 8 (λ e. omega arith),
      ne_eqb r.kind 9 (λ e. omega arith),
      le-ltb r.kind 10 h,
    )

number : (k x y z : ℕ) → decoded_number (decode (raw k x y z)) ≡ raw_number (raw k x y z)
unfolding decode raw_number
number zero x y z = any_number (zero_or_one x) (unused z) (Command (master x) y)
number (suc zero) x y z = any_number (zero_or_one x) (unused z) (Write (master x) y)
number (suc (suc zero)) x y z = fitting_number (zero_or_one x && unused y && unused z) (Read (master x))
number (suc (suc (suc zero))) x y z = fitting_number (zero_or_one x && unused y && unused z) (Stop (master x))
number (suc (suc (suc (suc zero)))) x y z = fitting_number (unused z) (Pair x y)
number (suc (suc (suc (suc (suc zero))))) x y z = fitting_number (zero_or_one x && zero_or_one y && zero_or_one z) (Lines (level x) (level y) (level z))
number (suc (suc (suc (suc (suc (suc zero)))))) x y z = fitting_number (unused x && unused y && unused z) Tick
number (suc (suc (suc (suc (suc (suc (suc zero))))))) x y z = fitting_number (zero_or_one x && unused y && unused z) (Pulse (level x))
number (suc (suc (suc (suc (suc (suc (suc (suc zero)))))))) x y z = fitting_number (unused x && unused y && unused z) Reset
number (suc (suc (suc (suc (suc (suc (suc (suc (suc zero))))))))) x y z = any_number (zero_or_one x) (unused z) (GeneralCall (master x) y)
number (suc (suc (suc (suc (suc (suc (suc (suc (suc (suc k)))))))))) x y z =
    unknown_number (raw (suc (suc (suc (suc (suc (suc (suc (suc (suc (suc k)))))))))) x y z) (omega arith)

pub raw_told : (r : Raw) (d : Result Event Unread) → d ≡ decode r → (d ≡ decode r) × (decoded_number d ≡ raw_number r)
raw_told r d e = (e, ap decoded_number e ∙ number r.kind r.x r.y r.z)
