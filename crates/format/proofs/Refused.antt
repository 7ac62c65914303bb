-- A number tells which refusal it is, and is never 0: so what tells the same of two answers shows that they are one.
-- Assumes nothing.
use mathlib.Core.Path.{◌≡◌, refl, sym, ap, ◌∙◌}
use mathlib.Core.Bool.{Bool}
use Prim.Native.Nat.{ℕ}
use native.Mathlib.Omega.{arith}
use lib.Dec.{eqb}
use Rattle.std.specs.Prelude.{Result, Ok, Err, if◌then◌else◌}
use Rattle.arbiter.specs.Traces.{refusal_number}
use Rattle.arbiter.specs.declared.Refusal.{Refusal}
use Rattle.arbiter.specs.declared.Refusal.TheVariants.{TraceCut, TooManyEvents, BytesAfterEnd, BadStraps, NoRoom, BadCount, UnknownPart}
use Rattle.arbiter.specs.Types.{Written}
use Rattle.format.specs.Refused.{written_of}

abbrev refusal_at : ℕ → Refusal
refusal_at n =
    if eqb n 3 then UnknownPart
    else if eqb n 5 then TraceCut
    else if eqb n 6 then TooManyEvents
    else if eqb n 7 then BytesAfterEnd
    else if eqb n 8 then BadStraps
    else if eqb n 9 then NoRoom
    else BadCount

numbered : (r : Refusal) → refusal_at (refusal_number r) ≡ r
numbered TraceCut = refl
numbered TooManyEvents = refl
numbered BytesAfterEnd = refl
numbered BadStraps = refl
numbered NoRoom = refl
numbered BadCount = refl
numbered UnknownPart = refl

pub some_number : (r : Refusal) → refusal_number r ≡ 0 → ⊥
some_number TraceCut h = omega (arith, h)
some_number TooManyEvents h = omega (arith, h)
some_number BytesAfterEnd h = omega (arith, h)
some_number BadStraps h = omega (arith, h)
some_number NoRoom h = omega (arith, h)
some_number BadCount h = omega (arith, h)
some_number UnknownPart h = omega (arith, h)

-- two answers that are told alike are the same
pub written_once : (x y : Result ℕ Refusal) → written_of x ≡ written_of y → x ≡ y
written_once (Ok n) (Ok m) h = ap (λ (w : Written). Ok w.length) h
written_once (Ok n) (Err r) h = absurd (some_number r (sym (ap (λ (w : Written). w.number) h)))
written_once (Err r) (Ok m) h = absurd (some_number r (ap (λ (w : Written). w.number) h))
written_once (Err r) (Err q) h = ap Err (sym (numbered r) ∙ ap (λ (w : Written). refusal_at w.number) h ∙ numbered q)
