-- Sums that stop at the top of 64 bits, as the code makes them; and when a TICK is due, as the code asks it.
-- Assumes nothing.
use Prim.Native.Nat.{ℕ, ◌+◌, ◌≤◌, ◌<◌}
use mathlib.Core.Path.{◌≡◌, refl, sym, ◌∙◌}
use mathlib.Core.Bool.{Bool, true, false, not, ◌&&◌, false≢true}
use lib.Dec.{ltb}
use borrow.Author.Tests.{ltb-true}
use native.Mathlib.Omega.{arith}
use Rattle.arbiter.specs.declared.Master.{Master}
use Rattle.arbiter.specs.declared.Device.{Device}
use Rattle.arbiter.specs.declared.Event.{Event}
use Rattle.arbiter.specs.declared.Event.TheVariants.{Command, Write, Read, Stop, Pair, Lines, Tick, Pulse, Reset, GeneralCall}
use Rattle.capture.specs.declared.Both.{Both}
use Rattle.watch.specs.declared.Tally.{Tally}
use Rattle.watch.specs.Stream.{top, plus, with_event, tally_with}
use Rattle.watch.proofs.Sums.{up_small, up_past}

pub plus_past : (a b : ℕ) → 18446744073709551615 ≤ a + b → 18446744073709551615 ≡ plus a b
unfolding top plus
plus_past a b h = sym (up_past (a + b) h)

pub plus_in : (a b : ℕ) → a + b ≤ 18446744073709551615 → a + b ≡ plus a b
unfolding top plus
plus_in a b h = sym (up_small (a + b) h)

pub plus_none : (a : ℕ) → a < 18446744073709551616 → a ≡ plus a 0
plus_none a h = let same : a + 0 ≡ a = omega arith in sym same ∙ plus_in a 0 (omega (arith, h))

-- an event that is no READ is counted alone
pub not_read : (e : Event) (s : Both) (d : Device) (t : Tally) → ((m : Master) → e ≡ Read m → ⊥) → with_event t ≡ tally_with e s d t
unfolding tally_with
not_read (Command m c) s d t h = refl
not_read (Write m v) s d t h = refl
not_read (Read m) s d t h = absurd (h m refl)
not_read (Stop m) s d t h = refl
not_read (Pair v0 v1) s d t h = refl
not_read (Lines scl sda intin) s d t h = refl
not_read Tick s d t h = refl
not_read (Pulse sda) s d t h = refl
not_read Reset s d t h = refl
not_read (GeneralCall m b) s d t h = refl

-- where a TICK is not due there is room for one more
pub due_far : (timed due : Bool) (since every : ℕ) → (timed && not due) ≡ true → due ≡ not (ltb (since + 1) every) → since + 1 < every
due_far true true since every h d = absurd (false≢true h)
due_far true false since every h d = ltb-true (since + 1) every (not_false (ltb (since + 1) every) (sym d))
  where
    not_false : (b : Bool) → not b ≡ false → b ≡ true
    not_false true h = refl
    not_false false h = absurd (false≢true (sym h))
due_far false due since every h d = absurd (false≢true h)
