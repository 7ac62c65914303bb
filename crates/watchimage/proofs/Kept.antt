-- What the two calls stand on: the length of a buffer that is not refused, and the PULSEs of the device after samples.
-- Assumes nothing.
use Prim.Native.Nat.{ℕ, ◌<◌}
use mathlib.Core.Path.{◌≡◌, sym, ◌∙◌}
use mathlib.Core.Bool.{true}
use mathlib.Core.List.{List}
use native.Mathlib.Omega.{arith}
use lib.ListN.{length, take}
use borrow.Author.Tests.{eqb-true}
use Rattle.arbiter.proofs.Choice.{split, if_false}
use Rattle.ranges.specs.Ranges.{pulses}
use Rattle.layout.proofs.Fits.{held_pulses}
use Rattle.watch.specs.Told.{taken, listened}
use Rattle.std.specs.Prelude.{Ok}
use Rattle.watchlayout.specs.Refusals.{number_of}
use Rattle.watchlayout.specs.Places.{watch_length, watcher_in}
use Rattle.watchlayout.specs.Calls.{is_long, fresh_number, is_watch}
use Rattle.watchlayout.proofs.Fits.{buffer_fits}
use Rattle.watchlayout.proofs.Stays.{stays_fit}

fresh_long : (kind address below : ℕ) (b : List ℕ) → fresh_number kind address below b ≡ 0 → length b ≡ watch_length
unfolding fresh_number
fresh_long kind address below b h =
    split (is_long b) (λ long. eqb-true (length b) watch_length long)
    (λ other. absurd (let nine : 9 ≡ 0 = sym (if_false _ 9 other) ∙ h in omega arith))

pub fresh_good : (kind address below : ℕ) (b : List ℕ) {given : Unit {0}} → number_of (Ok given) ≡ fresh_number kind address below b → length b ≡ watch_length
unfolding number_of
fresh_good kind address below b p = fresh_long kind address below b (sym p)

pub heard_pulses : (xs b : List ℕ) → is_watch b ≡ true → pulses (listened xs (watcher_in b)).device.arb.switch < 9
heard_pulses xs b h = held_pulses _ (stays_fit (take (taken xs (watcher_in b)) xs) (watcher_in b) (buffer_fits b h)).device
