-- `routing::see` meets its contract.
-- Assumes nothing.
use Prim.Native.Nat.{ℕ, ◌<◌}
use mathlib.Core.Path.{◌≡◌, sym, ap, ◌∙◌}
use native.Mathlib.Omega.{arith}
use lib.ListN.{take}
use borrow.Author.Tests.{lt-ltb}
use Rattle.shelf.specs.Shelf.{is_in}
use Rattle.routing.specs.Deciding.{among_first, see_of}
use Rattle.routing.proofs.Told.{among_in}
use Rattle.routing.proofs.see.Goals as goal

pub returns-then-at-lt16 : goal.returns-then-at-lt16
unfolding see_of
returns-then-at-lt16 c =
    let s = c.args.s in
    let at : c.from-at.result ≡ s.count = omega arith in
    let room : s.count < 16 = omega arith in
    let among : c.is_among.result ≡ among_first c.args.address s.addresses s.count =
    c.is_among.ensures ∙ ap (λ (n : ℕ). is_in c.args.address (take n s.addresses)) at ∙ sym (among_in c.args.address s.addresses s.count (omega arith))
    in
    simp (← c.first_at-place.ensures, among, at, lt-ltb _ _ room)
