-- `watchimage::fitting::bus_fits` meets its contract.
-- Assumes nothing.
use Prim.Native.Nat.{◌+◌}
use mathlib.Core.Bool.{and-true}
use native.Mathlib.Omega.{arith}
use borrow.Author.Tests.{le-leb}
use Rattle.arbiter.specs.Traces.{byte_at}
use Rattle.watchlayout.specs.Places.{bus_fits}
use Rattle.watchimage.proofs.fitting.bus_fits.Goals as goal

pub returns : goal.returns
unfolding bus_fits
returns c =
    let known = c.type_inv.b in
    let start = c.args in
    let middle = le-leb (byte_at (start.at + 2) start.b.now) 255 (omega (arith, known (start.at + 2))) in
    simp (middle, and-true, c.fits-2.ensures, c.fits.ensures)
