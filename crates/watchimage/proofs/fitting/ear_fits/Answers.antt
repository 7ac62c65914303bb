-- `watchimage::fitting::ear_fits` meets its contract.
-- Assumes nothing.
use mathlib.Core.Bool.{and-true}
use native.Mathlib.Omega.{arith}
use Rattle.watchimage.proofs.Parts.{bytes_fit_lem}
use Rattle.watchlayout.specs.Places.{ear_fits}
use Rattle.watchimage.proofs.fitting.ear_fits.Goals as goal

pub returns : goal.returns
unfolding ear_fits
returns c =
    let known = c.type_inv.b in
    let b = c.args.b.now in
    simp (bytes_fit_lem 4 46 b (λ i. omega (arith, known i)), and-true, c.bus_fits-2.ensures, c.bus_fits.ensures, c.fits.ensures)
