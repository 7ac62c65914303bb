-- `watchimage::fitting::check_fits` meets its contract.
-- Assumes nothing.
use native.Mathlib.Omega.{arith}
use Rattle.watchimage.proofs.Parts.{bytes_fit_lem}
use Rattle.watchlayout.specs.Places.{check_fits}
use Rattle.watchimage.proofs.fitting.check_fits.Goals as goal

pub returns : goal.returns
unfolding check_fits
returns c =
    let known = c.type_inv.b in
    let start = c.args in
    simp (bytes_fit_lem 8 start.at start.b.now (λ i. omega (arith, known i)), c.fits-2.ensures, c.fits.ensures)
