-- `watchimage::fitting::tally_fits` meets its contract.
-- Assumes nothing.
use native.Mathlib.Omega.{arith}
use Rattle.watchimage.proofs.Parts.{bytes_fit_lem}
use Rattle.watchlayout.specs.Places.{tally_fits}
use Rattle.watchimage.proofs.fitting.tally_fits.Goals as goal

pub returns : goal.returns
unfolding tally_fits
returns c =
    let known = c.type_inv.b in
    let b = c.args.b.now in
    simp (bytes_fit_lem 48 58 b (λ i. omega (arith, known i)), c.check_fits-3.ensures, c.check_fits-2.ensures, c.check_fits.ensures)
