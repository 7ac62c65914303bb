-- `watchimage::fitting::settings_fit` meets its contract.
-- Assumes nothing.
use native.Mathlib.Omega.{arith}
use Rattle.watchimage.proofs.Parts.{bytes_fit_lem}
use Rattle.watchlayout.specs.Places.{settings_fit}
use Rattle.watchimage.proofs.fitting.settings_fit.Goals as goal

pub returns : goal.returns
unfolding settings_fit
returns c =
    let known = c.type_inv.b in
    simp (bytes_fit_lem 4 39 c.args.b.now (λ i. omega (arith, known i)), c.fits.ensures)
