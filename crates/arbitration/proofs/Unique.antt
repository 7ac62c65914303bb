-- What each public call of `arbitration` promises leaves room for one result.
-- Assumes nothing.
use Rattle.arbiter.proofs.Once.{OneResult, once}
use Rattle.arbitration.proofs.losses.losses_of.Reads as losses-of
use Rattle.arbitration.proofs.losses.no_loss.Reads as no_loss_lem
use Rattle.arbitration.proofs.losses.cut_at.Reads as cut_at
use Rattle.arbitration.proofs.losses.no_cut.Reads as no_cut
use Rattle.arbitration.proofs.claims.claim_of.Reads as claim-of
use Rattle.arbitration.proofs.claims.no_claim.Reads as no_claim_lem
use Rattle.arbitration.proofs.claims.ground_in.Reads as ground-in
use Rattle.arbitration.proofs.claims.grant_of.Reads as grant-of
use Rattle.arbitration.proofs.claims.no_grant.Reads as no_grant_lem

pub losses_of_once : OneResult losses-of.Post
losses_of_once κ a x y s t p q = once p q

pub no_loss_once : OneResult no_loss_lem.Post
no_loss_once κ a x y s t p q = once p q

pub cut_at_once : OneResult cut_at.Post
cut_at_once κ a x y s t p q = once p q

pub no_cut_once : OneResult no_cut.Post
no_cut_once κ a x y s t p q = once p q

pub claim_of_once : OneResult claim-of.Post
claim_of_once κ a x y s t p q = once p q

pub no_claim_once : OneResult no_claim_lem.Post
no_claim_once κ a x y s t p q = once p q

pub ground_in_once : OneResult ground-in.Post
ground_in_once κ a x y s t p q = once p q

pub grant_of_once : OneResult grant-of.Post
grant_of_once κ a x y s t p q = once p q

pub no_grant_once : OneResult no_grant_lem.Post
no_grant_once κ a x y s t p q = once p q
