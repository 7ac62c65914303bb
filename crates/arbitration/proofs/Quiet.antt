-- Quiet of `arbitration`: a part of 3 to 6 that has nothing to do, by its test, changes nothing: true of every device value.
-- Assumes nothing.
use mathlib.Core.Path.{◌≡◌, refl, ap}
use mathlib.Core.Bool.{Bool, true, false, not, ◌&&◌, false≢true}
use Rattle.arbiter.specs.Rules.{idle_limit}
use Rattle.arbiter.specs.Words.{side}
use Rattle.arbiter.specs.Parts.{with_turn, with_arb, with_side}
use Rattle.arbiter.specs.Registers.{disconnected}
use Rattle.arbiter.specs.Order.{runs_out, lost, losses_from, losses, cut_from, cut, winner, ground_of, claim_by, new_claim, claim_after, claim, granted}
use Rattle.arbiter.specs.Order.{grant_from}
use Rattle.arbiter.specs.Order.{grant}
use Rattle.arbiter.specs.declared.Master.{Master}
use Rattle.arbiter.specs.declared.Ground.{Ground}
use Rattle.arbiter.specs.declared.Turn.{Turn}
use Rattle.arbiter.specs.declared.Turn.TheVariants.{Nobody, Claims, Owns}
use Rattle.arbiter.specs.declared.Device.{Device}
use Rattle.arbiter.proofs.Choice.{if_true, if_false, not_true}
use Rattle.arbitration.specs.Quiet.{no_loss, is_cut, no_cut, no_claim, is_ready, no_grant}

-- ---- 3. losses

losses_quiet : (t : Turn) (d : Device) → no_loss t d ≡ true → losses_from t d ≡ d
unfolding losses_from
losses_quiet Nobody d q = refl
losses_quiet (Claims m g) d q = refl
losses_quiet (Owns m g) d q = if_false (lost m d) d (not_true (runs_out (idle_limit d) (side m d) d.arb.reserve d.bus) q)

pub no_loss_lem : (d : Device) → no_loss d.arb.turn d ≡ true → losses d ≡ d
unfolding losses
no_loss_lem d q = losses_quiet d.arb.turn d q

-- ---- 4. the cut

cut_quiet : (tick : Bool) (t : Turn) (d : Device) → no_cut tick t d ≡ true → cut_from tick t d ≡ d
unfolding cut_from
cut_quiet tick Nobody d q = refl
cut_quiet tick (Claims m g) d q = refl
cut_quiet tick (Owns m g) d q = if_false (with_side m (disconnected (side m d)) d) d (not_true (is_cut tick (side m d) d.bus) q)

pub no_cut_lem : (tick : Bool) (d : Device) → no_cut tick d.arb.turn d ≡ true → cut tick d ≡ d
unfolding cut
no_cut_lem tick d q = cut_quiet tick d.arb.turn d q

-- ---- 5. claim

nobody_asks : (r0 r1 : Bool) (w : Master) (g : Ground) → not r0 && not r1 ≡ true → claim_by r0 r1 w g ≡ Nobody
nobody_asks false false w g q = refl
nobody_asks false true w g q = absurd (false≢true q)
nobody_asks true r1 w g q = absurd (false≢true q)

claim_quiet : (t : Turn) (d : Device) → no_claim t d ≡ true → claim_after t d ≡ t
claim_quiet Nobody d q =
    let p0 : Bool = d.side0.contr.priority in
    let p1 : Bool = d.side1.contr.priority in
    nobody_asks d.side0.contr.lockreq d.side1.contr.lockreq (winner p0 p1 d.arb.last) (ground_of p0 p1) q
claim_quiet (Claims m g) d q = if_true (Claims m g) (new_claim d) q
claim_quiet (Owns m g) d q = refl

pub no_claim_lem : (d : Device) → no_claim d.arb.turn d ≡ true → claim d ≡ d
unfolding claim
no_claim_lem d q = ap (λ (t : Turn). with_arb (with_turn t d.arb) d) (claim_quiet d.arb.turn d q)

-- ---- 6. grant

grant_quiet : (t : Turn) (d : Device) → no_grant t d ≡ true → grant_from t d ≡ d
unfolding grant_from
grant_quiet Nobody d q = refl
grant_quiet (Claims m g) d q = if_false (granted m g d) d (not_true (is_ready (side m d) d.bus) q)
grant_quiet (Owns m g) d q = refl

pub no_grant_lem : (d : Device) → no_grant d.arb.turn d ≡ true → grant d ≡ d
unfolding grant
no_grant_lem d q = grant_quiet d.arb.turn d q
