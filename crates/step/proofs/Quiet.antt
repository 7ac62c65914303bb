-- Quiet of `step`: where the code's test says that parts 3 to 7 have nothing to do, they change nothing: each by its own law, true of every
-- device value.
-- Assumes nothing.
use mathlib.Core.Path.{◌≡◌, refl, sym, ap, ◌∙◌}
use mathlib.Core.Bool.{Bool, true, false, ◌&&◌, false≢true, and-eq-true_iff}
use Rattle.arbiter.specs.Order.{losses, cut, claim, grant, connect}
use Rattle.arbiter.specs.declared.Turn.{Turn}
use Rattle.arbiter.specs.declared.Clock.{Clock}
use Rattle.arbiter.specs.declared.Clock.TheVariants.{NoClock, ClockLow, ClockHigh}
use Rattle.arbiter.specs.declared.Device.{Device}
use Rattle.arbitration.specs.Quiet.{no_loss, no_cut, no_claim, no_grant}
use Rattle.arbitration.proofs.Quiet.{no_loss_lem, no_cut_lem, no_claim_lem, no_grant_lem}
use Rattle.connection.specs.Quiet.{switch_stays}
use Rattle.connection.proofs.Quiet.{switch_stays_lem}
use Rattle.step.specs.Carried.{parts_three_to_seven, is_silent, is_quiet}

module _ (tick : Bool) (d : Device) where
  -- five parts that change nothing, one after the other
  through_same : losses d ≡ d → cut tick d ≡ d → claim d ≡ d → grant d ≡ d → connect NoClock d ≡ d → parts_three_to_seven tick NoClock d ≡ d
  unfolding parts_three_to_seven
  through_same l k c g n =
      ap (λ (x : Device). connect NoClock (grant (claim (cut tick x)))) l
      ∙ ap (λ (x : Device). connect NoClock (grant (claim x))) k
      ∙ ap (λ (x : Device). connect NoClock (grant x)) c
      ∙ ap (λ (x : Device). connect NoClock x) g
      ∙ n

  quiet_same : is_quiet tick d ≡ true → parts_three_to_seven tick NoClock d ≡ d
  unfolding is_quiet
  quiet_same q =
      let t : Turn = d.arb.turn in
      let p = (and-eq-true_iff (switch_stays t d && no_grant t d && no_claim t d && no_cut tick t d) (no_loss t d)).0 q in
      let r = (and-eq-true_iff (switch_stays t d && no_grant t d && no_claim t d) (no_cut tick t d)).0 p.0 in
      let s = (and-eq-true_iff (switch_stays t d && no_grant t d) (no_claim t d)).0 r.0 in
      let u = (and-eq-true_iff (switch_stays t d) (no_grant t d)).0 s.0 in
      through_same (no_loss_lem d p.1) (no_cut_lem tick d r.1) (no_claim_lem d s.1) (no_grant_lem d u.1) (switch_stays_lem d u.0)

-- ---- the test of the code, which also asks that the event be no clock

silent : (c : Clock) → is_silent c ≡ true → c ≡ NoClock
silent NoClock e = refl
silent ClockLow e = absurd (false≢true e)
silent ClockHigh e = absurd (false≢true e)

pub quiet_law : (tick : Bool) (c : Clock) (d : Device) → is_silent c && is_quiet tick d ≡ true → d ≡ parts_three_to_seven tick c d
quiet_law tick c d q =
    let b = (and-eq-true_iff (is_silent c) (is_quiet tick d)).0 q in
    sym (ap (λ (x : Clock). parts_three_to_seven tick x d) (silent c b.0) ∙ quiet_same tick d b.1)
