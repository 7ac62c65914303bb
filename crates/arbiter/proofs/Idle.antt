-- Parts 3 to 7 leave the bus as part 2 left it, but for its idle count: a loss comes only on an idle bus, whose drives are released already.
-- Assumes nothing.
use mathlib.Core.Path.{◌≡◌, refl, sym, ap, ◌∙◌}
use Rattle.arbiter.specs.Types.{Bool, true, Turn, Nobody, Claims, Owns, Zero, One, Bus, Device, Raw, Event}
use Rattle.arbiter.specs.Parts.{with_idle}
use Rattle.arbiter.specs.Effects.{effect}
use Rattle.arbiter.specs.Order.{is_reset, is_tick, clock_of, losses, cut, claim, granted, grant_from, grant}
use Rattle.arbiter.specs.Steps.{parts}
use Rattle.arbiter.specs.AuditWords.{next}
use Rattle.arbiter.proofs.Cases.{grant_cases}
use Rattle.arbiter.proofs.Order.{cut_still, connect_still}
use Rattle.arbiter.proofs.Owner.{mid}
use Rattle.arbiter.proofs.Raws.{refuses, takes, met}
use Rattle.arbiter.proofs.Settled.{levels_still, losses_bus}
use Rattle.arbiter.specs.AuditWords.{levelled}
use Rattle.arbiter.specs.State.{is_idle}

-- the bus with no idle count
abbrev pub unidled : Device → Bus
unidled d = with_idle 0 d.bus

grant_bus : (t : Turn) (d : Device) → unidled (grant_from t d) ≡ unidled d
unfolding grant_from granted
grant_bus Nobody d = refl
grant_bus (Claims Zero g) d = grant_cases (λ (n : Device). unidled n ≡ unidled d) Zero g d refl refl
grant_bus (Claims One g) d = grant_cases (λ (n : Device). unidled n ≡ unidled d) One g d refl refl
grant_bus (Owns m g) d = refl

pub parts_bus : (e : Event) (d : Device) → unidled (parts e d) ≡ unidled (mid e d)
unfolding parts losses cut claim grant
parts_bus e d =
    let two : Device = mid e d in
    let three : Device = losses two in
    let four : Device = cut (is_tick e) three in
    let five : Device = claim four in
    let six : Device = grant five in
    ap (λ x. with_idle 0 x.2) (connect_still (clock_of e) six)
    ∙ grant_bus five.arb.turn five
    ∙ ap (λ x. with_idle 0 x.2) (cut_still (is_tick e) three.arb.turn three)
    ∙ ap (with_idle 0) (losses_bus two.arb.turn two (levels_still (is_reset e) d.bus (effect e d)))

-- So a bus that part 3 finds idle is idle after the step.
pub next_idle : (r : Raw) (d : Device) → is_idle (levelled r d).bus ≡ true → is_idle (next d r).bus ≡ true
next_idle r d h =
    elim (met r d) [
      | refuses x ↦ ap idle (x.after ∙ sym x.middle) ∙ h
      | takes e x ↦ ap idle x.after ∙ ap is_idle (parts_bus e d) ∙ ap idle (sym x.middle) ∙ h
    ]
  where
    idle : Device → Bool
    idle n = is_idle n.bus
