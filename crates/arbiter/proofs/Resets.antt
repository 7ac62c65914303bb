-- A reset ends every grant: after it nobody requests, and so nobody claims or owns.
-- Assumes nothing.
use mathlib.Core.Path.{◌≡◌, refl, sym, ap, ◌∙◌}
use mathlib.Core.Bool.{false≢true}
use Rattle.std.specs.Prelude.{◌||◌, if◌then◌else◌}
use Rattle.arbiter.specs.Types.{ℕ, Bool, true, false, Master, Zero, One, Turn, Nobody, Device, Event, Command, Write, Read, Stop, Pair, Lines, Tick}
use Rattle.arbiter.specs.Types.{Pulse, Reset, GeneralCall}
use Rattle.arbiter.specs.Words.{side}
use Rattle.arbiter.specs.State.{owns_turn, owns}
use Rattle.arbiter.specs.Effects.{fresh_side, hold_asked, was_reset, effect}
use Rattle.arbiter.specs.Order.{is_reset, levels, claim_after}
use Rattle.arbiter.specs.Steps.{parts}
use Rattle.arbiter.specs.AuditWords.{requests}
use Rattle.arbiter.specs.Audit.{ResetEnds}
use Rattle.arbiter.proofs.Choice.{if_true, if_false}
use Rattle.arbiter.proofs.Effects.{owner_lets_go, effect_turn}
use Rattle.arbiter.proofs.Order.{owned, awarded, after, losses_unowned, after_turn}
use Rattle.arbiter.proofs.Owner.{mid, sole_claim}
use Rattle.arbiter.proofs.Raws.{refuses, takes, met}

-- A reset takes m's request away,
fresh_request : (m : Master) (d : Device) (hold : ℕ) → requests m (was_reset hold d) ≡ false
unfolding was_reset fresh_side
fresh_request Zero d hold = refl
fresh_request One d hold = refl

pub reset_request : (m : Master) (e : Event) (d : Device) → is_reset e ≡ true → requests m (effect e d) ≡ false
unfolding effect
reset_request m (Command k c) d h = absurd (false≢true h)
reset_request m (Write k v) d h = absurd (false≢true h)
reset_request m (Read k) d h = absurd (false≢true h)
reset_request m (Stop k) d h = absurd (false≢true h)
reset_request m (Pair v0 v1) d h = absurd (false≢true h)
reset_request m (Lines scl sda intin) d h = absurd (false≢true h)
reset_request m Tick d h = absurd (false≢true h)
reset_request m (Pulse sda) d h = absurd (false≢true h)
reset_request m Reset d h = fresh_request m d 0
reset_request m (GeneralCall k b) d h = ap (requests m) (if_true (was_reset (hold_asked (side k d)) d) d h) ∙ fresh_request m d (hold_asked (side k d))

module _ (e : Event) (d : Device) (h : is_reset e ≡ true) where
  -- and makes the turn nobody's,
  pub reset_turn : (mid e d).arb.turn ≡ Nobody
  unfolding levels
  reset_turn = effect_turn e d ∙ ap (λ (b : Bool). if b || owner_lets_go d.arb.turn e d then Nobody else d.arb.turn) h

  -- and so it stays.
  unclaimed : claim_after (mid e d).arb.turn (mid e d) ≡ Nobody
  unfolding levels
  unclaimed =
      ap (λ (t : Turn). claim_after t (mid e d)) reset_turn
      ∙ sole_claim Zero (mid e d) (reset_request Zero e d h)
      ∙ if_false _ Nobody (reset_request One e d h)

  pub reset_nobody : (parts e d).arb.turn ≡ Nobody
  unfolding parts
  reset_nobody =
      let b : Device = mid e d in
      let u : owned b.arb.turn ≡ false = ap owned reset_turn in
      ap (λ (x : Device). (after e x).arb.turn) (losses_unowned b u) ∙ after_turn e b u ∙ ap (λ (t : Turn). awarded t b) unclaimed

pub reset_ends : ResetEnds
reset_ends m d r h =
    elim (met r d) [
      | refuses x ↦ absurd (false≢true (sym (x.none λ f y. is_reset f) ∙ h))
      | takes e x ↦ ap (owns m) x.after ∙ ap (owns_turn m) (reset_nobody e d (sym (x.same λ f y. is_reset f) ∙ h))
    ]
