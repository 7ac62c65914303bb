-- Parts 2 to 7 of a step leave both mailboxes, bit 4 of both INT_STATUS and both pointers as part 1 made them.
-- Assumes nothing.
use mathlib.Core.Path.{◌≡◌, refl, ap, ◌∙◌}
use Rattle.mail.specs.Names.{ℕ, Bool, true, Master, Zero, One, Register, Mailbox, Side, Device, Event, bit, partner, of, side}
use Rattle.arbiter.specs.declared.Turn.{Turn}
use Rattle.arbiter.specs.declared.Turn.TheVariants.{Nobody, Claims, Owns}
use Rattle.arbiter.specs.declared.Clock.{Clock}
use Rattle.arbiter.specs.Rules.{idle_limit}
use Rattle.arbiter.specs.Registers.{lost_int, granted_int, raised}
use Rattle.arbiter.specs.Effects.{effect}
use Rattle.arbiter.specs.Order.{is_reset, is_tick, clock_of, runs_out, levels, lost, losses_from, losses, cut_from, cut, claim, granted, grant_from, grant}
use Rattle.arbiter.specs.Order.{connect}
use Rattle.arbiter.specs.Steps.{parts}
use Rattle.arbiter.proofs.Choice.{either}
use Rattle.arbiter.proofs.Cases.{cut_cases, grant_cases, connect_cases}
use Rattle.mail.proofs.Bits.{raised_other}

-- what concerns mail on one side: its box, its bit 4, and the pointer with its auto-increment
abbrev pub post : Side → Mailbox × Bool × Register × Bool
post s = (s.mail, bit 4 s.ints, s.pointer, s.auto)

-- m's is the same in n as in d
abbrev Same : Master → Device → Device → Type 0
Same m d n = post (side m n) ≡ post (side m d)

-- k's side replaced by one that has the same
same_side : (m k : Master) (s : Side) (d : Device) → post s ≡ post (side k d)
    → post (of m (of k s (side (partner k) d)) (of k (side (partner k) d) s)) ≡ post (side m d)
same_side Zero Zero s d h = h
same_side Zero One s d h = refl
same_side One Zero s d h = refl
same_side One One s d h = h

-- another interrupt than bit 4 set
raised_same : (this : ℕ) (s : Side) → bit 4 this ≡ bit 4 0 → (s.mail, bit 4 (raised this true s.ints), s.pointer, s.auto) ≡ post s
raised_same this s h = ap (λ (b : Bool). (s.mail, b, s.pointer, s.auto)) (raised_other this true s.ints h)

module _ (m : Master) where
  losses_same : (t : Turn) (d : Device) → Same m d (losses_from t d)
  unfolding losses_from lost
  losses_same Nobody d = refl
  losses_same (Claims k g) d = refl
  losses_same (Owns k g) d =
      either (Same m d) (runs_out (idle_limit d) (side k d) d.arb.reserve d.bus)
      (λ h. same_side m k _ d (raised_same lost_int (side k d) refl)) (λ h. refl)

  cut_same : (on : Bool) (t : Turn) (d : Device) → Same m d (cut_from on t d)
  unfolding cut_from
  cut_same on Nobody d = refl
  cut_same on (Claims k g) d = refl
  cut_same on (Owns k g) d = cut_cases (Same m d) on k g d (same_side m k _ d refl) refl

  grant_same : (t : Turn) (d : Device) → Same m d (grant_from t d)
  unfolding grant_from granted
  grant_same Nobody d = refl
  grant_same (Claims k g) d = grant_cases (Same m d) k g d (same_side m k _ d (raised_same granted_int (side k d) refl)) refl
  grant_same (Owns k g) d = refl

  connect_same : (c : Clock) (d : Device) → Same m d (connect c d)
  connect_same c d = connect_cases (Same m d) d (λ w fail. refl) (λ k on w fail h. same_side m k _ d refl) c

  pub parts_same : (e : Event) (d : Device) → Same m (effect e d) (parts e d)
  unfolding parts levels losses cut claim grant
  parts_same e d =
      let two : Device = levels (is_reset e) d.bus (effect e d) in
      let three : Device = losses two in
      let five : Device = claim (cut (is_tick e) three) in
      connect_same (clock_of e) (grant five)
      ∙ grant_same five.arb.turn five
      ∙ cut_same (is_tick e) three.arb.turn three
      ∙ losses_same two.arb.turn two
