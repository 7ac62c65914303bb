-- A tick at which the owner loses takes one from what is left: its own loss, for the partner's was counted before.
-- Assumes nothing.
use Prim.Native.Nat.{ℕ, ◌+◌, ◌-◌, ◌≤◌}
use mathlib.Core.Path.{◌≡◌, refl, sym, ap, ◌∙◌}
use mathlib.Core.Bool.{Bool, true, false, true≢false}
use lib.Dec.{eqb, ltb}
use borrow.Author.Tests.{eq-eqb}
use native.Mathlib.Omega.{arith}
use Rattle.arbiter.specs.Rules.{idle_limit}
use Rattle.std.specs.Prelude.{if◌then◌else◌}
use Rattle.arbiter.specs.Words.{worth, partner, of, side}
use Rattle.arbiter.specs.State.{scl_high, sda_high, is_idle, bus_hung}
use Rattle.arbiter.specs.Effects.{ticked, effect}
use Rattle.arbiter.specs.Order.{cut_ticks, levels, losses, lost}
use Rattle.arbiter.specs.Steps.{parts}
use Rattle.arbiter.specs.AuditWords.{requests, resting}
use Rattle.arbiter.specs.declared.Master.{Master}
use Rattle.arbiter.specs.declared.Master.TheVariants.{Zero, One}
use Rattle.arbiter.specs.declared.Ground.{Ground}
use Rattle.arbiter.specs.declared.Ground.TheVariants.{Sole}
use Rattle.arbiter.specs.declared.Turn.{Turn}
use Rattle.arbiter.specs.declared.Turn.TheVariants.{Nobody, Owns}
use Rattle.arbiter.specs.declared.Device.{Device}
use Rattle.arbiter.specs.declared.Event.TheVariants.{Tick}
use Rattle.arbiter.proofs.Choice.{if_true}
use Rattle.arbiter.proofs.KindKept.{limit_some}
use Rattle.arbiter.proofs.Settled.{Still, levels_still, out_idle}
use Rattle.arbiter.proofs.Owner.{mid, expired, heir, losses_lost, asks, Over}
use Rattle.arbiter.proofs.Idle.{parts_bus}
use Rattle.advance.proofs.Potential.{losing, left_of, left_on, left}
use Rattle.quiet.proofs.Tick.{idle_same}
use Rattle.advance.proofs.Levelled.{mid_ticked}

-- ---- the partner

-- It is next if it asks, and after it nobody, for m does not ask.
heir_losing : (m : Master) (r0 r1 rest : Bool) → of m r0 r1 ≡ false
    → losing (if of m r1 r0 then heir rest (partner m) Sole else Nobody) r0 r1 ≤ worth 1 (of m r1 r0)
heir_losing Zero true r1 rest h = absurd (true≢false h)
heir_losing Zero false true true h = omega arith
heir_losing Zero false true false h = omega arith
heir_losing Zero false false rest h = omega arith
heir_losing One r0 true rest h = absurd (true≢false h)
heir_losing One true false true h = omega arith
heir_losing One true false false h = omega arith
heir_losing One false false rest h = omega arith

-- what m and its partner ask, by master 0 and master 1
own_asks : (m : Master) (d : Device) → of m (requests Zero d) (requests One d) ≡ requests m d
own_asks Zero d = refl
own_asks One d = refl

partner_asks : (m : Master) (d : Device) → of m (requests One d) (requests Zero d) ≡ requests (partner m) d
partner_asks Zero d = refl
partner_asks One d = refl

over_losing : (m : Master) (n : Device) → Over m n → losing n.arb.turn (requests Zero n) (requests One n) ≤ worth 1 (requests (partner m) n)
over_losing m n o =
    let r0 : Bool = requests Zero n in
    let r1 : Bool = requests One n in
    let rest : Bool = resting (partner m) n in
    let p : of m r1 r0 ≡ requests (partner m) n = partner_asks m n in
    let t : n.arb.turn ≡ (if of m r1 r0 then heir rest (partner m) Sole else Nobody) =
    o.turn ∙ ap (λ (x : Bool). if x then heir rest (partner m) Sole else Nobody) (sym p)
    in
    let most = heir_losing m r0 r1 rest (own_asks m n ∙ o.request) in
    omega (arith, most, ap (λ (x : Turn). losing x r0 r1) t, ap (worth 1) p)

-- A loss leaves what the partner asks.
lost_partner : (m : Master) (d : Device) → requests (partner m) (lost m d) ≡ requests (partner m) d
unfolding lost
lost_partner Zero d = refl
lost_partner One d = refl

module _ (m : Master) {g : Ground} (d : Device) (t : d.arb.turn ≡ Owns m g) (x : expired m (mid Tick d) ≡ true) where
  partner_stays : requests (partner m) (parts Tick d) ≡ requests (partner m) d
  unfolding parts levels effect ticked
  partner_stays =
      let two : Device = mid Tick d in
      asks (partner m) Tick (losses two) ∙ ap (requests (partner m)) (losses_lost m two t x) ∙ lost_partner m two

  -- ---- the bus is idle

  idle_found : is_idle (mid Tick d).bus ≡ true
  idle_found =
      let two : Device = mid Tick d in
      out_idle (idle_limit two) (limit_some two.kind) (side m two) two.arb.reserve two.bus (levels_still false d.bus (effect Tick d)) x

  idle_before : eqb (d.bus.hold - 1) 0 ≡ eqb d.bus.hold 0 → Still d.bus → is_idle d.bus ≡ true
  unfolding ticked
  idle_before held rests =
      sym (idle_same (idle_limit d) d.bus held rests) ∙ ap (λ (n : Device). is_idle n.bus) (sym (mid_ticked d held rests)) ∙ idle_found

  idle_after : is_idle (parts Tick d).bus ≡ true
  idle_after = ap is_idle (parts_bus Tick d) ∙ idle_found

  -- ---- what is left

  left_idle : (n : Device) → eqb n.bus.hold 0 ≡ true → is_idle n.bus ≡ true → left n ≡ losing n.arb.turn (requests Zero n) (requests One n)
  left_idle n z i =
      let l : ℕ = losing n.arb.turn (requests Zero n) (requests One n) in
      if_true (left_on l n.bus) 3 z ∙ ap (λ (y : Bool). left_of y (scl_high n.bus) (sda_high n.bus) l (ltb n.bus.lowscl cut_ticks) (bus_hung n.bus)) i

  pub loss_falls : eqb (d.bus.hold - 1) 0 ≡ eqb d.bus.hold 0 → Still d.bus → eqb d.bus.hold 0 ≡ true → Over m (parts Tick d)
      → left (parts Tick d) + 1 ≤ left d
  loss_falls held rests z over =
      let n : Device = parts Tick d in
      let after : left n ≡ losing n.arb.turn (requests Zero n) (requests One n) = left_idle n (eq-eqb n.bus.hold 0 over.hold) idle_after in
      let before : left d ≡ losing d.arb.turn (requests Zero d) (requests One d) = left_idle d z (idle_before held rests) in
      let own : losing d.arb.turn (requests Zero d) (requests One d) ≡ 1 + worth 1 (requests (partner m) d) =
      ap (λ (u : Turn). losing u (requests Zero d) (requests One d)) t ∙ ap (λ (y : Bool). 1 + worth 1 y) (partner_asks m d)
      in
      omega (arith, over_losing m n over, ap (worth 1) partner_stays)
