-- At most three ticks change anything other than counts: what is left is three at most, and each of them takes one.
-- Assumes nothing.
use Prim.Native.Nat.{ℕ, zero, suc, ◌+◌, ◌-◌, ◌<◌, ◌≤◌}
use mathlib.Core.Path.{◌≡◌, refl, sym, ap, subst, ◌∙◌}
use mathlib.Core.Bool.{Bool, true, false, not, ◌&&◌, ◌||◌, true≢false}
use lib.Dec.{eqb}
use borrow.Author.Tests.{eqb-true, eqb-false, eq-eqb, ne_eqb}
use native.Mathlib.Omega.{arith}
use Rattle.arbiter.specs.Rules.{idle_limit}
use Rattle.std.specs.Prelude.{if◌then◌else◌}
use Rattle.arbiter.specs.Words.{worth, side}
use Rattle.arbiter.specs.State.{scl_high, sda_high, scl_hung_limit, sda_hung_limit, bus_hung}
use Rattle.arbiter.specs.Events.{decode, in_sequence}
use Rattle.arbiter.specs.Effects.{ticked_bus, ticked, effect}
use Rattle.arbiter.specs.Order.{cut_ticks, levels}
use Rattle.arbiter.specs.Steps.{parts, step, run}
use Rattle.arbiter.specs.AuditWords.{requests}
use Rattle.arbiter.specs.declared.Master.{Master}
use Rattle.arbiter.specs.declared.Master.TheVariants.{Zero, One}
use Rattle.arbiter.specs.declared.Ground.{Ground}
use Rattle.arbiter.specs.declared.Turn.{Turn}
use Rattle.arbiter.specs.declared.Turn.TheVariants.{Nobody, Claims, Owns}
use Rattle.arbiter.specs.declared.Bus.{Bus}
use Rattle.arbiter.specs.declared.Device.{Device}
use Rattle.arbiter.specs.declared.Event.TheVariants.{Tick}
use Rattle.arbiter.proofs.Choice.{split, if_false}
use Rattle.arbiter.proofs.Settled.{Still}
use Rattle.arbiter.proofs.Order.{still}
use Rattle.arbiter.proofs.Owner.{mid, expired, Stays, stays, ends, fate}
use Rattle.arbiter.proofs.Idle.{parts_bus}
use Rattle.arbiter.proofs.Raws.{taken_as}
use Rattle.quiet.specs.Quiet.{tick}
use Rattle.advance.specs.Changes.{changes}
use Rattle.advance.specs.Advance.{changing, SixAtMost}
use Rattle.advance.specs.Bound.{ThreeAtMost}
use Rattle.advance.proofs.Held.{Reached, next_reached, all_reached}
use Rattle.advance.proofs.Potential.{losing, left_on, left, left_unheld, left_most}
use Rattle.advance.proofs.Ticking.{counted_most}
use Rattle.advance.proofs.Levelled.{mid_ticked}
use Rattle.advance.proofs.Falls.{Falls, falls_by_one, newly_cut, ticked_falls, alone}
use Rattle.advance.proofs.Loss.{loss_falls}

-- ---- one tick

module _ (d : Device) (reached : Reached d) where
  abbrev b : Bus
  b = d.bus

  abbrev c : Bus
  c = ticked_bus (idle_limit d) d.bus

  rests : Still b
  rests = reached.settled.0

  -- without a hold

  module _ (z : eqb b.hold 0 ≡ true) where
    none : b.hold ≡ 0
    none = eqb-true b.hold 0 z

    held : eqb (b.hold - 1) 0 ≡ eqb b.hold 0
    held = eq-eqb (b.hold - 1) 0 (omega (arith, none)) ∙ sym z

    -- nobody loses and nobody is cut off
    free-falls : parts Tick d ≡ ticked d → Falls d (parts Tick d)
    free-falls e = subst (Falls d) (sym e) (ticked_falls d held rests (λ h n. z))

    -- what is left is read off what `still` names
    left-still : (n o : Device) → still n ≡ still o → left n ≡ left o
    left-still n o e = ap (λ s. if eqb s.2.hold 0 then left_on (losing s.4 s.0.0 s.1.0) s.2 else 3) e

    -- an owner that stays is cut off, or not
    stays-falls : (m : Master) {g : Ground} → d.arb.turn ≡ Owns m g → Stays m g Tick d → Falls d (parts Tick d)
    unfolding ticked
    stays-falls m {g} t s =
        let on : Bool = (side m d).contr.smbusdis in
        let kept : expired m (ticked d) ≡ false = ap (expired m) (sym (mid_ticked d held rests)) ∙ s.unlost in
        split (eqb c.lowscl cut_ticks)
        (λ e.
        let same : left (parts Tick d) ≡ left (ticked d) = left-still (parts Tick d) (mid Tick d) s.left ∙ ap left (mid_ticked d held rests) in
        let fell = newly_cut d held rests z e in
        falls_by_one d (parts Tick d) (omega arith))
        (λ e. free-falls (alone d held rests reached.settled.1 (Owns m g) t (ap not kept) (ap (λ (x : Bool). not (true && x && on)) e)))

    turn-falls : (t : Turn) → d.arb.turn ≡ t → Falls d (parts Tick d)
    turn-falls Nobody e = free-falls (alone d held rests reached.settled.1 Nobody e refl refl)
    turn-falls (Claims m g) e = free-falls (alone d held rests reached.settled.1 (Claims m g) e refl refl)
    turn-falls (Owns m g) e =
        elim (fate m Tick d refl e none) [
          | stays s ↦ stays-falls m e s
          | ends over why ↦ falls_by_one d (parts Tick d) (loss_falls m d e (why refl) held rests z over)
        ]

  -- with a hold

  module _ (z : eqb b.hold 0 ≡ false) where
    some : 0 < b.hold
    some = let n : b.hold ≡ 0 → ⊥ = eqb-false b.hold 0 z in omega arith

    left-three : left d ≡ 3
    left-three = if_false (left_on (losing d.arb.turn (requests Zero d) (requests One d)) b) 3 z

    -- its last tick
    last-falls : eqb (b.hold - 1) 0 ≡ true → Falls d (parts Tick d)
    unfolding levels effect ticked
    last-falls e =
        let over : eqb (parts Tick d).bus.hold 0 ≡ true = ap (λ (x : Bus). eqb x.hold 0) (parts_bus Tick d) ∙ e in
        falls_by_one d (parts Tick d) (omega (arith, left-three, left_unheld (parts Tick d) over))

    -- any other: the low counts are small, and nobody owns
    unhung : bus_hung c ≡ false
    unhung =
        let small = reached.held some in
        let s : b.lowscl + b.hold ≤ 35 = small.0 in
        let a : b.lowsda + b.hold ≤ 35 = small.1 in
        let scl = counted_most scl_hung_limit (not (scl_high b)) b.lowscl in
        let sda = counted_most sda_hung_limit (not (sda_high b)) b.lowsda in
        let one : eqb c.lowscl scl_hung_limit ≡ false = ne_eqb c.lowscl 500 (λ q. omega (arith, some)) in
        let two : eqb c.lowsda sda_hung_limit ≡ false = ne_eqb c.lowsda 501 (λ q. omega (arith, some)) in
        λ i. one i || two i

    module _ (e : eqb (b.hold - 1) 0 ≡ false) where
      goes_on : eqb (b.hold - 1) 0 ≡ eqb b.hold 0
      goes_on = e ∙ sym z

      on-falls : parts Tick d ≡ ticked d → Falls d (parts Tick d)
      on-falls p = subst (Falls d) (sym p) (ticked_falls d goes_on rests (λ h n. absurd (true≢false (sym n ∙ unhung))))

      held-falls : (t : Turn) → d.arb.turn ≡ t → Falls d (parts Tick d)
      held-falls Nobody t = on-falls (alone d goes_on rests reached.settled.1 Nobody t refl refl)
      held-falls (Claims m g) t = on-falls (alone d goes_on rests reached.settled.1 (Claims m g) t refl refl)
      held-falls (Owns m g) t = let none = (reached.owned m g t).hold in absurd (omega (arith, some))

  parts_falls : Falls d (parts Tick d)
  parts_falls =
      split (eqb b.hold 0) (λ z. turn-falls z d.arb.turn refl)
      (λ z. split (eqb (b.hold - 1) 0) (last-falls z) (λ e. held-falls z e d.arb.turn refl))

  tick_falls : Falls d (step d tick).device
  unfolding decode in_sequence
  tick_falls = subst (Falls d) (sym (taken_as Tick tick d refl refl).after) parts_falls

-- ---- any number of ticks

changing_most : (n : ℕ) (d : Device) → Reached d → changing n d ≤ left d
unfolding changing
changing_most zero d h = omega arith
changing_most (suc n) d h =
    let next : Device = (step d tick).device in
    let one : worth 1 (changes d next) + left next ≤ left d = tick_falls d h in
    let rest : changing n next ≤ left next = changing_most n next (next_reached tick d h) in
    omega arith

pub three_at_most : ThreeAtMost
three_at_most k rs n = omega (arith, changing_most n (run k rs) (all_reached k rs), left_most (run k rs))

pub six_at_most : SixAtMost
six_at_most k rs n = omega (arith, three_at_most k rs n)
