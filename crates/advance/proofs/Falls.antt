-- One tick of a device that a run reaches takes one from what is left, or changes nothing but counts and leaves no more.
-- Assumes nothing.
use Prim.Native.Nat.{ℕ, ◌+◌, ◌-◌, ◌≤◌}
use mathlib.Core.Path.{◌≡◌, refl, sym, ap, ◌∙◌}
use mathlib.Core.Bool.{Bool, true, false, not, ◌&&◌, true≢false, and-eq-true_iff}
use lib.Dec.{eqb, ltb}
use borrow.Author.Tests.{eqb-true}
use native.Mathlib.Omega.{arith}
use Rattle.arbiter.specs.Rules.{idle_limit}
use Rattle.std.specs.Prelude.{if◌then◌else◌}
use Rattle.arbiter.specs.Words.{worth, side}
use Rattle.arbiter.specs.State.{at_rest, scl_high, sda_high, is_idle, scl_hung_limit, bus_hung}
use Rattle.arbiter.specs.Effects.{counted_to, ticked_bus, ticked}
use Rattle.arbiter.specs.Order.{cut_ticks}
use Rattle.arbiter.specs.Steps.{parts}
use Rattle.arbiter.specs.AuditWords.{requests}
use Rattle.arbiter.specs.declared.Master.TheVariants.{Zero, One}
use Rattle.arbiter.specs.declared.Turn.{Turn}
use Rattle.arbiter.specs.declared.Turn.TheVariants.{Nobody, Claims, Owns}
use Rattle.arbiter.specs.declared.Bus.{Bus}
use Rattle.arbiter.specs.declared.Device.{Device}
use Rattle.arbiter.specs.declared.Event.TheVariants.{Tick}
use Rattle.arbiter.specs.declared.Clock.TheVariants.{NoClock}
use Rattle.arbiter.proofs.Choice.{split, if_true, if_false}
use Rattle.arbiter.proofs.Settled.{Still}
use Rattle.arbitration.specs.Quiet.{no_loss, no_cut}
use Rattle.fields.specs.Apart.{is_apart}
use Rattle.step.specs.Carried.{parts_three_to_seven, is_quiet}
use Rattle.step.proofs.Quiet.{quiet_law}
use Rattle.quiet.specs.Counts.{with_counts}
use Rattle.quiet.specs.Quiet.{is_calm}
use Rattle.quiet.proofs.Tick.{level_same, idle_same}
use Rattle.advance.specs.Changes.{changes}
use Rattle.advance.proofs.Compared.{unchanged}
use Rattle.advance.proofs.Potential.{losing, left_of, left_on, left, worth_most, of_stays, of_hung, of_cut}
use Rattle.advance.proofs.Ticking.{uncut_before, cut_before, hung_stays, hung_high, low_busy}
use Rattle.advance.proofs.Levelled.{mid_ticked}

-- of the devices before and after a tick
abbrev pub Falls : Device → Device → Type 0
Falls d n = worth 1 (changes d n) + left n ≤ left d

-- a change takes one
pub falls_by_one : (d n : Device) → left n + 1 ≤ left d → Falls d n
falls_by_one d n l = omega (arith, worth_most (changes d n))

-- ---- a tick that leaves SCL as it is

module _ (d : Device) (held : eqb (d.bus.hold - 1) 0 ≡ eqb d.bus.hold 0) (rests : Still d.bus) where
  abbrev b : Bus
  b = d.bus

  abbrev c : Bus
  c = ticked_bus (idle_limit d) d.bus

  abbrev to_lose : ℕ
  to_lose = losing d.arb.turn (requests Zero d) (requests One d)

  left_ticked : left (ticked d) ≡ (if eqb b.hold 0 then left_of (is_idle b) (scl_high b) (sda_high b) to_lose (ltb c.lowscl cut_ticks) (bus_hung c) else 3)
  unfolding ticked
  left_ticked =
      λ i. if held i then left_of (idle_same (idle_limit d) b held rests i) (level_same (idle_limit d) b held rests i) (sda_high b) to_lose
      (ltb c.lowscl cut_ticks) (bus_hung c) else 3

  -- where BUS_HUNG stays, nothing has changed
  hung_same : bus_hung c ≡ bus_hung b → changes d (ticked d) ≡ false
  unfolding ticked with_counts
  hung_same h = (unchanged d (ticked d)).1 refl (record { scl = level_same (idle_limit d) b held rests; sda = refl; hung = h })

  no_more : left (ticked d) ≤ left d
  no_more =
      let cuts = uncut_before (not (scl_high b)) b.lowscl in
      let stays = of_stays (is_idle b) (scl_high b) (sda_high b) to_lose (ltb b.lowscl cut_ticks) (ltb c.lowscl cut_ticks) (bus_hung b) (bus_hung c) cuts
      (hung_stays (idle_limit d) b) in
      split (eqb b.hold 0)
      (λ z. omega (arith, stays, left_ticked ∙ if_true _ 3 z, if_true (left_on to_lose b) 3 z))
      (λ z. omega (arith, left_ticked ∙ if_false _ 3 z, if_false (left_on to_lose b) 3 z))

  -- where the bus is newly hung, a line is low
  newly_hung : eqb b.hold 0 ≡ true → bus_hung b ≡ false → bus_hung c ≡ true → left (ticked d) + 1 ≤ left d
  newly_hung z h n =
      let low : scl_high b && sda_high b ≡ false =
      split (scl_high b && sda_high b) (λ x. absurd (true≢false (sym n ∙ hung_high (idle_limit d) b x ∙ h))) (λ x. x)
      in
      let fell =
      of_hung (is_idle b) (scl_high b) (sda_high b) to_lose (ltb b.lowscl cut_ticks) (ltb c.lowscl cut_ticks) (bus_hung b) (bus_hung c)
      (uncut_before (not (scl_high b)) b.lowscl)
      (hung_stays (idle_limit d) b)
      (low_busy (not b.busy) (scl_high b) (sda_high b) low)
      low
      h
      n
      in omega (arith, fell, left_ticked ∙ if_true _ 3 z, if_true (left_on to_lose b) 3 z)

  -- where the tick makes SCL low for 35, the cut is behind it
  pub newly_cut : eqb b.hold 0 ≡ true → eqb c.lowscl cut_ticks ≡ true → left (ticked d) + 1 ≤ left d
  newly_cut z e =
      let is : c.lowscl ≡ 35 = eqb-true c.lowscl 35 e in
      let low : scl_high b ≡ false =
      split (scl_high b)
      (λ x. let none = rests.0 x in let kept : c.lowscl ≡ b.lowscl = ap (λ (s : Bool). counted_to scl_hung_limit (not s) b.lowscl) x in absurd (omega arith))
      (λ x. x)
      in
      let fell =
      of_cut (is_idle b) (scl_high b) (sda_high b) to_lose (ltb b.lowscl cut_ticks) (ltb c.lowscl cut_ticks) (bus_hung b) (bus_hung c)
      (uncut_before (not (scl_high b)) b.lowscl)
      (hung_stays (idle_limit d) b)
      (low_busy (not b.busy) (scl_high b) (sda_high b) (ap (λ (x : Bool). x && sda_high b) low))
      low
      (cut_before (not (scl_high b)) b.lowscl (ap not low) e)
      (ap (λ (n : ℕ). ltb n 35) is)
      in omega (arith, fell, left_ticked ∙ if_true _ 3 z, if_true (left_on to_lose b) 3 z)

  -- so a tick that moves the counts alone falls, if it hangs the bus only without a hold
  pub ticked_falls : (bus_hung b ≡ false → bus_hung c ≡ true → eqb b.hold 0 ≡ true) → Falls d (ticked d)
  ticked_falls free =
      let same : bus_hung c ≡ bus_hung b → Falls d (ticked d) = λ e. omega (arith, ap (worth 1) (hung_same e), no_more) in
      split (bus_hung b)
      (λ h. same (hung_stays (idle_limit d) b h ∙ sym h))
      (λ h. split (bus_hung c) (λ n. falls_by_one d (ticked d) (newly_hung (free h n) h n)) (λ n. same (n ∙ sym h)))

  -- ---- parts 3 to 7

  -- parts 5 to 7 ask nothing of the counts but whether a hold runs
  calm_ticked : (t : Turn) → is_calm t (ticked d) ≡ is_calm t d
  unfolding ticked
  calm_ticked Nobody = refl
  calm_ticked (Claims m g) = ap (λ (x : Bool). is_apart d.arb.switch && not (at_rest (side m d).port && x) && (side m d).contr.lockreq) held
  calm_ticked (Owns m g) = refl

  -- a settled device has nothing for them to do; so without loss and cut the tick moves the counts alone
  quiet_ticked : (t : Turn) → d.arb.turn ≡ t → is_calm t (ticked d) && no_cut true t (ticked d) && no_loss t (ticked d) ≡ true → is_quiet true (ticked d) ≡ true
  unfolding is_quiet ticked
  quiet_ticked t e h = ap (λ (x : Turn). is_calm x (ticked d) && no_cut true x (ticked d) && no_loss x (ticked d)) e ∙ h

  pub alone : is_quiet false d ≡ true → (t : Turn) → d.arb.turn ≡ t → no_loss t (ticked d) ≡ true → no_cut true t (ticked d) ≡ true → parts Tick d ≡ ticked d
  unfolding parts parts_three_to_seven is_quiet
  alone quiet t e loss cut =
      let p = (and-eq-true_iff (is_calm d.arb.turn d && no_cut false d.arb.turn d) (no_loss d.arb.turn d)).0 quiet in
      let q = (and-eq-true_iff (is_calm d.arb.turn d) (no_cut false d.arb.turn d)).0 p.0 in
      let calm : is_calm t (ticked d) ≡ true = calm_ticked t ∙ ap (λ (x : Turn). is_calm x d) (sym e) ∙ q.0 in
      ap (parts_three_to_seven true NoClock) (mid_ticked d held rests)
      ∙ sym (quiet_law true NoClock (ticked d) (quiet_ticked t e (λ i. calm i && cut i && loss i)))
