-- One tick that leaves SCL and BUS_HUNG as they are, and parts 3 to 7 nothing to do: its step is the ticked device, answered as before.
-- It holds of any device.
-- Assumes nothing.
use mathlib.Core.Path.{◌≡◌, refl, sym, ap, ap₂, ◌∙◌}
use mathlib.Core.Bool.{Bool, true, false, not, ◌&&◌, ◌||◌, and-eq-true_iff}
use Prim.Native.Nat.{ℕ, ◌-◌, ◌+◌}
use lib.Dec.{eqb}
use Rattle.arbiter.specs.Rules.{idle_limit}
use Rattle.arbiter.specs.Words.{worth}
use Rattle.arbiter.specs.Parts.{with_bus}
use Rattle.arbiter.specs.State.{scl_high, sda_high, is_idle, scl_hung_limit, sda_hung_limit, bus_hung}
use Rattle.arbiter.specs.Registers.{is_asserted}
use Rattle.arbiter.specs.Events.{decode, in_sequence, outcome, acknowledged}
use Rattle.arbiter.specs.Effects.{counted_to, ticked_bus, ticked, effect}
use Rattle.arbiter.specs.Order.{busy_after, scl_changed, settled_bus, levels, losses, cut, claim, grant, connect}
use Rattle.arbiter.specs.Steps.{parts, byte_read, owner_byte, lines_byte, answer, taken, step_event, step_decoded, step}
use Rattle.arbiter.specs.declared.Turn.{Turn}
use Rattle.arbiter.specs.declared.Bus.{Bus}
use Rattle.arbiter.specs.declared.Device.{Device}
use Rattle.arbiter.specs.declared.Answer.{Answer}
use Rattle.arbiter.specs.declared.Event.TheVariants.{Tick}
use Rattle.arbiter.specs.declared.Clock.TheVariants.{NoClock}
use Rattle.arbiter.proofs.Settled.{Still}
use Rattle.arbiter.proofs.Again.{busy_stays, scl_stays, bus_again}
use Rattle.arbitration.specs.Quiet.{no_loss, no_cut, no_claim, no_grant}
use Rattle.arbitration.proofs.Quiet.{no_loss_lem, no_cut_lem, no_claim_lem, no_grant_lem}
use Rattle.connection.specs.Quiet.{switch_stays}
use Rattle.connection.proofs.Quiet.{switch_stays_lem}
use Rattle.quiet.specs.Quiet.{is_calm, tick}

-- ---- parts 3 to 7

-- They have nothing to do at a tick.
abbrev pub Idles : Turn → Device → Type 0
Idles t d = (no_loss t d ≡ true) × (no_cut true t d ≡ true) × (is_calm t d ≡ true)

-- five parts that change nothing, one after the other
parts_idle : (d : Device) → Idles d.arb.turn d → connect NoClock (grant (claim (cut true (losses d)))) ≡ d
parts_idle d h =
    let t : Turn = d.arb.turn in
    let p = (and-eq-true_iff (switch_stays t d && no_grant t d) (no_claim t d)).0 h.2 in
    let q = (and-eq-true_iff (switch_stays t d) (no_grant t d)).0 p.0 in
    ap (λ (x : Device). connect NoClock (grant (claim (cut true x)))) (no_loss_lem d h.0)
    ∙ ap (λ (x : Device). connect NoClock (grant (claim x))) (no_cut_lem true d h.1)
    ∙ ap (λ (x : Device). connect NoClock (grant x)) (no_claim_lem d p.1)
    ∙ ap (λ (x : Device). connect NoClock x) (no_grant_lem d q.1)
    ∙ switch_stays_lem d q.0

-- ---- part 2

-- A still bus on which a tick leaves SCL as it is is still after it, and no line has moved: it is levelled already.
module _ (limit : ℕ) (b : Bus) (held : eqb (b.hold - 1) 0 ≡ eqb b.hold 0) (still : Still b) where
  abbrev c : Bus
  c = ticked_bus limit b

  pub level_same : scl_high c ≡ scl_high b
  level_same = ap (λ (x : Bool). b.outscl && b.drivescl && x) held

  pub idle_same : is_idle c ≡ is_idle b
  idle_same = ap (λ (s : Bool). not b.busy && s && sda_high b) level_same

  still_ticked : Still c
  still_ticked = (
    λ h. let s = sym level_same ∙ h in ap (λ (x : Bool). counted_to scl_hung_limit (not x) b.lowscl) s ∙ still.0 s,
    λ h. ap (λ (x : Bool). counted_to sda_hung_limit (not x) b.lowsda) h ∙ still.1 h,
    λ h. let s = sym idle_same ∙ h in ap (λ (x : Bool). counted_to limit x b.idle) s ∙ still.2 s,
  )

  busy_kept : busy_after false b c ≡ b.busy
  busy_kept =
      ap (λ (s : Bool). (b.busy || scl_high b && s && sda_high b && not (sda_high b)) && not (scl_high b && s && not (sda_high b) && sda_high b)) level_same
      ∙ busy_stays b

  scl_kept : scl_changed b c ≡ false
  scl_kept = ap (λ (s : Bool). scl_high b && not s || not (scl_high b) && s) level_same ∙ scl_stays b

  pub bus_same : settled_bus (busy_after false b c) (scl_changed b c) c ≡ c
  bus_same = ap₂ (λ (x y : Bool). settled_bus x y c) busy_kept scl_kept ∙ bus_again c still_ticked

-- ---- all parts, and the answer

module _ (d : Device) (held : eqb (d.bus.hold - 1) 0 ≡ eqb d.bus.hold 0) (still : Still d.bus)
    (hung : bus_hung (ticked_bus (idle_limit d) d.bus) ≡ bus_hung d.bus)
    (idles : Idles d.arb.turn (ticked d)) where
  levels_same : levels false d.bus (ticked d) ≡ ticked d
  unfolding levels ticked
  levels_same = ap (λ (x : Bus). with_bus x (ticked d)) (bus_same (idle_limit d) d.bus held still)

  parts_same : parts Tick d ≡ ticked d
  unfolding parts effect ticked
  parts_same = ap (λ (x : Device). connect NoClock (grant (claim (cut true (losses x))))) levels_same ∙ parts_idle (ticked d) idles

  lines_same : lines_byte (ticked d) ≡ lines_byte d
  unfolding lines_byte ticked
  lines_same =
      ap₂ (λ (h s : Bool).
      worth 1 (is_asserted h d.side0.ints d.side0.mask) + worth 2 (is_asserted h d.side1.ints d.side1.mask) + worth 4 s
      + worth 8 (sda_high d.bus)) hung (level_same (idle_limit d) d.bus held still)

  owner_same : owner_byte (ticked d) ≡ owner_byte d
  unfolding owner_byte ticked
  owner_same = refl

  answer_same : answer 0 0 (ticked d) ≡ answer 0 0 d
  answer_same = λ i. record { outcome = 0; read = 0; owner = owner_same i; lines = lines_same i }

  pub quiet_tick : step d tick ≡ record { device = ticked d; answer = answer 0 0 d }
  unfolding step step_decoded step_event taken byte_read decode in_sequence outcome acknowledged
  quiet_tick =
      ap (λ (x : Device). record { device = x; answer = answer 0 0 x }) parts_same ∙ ap (λ (a : Answer). record { device = ticked d; answer = a }) answer_same
