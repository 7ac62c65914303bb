-- Why the one that asks waits: every run leaves the device settled, so the turn is its partner's, that owns or has its port open.
-- Assumes nothing.
use mathlib.Core.Path.{◌≡◌, sym, ap, refl, ◌∙◌}
use mathlib.Core.Bool.{true≢false, and-true, and-eq-true_iff}
use borrow.Author.Tests.{eq-eqb, eqb-true}
use Rattle.std.specs.Prelude.{◌&&◌}
use Rattle.ranges.specs.Names.{Bool, true, false, not, List, eqb, Master, Zero, One, Turn, Nobody, Claims, Owns, Status, Kind, Device, Raw}
use Rattle.arbiter.specs.Words.{bit, partner}
use Rattle.arbiter.specs.State.{owns_turn, owns, claims_turn}
use Rattle.arbiter.specs.Registers.{reads_at}
use Rattle.arbiter.specs.Steps.{run}
use Rattle.arbiter.specs.AuditWords.{requests, resting}
use Rattle.recovery.specs.Diagnosis.{waits_at_rest, Diagnosis}
use Rattle.arbiter.proofs.Choice.{not_true}
use Rattle.arbiter.proofs.Grounds.{nobody_asks}
use Rattle.arbiter.proofs.Seen.{registers_show}
use Rattle.arbiter.proofs.Settled.{is_due, Ready, all_ready}

-- STATUS shows p its partner's grant in bit 0.
pub shown : (k : Kind) (p : Master) (rs : List Raw) → bit 0 (reads_at Status p (run k rs)) ≡ owns (partner p) (run k rs)
shown k Zero rs = (registers_show k rs One).2
shown k One rs = (registers_show k rs Zero).2

-- A claimant that is not due, though no hold runs, has its port open.
pub claimant_open : (k : Master) (d : Device) → resting k d && eqb d.bus.hold 0 ≡ false → d.bus.hold ≡ 0 → resting k d ≡ false
claimant_open k d waits hold =
    sym (and-true (resting k d)) ∙ ap (λ (b : Bool). resting k d && b) (sym (eq-eqb d.bus.hold 0 hold)) ∙ waits

-- So in a settled device it is not p, which is at rest, and the turn is not nobody's, since p asks.
before : (p : Master) (t : Turn) (d : Device) → d.arb.turn ≡ t → Ready d → is_due t d ≡ false
    → requests p d ≡ true → resting p d ≡ true → owns_turn p t ≡ false → d.bus.hold ≡ 0
    → claims_turn (partner p) t && not (resting (partner p) d) ≡ not (owns_turn (partner p) t)
before Zero Nobody d e ready due asks rest unowned hold = absurd (true≢false (sym asks ∙ (nobody_asks d ready e).0))
before One Nobody d e ready due asks rest unowned hold = absurd (true≢false (sym asks ∙ (nobody_asks d ready e).1))
before Zero (Claims Zero g) d e ready due asks rest unowned hold = absurd (true≢false (sym rest ∙ claimant_open Zero d due hold))
before Zero (Claims One g) d e ready due asks rest unowned hold = ap not (claimant_open One d due hold)
before One (Claims Zero g) d e ready due asks rest unowned hold = ap not (claimant_open Zero d due hold)
before One (Claims One g) d e ready due asks rest unowned hold = absurd (true≢false (sym rest ∙ claimant_open One d due hold))
before Zero (Owns Zero g) d e ready due asks rest unowned hold = absurd (true≢false unowned)
before Zero (Owns One g) d e ready due asks rest unowned hold = refl
before One (Owns Zero g) d e ready due asks rest unowned hold = refl
before One (Owns One g) d e ready due asks rest unowned hold = absurd (true≢false unowned)

-- what is asked of p, one by one
pub record Waits (p : Master) (d : Device) : Type 0 where
  pub asks : requests p d ≡ true
  pub rest : resting p d ≡ true
  pub unowned : owns p d ≡ false
  pub hold : d.bus.hold ≡ 0

pub at_rest_lem : (p : Master) (d : Device) → waits_at_rest p d ≡ true → Waits p d
at_rest_lem p d h =
    let four = (and-eq-true_iff (requests p d && resting p d && not (owns p d)) (eqb d.bus.hold 0)).0 h in
    let three = (and-eq-true_iff (requests p d && resting p d) (not (owns p d))).0 four.0 in
    let two = (and-eq-true_iff (requests p d) (resting p d)).0 three.0 in
    record { asks = two.0; rest = two.1; unowned = not_true (owns p d) three.1; hold = eqb-true d.bus.hold 0 four.1 }

pub diagnosis : Diagnosis
diagnosis k p rs h =
    let d : Device = run k rs in
    let ready : Ready d = all_ready k rs in
    let w = at_rest_lem p d h in
    (shown k p rs, before p d.arb.turn d refl ready ready.2 w.asks w.rest w.unowned w.hold)
