-- Laws of `arbitration`: what the code writes as one device, each part with its own choice, is what the definitions say by cases on the turn.
-- Assumes nothing.
use mathlib.Core.Path.{◌≡◌, refl, ap, ◌∙◌}
use mathlib.Core.Bool.{Bool, true, false, not, ◌&&◌, ◌||◌}
use Prim.Native.Nat.{ℕ}
use lib.Dec.{eqb}
use lib.Bits.{bit_or}
use Rattle.arbiter.specs.Rules.{idle_limit}
use Rattle.std.specs.Prelude.{if◌then◌else◌}
use Rattle.arbiter.specs.Parts.{with_contr, with_ints, with_idle, with_turn}
use Rattle.arbiter.specs.State.{at_rest, owns_turn, claims_turn}
use Rattle.arbiter.specs.Registers.{granted_int, lost_int, raised, disconnected, released}
use Rattle.arbiter.specs.Order.{runs_out, loser, lost, losses_from, cut_ticks, cut_from, granted_arb, granted, grant_from}
use Rattle.arbiter.specs.declared.Master.{Master}
use Rattle.arbiter.specs.declared.Master.TheVariants.{Zero, One}
use Rattle.arbiter.specs.declared.Ground.{Ground}
use Rattle.arbiter.specs.declared.Ground.TheVariants.{Sole}
use Rattle.arbiter.specs.declared.Turn.{Turn}
use Rattle.arbiter.specs.declared.Turn.TheVariants.{Nobody, Claims, Owns}
use Rattle.std.specs.Prelude.{Some}
use Rattle.arbiter.specs.declared.Side.{Side}
use Rattle.arbiter.specs.declared.Arbitration.{Arbitration}
use Rattle.arbiter.specs.declared.Device.{Device}
use Rattle.fields.specs.Whole.{arb_with, device_with}
use Rattle.registers.proofs.Laws.{unraised}
use Rattle.arbitration.specs.Cleared.{ground_in, contr_unless}

-- ---- one side

pub lost_side : (on : Bool) (s : Side) → with_ints (raised lost_int on s.ints) (with_contr (contr_unless on on s.contr) s)
    ≡ (if on then disconnected (loser s) else s)
lost_side true s = refl
lost_side false s = unraised s

pub cut_side : (on : Bool) (s : Side) → with_contr (contr_unless on false s.contr) s ≡ (if on then disconnected s else s)
cut_side true s = refl
cut_side false s = refl

-- ---- losses

abbrev losses_with : Bool → Bool → Device → Device
losses_with lost0 lost1 d =
    device_with (if lost0 then disconnected (loser d.side0) else d.side0) (if lost1 then disconnected (loser d.side1) else d.side1)
    (if lost0 || lost1 then released d.bus else d.bus)
    (with_turn (if lost0 || lost1 then Nobody else d.arb.turn) d.arb) d

losses_from_lem : (t : Turn) (d : Device) → losses_with (owns_turn Zero t && runs_out (idle_limit d) d.side0 d.arb.reserve d.bus)
    (owns_turn One t && runs_out (idle_limit d) d.side1 d.arb.reserve d.bus) d ≡ losses_from t d
unfolding losses_from lost
losses_from_lem Nobody d = refl
losses_from_lem (Claims m g) d = refl
losses_from_lem (Owns Zero g) d = go (runs_out (idle_limit d) d.side0 d.arb.reserve d.bus)
  where
    go : (out : Bool) → losses_with out false d ≡ (if out then lost Zero d else d)
    go true = refl
    go false = refl
losses_from_lem (Owns One g) d = go (runs_out (idle_limit d) d.side1 d.arb.reserve d.bus)
  where
    go : (out : Bool) → losses_with false out d ≡ (if out then lost One d else d)
    go true = refl
    go false = refl

pub losses_law : (d : Device) → losses_with (owns_turn Zero d.arb.turn && runs_out (idle_limit d) d.side0 d.arb.reserve d.bus)
    (owns_turn One d.arb.turn && runs_out (idle_limit d) d.side1 d.arb.reserve d.bus) d ≡ losses_from d.arb.turn d
losses_law d = losses_from_lem d.arb.turn d

-- ---- the cut

abbrev cut_with : Bool → Bool → Device → Device
cut_with cut0 cut1 d =
    device_with (if cut0 then disconnected d.side0 else d.side0) (if cut1 then disconnected d.side1 else d.side1) d.bus d.arb d

cut_from_lem : (tick : Bool) (t : Turn) (d : Device)
    → cut_with (owns_turn Zero t && (tick && eqb d.bus.lowscl cut_ticks && d.side0.contr.smbusdis))
    (owns_turn One t && (tick && eqb d.bus.lowscl cut_ticks && d.side1.contr.smbusdis)) d ≡ cut_from tick t d
unfolding cut_from
cut_from_lem tick Nobody d = refl
cut_from_lem tick (Claims m g) d = refl
cut_from_lem tick (Owns Zero g) d = go (tick && eqb d.bus.lowscl cut_ticks && d.side0.contr.smbusdis)
  where
    go : (on : Bool) → cut_with on false d ≡ (if on then device_with (disconnected d.side0) d.side1 d.bus d.arb d else d)
    go true = refl
    go false = refl
cut_from_lem tick (Owns One g) d = go (tick && eqb d.bus.lowscl cut_ticks && d.side1.contr.smbusdis)
  where
    go : (on : Bool) → cut_with false on d ≡ (if on then device_with d.side0 (disconnected d.side1) d.bus d.arb d else d)
    go true = refl
    go false = refl

pub cut_law : (tick : Bool) (d : Device)
    → cut_with (owns_turn Zero d.arb.turn && (tick && eqb d.bus.lowscl cut_ticks && d.side0.contr.smbusdis))
    (owns_turn One d.arb.turn && (tick && eqb d.bus.lowscl cut_ticks && d.side1.contr.smbusdis)) d ≡ cut_from tick d.arb.turn d
cut_law tick d = cut_from_lem tick d.arb.turn d

-- ---- the grant

pub granted_arb_lem : (on : Bool) (m : Master) (g : Ground) (rt : ℕ) (a : Arbitration)
    → arb_with (if on then Some m else a.last) a.initfail a.switch (if on then rt else a.reserve) (if on then Owns m g else a.turn)
    ≡ (if on then granted_arb m g rt a else a)
granted_arb_lem true m g rt a = refl
granted_arb_lem false m g rt a = refl

abbrev grant_with : Ground → Bool → Bool → Device → Device
grant_with g to0 to1 d =
    device_with (with_ints (raised granted_int to0 d.side0.ints) d.side0) (with_ints (raised granted_int to1 d.side1.ints) d.side1)
    (with_idle (if not (to0 || to1) then d.bus.idle else 0) d.bus)
    (if to0 || to1 then granted_arb (if to1 then One else Zero) g (if to1 then d.side1.rt else d.side0.rt) d.arb else d.arb) d

-- granted to nobody
ungranted : (g : Ground) (d : Device) → grant_with g false false d ≡ d
ungranted g d =
    ap (λ (s : Side). device_with s (with_ints (bit_or d.side1.ints 0) d.side1) d.bus d.arb d) (unraised d.side0)
    ∙ ap (λ (s : Side). device_with d.side0 s d.bus d.arb d) (unraised d.side1)

grant_from_lem : (t : Turn) (d : Device) → grant_with (ground_in t) (claims_turn Zero t && (at_rest d.side0.port && eqb d.bus.hold 0))
    (claims_turn One t && (at_rest d.side1.port && eqb d.bus.hold 0)) d ≡ grant_from t d
unfolding grant_from granted
grant_from_lem Nobody d = ungranted Sole d
grant_from_lem (Owns m g) d = ungranted g d
grant_from_lem (Claims Zero g) d = go (at_rest d.side0.port && eqb d.bus.hold 0)
  where
    go : (on : Bool) → grant_with g on false d ≡ (if on then granted Zero g d else d)
    go true =
        ap (λ (s : Side). device_with (with_ints (raised granted_int true d.side0.ints) d.side0) s (with_idle 0 d.bus)
        (granted_arb Zero g d.side0.rt d.arb) d) (unraised d.side1)
    go false = ungranted g d
grant_from_lem (Claims One g) d = go (at_rest d.side1.port && eqb d.bus.hold 0)
  where
    go : (on : Bool) → grant_with g false on d ≡ (if on then granted One g d else d)
    go true =
        ap (λ (s : Side). device_with s (with_ints (raised granted_int true d.side1.ints) d.side1) (with_idle 0 d.bus)
        (granted_arb One g d.side1.rt d.arb) d) (unraised d.side0)
    go false = ungranted g d

pub grant_law : (d : Device) → grant_with (ground_in d.arb.turn) (claims_turn Zero d.arb.turn && (at_rest d.side0.port && eqb d.bus.hold 0))
    (claims_turn One d.arb.turn && (at_rest d.side1.port && eqb d.bus.hold 0)) d ≡ grant_from d.arb.turn d
grant_law d = grant_from_lem d.arb.turn d
