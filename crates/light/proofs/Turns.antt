-- The two events that move the turn: part by part through the step.
-- Assumes nothing.
use Prim.Native.Nat.{ℕ}
use mathlib.Core.Path.{◌≡◌, refl, sym, ap, ap₂, ◌∙◌}
use mathlib.Core.Bool.{Bool, true, false, not, ◌&&◌, false≢true, and-eq-true_iff}
use lib.Dec.{eqb}
use Rattle.std.specs.Prelude.{if◌then◌else◌}
use Rattle.arbiter.specs.Words.{bit, partner, side, device}
use Rattle.arbiter.specs.Parts.{with_port, with_idle, with_turn, with_switch, with_init_fail, with_arb}
use Rattle.arbiter.specs.State.{claims_turn, owns_turn, owns, at_rest, for_writing}
use Rattle.arbiter.specs.Registers.{own_written, mail_written, drives_written, turn_written}
use Rattle.arbiter.specs.Rules.{rolls}
use Rattle.arbiter.specs.Effects.{after_write, writer_side, written, effect}
use Rattle.arbiter.specs.Order.{levels, losses, losses_from, cut, cut_from, winner, ground_of, claim_by, new_claim, claim, granted, grant_from, grant, switched}
use Rattle.arbiter.specs.Order.{joined, kept_joined, connect_from, connect}
use Rattle.arbiter.specs.Steps.{parts}
use Rattle.arbiter.specs.declared.Master.{Master}
use Rattle.arbiter.specs.declared.Master.TheVariants.{Zero, One}
use Rattle.arbiter.specs.declared.Ground.{Ground}
use Rattle.arbiter.specs.declared.Ground.TheVariants.{Sole}
use Rattle.arbiter.specs.declared.Turn.{Turn}
use Rattle.arbiter.specs.declared.Turn.TheVariants.{Nobody, Claims, Owns}
use Rattle.arbiter.specs.declared.Register.{Register}
use Rattle.arbiter.specs.declared.Register.TheVariants.{Id, Contr, Status, Rt, IntStatus, IntMask, MailLow, MailHigh}
use Rattle.arbiter.specs.declared.Port.{Port}
use Rattle.arbiter.specs.declared.Port.TheVariants.{Rest, Open, Writing}
use Rattle.arbiter.specs.declared.Switch.{Switch}
use Rattle.arbiter.specs.declared.Switch.TheVariants.{Apart, Initialising, Closed}
use Rattle.arbiter.specs.declared.Control.{Control}
use Rattle.arbiter.specs.declared.Side.{Side}
use Rattle.arbiter.specs.declared.Arbitration.{Arbitration}
use Rattle.arbiter.specs.declared.Device.{Device}
use Rattle.arbiter.specs.declared.Clock.TheVariants.{NoClock}
use Rattle.arbiter.proofs.Choice.{not_true}
use Rattle.fields.specs.Apart.{is_apart}
use Rattle.step.specs.Carried.{quiet_from, is_quiet}
use Rattle.light.specs.Turns.{side_granted, arb_granted, is_contr, is_nobody, GrantedAtStop, ClaimedByWrite}
use Rattle.light.proofs.Fits.{Alike, tests, same_levels}
use Rattle.light.proofs.Light.{risen_alike}

is_apart_lem : (w : Switch) → is_apart w ≡ true → w ≡ Apart
is_apart_lem Apart h = refl
is_apart_lem (Initialising m n) h = absurd (false≢true h)
is_apart_lem (Closed m) h = absurd (false≢true h)

-- ---- the grant at a STOP

abbrev through : Device → Device
through x = connect NoClock (grant (claim (cut false (losses x))))

-- m's port at rest, and the turn t; and m its owner
module _ (m : Master) (d : Device) where
  abbrev rested : Turn → Device
  rested t = device m (with_port Rest (side m d)) (side (partner m) d) d.bus (with_turn t d.arb) d

  abbrev owning : Turn → Device
  owning t = device m (side_granted (side m d)) (side (partner m) d) (with_idle 0 d.bus) (arb_granted m (side m d) (with_turn t d.arb)) d

-- part 7 with the grant in x, by the new owner's BUS_CONNECT and BUS_INIT
abbrev linking : Master → Bool → Bool → Device → Device
linking m connects starts x =
    if connects then (if starts then with_arb (with_init_fail false (with_switch (Initialising m 0) x.arb)) x else switched (Closed m) x) else switched Apart x

abbrev linked_arb : Master → Bool → Bool → Arbitration → Arbitration
linked_arb m connects starts a =
    record {
      last = a.last;
      initfail = not (connects && starts) && a.initfail;
      switch = if connects then (if starts then Initialising m 0 else Closed m)
          else Apart;
      reserve = a.reserve;
      turn = a.turn;
    }

linking_arb : (m : Master) (connects starts : Bool) (x : Device) → linking m connects starts x ≡ with_arb (linked_arb m connects starts x.arb) x
linking_arb m true true x = refl
linking_arb m true false x = refl
linking_arb m false starts x = refl

grant_to_0 : (g : Ground) (d : Device) → d.side0.contr.lockreq ≡ true → eqb d.bus.hold 0 ≡ true → d.arb.switch ≡ Apart
    → through (rested Zero d (Claims Zero g)) ≡ owning Zero d (Claims Zero g)
unfolding losses losses_from cut cut_from claim grant grant_from granted connect connect_from kept_joined joined
grant_to_0 g d asks free apart =
    let x : Device = rested Zero d (Claims Zero g) in
    let e : Device = granted Zero g x in
    let c = d.side0.contr in
    ap (λ (q : Bool). connect NoClock (grant (with_arb (with_turn (if q then Claims Zero g else new_claim x) x.arb) x))) asks
    ∙ ap (λ (q : Bool). connect NoClock (if q then e else x)) free
    ∙ ap (λ (w : Switch). if c.busconnect then kept_joined NoClock Zero w e else switched Apart e) apart
    ∙ linking_arb Zero c.busconnect c.businit e

grant_to_1 : (g : Ground) (d : Device) → d.side1.contr.lockreq ≡ true → eqb d.bus.hold 0 ≡ true → d.arb.switch ≡ Apart
    → through (rested One d (Claims One g)) ≡ owning One d (Claims One g)
unfolding losses losses_from cut cut_from claim grant grant_from granted connect connect_from kept_joined joined
grant_to_1 g d asks free apart =
    let x : Device = rested One d (Claims One g) in
    let e : Device = granted One g x in
    let c = d.side1.contr in
    ap (λ (q : Bool). connect NoClock (grant (with_arb (with_turn (if q then Claims One g else new_claim x) x.arb) x))) asks
    ∙ ap (λ (q : Bool). connect NoClock (if q then e else x)) free
    ∙ ap (λ (w : Switch). if c.busconnect then kept_joined NoClock One w e else switched Apart e) apart
    ∙ linking_arb One c.busconnect c.businit e

granting : (m : Master) (t : Turn) (d : Device) → quiet_from t false d ≡ true → claims_turn m t ≡ true → eqb d.bus.hold 0 ≡ true → through (rested m d t)
    ≡ owning m d t
granting m Nobody d h l f = absurd (false≢true l)
granting m (Owns k g) d h l f = absurd (false≢true l)
granting Zero (Claims One g) d h l f = absurd (false≢true l)
granting One (Claims Zero g) d h l f = absurd (false≢true l)
granting Zero (Claims Zero g) d h l f =
    let q = tests (Claims Zero g) d h in
    grant_to_0 g d q.2 f (is_apart_lem d.arb.switch q.0)
granting One (Claims One g) d h l f =
    let q = tests (Claims One g) d h in
    grant_to_1 g d q.2 f (is_apart_lem d.arb.switch q.0)

pub granted_at_stop : GrantedAtStop
unfolding parts effect is_quiet
granted_at_stop m d (still, quiet) l =
    let both = (and-eq-true_iff (claims_turn m d.arb.turn) (eqb d.bus.hold 0)).0 l in
    ap through (same_levels m d (with_port Rest (side m d)) (side (partner m) d) still)
    ∙ granting m d.arb.turn d quiet both.0 both.1

-- ---- the claim by a byte

nobody_is : (t : Turn) → is_nobody t ≡ true → t ≡ Nobody
nobody_is Nobody h = refl
nobody_is (Claims m g) h = absurd (false≢true h)
nobody_is (Owns m g) h = absurd (false≢true h)

contr_is : (r : Register) → is_contr r ≡ true → r ≡ Contr
contr_is Id h = absurd (false≢true h)
contr_is Contr h = refl
contr_is Status h = absurd (false≢true h)
contr_is Rt h = absurd (false≢true h)
contr_is IntStatus h = absurd (false≢true h)
contr_is IntMask h = absurd (false≢true h)
contr_is MailLow h = absurd (false≢true h)
contr_is MailHigh h = absurd (false≢true h)

not_resting : (p : Port) → for_writing p ≡ true → at_rest p ≡ false
not_resting Rest h = absurd (false≢true h)
not_resting Open h = refl
not_resting Writing h = refl

-- m's side x, and the turn t
abbrev asking : Master → Side → Device → Turn → Device
asking m x d t = device m x (side (partner m) d) d.bus (with_turn t d.arb) d

claim_by_0 : (d : Device) (x : Side) → x.contr.lockreq ≡ true → d.side1.contr.lockreq ≡ false → at_rest x.port ≡ false → d.arb.switch ≡ Apart
    → through (asking Zero x d Nobody) ≡ asking Zero x d (Claims Zero Sole)
unfolding losses losses_from cut cut_from claim grant grant_from connect connect_from
claim_by_0 d x asks none busy apart =
    let y : Device = asking Zero x d Nobody in
    let z : Device = asking Zero x d (Claims Zero Sole) in
    let p0 : Bool = x.contr.priority in
    let p1 : Bool = d.side1.contr.priority in
    ap₂ (λ (r0 r1 : Bool). connect NoClock (grant (with_arb (with_turn (claim_by r0 r1 (winner p0 p1 d.arb.last) (ground_of p0 p1)) y.arb) y))) asks none
    ∙ ap (λ (q : Bool). connect NoClock (if q && eqb d.bus.hold 0 then granted Zero Sole z else z)) busy
    ∙ ap (λ (w : Switch). switched w z) (sym apart)

claim_by_1 : (d : Device) (x : Side) → x.contr.lockreq ≡ true → d.side0.contr.lockreq ≡ false → at_rest x.port ≡ false → d.arb.switch ≡ Apart
    → through (asking One x d Nobody) ≡ asking One x d (Claims One Sole)
unfolding losses losses_from cut cut_from claim grant grant_from connect connect_from
claim_by_1 d x asks none busy apart =
    let y : Device = asking One x d Nobody in
    let z : Device = asking One x d (Claims One Sole) in
    let p0 : Bool = d.side0.contr.priority in
    let p1 : Bool = x.contr.priority in
    ap₂ (λ (r0 r1 : Bool). connect NoClock (grant (with_arb (with_turn (claim_by r0 r1 (winner p0 p1 d.arb.last) (ground_of p0 p1)) y.arb) y))) none asks
    ∙ ap (λ (q : Bool). connect NoClock (if q && eqb d.bus.hold 0 then granted One Sole z else z)) busy
    ∙ ap (λ (w : Switch). switched w z) (sym apart)

claiming : (m : Master) (t : Turn) (d : Device) (x : Side) → quiet_from t false d ≡ true → is_nobody t ≡ true → x.contr.lockreq ≡ true → at_rest x.port
    ≡ false
    → through (asking m x d t) ≡ asking m x d (Claims m Sole)
claiming m (Claims k g) d x h n asks busy = absurd (false≢true n)
claiming m (Owns k g) d x h n asks busy = absurd (false≢true n)
claiming Zero Nobody d x h n asks busy =
    let q = tests Nobody d h in
    let none = (and-eq-true_iff (not d.side0.contr.lockreq) (not d.side1.contr.lockreq)).0 q.2 in
    claim_by_0 d x asks (not_true _ none.1) busy (is_apart_lem d.arb.switch q.0)
claiming One Nobody d x h n asks busy =
    let q = tests Nobody d h in
    let none = (and-eq-true_iff (not d.side0.contr.lockreq) (not d.side1.contr.lockreq)).0 q.2 in
    claim_by_1 d x asks (not_true _ none.0) busy (is_apart_lem d.arb.switch q.0)

-- a byte to CONTR of one who does not own
module _ (m : Master) (v : ℕ) (d : Device) (n : d.arb.turn ≡ Nobody) (at : (side m d).pointer ≡ Contr) where
  abbrev writer : Side
  writer = writer_side m v d

  abbrev own : Side
  own = own_written (owns m d) (side m d).pointer v (side m d)

  foreign : owns m d ≡ false
  foreign = ap (owns_turn m) n

  own_asks : own.contr.lockreq ≡ bit 0 v
  unfolding own_written
  own_asks = ap₂ (λ (o : Bool) (r : Register). (own_written o r v (side m d)).contr.lockreq) foreign at

  own_port : at_rest own.port ≡ at_rest (side m d).port
  unfolding own_written
  own_port = ap₂ (λ (o : Bool) (r : Register). at_rest (own_written o r v (side m d)).port) foreign at

  risen : Alike own writer
  risen = risen_alike own.auto (after_write (rolls d) own.pointer) own

  writer_asks : writer.contr.lockreq ≡ bit 0 v
  writer_asks = ap (λ (c : Control). c.lockreq) risen.1 ∙ own_asks

  writer_port : at_rest writer.port ≡ at_rest (side m d).port
  writer_port = risen.2 ∙ own_port

  writer_alone : written m v d ≡ asking m writer d d.arb.turn
  unfolding written mail_written drives_written turn_written
  writer_alone =
      ap₂ (λ (o : Bool) (r : Register). device m writer (mail_written r v (side (partner m) d)) (drives_written o (side m d).contr.busconnect r v d.bus)
      (with_turn (turn_written o r v d.arb.turn) d.arb) d) foreign at

pub claimed_by_write : ClaimedByWrite
unfolding parts effect is_quiet
claimed_by_write m v d (still, quiet) nobody contr asks opened =
    let n = nobody_is d.arb.turn nobody in
    let at = contr_is (side m d).pointer contr in
    let x : Side = writer_side m v d in
    ap (λ (y : Device). through (levels false d.bus y)) (writer_alone m v d n at)
    ∙ ap through (same_levels m d x (side (partner m) d) still)
    ∙ claiming m d.arb.turn d x quiet nobody (writer_asks m v d n at ∙ asks) (writer_port m v d n at ∙ not_resting (side m d).port opened)
