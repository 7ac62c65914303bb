-- What agrees is equal: each part of two devices that the test of a change finds the same is the same.
-- Assumes nothing.
use mathlib.Core.Path.{◌≡◌, refl, sym, ap, ap₂, ◌∙◌}
use mathlib.Core.Bool.{Bool, true, false, ◌&&◌, false≢true, and-eq-true_iff}
use Prim.Native.Nat.{ℕ}
use lib.Dec.{eqb}
use borrow.Author.Tests.{eqb-true}
use Rattle.arbiter.specs.Words.{same_master}
use Rattle.arbiter.specs.State.{scl_high, sda_high, bus_hung}
use Rattle.arbiter.specs.Registers.{register_number}
use Rattle.arbiter.specs.declared.Ground.{Ground}
use Rattle.arbiter.specs.declared.Ground.TheVariants.{Sole, Priority, LastGranted}
use Rattle.arbiter.specs.declared.Turn.{Turn}
use Rattle.arbiter.specs.declared.Turn.TheVariants.{Nobody, Claims, Owns}
use Rattle.std.specs.Prelude.{Option, Some, None}
use Rattle.arbiter.specs.declared.Master.{Master}
use Rattle.arbiter.specs.declared.Switch.{Switch}
use Rattle.arbiter.specs.declared.Switch.TheVariants.{Apart, Initialising, Closed}
use Rattle.arbiter.specs.declared.Port.{Port}
use Rattle.arbiter.specs.declared.Port.TheVariants.{Rest, Open, Writing}
use Rattle.arbiter.specs.declared.Register.{Register}
use Rattle.arbiter.specs.declared.Register.TheVariants.{Id, Contr, Status, Rt, IntStatus, IntMask, MailLow, MailHigh}
use Rattle.arbiter.specs.declared.Kind.{Kind}
use Rattle.arbiter.specs.declared.Kind.TheVariants.{Pca9641, Tpt29641}
use Rattle.arbiter.specs.declared.Control.{Control}
use Rattle.arbiter.specs.declared.Mailbox.{Mailbox}
use Rattle.arbiter.specs.declared.Side.{Side}
use Rattle.arbiter.specs.declared.Bus.{Bus}
use Rattle.arbiter.specs.declared.Device.{Device}
use Rattle.arbiter.specs.Effects.{register_at}
use Rattle.arbiter.proofs.Choice.{same_eq}
use Rattle.quiet.specs.Counts.{counted_bus, with_counts}
use Rattle.quiet.specs.Quiet.{Same}
use Rattle.advance.specs.Changes.{agree, same_port, same_register, same_ground, same_turn, same_last, same_switch, same_control, same_mail, same_side}
use Rattle.advance.specs.Changes.{same_lines}
use Rattle.advance.specs.Changes.{same_arb, same_kind, same_but_counts, same_shown, bare}

-- ---- values

pub both : (a b : Bool) → a && b ≡ true → (a ≡ true) × (b ≡ true)
both a b h = (and-eq-true_iff a b).0 h

agree_eq : (x y : Bool) → agree x y ≡ true → y ≡ x
agree_eq true true h = refl
agree_eq true false h = absurd (false≢true h)
agree_eq false true h = absurd (false≢true h)
agree_eq false false h = refl

number_eq : (m n : ℕ) → eqb m n ≡ true → n ≡ m
number_eq m n h = sym (eqb-true m n h)

-- a register is the one of its number, and so on
register_of : (r : Register) → register_at (register_number r) ≡ r
register_of Id = refl
register_of Contr = refl
register_of Status = refl
register_of Rt = refl
register_of IntStatus = refl
register_of IntMask = refl
register_of MailLow = refl
register_of MailHigh = refl

register_eq : (r s : Register) → same_register r s ≡ true → s ≡ r
register_eq r s h = sym (register_of s) ∙ ap register_at (number_eq (register_number r) (register_number s) h) ∙ register_of r

ground_eq : (g h : Ground) → same_ground g h ≡ true → h ≡ g
ground_eq Sole Sole e = refl
ground_eq Sole Priority e = absurd (false≢true e)
ground_eq Sole LastGranted e = absurd (false≢true e)
ground_eq Priority Sole e = absurd (false≢true e)
ground_eq Priority Priority e = refl
ground_eq Priority LastGranted e = absurd (false≢true e)
ground_eq LastGranted Sole e = absurd (false≢true e)
ground_eq LastGranted Priority e = absurd (false≢true e)
ground_eq LastGranted LastGranted e = refl

port_eq : (p q : Port) → same_port p q ≡ true → q ≡ p
port_eq Rest Rest e = refl
port_eq Rest Open e = absurd (false≢true e)
port_eq Rest Writing e = absurd (false≢true e)
port_eq Open Rest e = absurd (false≢true e)
port_eq Open Open e = refl
port_eq Open Writing e = absurd (false≢true e)
port_eq Writing Rest e = absurd (false≢true e)
port_eq Writing Open e = absurd (false≢true e)
port_eq Writing Writing e = refl

kind_eq : (k l : Kind) → same_kind k l ≡ true → l ≡ k
kind_eq Pca9641 Pca9641 e = refl
kind_eq Pca9641 Tpt29641 e = absurd (false≢true e)
kind_eq Tpt29641 Pca9641 e = absurd (false≢true e)
kind_eq Tpt29641 Tpt29641 e = refl

turn_eq : (t u : Turn) → same_turn t u ≡ true → u ≡ t
turn_eq Nobody Nobody e = refl
turn_eq Nobody (Claims k h) e = absurd (false≢true e)
turn_eq Nobody (Owns k h) e = absurd (false≢true e)
turn_eq (Claims m g) Nobody e = absurd (false≢true e)
turn_eq (Claims m g) (Claims k h) e = let p = both (same_master m k) (same_ground g h) e in ap₂ Claims (same_eq m k p.0) (ground_eq g h p.1)
turn_eq (Claims m g) (Owns k h) e = absurd (false≢true e)
turn_eq (Owns m g) Nobody e = absurd (false≢true e)
turn_eq (Owns m g) (Claims k h) e = absurd (false≢true e)
turn_eq (Owns m g) (Owns k h) e = let p = both (same_master m k) (same_ground g h) e in ap₂ Owns (same_eq m k p.0) (ground_eq g h p.1)

last_eq : (l n : Option Master) → same_last l n ≡ true → n ≡ l
last_eq None None e = refl
last_eq None (Some k) e = absurd (false≢true e)
last_eq (Some m) None e = absurd (false≢true e)
last_eq (Some m) (Some k) e = ap Some (same_eq m k e)

switch_eq : (v w : Switch) → same_switch v w ≡ true → w ≡ v
switch_eq Apart Apart e = refl
switch_eq Apart (Initialising k p) e = absurd (false≢true e)
switch_eq Apart (Closed k) e = absurd (false≢true e)
switch_eq (Initialising m n) Apart e = absurd (false≢true e)
switch_eq (Initialising m n) (Initialising k p) e = let q = both (same_master m k) (eqb n p) e in ap₂ Initialising (same_eq m k q.0) (number_eq n p q.1)
switch_eq (Initialising m n) (Closed k) e = absurd (false≢true e)
switch_eq (Closed m) Apart e = absurd (false≢true e)
switch_eq (Closed m) (Initialising k p) e = absurd (false≢true e)
switch_eq (Closed m) (Closed k) e = ap Closed (same_eq m k e)

-- ---- records, field by field

control_eq : (c e : Control) → same_control c e ≡ true → e ≡ c
control_eq c e h =
    let h7 = both _ (agree c.lockreq e.lockreq) h in
    let h6 = both _ (agree c.busconnect e.busconnect) h7.0 in
    let h5 = both _ (agree c.businit e.businit) h6.0 in
    let h4 = both _ (agree c.swrst e.swrst) h5.0 in
    let h3 = both _ (agree c.idletimer e.idletimer) h4.0 in
    let h2 = both _ (agree c.smbusdis e.smbusdis) h3.0 in
    λ i. record {
      priority = agree_eq c.priority e.priority h2.0 i;
      smbusdis = agree_eq c.smbusdis e.smbusdis h2.1 i;
      idletimer = agree_eq c.idletimer e.idletimer h3.1 i;
      swrst = agree_eq c.swrst e.swrst h4.1 i;
      businit = agree_eq c.businit e.businit h5.1 i;
      busconnect = agree_eq c.busconnect e.busconnect h6.1 i;
      lockreq = agree_eq c.lockreq e.lockreq h7.1 i;
    }

mail_eq : (m n : Mailbox) → same_mail m n ≡ true → n ≡ m
mail_eq m n h =
    let h3 = both _ (agree m.full n.full) h in
    let h2 = both _ (eqb m.high n.high) h3.0 in
    λ i. record {
      low = number_eq m.low n.low h2.0 i;
      high = number_eq m.high n.high h2.1 i;
      full = agree_eq m.full n.full h3.1 i;
    }

side_eq : (s t : Side) → same_side s t ≡ true → t ≡ s
side_eq s t h =
    let h8 = both _ (eqb s.mask t.mask) h in
    let h7 = both _ (same_port s.port t.port) h8.0 in
    let h6 = both _ (agree s.auto t.auto) h7.0 in
    let h5 = both _ (same_mail s.mail t.mail) h6.0 in
    let h4 = both _ (eqb s.ints t.ints) h5.0 in
    let h3 = both _ (same_control s.contr t.contr) h4.0 in
    let h2 = both _ (eqb s.rt t.rt) h3.0 in
    λ i. record {
      pointer = register_eq s.pointer t.pointer h2.0 i;
      rt = number_eq s.rt t.rt h2.1 i;
      contr = control_eq s.contr t.contr h3.1 i;
      ints = number_eq s.ints t.ints h4.1 i;
      mail = mail_eq s.mail t.mail h5.1 i;
      auto = agree_eq s.auto t.auto h6.1 i;
      port = port_eq s.port t.port h7.1 i;
      mask = number_eq s.mask t.mask h8.1 i;
    }

lines_eq : (b c : Bus) → same_lines b c ≡ true → counted_bus 0 0 0 0 c ≡ counted_bus 0 0 0 0 b
lines_eq b c h =
    let h6 = both _ (agree b.busy c.busy) h in
    let h5 = both _ (agree b.drivesda c.drivesda) h6.0 in
    let h4 = both _ (agree b.drivescl c.drivescl) h5.0 in
    let h3 = both _ (agree b.intin c.intin) h4.0 in
    let h2 = both _ (agree b.outsda c.outsda) h3.0 in
    λ i. record {
      outscl = agree_eq b.outscl c.outscl h2.0 i;
      outsda = agree_eq b.outsda c.outsda h2.1 i;
      intin = agree_eq b.intin c.intin h3.1 i;
      drivescl = agree_eq b.drivescl c.drivescl h4.1 i;
      drivesda = agree_eq b.drivesda c.drivesda h5.1 i;
      busy = agree_eq b.busy c.busy h6.1 i;
      hold = 0;
      idle = 0;
      lowscl = 0;
      lowsda = 0;
    }

pub bare_eq : (d e : Device) → same_but_counts d e ≡ true → bare e ≡ bare d
unfolding same_but_counts with_counts
bare_eq d e h =
    let h5 = both _ (same_arb d.arb e.arb) h in
    let h4 = both _ (same_lines d.bus e.bus) h5.0 in
    let h3 = both _ (same_side d.side1 e.side1) h4.0 in
    let h2 = both (same_kind d.kind e.kind) (same_side d.side0 e.side0) h3.0 in
    let a4 = both _ (same_turn d.arb.turn e.arb.turn) h5.1 in
    let a3 = both _ (same_switch d.arb.switch e.arb.switch) a4.0 in
    let a2 = both _ (agree d.arb.initfail e.arb.initfail) a3.0 in
    λ i. record {
      kind = kind_eq d.kind e.kind h2.0 i;
      side0 = side_eq d.side0 e.side0 h2.1 i;
      side1 = side_eq d.side1 e.side1 h3.1 i;
      bus = lines_eq d.bus e.bus h4.1 i;
      arb = record {
        last = last_eq d.arb.last e.arb.last a2.0 i;
        initfail = agree_eq d.arb.initfail e.arb.initfail a2.1 i;
        switch = switch_eq d.arb.switch e.arb.switch a3.1 i;
        reserve = 0;
        turn = turn_eq d.arb.turn e.arb.turn a4.1 i;
      };
    }

pub shown_eq : (d e : Device) → same_shown d.bus e.bus ≡ true → Same d e
unfolding same_shown
shown_eq d e h =
    let h3 = both _ (agree (bus_hung d.bus) (bus_hung e.bus)) h in
    let h2 = both (agree (scl_high d.bus) (scl_high e.bus)) (agree (sda_high d.bus) (sda_high e.bus)) h3.0 in
    record {
      scl = agree_eq (scl_high d.bus) (scl_high e.bus) h2.0;
      sda = agree_eq (sda_high d.bus) (sda_high e.bus) h2.1;
      hung = agree_eq (bus_hung d.bus) (bus_hung e.bus) h3.1;
    }
