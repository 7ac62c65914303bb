-- Laws of `connection`: the small value that says what becomes of the switch, put into the device, is part 7.
-- Assumes nothing.
use mathlib.Core.Path.{◌≡◌, refl, sym, ap, ◌∙◌}
use mathlib.Core.Bool.{Bool, true, false, ◌&&◌}
use Prim.Native.Nat.{ℕ, ◌+◌}
use lib.Dec.{ltb}
use Rattle.std.specs.Prelude.{if◌then◌else◌}
use Rattle.arbiter.specs.Words.{same_master, partner, side, device}
use Rattle.arbiter.specs.Parts.{with_contr, with_arb, with_switch}
use Rattle.arbiter.specs.State.{owns_turn}
use Rattle.arbiter.specs.Order.{switched, joined, init_failed, clocked, kept_joined, connect_from}
use Rattle.arbiter.specs.declared.Master.{Master}
use Rattle.arbiter.specs.declared.Master.TheVariants.{Zero, One}
use Rattle.arbiter.specs.declared.Turn.{Turn}
use Rattle.arbiter.specs.declared.Turn.TheVariants.{Nobody, Claims, Owns}
use Rattle.arbiter.specs.declared.Switch.{Switch}
use Rattle.arbiter.specs.declared.Switch.TheVariants.{Apart, Initialising, Closed}
use Rattle.arbiter.specs.declared.Clock.{Clock}
use Rattle.arbiter.specs.declared.Clock.TheVariants.{NoClock, ClockLow, ClockHigh}
use Rattle.arbiter.specs.declared.Arbitration.{Arbitration}
use Rattle.arbiter.specs.declared.Side.{Side}
use Rattle.arbiter.specs.declared.Device.{Device}
use Rattle.fields.specs.Whole.{device_with}
use Rattle.connection.specs.Links.{still, joining, clocking, linking, link_of, contr_ended, arb_linked}
use Rattle.connection.specs.declared.Link.{Link}

abbrev ended_side : Bool → Bool → Side → Side
ended_side ends fails s = with_contr (contr_ended ends fails s.contr) s

-- the owner's link, put into the device
abbrev put : Master → Link → Device → Device
put m l d = device m (ended_side l.ends l.fails (side m d)) (side (partner m) d) d.bus (arb_linked l d.arb) d

-- both sides as they were
kept_sides : (m : Master) (a : Arbitration) (d : Device) → device m (side m d) (side (partner m) d) d.bus a d ≡ with_arb a d
kept_sides Zero a d = refl
kept_sides One a d = refl

put_still : (m : Master) (w : Switch) (d : Device) → put m (still w) d ≡ switched w d
put_still m w d = kept_sides m (with_switch w d.arb) d

put_same : (m : Master) (w : Switch) (d : Device) → d.arb.switch ≡ w → put m (still w) d ≡ d
put_same m w d e = put_still m w d ∙ ap (λ (x : Switch). switched x d) (sym e)

put_joining : (m : Master) (d : Device) → put m (joining m (side m d).contr.businit) d ≡ joined m d
unfolding joined
put_joining m d = go m (side m d).contr.businit
  where
    go : (k : Master) (init : Bool) → put k (joining m init) d
        ≡ (if init then with_arb (record { last = d.arb.last; initfail = false; switch = Initialising m 0; reserve = d.arb.reserve; turn = d.arb.turn }) d
        else switched (Closed m) d)
    go Zero true = refl
    go Zero false = refl
    go One true = refl
    go One false = refl

put_clocking : (c : Clock) (m : Master) (n : ℕ) (w : Switch) (d : Device) → d.arb.switch ≡ w → put m (clocking c m n w) d ≡ clocked c m n d
unfolding clocked
put_clocking NoClock m n w d e = put_same m w d e
put_clocking ClockHigh Zero n w d e = refl
put_clocking ClockHigh One n w d e = refl
put_clocking ClockLow m n w d e = go m (ltb n 8)
  where
    go : (k : Master) (more : Bool) → put k (if more then still (Initialising k (n + 1))
        else record { switch = Apart; starts = false; ends = true; fails = true }) d ≡ (if more then switched (Initialising k (n + 1)) d else init_failed k d)
    go Zero true = refl
    go Zero false = refl
    go One true = refl
    go One false = refl

put_linking : (c : Clock) (m : Master) (w : Switch) (d : Device) → d.arb.switch ≡ w → put m (linking c m (side m d).contr.businit w) d
    ≡ kept_joined c m w d
unfolding linking kept_joined
put_linking c m Apart d e = put_joining m d
put_linking c m (Initialising k n) d e = go (same_master m k)
  where
    go : (same : Bool) → put m (if same then clocking c m n (Initialising k n) else joining m (side m d).contr.businit) d
        ≡ (if same then clocked c m n d else joined m d)
    go true = put_clocking c m n (Initialising k n) d e
    go false = put_joining m d
put_linking c m (Closed k) d e = go (same_master m k)
  where
    go : (same : Bool) → put m (if same then still (Closed k) else joining m (side m d).contr.businit) d ≡ (if same then d else joined m d)
    go true = put_same m (Closed k) d e
    go false = put_joining m d

-- the owner m, with BUS_CONNECT or without
put_owner : (c : Clock) (m : Master) (d : Device)
    → put m (if (side m d).contr.busconnect then linking c m (side m d).contr.businit d.arb.switch else still Apart) d
    ≡ (if (side m d).contr.busconnect then kept_joined c m d.arb.switch d else switched Apart d)
put_owner c m d = go (side m d).contr.busconnect
  where
    go : (on : Bool) → put m (if on then linking c m (side m d).contr.businit d.arb.switch else still Apart) d
        ≡ (if on then kept_joined c m d.arb.switch d else switched Apart d)
    go true = put_linking c m d.arb.switch d refl
    go false = put_still m Apart d

abbrev connect_with : Bool → Bool → Link → Device → Device
connect_with owns0 owns1 l d =
    device_with (ended_side (owns0 && l.ends) (owns0 && l.fails) d.side0) (ended_side (owns1 && l.ends) (owns1 && l.fails) d.side1) d.bus
    (arb_linked l d.arb) d

connect_from_lem : (c : Clock) (t : Turn) (d : Device)
    → connect_with (owns_turn Zero t) (owns_turn One t) (link_of c t d.side0.contr d.side1.contr d.arb.switch) d ≡ connect_from c t d
unfolding link_of connect_from
connect_from_lem c Nobody d = refl
connect_from_lem c (Claims m g) d = refl
connect_from_lem c (Owns Zero g) d = put_owner c Zero d
connect_from_lem c (Owns One g) d = put_owner c One d

pub connect_law : (c : Clock) (d : Device)
    → connect_with (owns_turn Zero d.arb.turn) (owns_turn One d.arb.turn) (link_of c d.arb.turn d.side0.contr d.side1.contr d.arb.switch) d
    ≡ connect_from c d.arb.turn d
connect_law c d = connect_from_lem c d.arb.turn d
