-- The test of a change says what it is meant to: two devices pass it as unchanged exactly if they are equal but for their counts, levels and
-- BUS_HUNG being the same. Here is that what is equal agrees; proofs/Agree.antt has the other way.
-- Assumes nothing.
use mathlib.Core.Path.{◌≡◌, refl, sym, ap, ap₂, ◌∙◌}
use mathlib.Core.Bool.{Bool, true, false, not, ◌&&◌, true≢false}
use Prim.Native.Nat.{ℕ}
use lib.Dec.{eqb}
use borrow.Author.Tests.{eq-eqb}
use Rattle.arbiter.specs.State.{at_rest, for_writing}
use Rattle.arbiter.specs.Registers.{register_number}
use Rattle.arbiter.specs.Steps.{ground_number}
use Rattle.arbiter.specs.Traces.{kind_number}
use Rattle.arbiter.specs.declared.Turn.{Turn}
use Rattle.arbiter.specs.declared.Turn.TheVariants.{Nobody, Claims, Owns}
use Rattle.std.specs.Prelude.{Option, Some, None}
use Rattle.arbiter.specs.declared.Master.{Master}
use Rattle.arbiter.specs.declared.Switch.{Switch}
use Rattle.arbiter.specs.declared.Switch.TheVariants.{Apart, Initialising, Closed}
use Rattle.arbiter.specs.declared.Control.{Control}
use Rattle.arbiter.specs.declared.Side.{Side}
use Rattle.arbiter.specs.declared.Bus.{Bus}
use Rattle.arbiter.specs.declared.Arbitration.{Arbitration}
use Rattle.arbiter.specs.declared.Device.{Device}
use Rattle.arbiter.proofs.Choice.{same_self}
use Rattle.quiet.specs.Counts.{with_counts}
use Rattle.quiet.specs.Quiet.{Same}
use Rattle.advance.specs.Changes.{agree, same_turn, same_last, same_switch, same_control, same_side, same_lines}
use Rattle.advance.specs.Changes.{same_arb, same_but_counts, same_shown, changes, bare, Unchanged}
use Rattle.advance.proofs.Agree.{both, bare_eq, shown_eq}

-- ---- what is equal agrees

agree_self : (x : Bool) → agree x x ≡ true
agree_self true = refl
agree_self false = refl

and : {a b : Bool} → a ≡ true → b ≡ true → a && b ≡ true
and p q = ap₂ ◌&&◌ p q

number_self : (n : ℕ) → eqb n n ≡ true
number_self n = eq-eqb n n refl

turn_self : (t : Turn) → same_turn t t ≡ true
turn_self Nobody = refl
turn_self (Claims m g) = and (same_self m) (number_self (ground_number g))
turn_self (Owns m g) = and (same_self m) (number_self (ground_number g))

last_self : (l : Option Master) → same_last l l ≡ true
last_self None = refl
last_self (Some m) = same_self m

switch_self : (w : Switch) → same_switch w w ≡ true
switch_self Apart = refl
switch_self (Initialising m n) = and (same_self m) (number_self n)
switch_self (Closed m) = same_self m

control_self : (c : Control) → same_control c c ≡ true
control_self c =
    and (and (and (and (and (and (agree_self c.priority) (agree_self c.smbusdis)) (agree_self c.idletimer)) (agree_self c.swrst))
    (agree_self c.businit)) (agree_self c.busconnect))
    (agree_self c.lockreq)

side_self : (s : Side) → same_side s s ≡ true
side_self s =
    and (and (and (and (and (and (and (number_self (register_number s.pointer)) (number_self s.rt)) (control_self s.contr)) (number_self s.ints))
    (and (and (number_self s.mail.low) (number_self s.mail.high)) (agree_self s.mail.full))) (agree_self s.auto))
    (and (agree_self (at_rest s.port)) (agree_self (for_writing s.port)))) (number_self s.mask)

lines_self : (b : Bus) → same_lines b b ≡ true
lines_self b =
    and (and (and (and (and (agree_self b.outscl) (agree_self b.outsda)) (agree_self b.intin)) (agree_self b.drivescl)) (agree_self b.drivesda))
    (agree_self b.busy)

arb_self : (a : Arbitration) → same_arb a a ≡ true
arb_self a = and (and (and (last_self a.last) (agree_self a.initfail)) (switch_self a.switch)) (turn_self a.turn)

device_self : (d : Device) → same_but_counts d d ≡ true
unfolding same_but_counts
device_self d =
    and (and (and (and (number_self (kind_number d.kind)) (side_self d.side0)) (side_self d.side1)) (lines_self d.bus)) (arb_self d.arb)

-- The comparison does not look at the counts.
without : (d e : Device) → same_but_counts (bare d) (bare e) ≡ same_but_counts d e
unfolding same_but_counts with_counts
without d e = refl

pub bare_same : (d e : Device) → bare e ≡ bare d → same_but_counts d e ≡ true
bare_same d e p = sym (without d e) ∙ ap (same_but_counts (bare d)) p ∙ device_self (bare d)

agree_same : (x y : Bool) → y ≡ x → agree x y ≡ true
agree_same x y e = ap (agree x) e ∙ agree_self x

shown_same : (d e : Device) → Same d e → same_shown d.bus e.bus ≡ true
unfolding same_shown
shown_same d e s = and (and (agree_same _ _ s.scl) (agree_same _ _ s.sda)) (agree_same _ _ s.hung)

-- ---- the law

pub unchanged : Unchanged
unfolding changes
unchanged before after = (
  λ h.
      let p = both (same_but_counts before after) (same_shown before.bus after.bus)
      (not_false (same_but_counts before after && same_shown before.bus after.bus) h) in
      (bare_eq before after p.0, shown_eq before after p.1),
  λ e s.
      ap not (and (bare_same before after e) (shown_same before after s)),
)
  where
    not_false : (b : Bool) → not b ≡ false → b ≡ true
    not_false true h = refl
    not_false false h = absurd (true≢false h)
