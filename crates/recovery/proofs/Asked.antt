-- What p and the bus outside can do: p asks with three events, and a STOP outside makes the bus quiet. Events in a row.
-- Assumes nothing.
use mathlib.Core.Path.{◌≡◌, refl, sym, ap, ap₂, ◌∙◌}
use mathlib.Core.Bool.{true≢false, and-eq-true_iff, and-false}
use borrow.Author.Tests.{eq-eqb}
use Rattle.std.specs.Prelude.{◌&&◌, ◌||◌, ◌∷◌, ◌++◌}
use Rattle.ranges.specs.Names.{ℕ, zero, suc, Bool, true, false, not, List, [], eqb, Master, Zero, One, Contr, Bus, Device, Raw, Event}
use Rattle.ranges.specs.Names.{Command, Write, Stop, Lines, Result, Event, Unread, Ok}
use Rattle.arbiter.specs.State.{owns, scl_high, sda_high, at_rest}
use Rattle.arbiter.specs.Events.{decode, in_sequence}
use Rattle.arbiter.specs.Effects.{outside, lined, effect}
use Rattle.arbiter.specs.Order.{is_start, is_stop, busy_after, scl_changed, settled_bus, levels}
use Rattle.arbiter.specs.Steps.{run_from}
use Rattle.arbiter.specs.AuditWords.{next, requests, resting, accepted_as, accepted, never, throughout}
use Rattle.arbiter.specs.Marks.{command, write, stop, lines, tick as aTick, sets, times}
use Rattle.arbiter.specs.Witnesses.{number}
use Rattle.arbiter.proofs.Choice.{split}
use Rattle.arbiter.proofs.Raws.{Takes, taken_as}
use Rattle.arbiter.proofs.Idle.{parts_bus}
use Rattle.arbiter.proofs.Tenure.{taken_fresh}
use Rattle.guarantee.proofs.StartOwn.{commands, stops, byte_stays, contr_asks}
use Rattle.recovery.proofs.Crash.{loose}
use Rattle.recovery.proofs.Ticks.{quiet}

-- ---- p asks

-- what is not said of the event is not said of its four bytes
unsaid : (such : Event → Device → Bool) (e : Event) (r : Raw) (d : Device) → decode r ≡ Ok e → such e d ≡ false → accepted such r d ≡ false
unsaid such e r d h s =
    ap (λ (x : Result Event Unread). accepted_as such x d) h ∙ ap (λ (b : Bool). in_sequence e d && b) s ∙ and-false (in_sequence e d)

abbrev pub ask : Master → List Raw
ask p = sets (number p) 1 0x01

-- its three events are neither resets nor m's
pub ask_never : (such : Event → Device → Bool) (p : Master) → ((d : Device) → such (Command p 1) d ≡ false) → ((d : Device) → such (Write p 1) d ≡ false)
    → ((d : Device) → such (Stop p) d ≡ false) → (d : Device) → never (accepted such) d (ask p) ≡ true
unfolding never decode
ask_never such p c w s d = go p c w s
  where
    three : (r1 r2 r3 : Raw) → ((x : Device) → accepted such r1 x ≡ false) → ((x : Device) → accepted such r2 x ≡ false)
        → ((x : Device) → accepted such r3 x ≡ false) → never (accepted such) d (r1 ∷ r2 ∷ r3 ∷ []) ≡ true
    three r1 r2 r3 f g h =
        let x1 : Device = next d r1 in
        ap₂ (λ (a b : Bool). not a && b) (f d)
        (ap₂ (λ (a b : Bool). not a && b) (g x1) (ap (λ (a : Bool). not a && true) (h (next x1 r2))))

    go : (p : Master) → ((x : Device) → such (Command p 1) x ≡ false) → ((x : Device) → such (Write p 1) x ≡ false)
        → ((x : Device) → such (Stop p) x ≡ false) → never (accepted such) d (ask p) ≡ true
    go Zero c w s =
        three (command 0 1) (write 0 1) (stop 0) (λ x. unsaid such (Command Zero 1) (command 0 1) x refl (c x))
        (λ x. unsaid such (Write Zero 1) (write 0 1) x refl (w x)) (λ x. unsaid such (Stop Zero) (stop 0) x refl (s x))
    go One c w s =
        three (command 1 1) (write 1 1) (stop 1) (λ x. unsaid such (Command One 1) (command 1 1) x refl (c x))
        (λ x. unsaid such (Write One 1) (write 1 1) x refl (w x)) (λ x. unsaid such (Stop One) (stop 1) x refl (s x))

-- Nobody is granted with its port open.
open_unowned : (p : Master) (r : Raw) (d : Device) → owns p d ≡ false → resting p (next d r) ≡ false → owns p (next d r) ≡ false
open_unowned p r d o rest =
    split (owns p (next d r))
    (λ h. absurd (true≢false (sym (taken_fresh p r d (ap₂ (λ (a b : Bool). not a && b) o h)).0.rest ∙ rest))) (λ h. h)

-- Then its request stands, its port is at rest, and if its request stood before, it stood throughout.
pub asked : (p : Master) (d : Device) → owns p d ≡ false → (requests p (run_from d (ask p)) ≡ true) × (resting p (run_from d (ask p)) ≡ true)
    × (requests p d ≡ true → throughout (requests p) d (ask p) ≡ true)
unfolding run_from throughout
asked p d o =
    let r1 : Raw = command (number p) 1 in
    let r2 : Raw = write (number p) 0x01 in
    let r3 : Raw = stop (number p) in
    let x1 : Device = next d r1 in
    let x2 : Device = next x1 r2 in
    let c = commands p 1 d refl in
    let o1 = open_unowned p r1 d o (ap (λ s. at_rest s.2) c.0) in
    let s2 = byte_stays p Contr 0x01 x1 c.0 in
    let q2 : requests p x2 ≡ true = contr_asks p 0x01 x1 c.0 o1 in
    let shut : resting p x2 ≡ false = ap (λ s. at_rest s.2) s2 in
    let e = stops p x2 shut in
    let q3 : requests p (next x2 r3) ≡ true = e.1.request (open_unowned p r2 x1 o1 shut) ∙ q2 in
    (q3, e.0, λ q. ap₂ ◌&&◌ q (ap₂ ◌&&◌ (c.1.request o ∙ q) (ap₂ ◌&&◌ q2 q3)))

-- ---- a STOP outside

abbrev pub fall : Raw
fall = lines 1 0 1

abbrev pub rise : Raw
rise = lines 1 1 1

pub falls : (d : Device) → Takes (Lines true false true) fall d
unfolding decode in_sequence
falls d = taken_as (Lines true false true) fall d refl refl

pub rises : (d : Device) → Takes (Lines true true true) rise d
unfolding decode in_sequence
rises d = taken_as (Lines true true true) rise d refl refl

pub fallen : (d : Device) → ((next d fall).bus.outscl ≡ true) × ((next d fall).bus.outsda ≡ false)
unfolding levels effect lined
fallen d = (
  ap (λ (n : Device). n.bus.outscl) (falls d).after ∙ ap (λ (b : Bus). b.outscl) (parts_bus (Lines true false true) d),
  ap (λ (n : Device). n.bus.outsda) (falls d).after ∙ ap (λ (b : Bus). b.outsda) (parts_bus (Lines true false true) d),
)

-- With the drives released and no hold, SDA rising makes the bus quiet.
stop_quiet : (b : Bus) → b.outscl ≡ true → b.outsda ≡ false → loose b ≡ true → b.hold ≡ 0 → let a : Bus = outside true true true b in
    quiet (settled_bus (busy_after false b a) (scl_changed b a) a) ≡ true
stop_quiet b scl sda l z =
    let a : Bus = outside true true true b in
    let free = (and-eq-true_iff b.drivescl b.drivesda).0 l in
    let unheld : eqb b.hold 0 ≡ true = eq-eqb b.hold 0 z in
    let before : scl_high b ≡ true = ap₂ ◌&&◌ (ap₂ ◌&&◌ scl free.0) unheld in
    let after : scl_high a ≡ true = ap₂ ◌&&◌ free.0 unheld in
    let low : sda_high b ≡ false = ap (λ (x : Bool). x && b.drivesda) sda in
    let stopped : is_stop b a ≡ true = ap₂ ◌&&◌ (ap₂ ◌&&◌ (ap₂ ◌&&◌ before after) (ap not low)) free.1 in
    let off : busy_after false b a ≡ false = ap (λ (x : Bool). (b.busy || is_start b a) && not x) stopped ∙ and-false (b.busy || is_start b a) in
    ap₂ ◌&&◌ (ap₂ ◌&&◌ (ap not off) free.0) free.1

pub risen : (d : Device) → d.bus.outscl ≡ true → d.bus.outsda ≡ false → loose d.bus ≡ true → d.bus.hold ≡ 0 → quiet (next d rise).bus ≡ true
unfolding levels effect lined
risen d scl sda l z =
    ap (λ (n : Device). quiet n.bus) (rises d).after ∙ ap quiet (parts_bus (Lines true true true) d) ∙ stop_quiet d.bus scl sda l z

-- ---- events in a row

pub never_both : (such : Raw → Device → Bool) (xs ys : List Raw) (d : Device) → never such d xs ≡ true → never such (run_from d xs) ys ≡ true
    → never such d (xs ++ ys) ≡ true
unfolding never run_from
never_both such [] ys d h g = g
never_both such (x ∷ xs) ys d h g =
    let both = (and-eq-true_iff (not (such x d)) (never such (next d x) xs)).0 h in
    ap₂ ◌&&◌ both.0 (never_both such xs ys (next d x) both.1 g)

-- Where p is not without it throughout, it owns after so many ticks.
pub some_tick : (p : Master) (n : ℕ) (d : Device) → throughout (λ (x : Device). not (owns p x)) d (times n aTick) ≡ false
    → (j : ℕ) × (owns p (run_from d (times j aTick)) ≡ true)
unfolding throughout run_from
some_tick p zero d h = (0, split (owns p d) (λ o. o) (λ o. absurd (true≢false (sym (ap not o) ∙ h))))
some_tick p (suc n) d h =
    split (owns p d) (λ o. (0, o))
    (λ o. let more = some_tick p n (next d aTick)
    (sym (ap (λ (b : Bool). not b && throughout (λ (x : Device). not (owns p x)) (next d aTick) (times n aTick)) o) ∙ h) in
    (suc more.0, more.1))
