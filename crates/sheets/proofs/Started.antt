-- The twelve events of an order on a device just reset. Master 0's six are computed, with the reserve left open. Of master 1's six each is
-- computed too, once it is known that the owner does not lose in it: no tick has passed.
-- Assumes nothing.
use Prim.Native.Nat.{ℕ}
use mathlib.Core.Path.{◌≡◌, refl, sym, ap, ap₂, subst, ◌∙◌}
use mathlib.Core.Bool.{Bool, true, false, not, ◌&&◌}
use mathlib.Core.List.{List, [], ◌∷◌, ◌++◌, map}
use lib.Dec.{eqb}
use lib.ListN.{replicate}
use Rattle.arbiter.specs.Rules.{limit_of}
use Rattle.arbiter.specs.Parts.{with_turn, with_arb}
use Rattle.arbiter.specs.State.{scl_high, sda_high, is_idle}
use Rattle.arbiter.specs.Registers.{own_written, mail_written, drives_written, turn_written}
use Rattle.arbiter.specs.Events.{decode, in_sequence, acknowledged, outcome}
use Rattle.arbiter.specs.Effects.{commanded, written, fresh_side, was_reset, power_up, effect}
use Rattle.arbiter.specs.Order.{busy_after, levels, runs_out, lost, losses_from, losses, cut_from, cut, claim, granted, grant_from, grant, switched}
use Rattle.arbiter.specs.Order.{kept_joined}
use Rattle.arbiter.specs.Order.{connect_from, connect}
use Rattle.arbiter.specs.Steps.{parts, taken, step_event, step_decoded, step, run_from, answers_from}
use Rattle.arbiter.specs.Marks.{command, write, stop}
use Rattle.arbiter.specs.declared.Master.TheVariants.{Zero, One}
use Rattle.arbiter.specs.declared.Ground.TheVariants.{Sole}
use Rattle.arbiter.specs.declared.Turn.{Turn}
use Rattle.arbiter.specs.declared.Turn.TheVariants.{Owns}
use Rattle.arbiter.specs.declared.Clock.TheVariants.{NoClock}
use Rattle.arbiter.specs.declared.Switch.TheVariants.{Apart}
use Rattle.arbiter.specs.declared.Side.{Side}
use Rattle.arbiter.specs.declared.Bus.{Bus}
use Rattle.arbiter.specs.declared.Kind.{Kind}
use Rattle.arbiter.specs.declared.Device.{Device}
use Rattle.arbiter.specs.declared.Raw.{Raw}
use Rattle.arbiter.specs.declared.Event.{Event}
use Rattle.arbiter.specs.declared.Event.TheVariants.{Command, Write, Stop}
use Rattle.arbiter.specs.declared.Answer.{Answer}
use Rattle.arbiter.proofs.Choice.{either, if_false}
use Rattle.arbiter.proofs.KindKept.{limit_some}
use Rattle.arbiter.proofs.Owner.{mid}
use Rattle.sheets.specs.declared.Setting.{Setting}
use Rattle.sheets.specs.Settings.{control_byte, setting_events, order_events}
use Rattle.sheets.specs.Started.{Standing, standing, as_ordered, Outset, StandsAfterReset, StandsAtPowerUp, setting}

-- ---- a function of two truth values as the table of its values

abbrev pub Four : Type 0 → Type 0
Four A = (A × A) × (A × A)

abbrev pub table : {A : Type 0} → (Bool → Bool → A) → Four A
table f = ((f true true, f true false), (f false true, f false false))

-- Equal tables are of functions that are equal everywhere.
pub at_each : {A : Type 0} (f g : Bool → Bool → A) → table f ≡ table g → (a b : Bool) → f a b ≡ g a b
at_each f g e true true = ap (λ t. t.0.0) e
at_each f g e true false = ap (λ t. t.0.1) e
at_each f g e false true = ap (λ t. t.1.0) e
at_each f g e false false = ap (λ t. t.1.1) e

-- ---- what is seen after some events: both masters, the turn, and the outcomes

abbrev outcomes : Device → List Raw → List ℕ
outcomes d rs = map (λ (a : Answer). a.outcome) (answers_from d rs)

abbrev Seen : Type 0
Seen = Standing × Standing × Turn × List ℕ

abbrev seen : Device → List Raw → Seen
seen d rs = (standing Zero (run_from d rs), standing One (run_from d rs), (run_from d rs).arb.turn, outcomes d rs)

-- one event done before
abbrev done : Seen → Seen
done (s0, s1, t, os) = (s0, s1, t, 0 ∷ os)

seen_more : (d n : Device) (r : Raw) (rs : List Raw) → (step d r).device ≡ n → (step d r).answer.outcome ≡ 0 → seen d (r ∷ rs) ≡ done (seen n rs)
unfolding run_from answers_from
seen_more d n r rs e o =
    let x : Device = run_from (step d r).device rs in
    ap (λ (k : ℕ). (standing Zero x, standing One x, x.arb.turn, k ∷ outcomes (step d r).device rs)) o ∙ ap (λ (y : Device). done (seen y rs)) e

-- ---- master 0's events: it owns, with its reserve count at RT and the idle count at 0

abbrev First : Type 0
First = Standing × Turn × ℕ × ℕ × Bool × List ℕ

abbrev first : Device → ℕ → Bool → Bool → First
first d r p i =
    let es : List Raw = setting_events 0 (setting r p i) in
    let x : Device = run_from (was_reset 0 d) es in
    (standing Zero x, x.arb.turn, x.arb.reserve, x.bus.idle, x.side0.contr.busconnect, outcomes (was_reset 0 d) es)

abbrev first_of : ℕ → Bool → Bool → First
first_of r p i = (as_ordered (setting r p i), Owns Zero Sole, r, 0, false, replicate 6 0)

first_computed : (d : Device) (r : ℕ) → table (first d r) ≡ table (first_of r)
unfolding own_written mail_written drives_written turn_written decode in_sequence acknowledged outcome commanded written fresh_side was_reset effect
    levels losses_from losses cut_from cut claim granted grant_from grant connect_from connect
    parts taken step_event step_decoded step run_from answers_from control_byte
first_computed d r = refl

-- ---- an owner with its whole reserve and no idle tick does not lose

and_false : (a : Bool) → a && false ≡ false
and_false true = refl
and_false false = refl

pub unexpired : (k : Kind) (s : Side) (n : ℕ) (b : Bus) → n ≡ s.rt → b.idle ≡ 0 → runs_out (limit_of k) s n b ≡ false
unexpired k s n b whole none =
    either (λ (x : Bool). x ≡ false) (eqb s.rt 0)
    (λ _. ap (λ (c : ℕ). s.contr.idletimer && eqb c (limit_of k)) none ∙ ap (λ (t : Bool). s.contr.idletimer && t) (limit_some k)
    ∙ and_false s.contr.idletimer)
    (λ no. ap (λ (c : ℕ). eqb c 0 && is_idle b) whole ∙ ap (λ (t : Bool). t && is_idle b) no)

abbrev pub owned : Turn → Device → Device
owned t d = with_arb (with_turn t d.arb) d

-- so parts 3 to 7 leave everything, and the switch stays open.
pub parts_owned : (d : Device) → d.arb.reserve ≡ d.side0.rt → d.bus.idle ≡ 0 → d.side0.contr.busconnect ≡ false
    → let x : Device = owned (Owns Zero Sole) d in connect NoClock (grant (claim (cut false (losses x)))) ≡ switched Apart x
unfolding losses losses_from cut cut_from claim grant grant_from connect connect_from
parts_owned d whole none off =
    let x : Device = owned (Owns Zero Sole) d in
    ap (λ (l : Device). connect NoClock (grant (claim (cut false l))))
    (if_false (lost Zero x) x (unexpired d.kind d.side0 d.arb.reserve d.bus whole none))
    ∙ if_false (kept_joined NoClock Zero d.arb.switch x) (switched Apart x) off

-- ---- master 1's events

-- what such an event leaves
abbrev pub left : Event → Device → Device
left e d = switched Apart (mid e d)

pub levels_none : (before : Bus) (d : Device) → d.bus.idle ≡ 0 → (levels false before d).bus.idle ≡ 0
unfolding levels
levels_none before d none = either (λ (n : ℕ). n ≡ 0) (not (busy_after false before d.bus) && scl_high d.bus && sda_high d.bus) (λ _. none) (λ _. refl)

-- the six devices after its six events, from one that master 0 owns
abbrev pub x0 : Device → Device
x0 d = owned (Owns Zero Sole) d

abbrev pub x1 : Device → Device
x1 d = left (Command One 0x03) (x0 d)

abbrev pub x2 : Setting → Device → Device
x2 s d = left (Write One s.reserve) (x1 d)

abbrev pub x3 : Setting → Device → Device
x3 s d = left (Stop One) (x2 s d)

abbrev pub x4 : Setting → Device → Device
x4 s d = left (Command One 0x01) (x3 s d)

abbrev pub x5 : Setting → Device → Device
x5 s d = left (Write One (control_byte s)) (x4 s d)

abbrev pub x6 : Setting → Device → Device
x6 s d = left (Stop One) (x5 s d)

second_led : (d : Device) (s : Setting) → d.arb.reserve ≡ d.side0.rt → d.bus.idle ≡ 0 → d.side0.contr.busconnect ≡ false
    → seen (x0 d) (setting_events 1 s) ≡ done (done (done (done (done (done (seen (x6 s d) []))))))
unfolding own_written mail_written drives_written turn_written decode in_sequence acknowledged outcome commanded written effect levels
    parts taken step_event step_decoded step
second_led d s whole none off =
    let n1 = levels_none (x0 d).bus (effect (Command One 0x03) (x0 d)) none in
    let n2 = levels_none (x1 d).bus (effect (Write One s.reserve) (x1 d)) n1 in
    let n3 = levels_none (x2 s d).bus (effect (Stop One) (x2 s d)) n2 in
    let n4 = levels_none (x3 s d).bus (effect (Command One 0x01) (x3 s d)) n3 in
    let n5 = levels_none (x4 s d).bus (effect (Write One (control_byte s)) (x4 s d)) n4 in
    let n6 = levels_none (x5 s d).bus (effect (Stop One) (x5 s d)) n5 in
    let r2 : Raw = write 1 s.reserve in
    let r5 : Raw = write 1 (control_byte s) in
    seen_more (x0 d) (x1 d) (command 1 0x03) (r2 ∷ stop 1 ∷ command 1 0x01 ∷ r5 ∷ stop 1 ∷ []) (parts_owned (mid (Command One 0x03) (x0 d)) whole n1 off) refl
    ∙ ap done (seen_more (x1 d) (x2 s d) r2 (stop 1 ∷ command 1 0x01 ∷ r5 ∷ stop 1 ∷ []) (parts_owned (mid (Write One s.reserve) (x1 d)) whole n2 off) refl
    ∙ ap done (seen_more (x2 s d) (x3 s d) (stop 1) (command 1 0x01 ∷ r5 ∷ stop 1 ∷ []) (parts_owned (mid (Stop One) (x2 s d)) whole n3 off) refl
    ∙ ap done (seen_more (x3 s d) (x4 s d) (command 1 0x01) (r5 ∷ stop 1 ∷ []) (parts_owned (mid (Command One 0x01) (x3 s d)) whole n4 off) refl
    ∙ ap done (seen_more (x4 s d) (x5 s d) r5 (stop 1 ∷ []) (parts_owned (mid (Write One (control_byte s)) (x4 s d)) whole n5 off) refl
    ∙ ap done (seen_more (x5 s d) (x6 s d) (stop 1) [] (parts_owned (mid (Stop One) (x5 s d)) whole n6 off) refl)))))

-- So the device after them is the sixth.
pub second_device : (d : Device) (s : Setting) → d.arb.reserve ≡ d.side0.rt → d.bus.idle ≡ 0 → d.side0.contr.busconnect ≡ false
    → run_from (x0 d) (setting_events 1 s) ≡ x6 s d
unfolding own_written mail_written drives_written turn_written decode in_sequence acknowledged outcome commanded written effect levels
    parts taken step_event step_decoded step run_from
second_device d s whole none off =
    let n1 = levels_none (x0 d).bus (effect (Command One 0x03) (x0 d)) none in
    let n2 = levels_none (x1 d).bus (effect (Write One s.reserve) (x1 d)) n1 in
    let n3 = levels_none (x2 s d).bus (effect (Stop One) (x2 s d)) n2 in
    let n4 = levels_none (x3 s d).bus (effect (Command One 0x01) (x3 s d)) n3 in
    let n5 = levels_none (x4 s d).bus (effect (Write One (control_byte s)) (x4 s d)) n4 in
    let n6 = levels_none (x5 s d).bus (effect (Stop One) (x5 s d)) n5 in
    let r2 : Raw = write 1 s.reserve in
    let r5 : Raw = write 1 (control_byte s) in
    ap (λ (x : Device). run_from x (r2 ∷ stop 1 ∷ command 1 0x01 ∷ r5 ∷ stop 1 ∷ [])) (parts_owned (mid (Command One 0x03) (x0 d)) whole n1 off)
    ∙ ap (λ (x : Device). run_from x (stop 1 ∷ command 1 0x01 ∷ r5 ∷ stop 1 ∷ [])) (parts_owned (mid (Write One s.reserve) (x1 d)) whole n2 off)
    ∙ ap (λ (x : Device). run_from x (command 1 0x01 ∷ r5 ∷ stop 1 ∷ [])) (parts_owned (mid (Stop One) (x2 s d)) whole n3 off)
    ∙ ap (λ (x : Device). run_from x (r5 ∷ stop 1 ∷ [])) (parts_owned (mid (Command One 0x01) (x3 s d)) whole n4 off)
    ∙ ap (λ (x : Device). run_from x (stop 1 ∷ [])) (parts_owned (mid (Write One (control_byte s)) (x4 s d)) whole n5 off)
    ∙ parts_owned (mid (Stop One) (x5 s d)) whole n6 off

abbrev last : Device → ℕ → Bool → Bool → Seen
last d r p i = seen (x6 (setting r p i) d) []

abbrev last_of : Device → ℕ → Bool → Bool → Seen
last_of d r p i = (standing Zero d, as_ordered (setting r p i), Owns Zero Sole, [])

last_computed : (d : Device) (r : ℕ) → table (last d r) ≡ table (last_of d r)
unfolding own_written mail_written drives_written turn_written commanded written effect levels run_from answers_from control_byte
last_computed d r = refl

-- From a device that master 0 owns with its whole reserve and no idle tick, not connected, they leave master 0 as it was.
second : (d : Device) (s : Setting) → d.arb.turn ≡ Owns Zero Sole → d.arb.reserve ≡ d.side0.rt → d.bus.idle ≡ 0 → d.side0.contr.busconnect ≡ false
    → seen d (setting_events 1 s) ≡ (standing Zero d, as_ordered s, Owns Zero Sole, replicate 6 0)
second d s turn whole none off =
    subst (λ (t : Turn). seen (owned t d) (setting_events 1 s) ≡ (standing Zero d, as_ordered s, Owns Zero Sole, replicate 6 0)) (sym turn)
    (second_led d s whole none off
    ∙ ap (λ (x : Seen). done (done (done (done (done (done x))))))
    (at_each (last d s.reserve) (last_of d s.reserve) (last_computed d s.reserve) s.priority s.idle))

-- ---- both

abbrev both : List ℕ → Seen → Outset
both os (s0, s1, t, more) = record { master0 = s0; master1 = s1; turn = t; outcomes = os ++ more }

pub stands_after_reset : StandsAfterReset
unfolding run_from answers_from order_events
stands_after_reset d o =
    let s0 : Setting = o.master0 in
    let s1 : Setting = o.master1 in
    let x : Device = run_from (was_reset 0 d) (setting_events 0 s0) in
    let f : first d s0.reserve s0.priority s0.idle ≡ first_of s0.reserve s0.priority s0.idle =
    at_each (first d s0.reserve) (first_of s0.reserve) (first_computed d s0.reserve) s0.priority s0.idle in
    let rt : x.side0.rt ≡ s0.reserve = ap (λ (t : First). t.0.reserve) f in
    let after : seen x (setting_events 1 s1) ≡ (as_ordered s0, as_ordered s1, Owns Zero Sole, replicate 6 0) =
    second x s1 (ap (λ (t : First). t.1) f) (ap (λ (t : First). t.2) f ∙ sym rt) (ap (λ (t : First). t.3) f) (ap (λ (t : First). t.4) f)
    ∙ ap (λ (t : First). (t.0, as_ordered s1, Owns Zero Sole, replicate 6 0)) f in
    ap₂ both (ap (λ (t : First). t.5) f) after

-- Power-up is such a reset.
pub stands_at_power_up : StandsAtPowerUp
unfolding power_up was_reset
stands_at_power_up k o = stands_after_reset (power_up k) o
