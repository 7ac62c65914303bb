-- The devices of an order's start, field by field: after master 0's six events, after all twelve, and after one of the two has withdrawn and asked
-- again, so that the other holds. The reserves, the settings and the kind are left open.
-- Assumes nothing.
use Prim.Native.Nat.{ℕ}
use mathlib.Core.Path.{◌≡◌, refl, ap, ◌∙◌}
use mathlib.Core.Bool.{Bool, true, false, not, ◌&&◌}
use mathlib.Core.List.{List, [], ◌∷◌, ◌++◌}
use Rattle.arbiter.specs.Rules.{rules_of}
use Rattle.arbiter.specs.Words.{partner}
use Rattle.arbiter.specs.Registers.{own_written, mail_written, drives_written, turn_written}
use Rattle.arbiter.specs.Events.{decode, in_sequence, acknowledged, outcome}
use Rattle.arbiter.specs.Effects.{commanded, written, fresh_side, power_up, effect}
use Rattle.arbiter.specs.Order.{levels, losses_from, losses, cut_from, cut, claim, granted, grant_from, grant, connect_from, connect}
use Rattle.arbiter.specs.Steps.{parts, taken, step_event, step_decoded, step, run_from, run}
use Rattle.arbiter.specs.AuditWords.{next, reset, never}
use Rattle.arbiter.specs.Marks.{command, write, stop}
use Rattle.arbiter.specs.Witnesses.{sets_contr}
use Rattle.arbiter.specs.declared.Master.{Master}
use Rattle.arbiter.specs.declared.Master.TheVariants.{Zero, One}
use Rattle.arbiter.specs.declared.Ground.TheVariants.{Sole}
use Rattle.arbiter.specs.declared.Turn.TheVariants.{Owns}
use Rattle.std.specs.Prelude.{Some}
use Rattle.arbiter.specs.declared.Port.TheVariants.{Rest}
use Rattle.arbiter.specs.declared.Register.TheVariants.{Contr}
use Rattle.arbiter.specs.declared.Switch.TheVariants.{Apart}
use Rattle.arbiter.specs.declared.Side.{Side}
use Rattle.arbiter.specs.declared.Bus.{Bus}
use Rattle.arbiter.specs.declared.Kind.{Kind}
use Rattle.arbiter.specs.declared.Kind.TheVariants.{Pca9641, Tpt29641}
use Rattle.arbiter.specs.declared.Device.{Device}
use Rattle.arbiter.specs.declared.Raw.{Raw}
use Rattle.arbiter.specs.declared.Event.TheVariants.{Command, Write, Stop}
use Rattle.audit.specs.SettingsKept.{stores_rt, writes_to_contr}
use Rattle.sheets.specs.declared.Setting.{Setting}
use Rattle.sheets.specs.declared.Order.{Order}
use Rattle.sheets.specs.Settings.{control_byte, setting_events, order_events}
use Rattle.sheets.specs.Started.{setting}
use Rattle.guarantee.specs.Guarantee.{reserve_in}
use Rattle.arbiter.proofs.Owner.{mid}
use Rattle.arbiter.proofs.Runs.{from_append}
use Rattle.sheets.proofs.Started.{table, at_each, parts_owned, left, x6, second_device}

-- ---- the devices

-- one master: its reserve and settings, whether it asks, and its interrupts; its port at rest and its pointer at CONTR
abbrev pub side_with : ℕ → Bool → Bool → Bool → ℕ → Side
side_with rt priority idle asks ints =
    record {
      pointer = Contr;
      rt = rt;
      contr = record { priority = priority; smbusdis = false; idletimer = idle; swrst = false; businit = false; busconnect = false; lockreq = asks };
      ints = ints;
      mail = record { low = 0; high = 0; full = false };
      auto = false;
      port = Rest;
      mask = 0x7F;
    }

-- an idle bus on which no tick was counted
abbrev pub calm : Bus
calm = record { outscl = true; outsda = true; intin = true; drivescl = true; drivesda = true; busy = false; hold = 0; idle = 0; lowscl = 0; lowsda = 0 }

-- m owns, granted as the sole requester, with such a reserve count
abbrev pub owned_by : Master → ℕ → Kind → Side → Side → Device
owned_by m count k s0 s1 =
    record {
      side0 = s0;
      side1 = s1;
      bus = calm;
      arb = record { last = Some m; initfail = false; switch = Apart; reserve = count; turn = Owns m Sole };
      kind = k;
    }

-- after master 0's six events, and after all twelve: the granted interrupt of master 0 is set
abbrev pub first : Kind → Setting → Device
first k s = owned_by Zero s.reserve k (side_with s.reserve s.priority s.idle true 0x04) fresh_side

abbrev pub started : Kind → Setting → Setting → Device
started k s t =
    owned_by Zero s.reserve k (side_with s.reserve s.priority s.idle true 0x04) (side_with t.reserve t.priority t.idle true 0)

-- ---- the twelve events lead there

first_table : (k : Kind) (r : ℕ) → table (λ (p i : Bool). run_from (power_up k) (setting_events 0 (setting r p i)))
    ≡ table (λ (p i : Bool). first k (setting r p i))
unfolding own_written mail_written drives_written turn_written decode in_sequence acknowledged outcome commanded written fresh_side power_up effect
    levels losses_from losses cut_from cut claim granted grant_from grant connect_from connect
    parts taken step_event step_decoded step run_from control_byte
first_table k r = refl

second_table : (k : Kind) (s : Setting) (r : ℕ) → table (λ (p i : Bool). x6 (setting r p i) (first k s)) ≡ table (λ (p i : Bool). started k s (setting r p i))
unfolding own_written mail_written drives_written turn_written commanded written fresh_side effect levels control_byte
second_table k s r = refl

pub starts : (k : Kind) (o : Order) → run k (order_events o) ≡ started k o.master0 o.master1
unfolding run order_events
starts k o =
    let s : Setting = o.master0 in
    let t : Setting = o.master1 in
    let begun : run_from (power_up k) (setting_events 0 s) ≡ first k s =
    at_each (λ (p i : Bool). run_from (power_up k) (setting_events 0 (setting s.reserve p i))) (λ (p i : Bool). first k (setting s.reserve p i))
    (first_table k s.reserve) s.priority s.idle in
    from_append (setting_events 0 s) (setting_events 1 t) (power_up k)
    ∙ ap (λ (x : Device). run_from x (setting_events 1 t)) begun
    ∙ second_device (first k s) t refl refl refl
    ∙ at_each (λ (p i : Bool). x6 (setting t.reserve p i) (first k s)) (λ (p i : Bool). started k s (setting t.reserve p i))
    (second_table k s t.reserve) t.priority t.idle

-- ---- one withdraws and asks again, and the other holds with a reserve of 0

-- m's partner withdraws and asks again
abbrev pub again : Master → List Raw
again m = sets_contr (partner m) 0x00 ++ sets_contr (partner m) 0x01

-- None of it is a byte of m's in CONTR, from whatever device.
none_then : (a c : Bool) → c ≡ true → not (a && false) && c ≡ true
none_then true c h = h
none_then false c h = h

unwritten_sets : (m : Master) (v : ℕ) (rs : List Raw) (d : Device) → never (writes_to_contr m) (run_from d (sets_contr (partner m) v)) rs ≡ true
    → never (writes_to_contr m) d (sets_contr (partner m) v ++ rs) ≡ true
unfolding never decode run_from
unwritten_sets Zero v rs d h =
    let x : Device = next d (command 1 0x01) in
    let y : Device = next x (write 1 v) in
    none_then (in_sequence (Command One 0x01) d) _ (none_then (in_sequence (Write One v) x) _ (none_then (in_sequence (Stop One) y) _ h))
unwritten_sets One v rs d h =
    let x : Device = next d (command 0 0x01) in
    let y : Device = next x (write 0 v) in
    none_then (in_sequence (Command Zero 0x01) d) _ (none_then (in_sequence (Write Zero v) x) _ (none_then (in_sequence (Stop Zero) y) _ h))

pub again_unwritten : (m : Master) (d : Device) → never (writes_to_contr m) d (again m) ≡ true
unfolding never
again_unwritten m d = unwritten_sets m 0x00 (sets_contr (partner m) 0x01) d (unwritten_sets m 0x01 [] (run_from d (sets_contr (partner m) 0x00)) refl)

-- then m holds, with its own setting and that of its partner, of which only the reserve is left
abbrev pub holding : Master → Kind → Setting → Setting → Device
holding Zero k s t = owned_by Zero 0 k (side_with 0 s.priority s.idle true 0x04) (side_with t.reserve false false true 0)
holding One k s t = owned_by One 0 k (side_with s.reserve false false true 0x04) (side_with 0 t.priority t.idle true 0x04)

-- what is seen of some events from a device on: the device after them, and that none was a reset or was stored in m's RT
abbrev pub Came : Type 0
Came = Device × Bool × Bool

abbrev pub came : Master → List Raw → Device → Came
came m rs d = (run_from d rs, never reset d rs, never (stores_rt m) d rs)

-- with the reserve of master 0 at 0 it loses only by its idle count, which is 0
zero_again : (k : Kind) (p i : Bool) (t : Setting) → came Zero (again Zero) (started k (setting 0 p i) t) ≡ (holding Zero k (setting 0 p i) t, true, true)
unfolding rules_of own_written mail_written drives_written turn_written decode in_sequence acknowledged outcome commanded written effect
    levels losses_from losses cut_from cut claim grant_from grant connect_from connect parts taken step_event step_decoded step run_from never
zero_again Pca9641 p true t = refl
zero_again Pca9641 p false t = refl
zero_again Tpt29641 p true t = refl
zero_again Tpt29641 p false t = refl

-- Master 0's COMMAND leaves all but its port and pointer, since its reserve is whole and no tick was counted,
one_command : (k : Kind) (s t : Setting) → next (started k s t) (command 0 1) ≡ left (Command Zero 0x01) (started k s t)
unfolding decode in_sequence acknowledged outcome commanded effect levels parts taken step_event step_decoded step
one_command k s t = parts_owned (mid (Command Zero 0x01) (started k s t)) refl refl refl

-- and its byte then ends its grant, so that master 1 is granted.
one_rest : (k : Kind) (s : Setting) (p i : Bool)
    → came One (write 0 0x00 ∷ stop 0 ∷ sets_contr Zero 0x01) (left (Command Zero 0x01) (started k s (setting 0 p i)))
    ≡ (holding One k s (setting 0 p i), true, true)
unfolding rules_of own_written mail_written drives_written turn_written decode in_sequence acknowledged outcome commanded written effect
    levels losses_from losses cut_from cut claim granted grant_from grant connect_from connect parts taken step_event step_decoded step run_from never
one_rest Pca9641 s p true = refl
one_rest Pca9641 s p false = refl
one_rest Tpt29641 s p true = refl
one_rest Tpt29641 s p false = refl

one_again : (k : Kind) (s : Setting) (p i : Bool) → came One (again One) (started k s (setting 0 p i)) ≡ (holding One k s (setting 0 p i), true, true)
unfolding decode in_sequence run_from never
one_again k s p i = ap (came One (write 0 0x00 ∷ stop 0 ∷ sets_contr Zero 0x01)) (one_command k s (setting 0 p i)) ∙ one_rest k s p i

-- So it is after the twelve events of every order that gives m a reserve of 0.
pub holds_again : (k : Kind) (o : Order) (m : Master) → reserve_in m o ≡ 0
    → came m (again m) (run k (order_events o)) ≡ (holding m k o.master0 o.master1, true, true)
holds_again k o Zero none =
    ap (came Zero (again Zero)) (starts k o ∙ ap (λ (r : ℕ). started k (setting r o.master0.priority o.master0.idle) o.master1) none)
    ∙ zero_again k o.master0.priority o.master0.idle o.master1
holds_again k o One none =
    ap (came One (again One)) (starts k o ∙ ap (λ (r : ℕ). started k o.master0 (setting r o.master1.priority o.master1.idle)) none)
    ∙ one_again k o.master0 o.master1.priority o.master1.idle
