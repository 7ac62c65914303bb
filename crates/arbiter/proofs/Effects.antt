-- Part 1 of a step, seen from one master: what an event's own effect does to its request, its RT and its port, to the turn and to the counts.
-- Assumes nothing.
use mathlib.Core.Path.{◌≡◌, refl, sym, ap, ◌∙◌}
use mathlib.Core.Bool.{true≢false, false≢true, and-false}
use Rattle.std.specs.Prelude.{◌&&◌, ◌||◌, if◌then◌else◌}
use Rattle.arbiter.specs.Types.{ℕ, Bool, true, false, not, Master, Zero, One, Turn, Nobody, Claims, Owns, Port, Open, Register, Id, Contr}
use Rattle.arbiter.specs.Types.{Status, Rt, IntStatus, IntMask, MailLow, MailHigh, Side, Bus, Device, Event, Command, Write, Read, Stop, Pair, Lines}
use Rattle.arbiter.specs.Types.{Tick, Pulse, Reset, GeneralCall}
use Rattle.arbiter.specs.Rules.{rolls}
use Rattle.arbiter.specs.Words.{bit, partner, side}
use Rattle.arbiter.specs.Parts.{with_port}
use Rattle.arbiter.specs.State.{owns_turn, owns, at_rest}
use Rattle.arbiter.specs.Registers.{withdraws, own_written, mail_written, drives_written, turn_written}
use Rattle.arbiter.specs.Events.{good_command, soft_reset}
use Rattle.arbiter.specs.Effects.{commanded, write_risen, reader_side, written, paired, was_read, lined, ticked, was_reset, hold_asked, effect}
use Rattle.arbiter.specs.Order.{is_reset, is_tick}
use Rattle.arbiter.specs.AuditWords.{is_contr, clears_request, lets_go, is_stop_of}
use Rattle.arbiter.proofs.Choice.{either, of_either}

-- ---- what a side shows to the later parts

-- a side's request, its idle timer, its RT, its port and its priority
abbrev pub kept : Side → Bool × Bool × ℕ × Port × Bool
kept s = (s.contr.lockreq, s.contr.idletimer, s.rt, s.port, s.contr.priority)

-- ---- a written byte, register by register

-- The partner's byte brings mail, and leaves these.
pub mail_kept : (r : Register) (v : ℕ) (s : Side) → kept (mail_written r v s) ≡ kept s
unfolding mail_written
mail_kept Id v s = refl
mail_kept Contr v s = refl
mail_kept Status v s = refl
mail_kept Rt v s = refl
mail_kept IntStatus v s = refl
mail_kept IntMask v s = refl
mail_kept MailLow v s = either (λ (x : Side). kept x ≡ kept s) s.mail.full (λ h. refl) (λ h. refl)
mail_kept MailHigh v s = either (λ (x : Side). kept x ≡ kept s) s.mail.full (λ h. refl) (λ h. refl)

-- One's own byte changes the request in CONTR alone,
own_request : (g : Bool) (r : Register) (v : ℕ) (s : Side) → (own_written g r v s).contr.lockreq ≡ (if is_contr r then bit 0 v else s.contr.lockreq)
unfolding own_written
own_request g Id v s = refl
own_request g Contr v s = either (λ (x : Side). x.contr.lockreq ≡ bit 0 v) (withdraws g v) (λ h. refl) (λ h. refl)
own_request g Status v s = refl
own_request g Rt v s = either (λ (x : Side). x.contr.lockreq ≡ s.contr.lockreq) g (λ h. refl) (λ h. refl)
own_request g IntStatus v s = refl
own_request g IntMask v s = refl
own_request g MailLow v s = refl
own_request g MailHigh v s = refl

-- leaves the RT of a granted master,
own_rt : (r : Register) (v : ℕ) (s : Side) → (own_written true r v s).rt ≡ s.rt
unfolding own_written
own_rt Id v s = refl
own_rt Contr v s = either (λ (x : Side). x.rt ≡ s.rt) (withdraws true v) (λ h. refl) (λ h. refl)
own_rt Status v s = refl
own_rt Rt v s = refl
own_rt IntStatus v s = refl
own_rt IntMask v s = refl
own_rt MailLow v s = refl
own_rt MailHigh v s = refl

-- and leaves the port.
own_port : (g : Bool) (r : Register) (v : ℕ) (s : Side) → (own_written g r v s).port ≡ s.port
unfolding own_written
own_port g Id v s = refl
own_port g Contr v s = either (λ (x : Side). x.port ≡ s.port) (withdraws g v) (λ h. refl) (λ h. refl)
own_port g Status v s = refl
own_port g Rt v s = either (λ (x : Side). x.port ≡ s.port) g (λ h. refl) (λ h. refl)
own_port g IntStatus v s = refl
own_port g IntMask v s = refl
own_port g MailLow v s = refl
own_port g MailHigh v s = refl

risen_kept : (rolls : Bool) (s : Side) → kept (write_risen rolls s) ≡ kept s
risen_kept rolls s = either (λ (x : Side). kept x ≡ kept s) s.auto (λ h. refl) (λ h. refl)

-- ---- one side

-- What an event's own effect does to a side s, which is n after it. `off` says that its own byte clears its request, `stop` that its own
-- STOP comes, `granted` that its master owns.
pub record Moved (off stop granted : Bool) (s n : Side) : Type 0 where
  pub falls : off ≡ true → n.contr.lockreq ≡ false
  pub stands : off ≡ false → s.contr.lockreq ≡ true → n.contr.lockreq ≡ true
  pub keeps : granted ≡ true → n.rt ≡ s.rt
  pub opened : stop ≡ false → at_rest s.port ≡ false → at_rest n.port ≡ false

-- A side that keeps the four does all this,
unmoved : (stop granted : Bool) {s n : Side} → kept n ≡ kept s → Moved false stop granted s n
unmoved stop granted e =
    record {
      falls = λ h. absurd (false≢true h);
      stands = λ h q. ap (λ k. k.0) e ∙ q;
      keeps = λ h. ap (λ k. k.2) e;
      opened = λ h o. ap (λ k. at_rest k.3) e ∙ o;
    }

-- and keeps what was done to it.
moved_kept : {off stop granted : Bool} {s : Side} (n k : Side) → kept k ≡ kept n → Moved off stop granted s n → Moved off stop granted s k
moved_kept n k e h =
    record {
      falls = λ o. ap (λ k. k.0) e ∙ h.falls o;
      stands = λ o q. ap (λ k. k.0) e ∙ h.stands o q;
      keeps = λ g. ap (λ k. k.2) e ∙ h.keeps g;
      opened = λ o p. ap (λ k. at_rest k.3) e ∙ h.opened o p;
    }

-- A byte in CONTR with bit 0 clear takes the request away, and no other byte does.
byte_falls : (contr b q : Bool) → contr && not b ≡ true → (if contr then b else q) ≡ false
byte_falls true true q h = absurd (false≢true h)
byte_falls true false q h = refl
byte_falls false b q h = absurd (false≢true h)

byte_stands : (contr b q : Bool) → contr && not b ≡ false → q ≡ true → (if contr then b else q) ≡ true
byte_stands true true q h k = refl
byte_stands true false q h k = absurd (true≢false h)
byte_stands false b q h k = k

-- a side's own byte
writer_moved : (rolls granted : Bool) (v : ℕ) (s : Side) → Moved (clears_request v s) false granted s (write_risen rolls (own_written granted s.pointer v s))
writer_moved rolls granted v s =
    let n : Side = own_written granted s.pointer v s in
    moved_kept n (write_risen rolls n) (risen_kept rolls n)
    (record {
      falls = λ h. own_request granted s.pointer v s ∙ byte_falls (is_contr s.pointer) (bit 0 v) s.contr.lockreq h;
      stands = λ h q. own_request granted s.pointer v s ∙ byte_stands (is_contr s.pointer) (bit 0 v) s.contr.lockreq h q;
      keeps = λ g. ap (λ x. (own_written x s.pointer v s).rt) g ∙ own_rt s.pointer v s;
      opened = λ h o. ap at_rest (own_port granted s.pointer v s) ∙ o;
    })

-- COMMAND and READ leave one's port open.
opens : (granted : Bool) (s n : Side) → n.contr.lockreq ≡ s.contr.lockreq → n.rt ≡ s.rt → at_rest n.port ≡ false
    → Moved false false granted s n
opens granted s n q r o = record { falls = λ h. absurd (false≢true h); stands = λ h k. q ∙ k; keeps = λ h. r; opened = λ h k. o }

commanded_moved : (granted : Bool) (c : ℕ) (s : Side) → Moved false false granted s (commanded c s)
unfolding commanded
commanded_moved granted c s =
    either (Moved false false granted s) (good_command c) (λ h. opens granted s _ refl refl refl) (λ h. opens granted s _ refl refl refl)

read_moved : (granted : Bool) (s : Side) → Moved false false granted s (reader_side s)
read_moved granted s =
    either (λ (x : Side). Moved false false granted s (with_port Open x)) s.auto (λ h. opens granted s _ refl refl refl)
    (λ h. opens granted s _ refl refl refl)

-- ---- both sides

-- What an event that is no reset does to m's side.
pub effect_side : (m : Master) (e : Event) (d : Device) → is_reset e ≡ false
    → Moved (lets_go m e d) (is_stop_of m e) (owns m d) (side m d) (side m (effect e d))
unfolding effect written paired was_read lined ticked
effect_side m (Command k c) d h =
    of_either (λ (j : Master) (same : Bool) (x y : Side). Moved false false (owns j d) x y) m k d _ _
    (commanded_moved (owns k d) c (side k d)) (unmoved false (owns (partner k) d) refl)
effect_side m (Write k v) d h =
    of_either (λ (j : Master) (same : Bool) (x y : Side). Moved (same && clears_request v x) false (owns j d) x y) m k d _ _
    (writer_moved (rolls d) (owns k d) v (side k d)) (unmoved false (owns (partner k) d) (mail_kept (side k d).pointer v (side (partner k) d)))
effect_side m (Read k) d h =
    of_either (λ (j : Master) (same : Bool) (x y : Side). Moved false false (owns j d) x y) m k d _ _
    (read_moved (owns k d) (side k d)) (unmoved false (owns (partner k) d) refl)
effect_side m (Stop k) d h =
    of_either (λ (j : Master) (same : Bool) (x y : Side). Moved false same (owns j d) x y) m k d _ _
    (record { falls = λ o. absurd (false≢true o); stands = λ o q. q; keeps = λ g. refl; opened = λ o p. absurd (true≢false o) })
    (unmoved false (owns (partner k) d) refl)
effect_side Zero (Pair v0 v1) d h = moved_kept _ _ (mail_kept d.side1.pointer v1 _) (writer_moved (rolls d) (owns Zero d) v0 d.side0)
effect_side One (Pair v0 v1) d h = moved_kept _ _ (mail_kept d.side0.pointer v0 _) (writer_moved (rolls d) (owns One d) v1 d.side1)
effect_side Zero (Lines scl sda intin) d h = unmoved false (owns Zero d) refl
effect_side One (Lines scl sda intin) d h = unmoved false (owns One d) refl
effect_side m Tick d h = unmoved false (owns m d) refl
effect_side m (Pulse sda) d h = unmoved false (owns m d) refl
effect_side m Reset d h = absurd (true≢false h)
effect_side m (GeneralCall k b) d h =
    either (λ (n : Device). Moved false false (owns m d) (side m d) (side m n)) (soft_reset b) (λ r. absurd (true≢false (sym r ∙ h)))
    (λ r. unmoved false (owns m d) refl)

-- ---- the turn

-- A byte of k's changes the turn only if it goes to CONTR, k owns, and its bit 0 is clear.
turn_written_lem : (g : Bool) (r : Register) (v : ℕ) (t : Turn) → turn_written g r v t ≡ (if is_contr r && withdraws g v then Nobody else t)
unfolding turn_written
turn_written_lem g Id v t = refl
turn_written_lem g Contr v t = refl
turn_written_lem g Status v t = refl
turn_written_lem g Rt v t = refl
turn_written_lem g IntStatus v t = refl
turn_written_lem g IntMask v t = refl
turn_written_lem g MailLow v t = refl
turn_written_lem g MailHigh v t = refl

-- Who is not granted keeps the turn as it is.
turn_unwritten : (r : Register) (v : ℕ) (t : Turn) → turn_written false r v t ≡ t
turn_unwritten r v t = turn_written_lem false r v t ∙ ap (λ (b : Bool). if b then Nobody else t) (and-false (is_contr r))

-- the owner, if there is one, lets go
abbrev pub owner_lets_go : Turn → Event → Device → Bool
owner_lets_go Nobody e d = false
owner_lets_go (Claims m g) e d = false
owner_lets_go (Owns m g) e d = lets_go m e d

byte_turn : (k : Master) (v : ℕ) (d : Device) (t : Turn)
    → turn_written (owns_turn k t) (side k d).pointer v t ≡ (if owner_lets_go t (Write k v) d then Nobody else t)
byte_turn k v d Nobody = turn_unwritten (side k d).pointer v Nobody
byte_turn k v d (Claims m g) = turn_unwritten (side k d).pointer v (Claims m g)
byte_turn Zero v d (Owns Zero g) = turn_written_lem true d.side0.pointer v (Owns Zero g)
byte_turn Zero v d (Owns One g) = turn_unwritten d.side0.pointer v (Owns One g)
byte_turn One v d (Owns Zero g) = turn_unwritten d.side1.pointer v (Owns Zero g)
byte_turn One v d (Owns One g) = turn_written_lem true d.side1.pointer v (Owns One g)

pair_turn : (v0 v1 : ℕ) (d : Device) (t : Turn)
    → turn_written (owns_turn One t) d.side1.pointer v1 (turn_written (owns_turn Zero t) d.side0.pointer v0 t)
    ≡ (if owner_lets_go t (Pair v0 v1) d then Nobody else t)
pair_turn v0 v1 d Nobody = turn_unwritten d.side1.pointer v1 _ ∙ turn_unwritten d.side0.pointer v0 Nobody
pair_turn v0 v1 d (Claims m g) = turn_unwritten d.side1.pointer v1 _ ∙ turn_unwritten d.side0.pointer v0 (Claims m g)
pair_turn v0 v1 d (Owns Zero g) = turn_unwritten d.side1.pointer v1 _ ∙ turn_written_lem true d.side0.pointer v0 (Owns Zero g)
pair_turn v0 v1 d (Owns One g) =
    ap (turn_written true d.side1.pointer v1) (turn_unwritten d.side0.pointer v0 (Owns One g)) ∙ turn_written_lem true d.side1.pointer v1 (Owns One g)

-- Where nobody can let go, the owner does not.
no_byte : (e : Event) (d : Device) (t : Turn) → ((m : Master) → lets_go m e d ≡ false) → t ≡ (if owner_lets_go t e d then Nobody else t)
no_byte e d Nobody h = refl
no_byte e d (Claims m g) h = refl
no_byte e d (Owns m g) h = ap (λ (b : Bool). if b then Nobody else Owns m g) (sym (h m))

-- The turn stays, unless a reset comes or the owner lets go.
pub effect_turn : (e : Event) (d : Device) → (effect e d).arb.turn ≡ (if is_reset e || owner_lets_go d.arb.turn e d then Nobody else d.arb.turn)
unfolding effect written paired was_read lined ticked was_reset
effect_turn (Command k c) d = no_byte (Command k c) d d.arb.turn λ m. refl
effect_turn (Write k v) d = byte_turn k v d d.arb.turn
effect_turn (Read k) d = no_byte (Read k) d d.arb.turn λ m. refl
effect_turn (Stop k) d = no_byte (Stop k) d d.arb.turn λ m. refl
effect_turn (Pair v0 v1) d = pair_turn v0 v1 d d.arb.turn
effect_turn (Lines scl sda intin) d = no_byte (Lines scl sda intin) d d.arb.turn λ m. refl
effect_turn Tick d = no_byte Tick d d.arb.turn λ m. refl
effect_turn (Pulse sda) d = no_byte (Pulse sda) d d.arb.turn λ m. refl
effect_turn Reset d = refl
effect_turn (GeneralCall k b) d = go (soft_reset b)
  where
    go : (r : Bool) → (if r then was_reset (hold_asked (side k d)) d else d).arb.turn
        ≡ (if r || owner_lets_go d.arb.turn (GeneralCall k b) d then Nobody else d.arb.turn)
    go true = refl
    go false = no_byte (GeneralCall k b) d d.arb.turn λ m. refl

-- ---- the counts

-- the hold, the idle count, the reserve count and the low counts of SCL and SDA
abbrev pub counts : Device → ℕ × ℕ × ℕ × ℕ × ℕ
counts d = (d.bus.hold, d.bus.idle, d.arb.reserve, d.bus.lowscl, d.bus.lowsda)

-- those that the bus has
abbrev bus_counts : Bus → ℕ × ℕ × ℕ × ℕ
bus_counts b = (b.hold, b.idle, b.lowscl, b.lowsda)

-- A written byte leaves them.
drives_counts : (g c : Bool) (r : Register) (v : ℕ) (b : Bus) → bus_counts (drives_written g c r v b) ≡ bus_counts b
unfolding drives_written
drives_counts g c Id v b = refl
drives_counts g c Contr v b = either (λ (x : Bus). bus_counts x ≡ bus_counts b) (g && (bit 2 v || not (bit 0 v))) (λ h. refl) (λ h. refl)
drives_counts g c Status v b = either (λ (x : Bus). bus_counts x ≡ bus_counts b) (g && not c) (λ h. refl) (λ h. refl)
drives_counts g c Rt v b = refl
drives_counts g c IntStatus v b = refl
drives_counts g c IntMask v b = refl
drives_counts g c MailLow v b = refl
drives_counts g c MailHigh v b = refl

-- An event that is no reset leaves the counts, and a tick takes one from the hold and the reserve and counts the idle bus and the low lines.
pub effect_counts : (e : Event) (d : Device) → is_reset e ≡ false → counts (effect e d) ≡ (if is_tick e then counts (ticked d) else counts d)
unfolding effect written paired was_read lined
effect_counts (Command k c) d h = refl
effect_counts (Write k v) d h =
    ap (λ b. (b.0, b.1, d.arb.reserve, b.2, b.3)) (drives_counts (owns k d) (side k d).contr.busconnect (side k d).pointer v d.bus)
effect_counts (Read k) d h = refl
effect_counts (Stop k) d h = refl
effect_counts (Pair v0 v1) d h =
    ap (λ b. (b.0, b.1, d.arb.reserve, b.2, b.3))
    (drives_counts (owns One d) d.side1.contr.busconnect d.side1.pointer v1 _
    ∙ drives_counts (owns Zero d) d.side0.contr.busconnect d.side0.pointer v0 d.bus)
effect_counts (Lines scl sda intin) d h = refl
effect_counts Tick d h = refl
effect_counts (Pulse sda) d h = refl
effect_counts Reset d h = absurd (true≢false h)
effect_counts (GeneralCall k b) d h = either (λ (n : Device). counts n ≡ counts d) (soft_reset b) (λ r. absurd (true≢false (sym r ∙ h))) (λ r. refl)
