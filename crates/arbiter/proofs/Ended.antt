-- "BUS_CONNECT is cleared whenever a grant ends": a step after which m no longer owns leaves m's BUS_CONNECT 0, whatever the device was.
-- Assumes nothing.
use mathlib.Core.Path.{◌≡◌, refl, sym, ap, ◌∙◌}
use mathlib.Core.Bool.{Bool, true, false, not, ◌&&◌, true≢false, false≢true, and-eq-true_iff, and-not_self}
use borrow.Author.Tests.{not-true}
use Rattle.arbiter.specs.Types.{ℕ, Master, Zero, One, Ground, Turn, Nobody, Claims, Owns, Register, Id, Contr, Status, Rt, IntStatus, IntMask, MailLow}
use Rattle.arbiter.specs.Types.{MailHigh, Control, Side, Clock, Device, Event, Command, Write, Read, Stop, Pair, Lines, Tick, Pulse, Reset, GeneralCall}
use Rattle.arbiter.specs.Types.{Stepped}
use Rattle.arbiter.specs.Rules.{idle_limit, rolls}
use Rattle.arbiter.specs.Words.{partner, same_master, side, device}
use Rattle.arbiter.specs.Parts.{with_contr, with_side}
use Rattle.arbiter.specs.State.{owns_turn, owns}
use Rattle.arbiter.specs.Registers.{disconnected, withdraws, control_of, own_written, mail_written, turn_written}
use Rattle.arbiter.specs.Events.{soft_reset}
use Rattle.arbiter.specs.Effects.{write_risen, partner_side, hold_asked, written, paired, was_read, lined, ticked, fresh_side, was_reset, effect}
use Rattle.arbiter.specs.Order.{is_reset, is_tick, clock_of, levels, runs_out, lost, losses_from, losses, cut_from, cut, claim_after, claim, granted}
use Rattle.arbiter.specs.Order.{grant_from}
use Rattle.arbiter.specs.Order.{grant, connect}
use Rattle.arbiter.specs.Steps.{parts, taken, refused}
use Rattle.arbiter.specs.Audit.{EndsDisconnected}
use Rattle.arbiter.proofs.Choice.{either, split, if_true, if_false}
use Rattle.arbiter.proofs.Cases.{cut_cases, new_cases, claim_cases, grant_cases, connect_cases, step_cases}
use Rattle.arbiter.proofs.Connected.{asks_on, partner_not}

-- ---- what is kept from part to part: m owns, or its BUS_CONNECT is 0

abbrev Off : Master → Device → Type 0
Off m d = owns m d ≡ false → asks_on m d ≡ false

-- an owner is so
owner_off : (m : Master) (d : Device) → owns m d ≡ true → Off m d
owner_off m d o h = absurd (true≢false (sym o ∙ h))

-- ---- part 1: a byte

-- m's own byte ends its grant only where it clears BUS_CONNECT
byte_off : (m : Master) (g : Bool) (r : Register) (v : ℕ) (s : Side) (t : Turn) → owns_turn m t ≡ true
    → owns_turn m (turn_written g r v t) ≡ false → (own_written g r v s).contr.busconnect ≡ false
unfolding turn_written own_written
byte_off m g Id v s t o h = absurd (true≢false (sym o ∙ h))
byte_off m g Contr v s t o h =
    split (withdraws g v)
    (λ w. ap (λ (x : Side). x.contr.busconnect) (if_true (disconnected (with_contr (control_of v) s)) (with_contr (control_of v) s) w))
    (λ w. absurd (true≢false (sym o ∙ ap (owns_turn m) (sym (if_false Nobody t w)) ∙ h)))
byte_off m g Status v s t o h = absurd (true≢false (sym o ∙ h))
byte_off m g Rt v s t o h = absurd (true≢false (sym o ∙ h))
byte_off m g IntStatus v s t o h = absurd (true≢false (sym o ∙ h))
byte_off m g IntMask v s t o h = absurd (true≢false (sym o ∙ h))
byte_off m g MailLow v s t o h = absurd (true≢false (sym o ∙ h))
byte_off m g MailHigh v s t o h = absurd (true≢false (sym o ∙ h))

-- the byte of one who does not own leaves the turn
pub turn_left : (r : Register) (v : ℕ) (t : Turn) → turn_written false r v t ≡ t
unfolding turn_written
turn_left Id v t = refl
turn_left Contr v t = refl
turn_left Status v t = refl
turn_left Rt v t = refl
turn_left IntStatus v t = refl
turn_left IntMask v t = refl
turn_left MailLow v t = refl
turn_left MailHigh v t = refl

-- neither the pointer's rise nor the partner's mail changes CONTR
pub risen_contr : (rolls : Bool) (s : Side) → (write_risen rolls s).contr ≡ s.contr
risen_contr rolls s = either (λ (x : Side). x.contr ≡ s.contr) s.auto (λ h. refl) (λ h. refl)

pub mail_contr : (r : Register) (v : ℕ) (s : Side) → (mail_written r v s).contr ≡ s.contr
unfolding mail_written
mail_contr Id v s = refl
mail_contr Contr v s = refl
mail_contr Status v s = refl
mail_contr Rt v s = refl
mail_contr IntStatus v s = refl
mail_contr IntMask v s = refl
mail_contr MailLow v s = either (λ (x : Side). x.contr ≡ s.contr) s.mail.full (λ h. refl) (λ h. refl)
mail_contr MailHigh v s = either (λ (x : Side). x.contr ≡ s.contr) s.mail.full (λ h. refl) (λ h. refl)

-- what holds of m and of its partner holds of either master
pub any_master : (P : Master → Type 0) (m : Master) → P m → P (partner m) → (k : Master) → P k
any_master P Zero mine other Zero = mine
any_master P Zero mine other One = other
any_master P One mine other Zero = other
any_master P One mine other One = mine

-- the device of m's side s has it as m's
asks_mine : (m : Master) (s p : Side) (d : Device) → asks_on m (device m s p d.bus d.arb d) ≡ s.contr.busconnect
asks_mine Zero s p d = refl
asks_mine One s p d = refl

-- a WRITE: its writer's own, or the partner's, which leaves the turn
write_off : (m : Master) (v : ℕ) (d : Device) → owns m d ≡ true → (k : Master) → Off m (written k v d)
unfolding written
write_off m v d o = any_master (λ (k : Master). Off m (written k v d)) m mine other
  where
    s : Side
    s = own_written (owns m d) (side m d).pointer v (side m d)

    mine : Off m (written m v d)
    mine h =
        asks_mine m (write_risen (rolls d) s) (partner_side m v d (side (partner m) d)) d ∙ ap (λ (c : Control). c.busconnect) (risen_contr (rolls d) s)
        ∙ byte_off m (owns m d) (side m d).pointer v (side m d) d.arb.turn o h

    other : Off m (written (partner m) v d)
    other =
        owner_off m (written (partner m) v d)
        (ap (λ (g : Bool). owns_turn m (turn_written g (side (partner m) d).pointer v d.arb.turn)) (partner_not m d.arb.turn o)
        ∙ ap (owns_turn m) (turn_left (side (partner m) d).pointer v d.arb.turn) ∙ o)

-- a PAIR: both
pair_off : (m : Master) (v0 v1 : ℕ) (d : Device) → owns m d ≡ true → Off m (paired v0 v1 d)
unfolding paired
pair_off Zero v0 v1 d o h =
    let p0 : Register = d.side0.pointer in
    let p1 : Register = d.side1.pointer in
    let t : Turn = d.arb.turn in
    let after : Turn = turn_written (owns Zero d) p0 v0 t in
    let s : Side = own_written (owns Zero d) p0 v0 d.side0 in
    let left = ap (λ (g : Bool). turn_written g p1 v1 after) (partner_not Zero t o) ∙ turn_left p1 v1 after in
    ap (λ (c : Control). c.busconnect) (mail_contr p1 v1 (write_risen (rolls d) s) ∙ risen_contr (rolls d) s)
    ∙ byte_off Zero (owns Zero d) p0 v0 d.side0 t o (ap (owns_turn Zero) (sym left) ∙ h)
pair_off One v0 v1 d o h =
    let p0 : Register = d.side0.pointer in
    let p1 : Register = d.side1.pointer in
    let t : Turn = d.arb.turn in
    let s : Side = own_written (owns One d) p1 v1 d.side1 in
    let left = ap (λ (g : Bool). turn_written g p0 v0 t) (partner_not One t o) ∙ turn_left p0 v0 t in
    ap (λ (c : Control). c.busconnect) (mail_contr p0 v0 (write_risen (rolls d) s) ∙ risen_contr (rolls d) s)
    ∙ byte_off One (owns One d) p1 v1 d.side1 t o (ap (λ (x : Turn). owns_turn One (turn_written (owns One d) p1 v1 x)) (sym left) ∙ h)

-- ---- part 1: every event

-- a reset clears it
reset_off : (m : Master) (hold : ℕ) (d : Device) → asks_on m (was_reset hold d) ≡ false
unfolding was_reset fresh_side
reset_off Zero hold d = refl
reset_off One hold d = refl

-- no other event touches the turn
effect_off : (m : Master) (e : Event) (d : Device) → owns m d ≡ true → Off m (effect e d)
unfolding effect was_read lined ticked
effect_off m (Command k c) d o = owner_off m (effect (Command k c) d) o
effect_off m (Write k v) d o = write_off m v d o k
effect_off m (Read k) d o = owner_off m (effect (Read k) d) o
effect_off m (Stop k) d o = owner_off m (effect (Stop k) d) o
effect_off m (Pair v0 v1) d o = pair_off m v0 v1 d o
effect_off m (Lines scl sda intin) d o = owner_off m (effect (Lines scl sda intin) d) o
effect_off m Tick d o = owner_off m (effect Tick d) o
effect_off m (Pulse sda) d o = owner_off m d o
effect_off m Reset d o = λ h. reset_off m 0 d
effect_off m (GeneralCall k b) d o =
    either (Off m) (soft_reset b) (λ s h. reset_off m (hold_asked (side k d)) d) (λ s. owner_off m d o)

-- ---- parts 3 to 7

-- a side put in place that asks no more than the one before
pub put_off : (m k : Master) (s : Side) (d : Device) → (asks_on k d ≡ false → s.contr.busconnect ≡ false) → asks_on m d ≡ false → asks_on m (with_side k s d)
    ≡ false
put_off Zero Zero s d f h = f h
put_off Zero One s d f h = h
put_off One Zero s d f h = h
put_off One One s d f h = f h

-- a loss clears the loser's, and the other did not own
lost_off : (m k : Master) (d : Device) → (same_master m k ≡ false → asks_on m d ≡ false) → asks_on m (lost k d) ≡ false
unfolding lost
lost_off Zero Zero d f = refl
lost_off Zero One d f = f refl
lost_off One Zero d f = f refl
lost_off One One d f = refl

-- so part 3 keeps it
losses_off : (m : Master) (t : Turn) (d : Device) → d.arb.turn ≡ t → Off m d → Off m (losses_from t d)
unfolding losses_from
losses_off m Nobody d e f = f
losses_off m (Claims k g) d e f = f
losses_off m (Owns k g) d e f =
    either (Off m) (runs_out (idle_limit d) (side k d) d.arb.reserve d.bus) (λ out h. lost_off m k d λ n. f (ap (owns_turn m) e ∙ n)) (λ out. f)

-- part 4 only clears
cut_off : (m : Master) (on : Bool) (t : Turn) (d : Device) → Off m d → Off m (cut_from on t d)
unfolding cut_from
cut_off m on Nobody d f = f
cut_off m on (Claims k g) d f = f
cut_off m on (Owns k g) d f = cut_cases (Off m) on k g d (λ h. put_off m k _ d (λ x. refl) (f h)) f

-- a claim makes no owner and unmakes none
pub claim_owner : (m : Master) (t : Turn) (d : Device) → owns_turn m (claim_after t d) ≡ owns_turn m t
claim_owner m Nobody d = new_cases (λ (t : Turn). owns_turn m t ≡ false) d refl (λ k g. refl)
claim_owner m (Claims k g) d = claim_cases (λ (t : Turn). owns_turn m t ≡ false) k g d refl (λ j i. refl)
claim_owner m (Owns k g) d = refl

-- part 5
claim_off : (m : Master) (d : Device) → Off m d → Off m (claim d)
unfolding claim
claim_off m d f h = f (sym (claim_owner m d.arb.turn d) ∙ h)

-- a grant leaves both BUS_CONNECT, and where it is given nobody owned
granted_asks : (m k : Master) (g : Ground) (d : Device) → asks_on m (granted k g d) ≡ asks_on m d
unfolding granted
granted_asks Zero Zero g d = refl
granted_asks Zero One g d = refl
granted_asks One Zero g d = refl
granted_asks One One g d = refl

-- part 6
grant_off : (m : Master) (t : Turn) (d : Device) → d.arb.turn ≡ t → Off m d → Off m (grant_from t d)
unfolding grant_from
grant_off m Nobody d e f = f
grant_off m (Claims k g) d e f = grant_cases (Off m) k g d (λ h. granted_asks m k g d ∙ f (ap (owns_turn m) e)) f
grant_off m (Owns k g) d e f = f

-- part 7 sets no BUS_CONNECT
connect_off : (m : Master) (c : Clock) (d : Device) → Off m d → Off m (connect c d)
connect_off m c d f =
    connect_cases (Off m) d (λ w fail. f)
    (λ k on w fail g h. put_off m k _ d g (f h)) c

-- ---- a step

-- so whoever owned before the event owns after it, or has BUS_CONNECT 0
parts_off : (m : Master) (e : Event) (d : Device) → owns m d ≡ true → Off m (parts e d)
unfolding parts levels losses cut grant
parts_off m e d o =
    let two : Device = levels (is_reset e) d.bus (effect e d) in
    let three : Device = losses two in
    let five : Device = claim (cut (is_tick e) three) in
    connect_off m (clock_of e) (grant five)
    (grant_off m five.arb.turn five refl
    (claim_off m (cut (is_tick e) three)
    (cut_off m (is_tick e) three.arb.turn three (losses_off m two.arb.turn two refl (effect_off m e d o)))))

pub ends_disconnected : EndsDisconnected
unfolding taken refused
ends_disconnected m d r =
    step_cases (λ (s : Stepped). owns m d && not (owns m s.device) ≡ true → asks_on m s.device ≡ false) d r
    (λ e x q h. let ended = (and-eq-true_iff (owns m d) (not (owns m (parts e d)))).0 h in parts_off m e d ended.0 (not-true (owns m (parts e d)) ended.1))
    (λ n u h. absurd (false≢true (sym (and-not_self (owns m d)) ∙ h)))
