-- The drives pull a line only for an owner whose BUS_CONNECT is 0: they are released in every other state of a run.
-- Assumes nothing.
use mathlib.Core.Path.{◌≡◌, refl, sym, ap, ap₂, ◌∙◌, subst}
use mathlib.Core.Bool.{Bool, true, false, not, ◌||◌, true≢false, false≢true}
use Rattle.ranges.specs.Names.{ℕ, List, Master, Zero, One, Ground, Turn, Nobody, Claims, Owns, Register, Id, Contr, Status, Rt, IntStatus, IntMask, MailLow}
use Rattle.ranges.specs.Names.{MailHigh, Side, Bus, Clock, Kind, Device, Raw, Event, Command, Write, Read, Stop, Pair, Lines, Tick, Pulse, Reset, GeneralCall}
use Rattle.arbiter.specs.Rules.{rolls}
use Rattle.std.specs.Prelude.{if◌then◌else◌}
use Rattle.arbiter.specs.Words.{bit, partner, side}
use Rattle.arbiter.specs.Parts.{with_drives}
use Rattle.arbiter.specs.State.{owns_turn, owns}
use Rattle.arbiter.specs.Registers.{own_written, drives_written, turn_written}
use Rattle.arbiter.specs.Events.{soft_reset}
use Rattle.arbiter.specs.Effects.{write_risen, written, paired, was_read, lined, ticked, was_reset, power_up, effect}
use Rattle.arbiter.specs.Order.{is_tick, clock_of, levels, lost, losses_from, losses, cut_from, cut, claim, granted, grant_from, grant, connect}
use Rattle.arbiter.specs.Steps.{parts, run}
use Rattle.audit.specs.Connection.{UnownedReleased, ConnectedReleased}
use Rattle.arbiter.proofs.Choice.{either, split, if_false, same_self, turn_owns, owns_turn_lem, of_either}
use Rattle.arbiter.proofs.Cases.{cut_cases, grant_cases, joined_by, init_ended, connect_cases, run_keeps}
use Rattle.arbiter.proofs.Owner.{mid, expired}
use Rattle.arbiter.proofs.Connected.{asks_on, partner_not}
use Rattle.arbiter.proofs.Ended.{turn_left, risen_contr, mail_contr, any_master, put_off, claim_owner}
use Rattle.ranges.proofs.Pairs.{drives_left}
use Rattle.audit.proofs.Connection.{cleared_asks, commanded_contr, reader_contr}

-- ---- what is kept from part to part

-- both drives are released
abbrev Loose : Bus → Type 0
Loose b = (b.drivescl ≡ true) × (b.drivesda ≡ true)

-- they are, if every owner's BUS_CONNECT is 1: so if nobody owns
abbrev Let : Device → Type 0
Let d = ((m : Master) → owns m d ≡ true → asks_on m d ≡ true) → Loose d.bus

-- So of n as of d, if n has the same drives and each owner of d owns in n, with a BUS_CONNECT that is 1 only if it was in d.
let_by : (d n : Device) → (Loose d.bus → Loose n.bus)
    → ((m : Master) → owns m d ≡ true → (owns m n ≡ true) × (asks_on m n ≡ true → asks_on m d ≡ true)) → Let d → Let n
let_by d n same own h on = same (h λ m o. let x = own m o in x.1 (on m x.0))

-- ---- part 1: a byte

-- The owner's byte pulls a line only while its BUS_CONNECT is 0, and releases both if it sets that bit or lets go.
owner_byte : (k : Master) (g : Ground) (r : Register) (v : ℕ) (s : Side) (b : Bus)
    → (owns_turn k (turn_written true r v (Owns k g)) ≡ true → (own_written true r v s).contr.busconnect ≡ true)
    → (s.contr.busconnect ≡ true → Loose b) → Loose (drives_written true s.contr.busconnect r v b)
unfolding turn_written own_written drives_written
owner_byte k g Id v s b on h = h (on (same_self k))
owner_byte k g Contr v s b on h =
    either Loose (bit 2 v || not (bit 0 v)) (λ x. (refl, refl))
    (λ x. let stays : not (bit 0 v) ≡ false = second (bit 2 v) (not (bit 0 v)) x in
    let own : owns_turn k (if not (bit 0 v) then Nobody else Owns k g) ≡ true = ap (owns_turn k) (if_false Nobody (Owns k g) stays) ∙ same_self k in
    absurd (false≢true (sym (first (bit 2 v) (not (bit 0 v)) x) ∙ sym (ap (λ (y : Side). y.contr.busconnect) (if_false _ _ stays)) ∙ on own)))
  where
    first : (a c : Bool) → a || c ≡ false → a ≡ false
    first true c x = x
    first false c x = refl

    second : (a c : Bool) → a || c ≡ false → c ≡ false
    second true c x = absurd (true≢false x)
    second false c x = x
owner_byte k g Status v s b on h =
    let a : s.contr.busconnect ≡ true = on (same_self k) in
    subst Loose (sym (if_false (with_drives (bit 6 v) (bit 7 v) b) b (ap not a))) (h a)
owner_byte k g Rt v s b on h = h (on (same_self k))
owner_byte k g IntStatus v s b on h = h (on (same_self k))
owner_byte k g IntMask v s b on h = h (on (same_self k))
owner_byte k g MailLow v s b on h = h (on (same_self k))
owner_byte k g MailHigh v s b on h = h (on (same_self k))

-- m owns: so its partner does not, and all owners ask if m does.
all_ask : (m : Master) (d : Device) → owns m d ≡ true → asks_on m d ≡ true → (j : Master) → owns j d ≡ true → asks_on j d ≡ true
all_ask m d own a =
    any_master (λ (j : Master). owns j d ≡ true → asks_on j d ≡ true) m (λ o. a)
    (λ o. absurd (true≢false (sym o ∙ partner_not m d.arb.turn own)))

-- k's side as its byte v leaves it
abbrev byte_side : Master → ℕ → Device → Side
byte_side k v d = own_written (owns k d) (side k d).pointer v (side k d)

-- both sides after a WRITE of k's
writer_side : (k : Master) (v : ℕ) (d : Device) → asks_on k (written k v d) ≡ (byte_side k v d).contr.busconnect
unfolding written
writer_side Zero v d = ap (λ c. c.busconnect) (risen_contr (rolls d) (byte_side Zero v d))
writer_side One v d = ap (λ c. c.busconnect) (risen_contr (rolls d) (byte_side One v d))

reader_side : (k : Master) (v : ℕ) (d : Device) → asks_on (partner k) (written k v d) ≡ asks_on (partner k) d
unfolding written
reader_side Zero v d = ap (λ c. c.busconnect) (mail_contr d.side0.pointer v d.side1)
reader_side One v d = ap (λ c. c.busconnect) (mail_contr d.side1.pointer v d.side0)

-- a WRITE: the owner's, or another's
write_let : (k : Master) (v : ℕ) (d : Device) → Let d → Let (written k v d)
unfolding written
write_let k v d h = split (owns k d) mine other
  where
    r : Register
    r = (side k d).pointer

    s : Side
    s = side k d

    mine : owns k d ≡ true → Let (written k v d)
    mine own on =
        let t = owns_turn_lem k d.arb.turn own in
        subst (λ (o : Bool). Loose (drives_written o s.contr.busconnect r v d.bus)) (sym own)
        (owner_byte k t.0 r v s d.bus
        (λ o. sym (writer_side k v d ∙ ap (λ (b : Bool). (own_written b r v s).contr.busconnect) own)
        ∙ on k (ap₂ (λ (b : Bool) (u : Turn). owns_turn k (turn_written b r v u)) own t.1 ∙ o))
        (λ a. h (all_ask k d own a)))

    other : owns k d ≡ false → Let (written k v d)
    other out =
        let_by d (written k v d)
        (subst Loose
        (sym (ap (λ (b : Bool). drives_written b s.contr.busconnect r v d.bus) out ∙ drives_left s.contr.busconnect r v d.bus)))
        (any_master (λ (m : Master). owns m d ≡ true → (owns m (written k v d) ≡ true) × (asks_on m (written k v d) ≡ true → asks_on m d ≡ true)) k
        (λ o. absurd (true≢false (sym o ∙ out)))
        (λ o. (
          ap (owns_turn (partner k)) (ap (λ (b : Bool). turn_written b r v d.arb.turn) out ∙ turn_left r v d.arb.turn) ∙ o,
          λ a. sym (reader_side k v d) ∙ a,
        ))) h

-- both sides after a PAIR
pair_zero : (v0 v1 : ℕ) (d : Device) → asks_on Zero (paired v0 v1 d) ≡ (byte_side Zero v0 d).contr.busconnect
unfolding paired
pair_zero v0 v1 d =
    ap (λ c. c.busconnect)
    (mail_contr d.side1.pointer v1 (write_risen (rolls d) (byte_side Zero v0 d)) ∙ risen_contr (rolls d) (byte_side Zero v0 d))

pair_one : (v0 v1 : ℕ) (d : Device) → asks_on One (paired v0 v1 d) ≡ (byte_side One v1 d).contr.busconnect
unfolding paired
pair_one v0 v1 d =
    ap (λ c. c.busconnect)
    (mail_contr d.side0.pointer v0 (write_risen (rolls d) (byte_side One v1 d)) ∙ risen_contr (rolls d) (byte_side One v1 d))

-- a PAIR: one of the two owns, or neither
pair_let : (v0 v1 : ℕ) (d : Device) → Let d → Let (paired v0 v1 d)
unfolding paired
pair_let v0 v1 d h = split (owns Zero d) zero (λ z. split (owns One d) one (none z))
  where
    r0 : Register
    r0 = d.side0.pointer

    r1 : Register
    r1 = d.side1.pointer

    c0 : Bool
    c0 = d.side0.contr.busconnect

    c1 : Bool
    c1 = d.side1.contr.busconnect

    -- the drives and the turn of those grants
    bus : Bool → Bool → Bus
    bus g0 g1 = drives_written g1 c1 r1 v1 (drives_written g0 c0 r0 v0 d.bus)

    turn : Bool → Bool → Turn → Turn
    turn g0 g1 t = turn_written g1 r1 v1 (turn_written g0 r0 v0 t)

    zero : owns Zero d ≡ true → Let (paired v0 v1 d)
    zero own on =
        let t = owns_turn_lem Zero d.arb.turn own in
        let out : owns One d ≡ false = partner_not Zero d.arb.turn own in
        subst Loose (sym (ap₂ bus own out ∙ drives_left c1 r1 v1 (drives_written true c0 r0 v0 d.bus)))
        (owner_byte Zero t.0 r0 v0 d.side0 d.bus
        (λ o. sym (pair_zero v0 v1 d ∙ ap (λ (b : Bool). (own_written b r0 v0 d.side0).contr.busconnect) own)
        ∙ on Zero
        (ap (owns_turn Zero) (ap₂ (λ (a b : Bool). turn a b d.arb.turn) own out ∙ turn_left r1 v1 (turn_written true r0 v0 d.arb.turn))
        ∙ ap (λ (u : Turn). owns_turn Zero (turn_written true r0 v0 u)) t.1 ∙ o))
        (λ a. h (all_ask Zero d own a)))

    one : owns One d ≡ true → Let (paired v0 v1 d)
    one own on =
        let t = owns_turn_lem One d.arb.turn own in
        let out : owns Zero d ≡ false = partner_not One d.arb.turn own in
        subst Loose (sym (ap₂ bus out own ∙ ap (drives_written true c1 r1 v1) (drives_left c0 r0 v0 d.bus)))
        (owner_byte One t.0 r1 v1 d.side1 d.bus
        (λ o. sym (pair_one v0 v1 d ∙ ap (λ (b : Bool). (own_written b r1 v1 d.side1).contr.busconnect) own)
        ∙ on One
        (ap (owns_turn One) (ap₂ (λ (a b : Bool). turn a b d.arb.turn) out own ∙ ap (turn_written true r1 v1) (turn_left r0 v0 d.arb.turn))
        ∙ ap (λ (u : Turn). owns_turn One (turn_written true r1 v1 u)) t.1 ∙ o))
        (λ a. h (all_ask One d own a)))

    none : owns Zero d ≡ false → owns One d ≡ false → Let (paired v0 v1 d)
    none z o on =
        subst Loose (sym (ap₂ bus z o ∙ drives_left c1 r1 v1 (drives_written false c0 r0 v0 d.bus) ∙ drives_left c0 r0 v0 d.bus))
        (h neither)
      where
        neither : (m : Master) → owns m d ≡ true → asks_on m d ≡ true
        neither Zero own = absurd (true≢false (sym own ∙ z))
        neither One own = absurd (true≢false (sym own ∙ o))

-- ---- part 1: every event

-- A reset releases the drives.
reset_let : (hold : ℕ) (d : Device) → Let (was_reset hold d)
unfolding was_reset
reset_let hold d on = (refl, refl)

-- One that leaves CONTR, the turn and the drives changes nothing of this.
same_let : (d n : Device) → (Loose d.bus → Loose n.bus) → n.arb.turn ≡ d.arb.turn → ((m : Master) → asks_on m n ≡ asks_on m d) → Let d → Let n
same_let d n same t a = let_by d n same (λ m o. (ap (owns_turn m) t ∙ o, λ x. sym (a m) ∙ x))

-- a side whose BUS_CONNECT is what it was
abbrev Asks : Master → Bool → Side → Side → Type 0
Asks m own s n = n.contr.busconnect ≡ s.contr.busconnect

effect_let : (e : Event) (d : Device) → Let d → Let (effect e d)
unfolding effect was_read lined ticked
effect_let (Command k c) d h =
    same_let d (effect (Command k c) d) (λ x. x) refl
    (λ m. of_either Asks m k d _ _ (ap (λ x. x.busconnect) (commanded_contr c (side k d))) refl) h
effect_let (Write k v) d h = write_let k v d h
effect_let (Read k) d h =
    same_let d (effect (Read k) d) (λ x. x) refl (λ m. of_either Asks m k d _ _ (ap (λ x. x.busconnect) (reader_contr (side k d))) refl) h
effect_let (Stop k) d h = same_let d (effect (Stop k) d) (λ x. x) refl (λ m. of_either Asks m k d _ _ refl refl) h
effect_let (Pair v0 v1) d h = pair_let v0 v1 d h
effect_let (Lines scl sda intin) d h = same_let d (effect (Lines scl sda intin) d) (λ x. x) refl asks h
  where
    asks : (m : Master) → asks_on m (effect (Lines scl sda intin) d) ≡ asks_on m d
    asks Zero = refl
    asks One = refl
effect_let Tick d h = h
effect_let (Pulse sda) d h = h
effect_let Reset d h = reset_let 0 d
effect_let (GeneralCall k b) d h = either Let (soft_reset b) (λ x. reset_let _ d) (λ x. h)

-- ---- parts 3 to 7

-- A loss releases the drives.
losses_let : (t : Turn) (d : Device) → Let d → Let (losses_from t d)
unfolding losses_from lost
losses_let Nobody d h = h
losses_let (Claims k g) d h = h
losses_let (Owns k g) d h = either Let (expired k d) (λ x on. (refl, refl)) (λ x. h)

-- The cut leaves an owner whose BUS_CONNECT is 0.
cut_let : (on : Bool) (t : Turn) (d : Device) → d.arb.turn ≡ t → Let d → Let (cut_from on t d)
unfolding cut_from
cut_let on Nobody d e h = h
cut_let on (Claims k g) d e h = h
cut_let on (Owns k g) d e h =
    cut_cases Let on k g d (λ all. absurd (false≢true (sym (cleared_asks k d) ∙ all k (turn_owns k d.arb.turn e)))) h

-- A claim makes and unmakes no owner,
claim_let : (d : Device) → Let d → Let (claim d)
unfolding claim
claim_let d h = let_by d (claim d) (λ x. x) (λ m o. (claim_owner m d.arb.turn d ∙ o, λ a. a)) h

-- and where a grant is given nobody owned.
grant_let : (t : Turn) (d : Device) → d.arb.turn ≡ t → Let d → Let (grant_from t d)
unfolding grant_from granted
grant_let Nobody d e h = h
grant_let (Claims k g) d e h = grant_cases Let k g d (λ on. h (λ m o. absurd (false≢true (sym (ap (owns_turn m) e) ∙ o)))) h
grant_let (Owns k g) d e h = h

-- Part 7 sets no BUS_CONNECT.
connect_let : (c : Clock) (d : Device) → Let d → Let (connect c d)
connect_let c d h =
    connect_cases Let d (λ w fail. h)
    (λ k on w fail f. let_by d (joined_by w fail (init_ended k on d)) (λ x. x)
    (λ m o. (o, λ a. split (asks_on m d) (λ q. q) (λ q. absurd (true≢false (sym a ∙ put_off m k _ d f q))))) h) c

-- ---- a step and a run

parts_let : (e : Event) (d : Device) → Let d → Let (parts e d)
unfolding parts levels losses cut grant
parts_let e d h =
    let two : Device = mid e d in
    let three : Device = losses two in
    let five : Device = claim (cut (is_tick e) three) in
    connect_let (clock_of e) (grant five)
    (grant_let five.arb.turn five refl
    (claim_let (cut (is_tick e) three) (cut_let (is_tick e) three.arb.turn three refl (losses_let two.arb.turn two (effect_let e d h)))))

run_let : (k : Kind) (rs : List Raw) → Let (run k rs)
unfolding run power_up
run_let k rs = run_keeps Let parts_let (power_up k) rs (λ on. (refl, refl))

pub unowned_released : UnownedReleased
unowned_released k rs none = run_let k rs (λ m o. absurd (true≢false (sym o ∙ none m)))

pub connected_released : ConnectedReleased
connected_released k m rs own a = run_let k rs (all_ask m (run k rs) own a)
