-- The one that waits reads STATUS: its COMMAND, READ and STOP leave the turn, which is its partner's, and so the READ hands out what was to be told.
-- Assumes nothing.
use mathlib.Core.Path.{◌≡◌, refl, sym, ap, ap₂, ◌∙◌, subst}
use mathlib.Core.Bool.{true≢false, false≢true, and-false}
use Rattle.std.specs.Prelude.{◌-◌, ◌&&◌, ◌||◌, ◌∷◌, ◌++◌, if◌then◌else◌}
use Rattle.ranges.specs.Names.{ℕ, Bool, true, false, not, List, [], eqb, Master, Zero, One, Ground, Sole, Turn, Nobody, Claims}
use Rattle.ranges.specs.Names.{Owns, Port, Register, Status, Bus, Kind, Device, Raw, Event, Command, Read, Stop}
use Rattle.arbiter.specs.Rules.{limit_of}
use Rattle.arbiter.specs.Words.{bit, worth, partner, side}
use Rattle.arbiter.specs.State.{owns_turn, owns, claims_turn, claims, at_rest, is_idle}
use Rattle.arbiter.specs.Registers.{reads_at}
use Rattle.arbiter.specs.Events.{decode, in_sequence}
use Rattle.arbiter.specs.Effects.{commanded, was_read, effect}
use Rattle.arbiter.specs.Order.{is_reset, is_tick, busy_after, scl_changed, settled_bus, levels, claim_after, new_claim}
use Rattle.arbiter.specs.Steps.{parts, byte_read, taken, step_event, step_decoded, step, run_from, run}
use Rattle.arbiter.specs.AuditWords.{next, requests, resting, lets_go, is_accepted}
use Rattle.arbiter.specs.Marks.{command, read, stop}
use Rattle.arbiter.specs.Witnesses.{number}
use Rattle.recovery.specs.Diagnosis.{reads_status, DiagnosisRead}
use Rattle.arbiter.proofs.Choice.{either, split, if_false, same_self, owns_turn_lem}
use Rattle.arbiter.proofs.Effects.{kept}
use Rattle.arbiter.proofs.KindKept.{limit_some}
use Rattle.arbiter.proofs.Owner.{mid, expired, heir, sole_claim, stays, ends, fate, waits, port_left}
use Rattle.arbiter.proofs.Raws.{Takes, taken_as}
use Rattle.arbiter.proofs.Runs.{runs_on}
use Rattle.arbiter.proofs.Again.{busy_stays}
use Rattle.arbiter.proofs.Settled.{loses, is_due, Ready, refused_unchanged, parts_ready, all_ready}
use Rattle.audit.proofs.Blocking.{claims_turn_lem}
use Rattle.audit.proofs.Places.{hold_next}
use Rattle.mail.proofs.Parts.{parts_same}
use Rattle.recovery.proofs.Diagnosis.{shown, claimant_open, at_rest_lem, diagnosis}

-- ---- one event of the partner's that is no byte

-- what parts 2 to 6 ask of m, of the bus and of the reserve
abbrev Seen : Type 0
Seen = (Bool × Bool × ℕ × Port × Bool) × Bus × ℕ × Kind

abbrev seen : Master → Device → Seen
seen m d = (kept (side m d), d.bus, d.arb.reserve, d.kind)

-- p's COMMAND, READ and STOP leave all of it of p's partner.
data Unseen (m : Master) : Event → Type 0 where
  commands : (c : ℕ) → Unseen m (Command (partner m) c)
  reads : Unseen m (Read (partner m))
  stops : Unseen m (Stop (partner m))

effect_seen : (m : Master) (e : Event) (d : Device) → Unseen m e → seen m (effect e d) ≡ seen m d
unfolding effect was_read
effect_seen Zero e d (commands c) = refl
effect_seen Zero e d reads = refl
effect_seen Zero e d stops = refl
effect_seen One e d (commands c) = refl
effect_seen One e d reads = refl
effect_seen One e d stops = refl

no_reset : (m : Master) (e : Event) → Unseen m e → is_reset e ≡ false
no_reset m e (commands c) = refl
no_reset m e reads = refl
no_reset m e stops = refl

no_tick : (m : Master) (e : Event) → Unseen m e → is_tick e ≡ false
no_tick m e (commands c) = refl
no_tick m e reads = refl
no_tick m e stops = refl

no_byte : (m : Master) (e : Event) (d : Device) → Unseen m e → lets_go m e d ≡ false
no_byte m e d (commands c) = refl
no_byte m e d reads = refl
no_byte m e d stops = refl

-- ---- no loss

-- On a bus that stays there is no START and no STOP, so part 3 finds what it would have found before.
expired_left : (m : Master) (e : Event) (d : Device) → Unseen m e → expired m d ≡ false → expired m (mid e d) ≡ false
unfolding levels
expired_left m e d u unlost =
    ap asked (effect_seen m e d u)
    ∙ ap (λ (b : Bool). runs (seen m d) (settled_bus b (scl_changed d.bus d.bus) d.bus))
    (ap (λ (r : Bool). busy_after r d.bus d.bus) (no_reset m e u) ∙ busy_stays d.bus)
    ∙ go (eqb (side m d).rt 0) unlost
  where
    runs : Seen → Bus → Bool
    runs x b = if eqb x.0.2 0 then x.0.1 && eqb b.idle (limit_of x.3) else eqb x.2 0 && is_idle b

    asked : Seen → Bool
    asked x = runs x (settled_bus (busy_after (is_reset e) d.bus x.1) (scl_changed d.bus x.1) x.1)

    b : Bus
    b = d.bus

    timer : Bool
    timer = (side m d).contr.idletimer

    limit : ℕ
    limit = limit_of d.kind

    go : (none : Bool) → (if none then timer && eqb b.idle limit else eqb d.arb.reserve 0 && is_idle b) ≡ false
        → (if none then timer && eqb (if is_idle b then b.idle else 0) limit else eqb d.arb.reserve 0 && is_idle b) ≡ false
    go true h =
        either (λ (n : ℕ). timer && eqb n limit ≡ false) (is_idle b) (λ i. h) (λ i. ap (λ (x : Bool). timer && x) (limit_some d.kind) ∙ and-false timer)
    go false h = h

-- ---- the turn stays

-- the turn is m's, no hold runs, and the device is settled
record Ahead (m : Master) (t : Turn) (d : Device) : Type 0 where
  ready : Ready d
  hold : d.bus.hold ≡ 0
  turn : d.arb.turn ≡ t
  mine : claims_turn m t || owns_turn m t ≡ true

-- A claimant asks.
not_mine : (m : Master) (b : Bool) → claims_turn m (if b then Claims (partner m) Sole else Nobody) ≡ false
not_mine Zero true = refl
not_mine One true = refl
not_mine m false = refl

claimant_asks : (m : Master) (g : Ground) (d : Device) → claim_after (Claims m g) d ≡ Claims m g → requests m d ≡ true
claimant_asks m g d stayed =
    split (requests m d) (λ q. q)
    (λ q. absurd (true≢false
    (sym (same_self m) ∙ ap (claims_turn m) (sym stayed ∙ if_false (Claims m g) (new_claim d) q ∙ sole_claim m d q) ∙ not_mine m (requests (partner m) d))))

owner_left : (m : Master) (g : Ground) (e : Event) (d : Device) → Unseen m e → Ready d → d.bus.hold ≡ 0 → d.arb.turn ≡ Owns m g
    → (parts e d).arb.turn ≡ Owns m g
owner_left m g e d u ready hold t =
    elim (fate m e d (no_reset m e u) t hold) [
      | stays s ↦ ap (λ x. x.4) s.left ∙ s.turn
      | ends over why ↦
          absurd (true≢false (sym (why (no_byte m e d u)) ∙ expired_left m e d u (ap (λ (x : Turn). loses x d) (sym t) ∙ ready.0.1)))
    ]

claimant_left : (m : Master) (g : Ground) (e : Event) (d : Device) → Unseen m e → Ready d → d.bus.hold ≡ 0 → d.arb.turn ≡ Claims m g
    → (parts e d).arb.turn ≡ Claims m g
claimant_left m g e d u ready hold t =
    let ok = no_reset m e u in
    let asks = claimant_asks m g d (ap (λ (x : Turn). claim_after x d) (sym t) ∙ ready.1 ∙ t) in
    let port = claimant_open m d (ap (λ (x : Turn). is_due x d) (sym t) ∙ ready.2) hold in
    (waits m e d ok t asks hold (no_byte m e d u)).turn
    ∙ ap (λ (b : Bool). heir b m g) (port_left m e d ok t ∙ ap (λ x. at_rest x.0.3) (effect_seen m e d u) ∙ port)

turn_left : (m : Master) (t : Turn) (e : Event) (d : Device) → Unseen m e → Ahead m t d → (parts e d).arb.turn ≡ t
turn_left m t e d u a =
    split (claims_turn m t)
    (λ c. let found = claims_turn_lem m t c in claimant_left m found.0 e d u a.ready a.hold (a.turn ∙ found.1) ∙ sym found.1)
    (λ c. let found = owns_turn_lem m t (sym (ap (λ (b : Bool). b || owns_turn m t) c) ∙ a.mine) in
    owner_left m found.0 e d u a.ready a.hold (a.turn ∙ found.1) ∙ sym found.1)

-- ---- and so does all of it

next_ahead : (m : Master) (t : Turn) (e : Event) (r : Raw) (d : Device) → Unseen m e → Takes e r d → Ahead m t d → Ahead m t (next d r)
next_ahead m t e r d u x a =
    record {
      ready = subst Ready (sym x.after) (parts_ready e d);
      hold =
          hold_next r d (x.same (λ f y. is_reset f) ∙ no_reset m e u)
          ∙ ap₂ (λ (n : ℕ) (b : Bool). n - worth 1 b) a.hold (x.same (λ f y. is_tick f) ∙ no_tick m e u);
      turn = ap (λ (n : Device). n.arb.turn) x.after ∙ turn_left m t e d u a;
      mine = a.mine;
    }

takes_command : (p : Master) (c : ℕ) (d : Device) → Takes (Command p c) (command (number p) c) d
unfolding decode in_sequence
takes_command Zero c d = taken_as (Command Zero c) (command 0 c) d refl refl
takes_command One c d = taken_as (Command One c) (command 1 c) d refl refl

takes_read : (p : Master) (d : Device) → Takes (Read p) (read (number p)) d
unfolding decode in_sequence
takes_read Zero d = taken_as (Read Zero) (read 0) d refl refl
takes_read One d = taken_as (Read One) (read 1) d refl refl

takes_stop : (p : Master) (d : Device) → in_sequence (Stop p) d ≡ true → Takes (Stop p) (stop (number p)) d
unfolding decode
takes_stop Zero d s = taken_as (Stop Zero) (stop 0) d refl s
takes_stop One d s = taken_as (Stop One) (stop 1) d refl s

stop_refused : (p : Master) (d : Device) → in_sequence (Stop p) d ≡ false → is_accepted (stop (number p)) d ≡ false
unfolding decode
stop_refused Zero d s = ap (λ (b : Bool). b && true) s
stop_refused One d s = ap (λ (b : Bool). b && true) s

stop_ahead : (m : Master) (t : Turn) (d : Device) → Ahead m t d → Ahead m t (next d (stop (number (partner m))))
stop_ahead m t d a =
    let p : Master = partner m in
    split (in_sequence (Stop p) d)
    (λ s. next_ahead m t (Stop p) (stop (number p)) d stops (takes_stop p d s) a)
    (λ s. subst (Ahead m t) (sym (refused_unchanged d (stop (number p)) (stop_refused p d s))) a)

-- ---- the byte

-- COMMAND 02h sets the pointer to STATUS, which READ then hands out.
points : (p : Master) (d : Device) → (side p (effect (Command p 2) d)).pointer ≡ Status
unfolding effect commanded
points Zero d = refl
points One d = refl

handed : (p : Master) (d : Device) → (step d (read (number p))).answer.read ≡ reads_at (side p d).pointer p d
unfolding decode in_sequence byte_read taken step_event step_decoded step
handed Zero d = refl
handed One d = refl

status_handed : (p : Master) (d : Device) → let x : Device = next d (command (number p) 2) in
    (step x (read (number p))).answer.read ≡ reads_at Status p x
status_handed p d =
    let x : Device = next d (command (number p) 2) in
    handed p x
    ∙ ap (λ (r : Register). reads_at r p x)
    (ap (λ (n : Device). (side p n).pointer) (takes_command p 2 d).after ∙ ap (λ y. y.2) (parts_same p (Command p 2) d) ∙ points p d)

-- ---- the statement

back : (m : Master) → partner (partner m) ≡ m
back Zero = refl
back One = refl

-- m, which p waits for, has the turn
has_turn : (c o y : Bool) → c && y ≡ not o → c || o ≡ true
has_turn true o y h = refl
has_turn false true y h = refl
has_turn false false y h = absurd (false≢true h)

read_by : (k : Kind) (m : Master) (rs : List Raw) → let d : Device = run k rs in
    let p : Master = partner m in
    claims_turn m d.arb.turn || owns m d ≡ true → d.bus.hold ≡ 0
    → (bit 0 (step (next d (command (number p) 2)) (read (number p))).answer.read ≡ owns m d) × ((run_from d (reads_status p)).arb.turn ≡ d.arb.turn)
unfolding run_from
read_by k m rs mine hold =
    let d : Device = run k rs in
    let p : Master = partner m in
    let t : Turn = d.arb.turn in
    let c : Raw = command (number p) 2 in
    let x : Device = next d c in
    let y : Device = next x (read (number p)) in
    let here : Ahead m t d = record { ready = all_ready k rs; hold = hold; turn = refl; mine = mine } in
    let opened : Ahead m t x = next_ahead m t (Command p 2) c d (commands 2) (takes_command p 2 d) here in
    let told : Ahead m t y = next_ahead m t (Read p) (read (number p)) x reads (takes_read p x) opened in
    let on : run k (rs ++ c ∷ []) ≡ x = runs_on k rs c [] in (
      (ap (bit 0) (status_handed p d)
          ∙ subst (λ (n : Device). bit 0 (reads_at Status p n) ≡ owns (partner p) n) on (shown k p (rs ++ c ∷ []))
          ∙ ap (λ (j : Master). owns j x) (back m)
          ∙ ap (owns_turn m) opened.turn),
      (stop_ahead m t y told).turn,
    )

pub diagnosis_read : DiagnosisRead
diagnosis_read k Zero rs h =
    let d : Device = run k rs in
    read_by k One rs (has_turn (claims One d) (owns One d) (not (resting One d)) (diagnosis k Zero rs h).1) (at_rest_lem Zero d h).hold
diagnosis_read k One rs h =
    let d : Device = run k rs in
    read_by k Zero rs (has_turn (claims Zero d) (owns Zero d) (not (resting Zero d)) (diagnosis k One rs h).1) (at_rest_lem One d h).hold
