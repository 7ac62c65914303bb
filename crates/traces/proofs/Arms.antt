-- The arms of the loop over events, one by one: what each makes of the two sides, the bus and the answer is the step of its event.
-- Assumes nothing.
use Prim.Native.Nat.{ℕ, ◌+◌, ◌-◌, ◌*◌, ◌%◌, ◌≤◌}
use mathlib.Core.Path.{◌≡◌, refl, sym, ap, ap₂, ◌∙◌}
use mathlib.Core.Bool.{Bool, true, false, not, ◌&&◌, ◌||◌, false≢true, and-eq-true_iff}
use mathlib.Core.List.{List}
use native.Mathlib.Omega.{arith}
use lib.Bits.{or_zero_r}
use lib.Dec.{eqb}
use lib.ListN.{length, set}
use Rattle.std.specs.Prelude.{if◌then◌else◌}
use Rattle.arbiter.specs.Words.{bit, partner, side, device}
use Rattle.arbiter.specs.Parts.{with_port, with_pointer, with_side, with_ints, with_idle, with_turn}
use Rattle.arbiter.specs.State.{claims_turn, owns_turn, is_initialising, at_rest, for_writing, scl_high, sda_high}
use Rattle.arbiter.specs.Registers.{register_byte, own_written, mail_written}
use Rattle.arbiter.specs.Rules.{rolls}
use Rattle.arbiter.specs.Events.{zero_or_one, level, master, good_command, writable, soft_reset, decode, decoded_number, raw_number, in_sequence}
use Rattle.arbiter.specs.Events.{acknowledged, outcome, outcome_number}
use Rattle.arbiter.specs.Effects.{after_write, commanded, write_risen, written, paired, empties, reader_side, sender_side, was_read, int_in_fallen, lined}
use Rattle.arbiter.specs.Effects.{fresh_side}
use Rattle.arbiter.specs.Effects.{fresh_bus, fresh_arb, was_reset, hold_asked, effect}
use Rattle.arbiter.specs.Order.{clock_of, busy_after, scl_changed, levels, losses, losses_from, cut, cut_from, claim, grant, grant_from, connect, connect_from}
use Rattle.arbiter.specs.Steps.{parts, byte_read, ground_number, owner_byte, lines_byte, answer, refused, taken, step_event, step_decoded, step}
use Rattle.arbiter.specs.declared.Master.{Master}
use Rattle.arbiter.specs.declared.Master.TheVariants.{Zero, One}
use Rattle.arbiter.specs.declared.Ground.TheVariants.{Sole}
use Rattle.arbiter.specs.declared.Turn.TheVariants.{Claims}
use Rattle.arbiter.specs.declared.Register.{Register}
use Rattle.arbiter.specs.declared.Register.TheVariants.{Id, Contr, Status, Rt, IntStatus, IntMask, MailLow, MailHigh}
use Rattle.arbiter.specs.declared.Port.TheVariants.{Rest}
use Rattle.arbiter.specs.declared.Side.{Side}
use Rattle.arbiter.specs.declared.Bus.{Bus}
use Rattle.arbiter.specs.declared.Arbitration.{Arbitration}
use Rattle.arbiter.specs.declared.Kind.{Kind}
use Rattle.arbiter.specs.declared.Device.{Device}
use Rattle.arbiter.specs.declared.Raw.{Raw}
use Rattle.arbiter.specs.declared.Clock.TheVariants.{NoClock}
use Rattle.arbiter.specs.declared.Event.{Event}
use Rattle.arbiter.specs.declared.Event.TheVariants.{Command, Write, Read, Stop, Pair, Lines, Pulse, Reset, GeneralCall}
use Rattle.std.specs.Prelude.{Result, Ok, Err}
use Rattle.arbiter.specs.declared.Unread.TheVariants.{BadField, UnknownKind}
use Rattle.arbiter.specs.declared.Unread.{Unread}
use Rattle.arbiter.specs.declared.Outcome.TheVariants.{Done, NotAcknowledged, OutOfSequence}
use Rattle.arbiter.specs.declared.Answer.{Answer}
use Rattle.events.proofs.Numbers.{raw_told}
use Rattle.arbitration.specs.Cleared.{ground_in}
use Rattle.arbitration.specs.Quiet.{no_loss}
use Rattle.step.specs.Carried.{parts_three_to_seven, stepped_with, kept}
use Rattle.light.specs.Light.{Settled}
use Rattle.light.specs.Ended.{write_is_light, lined_bus, ends_itself, keeps_lines, its_end}
use Rattle.light.specs.Turns.{side_granted, arb_granted, is_contr, is_nobody}
use Rattle.light.proofs.Fits.{fits_self, fits_settles, same_lines}
use Rattle.light.proofs.Light.{written_sides, paired_sides}
use Rattle.light.proofs.Ended.{ended_is_step}
use Rattle.light.proofs.Turns.{granted_at_stop, claimed_by_write}
use Rattle.traces.specs.Sides.{byte_is_light, lines_shown, device_of}
use Rattle.traces.specs.Turns.{granted_bits}
use Rattle.traces.proofs.Owners.{nobody_foreign, owner_waits, waits_below, claimed_byte}
use Rattle.traces.proofs.TwoSides.{side_at, held, side_at_lem, partner_at, set_one, set_both, set_all, lines_of}

-- ---- an answer, part by part

joined : (d e : Device) (n m p q o u i j : ℕ) → d ≡ e → n ≡ m → p ≡ q → o ≡ u → i ≡ j → stepped_with d (kept n p o i) ≡ stepped_with e (kept m q u j)
joined d e n m p q o u i j f g h k l = λ t. record { device = f t; answer = record { outcome = g t; read = h t; owner = k t; lines = l t } }

writable_contr : (p : Register) → is_contr p ≡ true → writable p ≡ true
writable_contr Id c = absurd (false≢true c)
writable_contr Contr c = refl
writable_contr Status c = absurd (false≢true c)
writable_contr Rt c = absurd (false≢true c)
writable_contr IntStatus c = absurd (false≢true c)
writable_contr IntMask c = absurd (false≢true c)
writable_contr MailLow c = absurd (false≢true c)
writable_contr MailHigh c = absurd (false≢true c)

-- ---- a reset leaves parts 3 to 7 nothing to do

none : (t : Bool) → ◌≡◌ {A = ℕ} (if t then 0 else 0) 0
none true = refl
none false = refl

reset_rest : (hold : ℕ) (d : Device) → connect NoClock (grant (claim (cut false (losses (was_reset hold d))))) ≡ was_reset hold d
unfolding connect connect_from grant grant_from claim cut cut_from losses losses_from was_reset fresh_side
reset_rest hold d = refl

-- ---- the arms. The loop holds the two sides l, the bus b and the arbitration a of a part of kind k, and knows its last two answer bytes.

module _ (k : Kind) (l : List Side) (b : Bus) (a : Arbitration) (two : length l ≡ 2) (owner lines : ℕ) (o : owner ≡ owner_byte (held k l b a))
    (i : lines ≡ lines_byte (held k l b a)) (r : Raw) where
  abbrev now : Device
  now = held k l b a

  stepped : (e : Event) → decode r ≡ Ok e → step now r ≡ step_event e now
  unfolding step step_decoded
  stepped e h = ap (λ (x : Result Event Unread). step_decoded x now) h

  -- out of sequence
  refused_arm : (e : Event) → decode r ≡ Ok e → in_sequence e now ≡ false → stepped_with now (kept 4 0 owner lines) ≡ step now r
  unfolding step_event refused
  refused_arm e h q =
      joined now now 4 4 0 0 owner _ lines _ refl refl refl o i
      ∙ sym (stepped e h ∙ ap (λ (x : Bool). if x then taken e now else refused (outcome_number OutOfSequence) now) q)

  -- in sequence, and ended by itself
  ended_arm : (e : Event) → decode r ≡ Ok e → Settled now → in_sequence e now ≡ true → ends_itself e now ≡ true
      → (d : Device) (number byte li : ℕ) → d ≡ its_end e now → number ≡ outcome_number (if acknowledged e now then Done else NotAcknowledged) → byte
      ≡ byte_read e now
      → li ≡ (if keeps_lines e now then lines_byte now else lines_byte (its_end e now)) → stepped_with d (kept number byte owner li) ≡ step now r
  unfolding outcome
  ended_arm e h s q t d number byte li f g p n =
      let asked = ap (λ (x : Bool). outcome_number (if x then (if acknowledged e now then Done else NotAcknowledged) else OutOfSequence)) (sym q) in
      joined d _ number _ byte _ owner _ li _ f (g ∙ asked) p o n ∙ sym (stepped e h ∙ ended_is_step e now s q t)

  -- in sequence, acknowledged, and stepped in full
  taken_arm : (e : Event) → decode r ≡ Ok e → in_sequence e now ≡ true → acknowledged e now ≡ true → byte_read e now ≡ 0
      → (d : Device) (ow li : ℕ) → d ≡ parts e now → ow ≡ owner_byte d → li ≡ lines_byte d → stepped_with d (kept 0 0 ow li) ≡ step now r
  unfolding step_event taken outcome
  taken_arm e h q t z d ow li f g n =
      let number : 0 ≡ outcome_number (outcome e now) =
      ap₂ (λ (x y : Bool). outcome_number (if x then (if y then Done else NotAcknowledged) else OutOfSequence)) (sym q) (sym t)
      in
      joined d (parts e now) 0 _ 0 _ ow _ li _ f number (sym z) (g ∙ ap owner_byte f) (n ∙ ap lines_byte f)
      ∙ sym (stepped e h ∙ ap (λ (x : Bool). if x then taken e now else refused (outcome_number OutOfSequence) now) q)

  -- a reset: parts 2 to 7 find nothing to do, also where SCL is held then
  module _ (hold : ℕ) where
    abbrev left : Bus
    left = fresh_bus hold b

    reset_levels : levels true b (was_reset hold now) ≡ was_reset hold now
    unfolding levels was_reset fresh_side
    reset_levels = λ j. record {
      kind = k;
      side0 = fresh_side;
      side1 = fresh_side;
      bus = record {
        outscl = b.outscl;
        outsda = b.outsda;
        intin = b.intin;
        drivescl = true;
        drivesda = true;
        busy = false;
        hold = hold;
        idle = none (not (busy_after true b left) && scl_high left && sda_high left) j;
        lowscl = none (scl_high left) j;
        lowsda = none (sda_high left || scl_changed b left) j;
      };
      arb = fresh_arb;
    }

    reset-through : connect NoClock (grant (claim (cut false (losses (levels true b (was_reset hold now)))))) ≡ was_reset hold now
    reset-through = ap (λ (x : Device). connect NoClock (grant (claim (cut false (losses x))))) reset_levels ∙ reset_rest hold now

  reset_parts : parts Reset now ≡ was_reset 0 now
  unfolding parts effect
  reset_parts = reset-through 0

  module _ (fits : zero_or_one r.x ≡ true) where
    abbrev m : Master
    m = master r.x

    abbrev at : ℕ
    at = r.x % 2

    own : side m now ≡ side_at l at
    own = side_at_lem k b a l r.x fits

    other : side (partner m) now ≡ side_at l (1 - at)
    other = partner_at k b a l r.x fits

    pub command-arm : decode r ≡ Ok (Command m r.y) → Settled now → (v : Side) (number : ℕ) → v ≡ commanded r.y (side_at l at) → number
        ≡ outcome_number (if good_command r.y then Done else NotAcknowledged)
        → stepped_with (held k (set l at v) b a) (kept number 0 owner lines) ≡ step now r
    unfolding in_sequence acknowledged ends_itself keeps_lines its_end effect byte_read
    command-arm h s v number e g =
        ended_arm (Command m r.y) h s refl refl _ number 0 lines
        (set_one k b a l two r.x fits v ∙ ap (λ (x : Side). with_side m x now) (e ∙ ap (commanded r.y) (sym own))) g refl i

    pub stop_refused : decode r ≡ Ok (Stop m) → at_rest (side_at l at).port ≡ true → stepped_with now (kept 4 0 owner lines) ≡ step now r
    unfolding in_sequence
    stop_refused h q = refused_arm (Stop m) h (ap (λ (x : Side). not (at_rest x.port)) own ∙ ap not q)

    pub stop-arm : decode r ≡ Ok (Stop m) → Settled now → at_rest (side_at l at).port ≡ false → claims_turn m a.turn && eqb b.hold 0 ≡ false → (v : Side)
        → v ≡ with_port Rest (side_at l at)
        → stepped_with (held k (set l at v) b a) (kept 0 0 owner lines) ≡ step now r
    unfolding in_sequence acknowledged ends_itself keeps_lines its_end effect byte_read
    stop-arm h s q c v e =
        ended_arm (Stop m) h s (ap (λ (x : Side). not (at_rest x.port)) own ∙ ap not q) (ap not c) _ 0 0 lines
        (set_one k b a l two r.x fits v ∙ ap (λ (x : Side). with_side m x now) (e ∙ ap (with_port Rest) (sym own))) refl refl i

    pub write-refused : decode r ≡ Ok (Write m r.y) → for_writing (side_at l at).port ≡ false → stepped_with now (kept 4 0 owner lines) ≡ step now r
    unfolding in_sequence
    write-refused h q = refused_arm (Write m r.y) h (ap (λ (x : Side). for_writing x.port) own ∙ q)

    light-byte : (p : Register) → write_is_light p m r.y now ≡ byte_is_light p m (owns_turn m a.turn) r.y a.turn (side m now).contr.busconnect
    light-byte Id = refl
    light-byte Contr = refl
    light-byte Status = refl
    light-byte Rt = refl
    light-byte IntStatus = refl
    light-byte IntMask = refl
    light-byte MailLow = refl
    light-byte MailHigh = refl

    pub write-arm : decode r ≡ Ok (Write m r.y) → Settled now → for_writing (side_at l at).port ≡ true
        → byte_is_light (side_at l at).pointer m (owns_turn m a.turn) r.y a.turn (side_at l at).contr.busconnect ≡ true
        → (v w : Side) (number li : ℕ) → v ≡ write_risen (rolls now) (own_written (owns_turn m a.turn) (side_at l at).pointer r.y (side_at l at)) → w
        ≡ mail_written (side_at l at).pointer r.y (side_at l (1 - at))
        → number ≡ outcome_number (if writable (side_at l at).pointer then Done else NotAcknowledged)
        → li ≡ lines_shown (side_at (set (set l at v) (1 - at) w) 0) (side_at (set (set l at v) (1 - at) w) 1) b
        → stepped_with (held k (set (set l at v) (1 - at) w) b a) (kept number 0 owner li) ≡ step now r
    unfolding in_sequence acknowledged ends_itself keeps_lines its_end effect byte_read
    write-arm h s q t v w number li e f g n =
        let light : write_is_light (side m now).pointer m r.y now ≡ true =
        light-byte (side m now).pointer ∙ ap (λ (x : Side). byte_is_light x.pointer m (owns_turn m a.turn) r.y a.turn x.contr.busconnect) own
        ∙ t
        in
        let gone : held k (set (set l at v) (1 - at) w) b a ≡ written m r.y now =
        set_both k b a l two r.x fits v w
        ∙ ap₂ (λ (x y : Side). device m x y b a now)
        (e ∙ ap (λ (x : Side). write_risen (rolls now) (own_written (owns_turn m a.turn) x.pointer r.y x)) (sym own))
        (f ∙ ap₂ (λ (x y : Side). mail_written x.pointer r.y y) (sym own) (sym other))
        ∙ sym (written_sides m r.y now light)
        in
        ended_arm (Write m r.y) h s (ap (λ (x : Side). for_writing x.port) own ∙ q) light _ number 0 li gone
        (g ∙ ap (λ (x : Side). outcome_number (if writable x.pointer then Done else NotAcknowledged)) (sym own)) refl
        (n ∙ lines_of k _ _ b a ∙ ap lines_byte gone)

    -- the owner byte of a claimant's device has room for the bits of its grant
    pub grant-room : Settled now → claims_turn m a.turn && eqb b.hold 0 ≡ true → owner ≤ 96
    grant-room s t = omega (arith, o, waits_below m now s ((and-eq-true_iff (claims_turn m a.turn) (eqb b.hold 0)).0 t).0)

    -- the STOP of a claimant brings it the grant
    pub grant-arm : decode r ≡ Ok (Stop m) → Settled now → not (at_rest (side_at l at).port) ≡ true → claims_turn m a.turn && eqb b.hold 0 ≡ true
        → (v : Side) (n : Bus) (w : Arbitration) (bits li : ℕ) → v ≡ side_granted (side_at l at) → n ≡ with_idle 0 b → w ≡ arb_granted m (side_at l at) a → bits
        ≡ granted_bits r.x (side_at l at).contr
        → li ≡ lines_shown (side_at (set l at v) 0) (side_at (set l at v) 1) n
        → stepped_with (held k (set l at v) n w) (kept 0 0 (owner + bits) li) ≡ step now r
    unfolding in_sequence acknowledged byte_read owner_byte
    grant-arm h s q t v n w bits li e f g p u =
        let waits = owner_waits m now s ((and-eq-true_iff (claims_turn m a.turn) (eqb b.hold 0)).0 t).0 in
        let gone : held k (set l at v) n w ≡ parts (Stop m) now =
        set_one k n w l two r.x fits v
        ∙ (λ j. device m ((e ∙ ap side_granted (sym own)) j) (side (partner m) now) (f j) ((g ∙ ap (λ (x : Side). arb_granted m x a) (sym own)) j) now)
        ∙ sym (granted_at_stop m now s t)
        in
        let sum : owner + bits ≡ granted_bits r.x (side_at l at).contr + 32 * ground_number (ground_in a.turn) = omega (arith, o, waits, p) in
        taken_arm (Stop m) h (ap (λ (x : Side). not (at_rest x.port)) own ∙ q) refl refl _ (owner + bits) li gone
        (sum ∙ ap (λ (x : Arbitration). owner_byte (held k (set l at v) n x)) (sym g)) (u ∙ lines_of k _ _ n w)

    -- a byte to CONTR claims while nobody has the turn
    abbrev claimer : Side
    claimer = own_written false (side_at l at).pointer r.y (side_at l at)

    claimer-ints : (p : Register) → is_contr p ≡ true → (y : ℕ) (x : Side) → ((own_written false p y x).ints ≡ x.ints)
        × ((own_written false p y x).mask ≡ x.mask)
    unfolding own_written
    claimer-ints Id c y x = absurd (false≢true c)
    claimer-ints Contr c y x = (refl, refl)
    claimer-ints Status c y x = absurd (false≢true c)
    claimer-ints Rt c y x = absurd (false≢true c)
    claimer-ints IntStatus c y x = absurd (false≢true c)
    claimer-ints IntMask c y x = absurd (false≢true c)
    claimer-ints MailLow c y x = absurd (false≢true c)
    claimer-ints MailHigh c y x = absurd (false≢true c)

    risen_ints : (auto : Bool) (p : Register) (x : Side) → ((if auto then with_pointer p x else x).ints ≡ x.ints)
        × ((if auto then with_pointer p x else x).mask ≡ x.mask)
    risen_ints true p x = (refl, refl)
    risen_ints false p x = (refl, refl)

    pub claim-arm : decode r ≡ Ok (Write m r.y) → Settled now → for_writing (side_at l at).port ≡ true → is_contr (side_at l at).pointer ≡ true
        → bit 0 r.y ≡ true → is_nobody a.turn ≡ true
        → (v : Side) (w : Arbitration) → v ≡ write_risen (rolls now) claimer → w ≡ with_turn (Claims m Sole) a
        → stepped_with (held k (set l at v) b w) (kept 0 0 32 lines) ≡ step now r
    unfolding in_sequence acknowledged byte_read owner_byte lines_byte
    claim-arm h s q c t n v w e g =
        let contr : is_contr (side m now).pointer ≡ true = ap (λ (x : Side). is_contr x.pointer) own ∙ c in
        let opened : for_writing (side m now).port ≡ true = ap (λ (x : Side). for_writing x.port) own ∙ q in
        let foreign = nobody_foreign m a.turn n in
        let both = claimer-ints (side_at l at).pointer c r.y (side_at l at) in
        let up = risen_ints claimer.auto (after_write (rolls now) claimer.pointer) claimer in
        let gone : held k (set l at v) b w ≡ parts (Write m r.y) now =
        set_one k b w l two r.x fits v
        ∙ (λ j. device m ((e ∙ ap₂ (λ (x : Bool) (y : Side). write_risen (rolls now) (own_written x y.pointer r.y y)) (sym foreign) (sym own)) j)
        (side (partner m) now) b (g j) now)
        ∙ sym (claimed_by_write m r.y now s n contr t opened)
        in
        let shown : lines_byte (held k (set l at v) b w) ≡ lines_byte now =
        ap lines_byte (set_one k b w l two r.x fits v)
        ∙ same_lines now v (side (partner m) now) m (ap (λ (x : Side). x.ints) e ∙ up.0 ∙ both.0 ∙ ap (λ (x : Side). x.ints) (sym own))
        (ap (λ (x : Side). x.mask) e ∙ up.1 ∙ both.1 ∙ ap (λ (x : Side). x.mask) (sym own)) refl refl
        in
        taken_arm (Write m r.y) h opened (writable_contr (side m now).pointer contr) refl _ 32 lines gone
        (claimed_byte now s n ∙ ap (λ (x : Arbitration). owner_byte (held k (set l at v) b x)) (sym g)) (i ∙ sym shown)

    abbrev handed : ℕ
    handed = register_byte (side_at l at).pointer (owns_turn m a.turn) (owns_turn (partner m) a.turn) (side_at l at) (side_at l (1 - at)) b a.initfail

    same_byte : (byte : ℕ) → byte ≡ handed → byte ≡ byte_read (Read m) now
    unfolding byte_read
    same_byte byte e =
        e ∙ ap₂ (λ (x y : Side). register_byte x.pointer (owns_turn m a.turn) (owns_turn (partner m) a.turn) x y b a.initfail) (sym own) (sym other)

    emptied-is : (t : Bool) → empties (side_at l at) ≡ t → empties (side m now) ≡ t
    emptied-is t q = ap empties own ∙ q

    pub read-emptying : decode r ≡ Ok (Read m) → Settled now → empties (side_at l at) ≡ true → (v w : Side) (byte li : ℕ) → v ≡ reader_side (side_at l at)
        → w
        ≡ sender_side true (side_at l (1 - at)) → byte ≡ handed
        → li ≡ lines_shown (side_at (set (set l at v) (1 - at) w) 0) (side_at (set (set l at v) (1 - at) w) 1) b
        → stepped_with (held k (set (set l at v) (1 - at) w) b a) (kept 0 byte owner li) ≡ step now r
    unfolding in_sequence acknowledged ends_itself keeps_lines its_end effect was_read
    read-emptying h s t v w byte li e f g n =
        let gone : held k (set (set l at v) (1 - at) w) b a ≡ was_read m now =
        set_both k b a l two r.x fits v w
        ∙ ap₂ (λ (x y : Side). device m x y b a now) (e ∙ ap reader_side (sym own))
        (f ∙ ap₂ (λ (x : Bool) (y : Side). sender_side x y) (sym (emptied-is true t)) (sym other))
        in
        ended_arm (Read m) h s refl refl _ 0 byte li gone refl (same_byte byte g)
        (n ∙ lines_of k _ _ b a ∙ ap lines_byte gone
        ∙ ap (λ (x : Bool). if not x then lines_byte now else lines_byte (was_read m now)) (sym (emptied-is true t)))

    unsent : (x : Side) → x ≡ sender_side false x
    unsent x = ap (λ (n : ℕ). with_ints n x) (sym (or_zero_r x.ints))

    pub read-arm : decode r ≡ Ok (Read m) → Settled now → empties (side_at l at) ≡ false → (v : Side) (byte : ℕ) → v ≡ reader_side (side_at l at) → byte
        ≡ handed
        → stepped_with (held k (set l at v) b a) (kept 0 byte owner lines) ≡ step now r
    unfolding in_sequence acknowledged ends_itself keeps_lines its_end effect was_read
    read-arm h s t v byte e g =
        let gone : held k (set l at v) b a ≡ was_read m now =
        set_one k b a l two r.x fits v
        ∙ ap₂ (λ (x y : Side). device m x y b a now) (e ∙ ap reader_side (sym own))
        (unsent (side (partner m) now) ∙ ap (λ (x : Bool). sender_side x (side (partner m) now)) (sym (emptied-is false t)))
        in
        ended_arm (Read m) h s refl refl _ 0 byte lines gone refl (same_byte byte g)
        (i ∙ ap (λ (x : Bool). if not x then lines_byte now else lines_byte (was_read m now)) (sym (emptied-is false t)))

    -- GENERAL CALL of 06h
    pub soft-arm : decode r ≡ Ok (GeneralCall m r.y) → soft_reset r.y ≡ true → (hold : ℕ) → hold ≡ hold_asked (side_at l at) → (d : Device) (x : Answer)
        → d ≡ was_reset hold now → x ≡ answer 0 0 d
        → stepped_with d x ≡ step now r
    unfolding step_event taken in_sequence acknowledged outcome byte_read parts effect
    soft-arm h q hold g d x e f =
        let asked : ℕ = hold_asked (side m now) in
        let through : parts (GeneralCall m r.y) now ≡ was_reset asked now =
        ap (λ (t : Bool). connect NoClock (grant (claim (cut false (losses (levels t b (if t then was_reset asked now else now))))))) q
        ∙ reset-through asked
        in
        ap (λ (y : Answer). stepped_with d y) f
        ∙ ap (λ (y : Device). stepped_with y (answer 0 0 y)) (e ∙ ap (λ (n : ℕ). was_reset n now) (g ∙ ap hold_asked (sym own)) ∙ sym through)
        ∙ ap (λ (t : Bool). stepped_with (parts (GeneralCall m r.y) now)
        (answer (outcome_number (if t then Done else NotAcknowledged)) 0 (parts (GeneralCall m r.y) now))) (sym q)
        ∙ sym (stepped (GeneralCall m r.y) h)

  -- bytes that are no event
  pub unread_arm : (n : ℕ) → n ≡ raw_number r → (n ≡ 0 → ⊥) → stepped_with now (kept n 0 owner lines) ≡ step now r
  unfolding step step_decoded refused
  unread_arm n e some = go (decode r) (e ∙ sym (raw_told r (decode r) refl).1)
    where
      go : (x : Result Event Unread) → n ≡ decoded_number x → stepped_with now (kept n 0 owner lines) ≡ step_decoded x now
      go (Ok v) h = absurd (some h)
      go (Err UnknownKind) h = joined now now n 2 0 0 owner _ lines _ refl h refl o i
      go (Err BadField) h = joined now now n 3 0 0 owner _ lines _ refl h refl o i

  byte_light : (p : Register) (c : Master) (v : ℕ) → write_is_light p c v now
      ≡ byte_is_light p c (owns_turn c a.turn) v a.turn (side c now).contr.busconnect
  byte_light Id c v = refl
  byte_light Contr c v = refl
  byte_light Status c v = refl
  byte_light Rt c v = refl
  byte_light IntStatus c v = refl
  byte_light IntMask c v = refl
  byte_light MailLow c v = refl
  byte_light MailHigh c v = refl

  pub pair_arm : decode r ≡ Ok (Pair r.x r.y) → Settled now → for_writing (side_at l 0).port && for_writing (side_at l 1).port ≡ true
      → byte_is_light (side_at l 0).pointer Zero (owns_turn Zero a.turn) r.x a.turn (side_at l 0).contr.busconnect && byte_is_light (side_at l 1).pointer
      One (owns_turn One a.turn) r.y a.turn (side_at l 1).contr.busconnect ≡ true
      → (v w : Side) (number li : ℕ) → v ≡ mail_written (side_at l 1).pointer r.y
      (write_risen (rolls now) (own_written (owns_turn Zero a.turn) (side_at l 0).pointer r.x (side_at l 0)))
      → w ≡ mail_written (side_at l 0).pointer r.x (write_risen (rolls now) (own_written (owns_turn One a.turn) (side_at l 1).pointer r.y (side_at l 1)))
      → number ≡ outcome_number (if writable (side_at l 0).pointer && writable (side_at l 1).pointer then Done else NotAcknowledged) → li ≡ lines_shown v w b
      → stepped_with (held k (set (set l 0 v) 1 w) b a) (kept number 0 owner li) ≡ step now r
  unfolding in_sequence acknowledged ends_itself keeps_lines its_end effect byte_read
  pair_arm h s q t v w number li e f g n =
      let both =
      (and-eq-true_iff (byte_is_light (side_at l 0).pointer Zero (owns_turn Zero a.turn) r.x a.turn (side_at l 0).contr.busconnect)
      (byte_is_light (side_at l 1).pointer One (owns_turn One a.turn) r.y a.turn (side_at l 1).contr.busconnect)).0 t
      in
      let l0 : write_is_light now.side0.pointer Zero r.x now ≡ true = byte_light now.side0.pointer Zero r.x ∙ both.0 in
      let l1 : write_is_light now.side1.pointer One r.y now ≡ true = byte_light now.side1.pointer One r.y ∙ both.1 in
      let gone : held k (set (set l 0 v) 1 w) b a ≡ paired r.x r.y now =
      set_all k b a l two v w ∙ ap₂ (λ (x y : Side). device_of k x y b a) e f ∙ sym (paired_sides r.x r.y now l0 l1)
      in
      ended_arm (Pair r.x r.y) h s q (ap₂ (λ (x y : Bool). x && y) l0 l1) _ number 0 li gone g refl
      (n ∙ lines_of k v w b a ∙ ap lines_byte (sym (set_all k b a l two v w) ∙ gone))

  pub pair_refused : decode r ≡ Ok (Pair r.x r.y) → for_writing (side_at l 0).port && for_writing (side_at l 1).port ≡ false
      → stepped_with now (kept 4 0 owner lines) ≡ step now r
  unfolding in_sequence
  pair_refused h q = refused_arm (Pair r.x r.y) h q

  pub pulse_refused : decode r ≡ Ok (Pulse (level r.x)) → is_initialising a.switch ≡ false → stepped_with now (kept 4 0 owner lines) ≡ step now r
  unfolding in_sequence
  pulse_refused h q = refused_arm (Pulse (level r.x)) h q

  pub lines_arm : decode r ≡ Ok (Lines (level r.x) (level r.y) (level r.z)) → Settled now → (n : Bus) → n
      ≡ lined_bus (level r.x) (level r.y) (level r.z) b → no_loss a.turn (held k l n a) ≡ true
      → (fell : Bool) → fell ≡ b.intin && not (level r.z) → (v w : Side) (li : ℕ) → v ≡ int_in_fallen fell (side_at l 0) → w ≡ int_in_fallen fell (side_at l 1)
      → li ≡ lines_shown v w n
      → stepped_with (held k (set (set l 0 v) 1 w) n a) (kept 0 0 owner li) ≡ step now r
  unfolding in_sequence acknowledged ends_itself keeps_lines its_end effect lined byte_read
  lines_arm h s n e t fell f v w li p q u =
      let e1 : Event = Lines (level r.x) (level r.y) (level r.z) in
      let gone : held k (set (set l 0 v) 1 w) n a ≡ its_end e1 now =
      set_all k n a l two v w
      ∙ (λ j. device_of k ((p ∙ ap (λ (x : Bool). int_in_fallen x (side_at l 0)) f) j) ((q ∙ ap (λ (x : Bool). int_in_fallen x (side_at l 1)) f) j) (e j) a)
      in
      ended_arm e1 h s refl (ap (λ (x : Bus). no_loss a.turn (held k l x a)) (sym e) ∙ t) _ 0 0 li gone refl refl
      (u ∙ lines_of k v w n a ∙ ap lines_byte (sym (set_all k n a l two v w) ∙ gone))

  -- GENERAL CALL of another byte: nothing happens, and parts 2 to 7 have nothing to do in a settled device
  pub call_arm : decode r ≡ Ok (GeneralCall (master r.x) r.y) → Settled now → soft_reset r.y ≡ false → stepped_with now (kept 1 0 owner lines)
      ≡ step now r
  unfolding step_event taken in_sequence acknowledged outcome byte_read parts effect parts_three_to_seven
  call_arm h s q =
      let rest : parts (GeneralCall (master r.x) r.y) now ≡ now =
      ap (λ (x : Bool). parts_three_to_seven false (clock_of (GeneralCall (master r.x) r.y))
      (levels x b (if x then was_reset (hold_asked (side (master r.x) now)) now else now))) q
      ∙ fits_settles Zero now (side_at l 0) (side_at l 1) s (fits_self Zero a.turn (side_at l 0)) (refl, refl, refl)
      in
      joined now _ 1 _ 0 0 owner _ lines _ (sym rest) (ap (λ (x : Bool). outcome_number (if x then Done else NotAcknowledged)) (sym q)) refl
      (o ∙ ap owner_byte (sym rest)) (i ∙ ap lines_byte (sym rest))
      ∙ sym (stepped (GeneralCall (master r.x) r.y) h)

  pub reset_arm : decode r ≡ Ok Reset → (d : Device) (x : Answer) → d ≡ was_reset 0 now → x ≡ answer 0 0 d → stepped_with d x ≡ step now r
  unfolding step_event taken in_sequence acknowledged outcome byte_read
  reset_arm h d x e f =
      ap (λ (y : Answer). stepped_with d y) f
      ∙ ap (λ (y : Device). stepped_with y (answer 0 0 y)) (e ∙ sym reset_parts)
      ∙ sym (stepped Reset h)
