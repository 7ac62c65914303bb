-- A closed switch stays closed exactly as long as its master owns, leaves its BUS_CONNECT set and is not cut, over every run.
-- Assumes nothing.
use mathlib.Core.Path.{◌≡◌, refl, sym, ap, ap₂, ◌∙◌}
use mathlib.Core.Bool.{true≢false, false≢true, and-eq-true_iff, and-true, and-false, not-not}
use Rattle.std.specs.Prelude.{◌&&◌, ◌∷◌, if◌then◌else◌}
use Rattle.ranges.specs.Names.{ℕ, Bool, true, false, not, List, [], eqb, Master, Zero, One, Ground, Turn, Nobody, Owns, Register, Id, Contr, Status}
use Rattle.ranges.specs.Names.{Rt, IntStatus, IntMask, MailLow, MailHigh, Switch, Apart, Initialising, Closed, Clock, Side, Device, Raw, Event, Command, Write}
use Rattle.ranges.specs.Names.{Read, Stop, Pair, Lines, Tick, Pulse, Reset, GeneralCall}
use Rattle.arbiter.specs.Rules.{rolls}
use Rattle.arbiter.specs.Words.{bit, partner, side}
use Rattle.arbiter.specs.State.{owns, closed_for, connected}
use Rattle.arbiter.specs.Registers.{disconnected, withdraws, own_written}
use Rattle.arbiter.specs.Parts.{with_side}
use Rattle.arbiter.specs.Events.{good_command, soft_reset}
use Rattle.arbiter.specs.Effects.{commanded, write_risen, reader_side, written, paired, was_read, lined, ticked, effect}
use Rattle.arbiter.specs.Order.{is_reset, is_tick, clock_of, cut_ticks, levels, cut_from, cut, claim, grant, switched, joined, kept_joined, connect_from}
use Rattle.arbiter.specs.Order.{connect}
use Rattle.arbiter.specs.Steps.{parts, run_from, run}
use Rattle.arbiter.specs.AuditWords.{next, is_contr, clears_request, lets_go, reset, never, throughout}
use Rattle.audit.specs.Connection.{clears_connect, disconnects, disconnection_of, cut_of, ConnectionExact, StaysConnected}
use Rattle.arbiter.proofs.Choice.{either, split, if_true, if_false, of_either, same_self, owns_turn_lem}
use Rattle.arbiter.proofs.Cases.{cut_cases}
use Rattle.arbiter.proofs.Runs.{never_comes, now, hence}
use Rattle.arbiter.proofs.Order.{owned, claim_owned, grant_owned, cut_still}
use Rattle.arbiter.proofs.Owner.{mid, turn_kept, losses_kept, over_unowned, Stays, stays, ends, fate}
use Rattle.arbiter.proofs.Raws.{refuses, takes, met, event_tick}
use Rattle.arbiter.proofs.Resets.{reset_ends}
use Rattle.arbiter.proofs.Connected.{asks_on, Served, step_served, all_served, serves_owner, closed_served}
use Rattle.arbiter.proofs.Ended.{risen_contr, mail_contr}
use Rattle.arbiter.proofs.Tenure.{Owned, next_owned, run_owned}

-- ---- part 1: BUS_CONNECT

-- A byte that does not clear the request writes BUS_CONNECT in CONTR alone.
own_asks : (g : Bool) (r : Register) (v : ℕ) (s : Side) → is_contr r && not (bit 0 v) ≡ false
    → (own_written g r v s).contr.busconnect ≡ (if is_contr r then bit 2 v else s.contr.busconnect)
unfolding own_written
own_asks g Id v s h = refl
own_asks g Contr v s h =
    either (λ (x : Side). x.contr.busconnect ≡ bit 2 v) (withdraws g v)
    (λ w. absurd (true≢false (sym ((and-eq-true_iff g (not (bit 0 v))).0 w).1 ∙ h))) (λ w. refl)
own_asks g Status v s h = refl
own_asks g Rt v s h = either (λ (x : Side). x.contr.busconnect ≡ s.contr.busconnect) g (λ w. refl) (λ w. refl)
own_asks g IntStatus v s h = refl
own_asks g IntMask v s h = refl
own_asks g MailLow v s h = refl
own_asks g MailHigh v s h = refl

-- So where it was set it is set after it, unless the byte clears it.
byte_asks : (contr b q : Bool) → q ≡ true → (if contr then b else q) ≡ not (contr && not b)
byte_asks true b q h = sym (not-not b)
byte_asks false b q h = h

writer_asks : (rolls g : Bool) (v : ℕ) (s : Side) → clears_request v s ≡ false → s.contr.busconnect ≡ true
    → (write_risen rolls (own_written g s.pointer v s)).contr.busconnect ≡ not (clears_connect v s)
writer_asks rolls g v s on q =
    ap (λ c. c.busconnect) (risen_contr rolls (own_written g s.pointer v s))
    ∙ own_asks g s.pointer v s on
    ∙ byte_asks (is_contr s.pointer) (bit 2 v) s.contr.busconnect q

-- COMMAND and READ leave CONTR.
pub commanded_contr : (c : ℕ) (s : Side) → (commanded c s).contr ≡ s.contr
unfolding commanded
commanded_contr c s = either (λ (x : Side). x.contr ≡ s.contr) (good_command c) (λ h. refl) (λ h. refl)

pub reader_contr : (s : Side) → (reader_side s).contr ≡ s.contr
reader_contr s = either (λ (x : Side). x.contr ≡ s.contr) s.auto (λ h. refl) (λ h. refl)

-- Of every event that is no reset and no withdrawal.
effect_asks : (m : Master) (e : Event) (d : Device) → is_reset e ≡ false → lets_go m e d ≡ false → asks_on m d ≡ true
    → asks_on m (effect e d) ≡ not (disconnects m e d)
unfolding effect written paired was_read lined ticked
effect_asks m (Command k c) d h on a =
    of_either (λ (j : Master) (same : Bool) (x y : Side). x.contr.busconnect ≡ true → y.contr.busconnect ≡ true) m k d _ _
    (λ q. ap (λ z. z.busconnect) (commanded_contr c (side k d)) ∙ q) (λ q. q) a
effect_asks m (Write k v) d h on q =
    of_either
    (λ (j : Master) (same : Bool) (x y : Side).
    same && clears_request v x ≡ false → x.contr.busconnect ≡ true → y.contr.busconnect ≡ not (same && clears_connect v x))
    m k d _ _
    (λ l a. writer_asks (rolls d) (owns k d) v (side k d) l a)
    (λ l a. ap (λ z. z.busconnect) (mail_contr (side k d).pointer v (side (partner k) d)) ∙ a) on q
effect_asks m (Read k) d h on a =
    of_either (λ (j : Master) (same : Bool) (x y : Side). x.contr.busconnect ≡ true → y.contr.busconnect ≡ true) m k d _ _
    (λ q. ap (λ z. z.busconnect) (reader_contr (side k d)) ∙ q) (λ q. q) a
effect_asks m (Stop k) d h on a =
    of_either (λ (j : Master) (same : Bool) (x y : Side). x.contr.busconnect ≡ true → y.contr.busconnect ≡ true) m k d _ _ (λ q. q) (λ q. q) a
effect_asks Zero (Pair v0 v1) d h on q =
    ap (λ z. z.busconnect) (mail_contr d.side1.pointer v1 _) ∙ writer_asks (rolls d) (owns Zero d) v0 d.side0 on q
effect_asks One (Pair v0 v1) d h on q =
    ap (λ z. z.busconnect) (mail_contr d.side0.pointer v0 _) ∙ writer_asks (rolls d) (owns One d) v1 d.side1 on q
effect_asks Zero (Lines scl sda intin) d h on q = q
effect_asks One (Lines scl sda intin) d h on q = q
effect_asks m Tick d h on q = q
effect_asks m (Pulse sda) d h on q = q
effect_asks m Reset d h on q = absurd (true≢false h)
effect_asks m (GeneralCall k b) d h on q = either (λ (n : Device). asks_on m n ≡ true) (soft_reset b) (λ r. absurd (true≢false (sym r ∙ h))) (λ r. q)

-- It leaves the switch.
effect_switch : (e : Event) (d : Device) → is_reset e ≡ false → (effect e d).arb.switch ≡ d.arb.switch
unfolding effect written paired was_read lined ticked
effect_switch (Command k c) d h = refl
effect_switch (Write k v) d h = refl
effect_switch (Read k) d h = refl
effect_switch (Stop k) d h = refl
effect_switch (Pair v0 v1) d h = refl
effect_switch (Lines scl sda intin) d h = refl
effect_switch Tick d h = refl
effect_switch (Pulse sda) d h = refl
effect_switch Reset d h = absurd (true≢false h)
effect_switch (GeneralCall k b) d h =
    either (λ (n : Device). n.arb.switch ≡ d.arb.switch) (soft_reset b) (λ r. absurd (true≢false (sym r ∙ h))) (λ r. refl)

-- ---- parts 4 and 7

-- the 35-tick cut, as part 4 asks for it
abbrev cuts : Master → Bool → Device → Bool
cuts m on d = on && eqb d.bus.lowscl cut_ticks && (side m d).contr.smbusdis

pub cleared_asks : (m : Master) (d : Device) → asks_on m (with_side m (disconnected (side m d)) d) ≡ false
cleared_asks Zero d = refl
cleared_asks One d = refl

-- Part 4 clears the owner's BUS_CONNECT by it,
cut_asks : (m : Master) (g : Ground) (on : Bool) (d : Device) → asks_on m (cut_from on (Owns m g) d) ≡ asks_on m d && not (cuts m on d)
unfolding cut_from
cut_asks m g on d = go (cuts m on d)
  where
    go : (b : Bool) → asks_on m (if b then with_side m (disconnected (side m d)) d else d) ≡ asks_on m d && not b
    go true = cleared_asks m d ∙ sym (and-false (asks_on m d))
    go false = sym (and-true (asks_on m d))

-- and leaves the switch.
cut_switch : (m : Master) (g : Ground) (on : Bool) (d : Device) → (cut_from on (Owns m g) d).arb.switch ≡ d.arb.switch
cut_switch m g on d = cut_cases (λ (n : Device). n.arb.switch ≡ d.arb.switch) on m g d refl refl

-- Part 7 keeps a switch that is closed for the owner closed exactly if the owner's BUS_CONNECT is set.
connect_closed : (c : Clock) (m : Master) {g : Ground} (d : Device) → d.arb.turn ≡ Owns m g → d.arb.switch ≡ Closed m
    → connected m (connect c d) ≡ asks_on m d
unfolding connect connect_from kept_joined
connect_closed c m {g} d t w =
    ap (λ (u : Turn). connected m (connect_from c u d)) t
    ∙ split (asks_on m d)
    (λ a. ap (connected m) (if_true (kept_joined c m d.arb.switch d) (switched Apart d) a)
    ∙ ap (λ (v : Switch). connected m (kept_joined c m v d)) w
    ∙ ap (connected m) (if_true d (joined m d) (same_self m))
    ∙ ap (closed_for m) w
    ∙ same_self m
    ∙ sym a)
    (λ a. ap (connected m) (if_false (kept_joined c m d.arb.switch d) (switched Apart d) a) ∙ sym a)

-- ---- one event that is taken, and after which m owns

-- A tick leaves CONTR.
tick_leaves : (m : Master) (d : Device) → (side m (mid Tick d)).contr.smbusdis ≡ (side m d).contr.smbusdis
unfolding levels effect ticked
tick_leaves Zero d = refl
tick_leaves One d = refl

-- A switch that is closed for m is this one.
closed_turn : (m : Master) (w : Switch) → closed_for m w ≡ true → w ≡ Closed m
closed_turn m Apart h = absurd (false≢true h)
closed_turn m (Initialising k n) h = absurd (false≢true h)
closed_turn Zero (Closed Zero) h = refl
closed_turn Zero (Closed One) h = absurd (false≢true h)
closed_turn One (Closed Zero) h = absurd (false≢true h)
closed_turn One (Closed One) h = refl

module _ (m : Master) {g : Ground} (e : Event) (d : Device) (ok : is_reset e ≡ false) (t : d.arb.turn ≡ Owns m g) (s : Stays m g e d) where
  -- m does not withdraw in it,
  stays_on : lets_go m e d ≡ false
  unfolding levels
  stays_on =
      split (lets_go m e d)
      (λ l. absurd (false≢true (ap owned (sym (turn_kept e d (Owns m g) ok t ∙ if_true Nobody (Owns m g) l) ∙ s.turn)))) (λ l. l)

  -- and its step is that of parts 1, 2, 4 and 7.
  stays_whole : parts e d ≡ connect (clock_of e) (cut_from (is_tick e) (Owns m g) (mid e d))
  unfolding parts cut
  stays_whole =
      let b : Device = mid e d in
      let c : Device = cut_from (is_tick e) (Owns m g) b in
      let tc : c.arb.turn ≡ Owns m g = ap (λ x. x.4) (cut_still (is_tick e) (Owns m g) b) ∙ s.turn in
      ap (λ (x : Device). connect (clock_of e) (grant (claim (cut (is_tick e) x)))) (losses_kept m b s.turn s.unlost)
      ∙ ap (λ (u : Turn). connect (clock_of e) (grant (claim (cut_from (is_tick e) u b)))) s.turn
      ∙ ap (λ (x : Device). connect (clock_of e) (grant x)) (claim_owned m c tc)
      ∙ ap (connect (clock_of e)) (grant_owned m c tc)

  -- What part 4 asks for is the cut as the auditor has it.
  cut_found : cuts m (is_tick e) (mid e d) ≡ is_tick e && eqb (parts e d).bus.lowscl cut_ticks && (side m d).contr.smbusdis
  unfolding levels
  cut_found =
      let low : (parts e d).bus.lowscl ≡ (mid e d).bus.lowscl = ap (λ x. x.2.lowscl) s.left in
      split (is_tick e)
      (λ h. let disabled : (side m (mid e d)).contr.smbusdis ≡ (side m d).contr.smbusdis =
      ap (λ (f : Event). (side m (mid f d)).contr.smbusdis) (event_tick e h) ∙ tick_leaves m d
      in
      ap₂ (λ (n : ℕ) (b : Bool). is_tick e && eqb n cut_ticks && b) (sym low) disabled)
      (λ h. ap (λ (b : Bool). b && eqb (mid e d).bus.lowscl cut_ticks && (side m (mid e d)).contr.smbusdis) h
      ∙ sym (ap (λ (b : Bool). b && eqb (parts e d).bus.lowscl cut_ticks && (side m d).contr.smbusdis) h))

  -- So m is connected after it exactly without its own byte and without the cut.
  stays_exact : asks_on m d ≡ true → d.arb.switch ≡ Closed m
      → connected m (parts e d) ≡ not (disconnects m e d) && not (is_tick e && eqb (parts e d).bus.lowscl cut_ticks && (side m d).contr.smbusdis)
  unfolding levels
  stays_exact a w =
      let b : Device = mid e d in
      let c : Device = cut_from (is_tick e) (Owns m g) b in
      ap (connected m) stays_whole
      ∙ connect_closed (clock_of e) m c (ap (λ x. x.4) (cut_still (is_tick e) (Owns m g) b) ∙ s.turn)
      (cut_switch m g (is_tick e) b ∙ effect_switch e d ok ∙ w)
      ∙ cut_asks m g (is_tick e) b
      ∙ ap₂ (λ (x y : Bool). x && not y) (effect_asks m e d ok stays_on a) cut_found

-- ---- four bytes

-- Who does not own is not connected.
unowned_open : (m : Master) (d : Device) → Served d → owns m d ≡ false → connected m d ≡ false
unowned_open m d sv o =
    split (connected m d) (λ c. absurd (true≢false (sym (serves_owner d sv m (closed_served m d.arb.switch c)) ∙ o))) (λ c. c)

-- Of any device in which the switch serves the owner that asks, and in which an owner has no hold.
exact : (m : Master) (r : Raw) (d : Device) → Owned d → Served d → connected m d ≡ true
    → connected m (next d r) ≡ owns m (next d r) && not (disconnection_of m r d) && not (cut_of m r d)
exact m r d i sv h = split (owns m (next d r)) owned-exact unowned-exact
  where
    unowned-exact : owns m (next d r) ≡ false → connected m (next d r) ≡ owns m (next d r) && not (disconnection_of m r d) && not (cut_of m r d)
    unowned-exact o =
        unowned_open m (next d r) (step_served d r sv) o
        ∙ sym (ap (λ (a : Bool). a && not (disconnection_of m r d) && not (cut_of m r d)) o)

    owned-exact : owns m (next d r) ≡ true → connected m (next d r) ≡ owns m (next d r) && not (disconnection_of m r d) && not (cut_of m r d)
    owned-exact o =
        let both = (and-eq-true_iff (owns m d) (asks_on m d)).0 (sym (sv m) ∙ closed_served m d.arb.switch h) in
        let t = owns_turn_lem m d.arb.turn both.0 in
        let ok : reset r d ≡ false = split (reset r d) (λ q. absurd (true≢false (sym o ∙ reset_ends m d r q))) (λ q. q) in
        elim (met r d) [
          | refuses x ↦
              (ap (connected m) x.after ∙ h
              ∙ sym (ap₂ (λ (a b : Bool). a && not b && not (cut_of m r d)) o (x.none (disconnects m))
              ∙ ap (λ (a : Bool). not (a && eqb (next d r).bus.lowscl cut_ticks && (side m d).contr.smbusdis)) (x.none λ f y. is_tick f)))
          | takes e x ↦
              (let no : is_reset e ≡ false = sym (x.same λ f y. is_reset f) ∙ ok in
              elim (fate m e d no t.1 (i m t.0 t.1).hold) [
                | stays s ↦
                    (ap (connected m) x.after
                    ∙ stays_exact m e d no t.1 s both.1 (closed_turn m d.arb.switch h)
                    ∙ sym (ap₂ (λ (a b : Bool). a && not b && not (cut_of m r d)) o (x.same (disconnects m))
                    ∙ ap₂
                    (λ (a : Bool) (y : Device). not (disconnects m e d) && not (a && eqb y.bus.lowscl cut_ticks && (side m d).contr.smbusdis))
                    (x.same λ f y. is_tick f) x.after))
                | ends f c ↦ absurd (true≢false (sym o ∙ ap (owns m) x.after ∙ over_unowned m (parts e d) f))
              ])
        ]

pub connection_exact : ConnectionExact
connection_exact k m rs r h = exact m r (run k rs) (run_owned k rs) (all_served k rs) h

-- ---- the events of a run

-- One that leaves m the owner, without its own byte and without the cut, leaves it connected.
connected_on : (m : Master) (r : Raw) (d : Device) → Owned d → Served d → connected m d ≡ true → owns m (next d r) ≡ true
    → disconnection_of m r d ≡ false → cut_of m r d ≡ false → connected m (next d r) ≡ true
connected_on m r d i sv h o off uncut =
    exact m r d i sv h ∙ ap₂ (λ (a b : Bool). a && not b && not (cut_of m r d)) o off ∙ ap not uncut

pub stays_connected_from : (m : Master) (rs : List Raw) (d : Device) → Owned d → Served d → connected m d ≡ true → throughout (owns m) d rs ≡ true
    → never (disconnection_of m) d rs ≡ true → never (cut_of m) d rs ≡ true → connected m (run_from d rs) ≡ true
unfolding run_from
stays_connected_from m [] d i sv h all nd nc = h
stays_connected_from m (r ∷ rs) d i sv h all nd nc =
    let n : Device = next d r in
    let on = hence (owns m) r rs d all in
    let off = never_comes (disconnection_of m) r rs d nd in
    let uncut = never_comes (cut_of m) r rs d nc in
    stays_connected_from m rs n (next_owned r d i) (step_served d r sv)
    (connected_on m r d i sv h (now (owns m) rs n on) off.0 uncut.0) on off.1 uncut.1

pub stays_connected : StaysConnected
stays_connected k m rs later h all nd nc = stays_connected_from m later (run k rs) (run_owned k rs) (all_served k rs) h all nd nc
