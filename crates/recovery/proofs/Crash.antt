-- What a silent master keeps for ever: a claim or a grant that nothing ends, and a line that it pulls low.
-- Assumes nothing.
use mathlib.Core.Path.{◌≡◌, refl, sym, ap, ap₂, ◌∙◌, subst}
use mathlib.Core.Bool.{true≢false, and-eq-true_iff}
use mathlib.Core.Logic.{◌⊎◌, inl, inr, ⊎_elim}
use borrow.Author.Tests.{eqb-true, eq-eqb}
use Rattle.std.specs.Prelude.{◌&&◌, ◌||◌, ◌∷◌, if◌then◌else◌}
use Rattle.ranges.specs.Names.{ℕ, Bool, true, false, not, List, [], eqb, Master, Zero, One, Ground, Turn, Nobody, Claims, Owns, Register, Id}
use Rattle.ranges.specs.Names.{Contr, Status, Rt, IntStatus, IntMask, MailLow, MailHigh, Bus, Kind, Device, Raw, Event, Command, Write, Read, Stop, Pair, Lines}
use Rattle.ranges.specs.Names.{Tick, Pulse, Reset, GeneralCall}
use Rattle.arbiter.specs.Rules.{idle_limit}
use Rattle.arbiter.specs.Words.{partner, same_master, side}
use Rattle.arbiter.specs.State.{owns_turn, owns, claims, scl_high, sda_high, is_idle}
use Rattle.arbiter.specs.Events.{soft_reset}
use Rattle.arbiter.specs.Registers.{drives_written}
use Rattle.arbiter.specs.Effects.{written, was_read, lined, ticked, effect}
use Rattle.arbiter.specs.Order.{is_reset, levels, lost, losses_from, losses}
use Rattle.arbiter.specs.Steps.{parts, run_from, run}
use Rattle.arbiter.specs.AuditWords.{next, requests, resting, reserve_of, idle_timer_on, lets_go, is_stop_of, reset, levelled, never}
use Rattle.recovery.specs.Crash.{is_of, sent_by, endless, stalled_inside, pulls_low, blocks_bus}
use Rattle.arbiter.proofs.Choice.{either, if_true, not_true, owns_turn_lem, turn_owns}
use Rattle.arbiter.proofs.Runs.{never_comes}
use Rattle.arbiter.proofs.Effects.{effect_side}
use Rattle.arbiter.proofs.Order.{side_kept, after, after_sides}
use Rattle.arbiter.proofs.Owner.{mid, expired}
use Rattle.arbiter.proofs.Raws.{Takes, refuses, takes, met}
use Rattle.arbiter.proofs.Settled.{levels_still, out_idle, all_ready}
use Rattle.arbiter.proofs.Connected.{partner_not}
use Rattle.arbiter.proofs.KindKept.{limit_some}
use Rattle.arbiter.proofs.Tenure.{Owner, Owned, next_owned, run_owned, keeps, over, lot, rt_found}
use Rattle.audit.proofs.Blocking.{claims_turn_lem, claimant_asks, claim_goes, claim_asks, claimant_blocks}
use Rattle.recovery.proofs.Silent.{not_sent, never_sent, own_lets_go, own_stop, rt_on, timer_on}

-- ---- a claim or a grant that nothing ends

record Stuck (m : Master) (d : Device) : Type 0 where
  sound : Owned d
  rt : reserve_of m d ≡ 0
  off : idle_timer_on m d ≡ false
  turn : ((g : Ground) × (d.arb.turn ≡ Claims m g) × (requests m d ≡ true)) ⊎ Owner m d

-- the idle timer when part 3 looks is as it is after the event
lost_timer : (m k : Master) (d : Device) → idle_timer_on m (lost k d) ≡ idle_timer_on m d
unfolding lost
lost_timer Zero Zero d = refl
lost_timer Zero One d = refl
lost_timer One Zero d = refl
lost_timer One One d = refl

losses_timer : (m : Master) (t : Turn) (d : Device) → idle_timer_on m (losses_from t d) ≡ idle_timer_on m d
unfolding losses_from
losses_timer m Nobody d = refl
losses_timer m (Claims k g) d = refl
losses_timer m (Owns k g) d = either (λ (n : Device). idle_timer_on m n ≡ idle_timer_on m d) (expired k d) (λ h. lost_timer m k d) (λ h. refl)

timer_left : (m : Master) (r : Raw) (d : Device) → idle_timer_on m (next d r) ≡ idle_timer_on m (levelled r d)
unfolding parts losses
timer_left m r d =
    elim (met r d) [
      | refuses x ↦ ap (idle_timer_on m) (x.after ∙ sym x.middle)
      | takes e x ↦
          (let b : Device = mid e d in
          ap (idle_timer_on m) x.after
          ∙ ap (λ k. k.1) (side_kept m (after e (losses b)) (losses b) (after_sides e (losses b)))
          ∙ losses_timer m b.arb.turn b
          ∙ sym (ap (idle_timer_on m) x.middle))
    ]

module _ (m : Master) (r : Raw) (d : Device) (ok : reset r d ≡ false) (silent : sent_by m r d ≡ false) where
  stuck_on : Stuck m d → Stuck m (next d r)
  stuck_on s =
      let i : Owned (next d r) = next_owned r d s.sound in
      record {
        sound = i;
        rt = rt_on m r d ok silent ∙ s.rt;
        off = timer_on m r d ok silent ∙ s.off;
        turn = ⊎_elim (claimed i) owning s.turn;
      }
    where
      Turned : Device → Type 0
      Turned n = ((g : Ground) × (n.arb.turn ≡ Claims m g) × (requests m n ≡ true)) ⊎ Owner m n

      on : (e : Event) → Takes e r d → lets_go m e d ≡ false
      on e x = sym (x.same (lets_go m)) ∙ not_sent m (lets_go m) (own_lets_go m) r d silent

      claimed : Owned (next d r) → (g : Ground) × (d.arb.turn ≡ Claims m g) × (requests m d ≡ true) → Turned (next d r)
      claimed i (g, t, q) =
          elim (met r d) [
            | refuses x ↦ subst Turned (sym x.after) (inl (g, t, q))
            | takes e x ↦
                (let no : is_reset e ≡ false = sym (x.same λ f y. is_reset f) ∙ ok in
                let q1 : requests m (effect e d) ≡ true = (effect_side m e d no).stands (on e x) q in
                let w : (next d r).arb.turn ≡ _ = ap (λ (n : Device). n.arb.turn) x.after ∙ claim_goes m e d no t q1 in
                let asks : requests m (next d r) ≡ true = ap (requests m) x.after ∙ claim_asks m e d no t q1 in
                go (resting m (mid e d) && eqb (mid e d).bus.hold 0) w asks)
          ]
        where
          go : (b : Bool) → (next d r).arb.turn ≡ (if b then Owns m g else Claims m g) → requests m (next d r) ≡ true → Turned (next d r)
          go true w asks = inr (i m g w)
          go false w asks = inl (g, w, asks)

      owning : Owner m d → Turned (next d r)
      owning o =
          elim (lot m r d o ok) [
            | keeps k ↦ inr k.owner
            | over h c ↦ absurd (true≢false (sym (c (not_sent m (lets_go m) (own_lets_go m) r d silent)) ∙ unexpired))
          ]
        where
          unexpired : expired m (levelled r d) ≡ false
          unexpired =
              let l : Device = levelled r d in
              if_true (idle_timer_on m l && eqb l.bus.idle (idle_limit l)) (eqb l.arb.reserve 0 && is_idle l.bus)
              (eq-eqb (reserve_of m l) 0 (rt_found m r d (turn_owns m d.arb.turn o.turn) ok ∙ s.rt))
              ∙ ap (λ (b : Bool). b && eqb l.bus.idle (idle_limit l)) (sym (timer_left m r d) ∙ timer_on m r d ok silent ∙ s.off)

stuck_run : (m : Master) (rs : List Raw) (d : Device) → Stuck m d → never reset d rs ≡ true → never (sent_by m) d rs ≡ true → Stuck m (run_from d rs)
unfolding run_from
stuck_run m [] d s nr ns = s
stuck_run m (r ∷ rs) d s nr ns =
    let ok = never_comes reset r rs d nr in
    let silent = never_comes (sent_by m) r rs d ns in
    stuck_run m rs (next d r) (stuck_on m r d ok.0 silent.0 s) ok.1 silent.1

same_partner : (m : Master) → same_master (partner m) m ≡ false
same_partner Zero = refl
same_partner One = refl

stuck_unowned : (m : Master) (d : Device) → Stuck m d → owns (partner m) d ≡ false
stuck_unowned m d s =
    ⊎_elim (λ (c : (g : Ground) × (d.arb.turn ≡ Claims m g) × (requests m d ≡ true)). ap (owns_turn (partner m)) c.1)
    (λ (o : Owner m d). ap (owns_turn (partner m)) o.turn ∙ same_partner m) s.turn

-- ---- an owner that pulls a line low

-- both drives are released
abbrev pub loose : Bus → Bool
loose b = b.drivescl && b.drivesda

-- the byte of one that is not granted leaves them
byte_loose : (c : Bool) (r : Register) (v : ℕ) (b : Bus) → loose (drives_written false c r v b) ≡ loose b
unfolding drives_written
byte_loose c Id v b = refl
byte_loose c Contr v b = refl
byte_loose c Status v b = refl
byte_loose c Rt v b = refl
byte_loose c IntStatus v b = refl
byte_loose c IntMask v b = refl
byte_loose c MailLow v b = refl
byte_loose c MailHigh v b = refl

-- another than m is its partner
others : (m k : Master) (t : Turn) → same_master m k ≡ false → owns_turn (partner m) t ≡ false → owns_turn k t ≡ false
others Zero Zero t s o = absurd (true≢false s)
others Zero One t s o = o
others One Zero t s o = o
others One One t s o = absurd (true≢false s)

-- so where its partner does not own, no event but m's, short of a reset, moves them
pub effect_loose : (m : Master) (e : Event) (d : Device) → is_reset e ≡ false → is_of m e ≡ false → owns (partner m) d ≡ false → loose (effect e d).bus
    ≡ loose d.bus
unfolding effect written was_read lined ticked
effect_loose m (Command k c) d ok s o = refl
effect_loose m (Write k v) d ok s o =
    let c : Bool = (side k d).contr.busconnect in
    let r : Register = (side k d).pointer in
    ap (λ (g : Bool). loose (drives_written g c r v d.bus)) (others m k d.arb.turn s o) ∙ byte_loose c r v d.bus
effect_loose m (Read k) d ok s o = refl
effect_loose m (Stop k) d ok s o = refl
effect_loose m (Pair v0 v1) d ok s o = absurd (true≢false s)
effect_loose m (Lines scl sda intin) d ok s o = refl
effect_loose m Tick d ok s o = refl
effect_loose m (Pulse sda) d ok s o = refl
effect_loose m Reset d ok s o = absurd (true≢false ok)
effect_loose m (GeneralCall k b) d ok s o =
    either (λ (n : Device). loose n.bus ≡ loose d.bus) (soft_reset b) (λ r. absurd (true≢false (sym r ∙ ok))) (λ r. refl)

-- A bus is idle only with both released,
idle_loose : (b : Bus) → is_idle b ≡ true → loose b ≡ true
idle_loose b h =
    let outer = (and-eq-true_iff (not b.busy && scl_high b) (sda_high b)).0 h in
    let scl = ((and-eq-true_iff (b.outscl && b.drivescl) (eqb b.hold 0)).0 ((and-eq-true_iff (not b.busy) (scl_high b)).0 outer.0).1).0 in
    ap₂ ◌&&◌ ((and-eq-true_iff b.outscl b.drivescl).0 scl).1 ((and-eq-true_iff b.outsda b.drivesda).0 outer.1).1

-- and an owner loses only on an idle bus.
pub lost_idle : (m : Master) (e : Event) (d : Device) → expired m (mid e d) ≡ true → is_idle (mid e d).bus ≡ true
lost_idle m e d h =
    let b : Device = mid e d in
    out_idle (idle_limit b) (limit_some b.kind) (side m b) b.arb.reserve b.bus (levels_still (is_reset e) d.bus (effect e d)) h

record Low (m : Master) (d : Device) : Type 0 where
  owner : Owner m d
  low : loose d.bus ≡ false

low_on : (m : Master) (r : Raw) (d : Device) → reset r d ≡ false → sent_by m r d ≡ false → Low m d → Low m (next d r)
unfolding levels
low_on m r d ok silent l =
    elim (met r d) [
      | refuses x ↦ subst (Low m) (sym x.after) l
      | takes e x ↦
          (let no : is_reset e ≡ false = sym (x.same λ f y. is_reset f) ∙ ok in
          let out : owns (partner m) d ≡ false = partner_not m d.arb.turn (turn_owns m d.arb.turn l.owner.turn) in
          let pulled : loose (mid e d).bus ≡ false = effect_loose m e d no (sym (x.same λ f y. is_of m f) ∙ silent) out ∙ l.low in
          elim (lot m r d l.owner ok) [
            | keeps k ↦ record { owner = k.owner; low = ap (λ s. loose s.2) k.left ∙ ap (λ (n : Device). loose n.bus) x.middle ∙ pulled }
            | over h c ↦
                (let spent : expired m (mid e d) ≡ true = sym (ap (expired m) x.middle) ∙ c (not_sent m (lets_go m) (own_lets_go m) r d silent) in
                absurd (true≢false (sym (idle_loose (mid e d).bus (lost_idle m e d spent)) ∙ pulled)))
          ])
    ]

low_run : (m : Master) (rs : List Raw) (d : Device) → Low m d → never reset d rs ≡ true → never (sent_by m) d rs ≡ true → Low m (run_from d rs)
unfolding run_from
low_run m [] d l nr ns = l
low_run m (r ∷ rs) d l nr ns =
    let ok = never_comes reset r rs d nr in
    let silent = never_comes (sent_by m) r rs d ns in
    low_run m rs (next d r) (low_on m r d ok.0 silent.0 l) ok.1 silent.1

-- ---- the statement

pub or_cases : (a b : Bool) → a || b ≡ true → (a ≡ true) ⊎ (b ≡ true)
or_cases true b h = inl refl
or_cases false b h = inr h

-- Where m keeps p out, p owns after no events without a reset and without one of m's.
module _ (k : Kind) (m : Master) (rs later : List Raw) (nr : never reset (run k rs) later ≡ true) (ns : never (sent_by m) (run k rs) later ≡ true) where
  abbrev d : Device
  d = run k rs

  abbrev Out : Type 0
  Out = owns (partner m) (run_from d later) ≡ false

  inside_out : stalled_inside m d ≡ true → Out
  inside_out h =
      let both = (and-eq-true_iff (claims m d) (not (resting m d))).0 h in
      (claimant_blocks k m rs later both.0 (not_true (resting m d) both.1) nr (never_sent m (lets_go m) (own_lets_go m) later d ns)
      (never_sent m (λ e x. is_stop_of m e) (own_stop m) later d ns)).1 (partner m)

  endless_out : (claims m d || owns m d) && endless m d ≡ true → Out
  endless_out h =
      let both = (and-eq-true_iff (claims m d || owns m d) (endless m d)).0 h in
      let ends = (and-eq-true_iff (eqb (reserve_of m d) 0) (not (idle_timer_on m d))).0 both.1 in
      stuck_unowned m (run_from d later)
      (stuck_run m later d
      (record {
        sound = run_owned k rs;
        rt = eqb-true (reserve_of m d) 0 ends.0;
        off = not_true (idle_timer_on m d) ends.1;
        turn =
            ⊎_elim
            (λ (c : claims m d ≡ true). let t = claims_turn_lem m d.arb.turn c in inl (t.0, t.1, claimant_asks m d (all_ready k rs).1 t.1))
            (λ (o : owns m d ≡ true). let t = owns_turn_lem m d.arb.turn o in inr (run_owned k rs m t.0 t.1))
            (or_cases (claims m d) (owns m d) both.0);
      }) nr ns)

  low_out : pulls_low m d ≡ true → Out
  low_out h =
      let both = (and-eq-true_iff (owns m d) (not (loose d.bus))).0 h in
      let t = owns_turn_lem m d.arb.turn both.0 in
      let l = low_run m later d (record { owner = run_owned k rs m t.0 t.1; low = not_true (loose d.bus) both.1 }) nr ns in
      ap (owns_turn (partner m)) l.owner.turn ∙ same_partner m

  pub crash_blocks : blocks_bus m d ≡ true → Out
  crash_blocks h =
      ⊎_elim
      (λ (x : stalled_inside m d || (claims m d || owns m d) && endless m d ≡ true).
      ⊎_elim (λ (y : stalled_inside m d ≡ true). inside_out y) (λ (y : (claims m d || owns m d) && endless m d ≡ true). endless_out y)
      (or_cases (stalled_inside m d) ((claims m d || owns m d) && endless m d) x))
      (λ (x : pulls_low m d ≡ true). low_out x)
      (or_cases (stalled_inside m d || (claims m d || owns m d) && endless m d) (pulls_low m d) h)
