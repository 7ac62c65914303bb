-- A byte at RT while m owns is not stored, and over all that m sends as the owner its reserve stays. Once m has withdrawn it is stored.
-- Assumes nothing.
use Prim.Native.Nat.{ℕ}
use mathlib.Core.Path.{◌≡◌, refl, sym, ap, ap₂, ◌∙◌, subst}
use mathlib.Core.Bool.{Bool, true, false, not, ◌&&◌, true≢false, false≢true, and-eq-true_iff}
use mathlib.Core.List.{List, [], ◌∷◌}
use lib.Dec.{eqb}
use Rattle.arbiter.specs.Rules.{rules_of}
use Rattle.arbiter.specs.Words.{partner}
use Rattle.arbiter.specs.State.{owns_turn, owns}
use Rattle.arbiter.specs.Registers.{own_written, mail_written, drives_written, turn_written}
use Rattle.arbiter.specs.Events.{decode, in_sequence, acknowledged, outcome}
use Rattle.arbiter.specs.Effects.{commanded, written, lined, ticked, fresh_side, power_up, effect}
use Rattle.arbiter.specs.Order.{is_reset, levels, lost, losses_from, losses, cut_from, cut, winner, claim, granted, grant_from, grant, connect_from, connect}
use Rattle.arbiter.specs.Steps.{parts, taken, step_event, step_decoded, step, run_from, run}
use Rattle.arbiter.specs.AuditWords.{next, requests, resting, reserve_of, accepted, is_accepted, reset, lets_go, withdrawal_of, grant_taken, never}
use Rattle.arbiter.specs.Marks.{stop}
use Rattle.arbiter.specs.Witnesses.{number}
use Rattle.ranges.specs.Names.{Master, Zero, One, Ground, Nobody, Owns, Kind, Pca9641, Tpt29641, Device, Raw, Event, Command, Write, Read, Stop, Pair, Lines}
use Rattle.ranges.specs.Names.{Tick, Pulse, Reset, GeneralCall}
use Rattle.audit.specs.SettingsKept.{is_rt, writes_at, byte_by, stores, stores_rt}
use Rattle.sheets.specs.declared.Setting.{Setting}
use Rattle.sheets.specs.Settings.{control_byte, setting_events, order_events}
use Rattle.guarantee.specs.Starts.{is_by, those}
use Rattle.guarantee.specs.Reboot.{RebootStores, RebootWhileOwning, StartsAgain, RebootAfterWithdrawal, new_setting, six_among, reboot_rows, RebootRowsHold}
use Rattle.arbiter.proofs.Choice.{split, if_true, if_false, owns_turn_lem}
use Rattle.arbiter.proofs.Effects.{effect_side}
use Rattle.arbiter.proofs.Order.{owned, after, losses_unowned}
use Rattle.arbiter.proofs.Owner.{mid, turn_kept, Over, over_next, asks, stays, ends, fate}
use Rattle.arbiter.proofs.Raws.{refuses, takes, met}
use Rattle.arbiter.proofs.Runs.{never_comes, now, hence}
use Rattle.arbiter.proofs.Settled.{refused_unchanged}
use Rattle.arbiter.proofs.Waiting.{is_next}
use Rattle.audit.proofs.SettingsKept.{byte_no_reset, rt_kept, rt_stored}
use Rattle.guarantee.proofs.StartParts.{parts_request, after_asks, unasked}
use Rattle.guarantee.proofs.StartOthers.{left_by_others}
use Rattle.guarantee.proofs.StartOwn.{stops}
use Rattle.guarantee.proofs.StartRaws.{foreign}
use Rattle.guarantee.proofs.StartStages.{none, Silent, At, silent_on, heads, not_empty}
use Rattle.guarantee.proofs.StartWalk.{those_first, those_later, is_other, others_none}
use Rattle.guarantee.proofs.Starts.{to_the_end, asks_or_granted}

-- an owner stores nothing
and_none : (a : Bool) → a && false ≡ false
and_none true = refl
and_none false = refl

owner_stores_none : (m : Master) (r : Raw) (d : Device) → owns m d ≡ true → stores_rt m r d ≡ false
owner_stores_none m r d o =
    elim (met r d) [
      | refuses x ↦ x.none (stores m)
      | takes e x ↦ ((x.same (stores m)) ∙ ap (λ (b : Bool). writes_at is_rt m e d && not b) o ∙ and_none (writes_at is_rt m e d))
    ]

-- what is accepted as such a one and another
accepted_first : (f g : Event → Device → Bool) (r : Raw) (d : Device) → accepted (λ (e : Event) (x : Device). f e x && g e x) r d ≡ true → accepted f r d ≡ true
accepted_first f g r d h =
    elim (met r d) [
      | refuses x ↦ absurd (false≢true (sym (x.none λ e y. f e y && g e y) ∙ h))
      | takes e x ↦ (x.same f ∙ ((and-eq-true_iff (f e d) (g e d)).0 (sym (x.same λ e y. f e y && g e y) ∙ h)).0)
    ]

byte_unreset : (m : Master) (r : Raw) (d : Device) → accepted (writes_at is_rt m) r d ≡ true → reset r d ≡ false
byte_unreset m r d h =
    elim (met r d) [
      | refuses x ↦ x.none λ e y. is_reset e
      | takes e x ↦ ((x.same λ e y. is_reset e) ∙ byte_no_reset is_rt m e d (sym (x.same (writes_at is_rt m)) ∙ h))
    ]

-- m does not own, so its byte is stored
unowned_stores : (m : Master) (r : Raw) (d : Device) (v : ℕ) → owns m d ≡ false
    → accepted (λ (e : Event) (x : Device). writes_at is_rt m e x && eqb (byte_by m e) v) r d ≡ true
    → accepted (λ (e : Event) (x : Device). stores m e x && eqb (byte_by m e) v) r d ≡ true
unowned_stores m r d v free h =
    elim (met r d) [
      | refuses x ↦ absurd (false≢true (sym (x.none λ e y. writes_at is_rt m e y && eqb (byte_by m e) v) ∙ h))
      | takes e x ↦
          (let both = (and-eq-true_iff (writes_at is_rt m e d) (eqb (byte_by m e) v)).0
          (sym (x.same λ e y. writes_at is_rt m e y && eqb (byte_by m e) v) ∙ h) in
          (x.same λ e y. stores m e y && eqb (byte_by m e) v) ∙ ap₂ ◌&&◌ (ap₂ (λ (a b : Bool). a && not b) both.0 free) both.1)
    ]

pub reboot_stores : RebootStores
reboot_stores m d r v h =
    split (owns m d)
    (λ o.
    rt_kept m d r (byte_unreset m r d (accepted_first (writes_at is_rt m) (λ e y. eqb (byte_by m e) v) r d h)) (owner_stores_none m r d o)
    ∙ sym (if_true (reserve_of m d) v o))
    (λ o. rt_stored m d r v (unowned_stores m r d v o h) ∙ sym (if_false (reserve_of m d) v o))

pub reboot_while_owning : RebootWhileOwning
unfolding run_from
reboot_while_owning m d [] nr h = refl
reboot_while_owning m d (r ∷ rs) nr h =
    let ok = never_comes reset r rs d nr in
    reboot_while_owning m (next d r) rs ok.1 (hence (owns m) r rs d h)
    ∙ rt_kept m d r ok.0 (owner_stores_none m r d (now (owns m) (r ∷ rs) d h))

-- ---- one that withdraws first

-- A withdrawal is no reset.
gone_no_reset : (m : Master) (e : Event) (d : Device) → lets_go m e d ≡ true → is_reset e ≡ false
gone_no_reset m (Command k c) d h = refl
gone_no_reset m (Write k v) d h = refl
gone_no_reset m (Read k) d h = refl
gone_no_reset m (Stop k) d h = refl
gone_no_reset m (Pair v0 v1) d h = refl
gone_no_reset m (Lines scl sda intin) d h = refl
gone_no_reset m Tick d h = refl
gone_no_reset m (Pulse sda) d h = refl
gone_no_reset m Reset d h = absurd (false≢true h)
gone_no_reset m (GeneralCall k b) d h = absurd (false≢true h)

-- Part 1 leaves no request of m's,
gone_request : (m : Master) (e : Event) (d : Device) → lets_go m e d ≡ true → requests m (effect e d) ≡ false
gone_request m e d l = (effect_side m e d (gone_no_reset m e d l)).falls l

module _ (m : Master) {g : Ground} (e : Event) (d : Device) (t : d.arb.turn ≡ Owns m g) (l : lets_go m e d ≡ true) where
  -- and the turn to nobody, if m owned,
  gone_turn : (mid e d).arb.turn ≡ Nobody
  unfolding levels
  gone_turn = turn_kept e d (Owns m g) (gone_no_reset m e d l) t ∙ if_true Nobody (Owns m g) l

  -- so that after the step m neither owns nor requests,
  gone_silent : Silent m (parts e d)
  unfolding parts levels
  gone_silent =
      let x : Device = mid e d in
      let same : parts e d ≡ after e x = ap (after e) (losses_unowned x (ap owned gone_turn)) in
      let gone : requests m x ≡ false = gone_request m e d l in (
        ap (owns m) same
            ∙ split (owns m (after e x))
            (λ h. absurd (true≢false (sym (after_asks m e x (ap (owns_turn m) gone_turn) h) ∙ gone)))
            (λ h. h),
        ap (requests m) same ∙ asks m e x ∙ gone,
      )

  -- and with no hold its grant is over.
  gone_over : d.bus.hold ≡ 0 → Over m (parts e d)
  gone_over z =
      elim (fate m e d (gone_no_reset m e d l) t z) [
        | stays s ↦ absurd (false≢true (ap owned (sym gone_turn ∙ s.turn)))
        | ends h c ↦ h
      ]

module _ (m : Master) (r : Raw) (d : Device) (w : withdrawal_of m r d ≡ true) where
  withdrawn : Silent m (next d r)
  withdrawn =
      elim (met r d) [
        | refuses x ↦ absurd (false≢true (sym (x.none (lets_go m)) ∙ w))
        | takes e x ↦
            (let l : lets_go m e d ≡ true = sym (x.same (lets_go m)) ∙ w in
            split (owns m d)
            (λ o. subst (Silent m) (sym x.after) (gone_silent m e d (owns_turn_lem m d.arb.turn o).1 l))
            (λ o. let q : requests m (next d r) ≡ false = ap (requests m) x.after ∙ parts_request m e d o ∙ gone_request m e d l in
            (unasked m r d o q, q)))
      ]

  withdrawn_over : owns m d ≡ true → d.bus.hold ≡ 0 → Over m (next d r)
  withdrawn_over o z =
      elim (met r d) [
        | refuses x ↦ absurd (false≢true (sym (x.none (lets_go m)) ∙ w))
        | takes e x ↦ subst (Over m) (sym x.after) (gone_over m e d (owns_turn_lem m d.arb.turn o).1 (sym (x.same (lets_go m)) ∙ w) z)
      ]

-- Its STOP, taken or refused, leaves it silent,
stop_refused : (m : Master) (d : Device) → resting m d ≡ true → is_accepted (stop (number m)) d ≡ false
unfolding decode in_sequence
stop_refused Zero d h = ap (λ (b : Bool). not b && true) h
stop_refused One d h = ap (λ (b : Bool). not b && true) h

stop_silent : (m : Master) (d : Device) → Silent m d → Silent m (next d (stop (number m)))
stop_silent m d a =
    let r : Raw = stop (number m) in
    split (resting m d)
    (λ h. subst (Silent m) (sym (refused_unchanged d r (stop_refused m d h))) a)
    (λ h. silent_on m r d ((stops m d h).1.request a.0) a)

-- and from there its six events lead to its setting, as from power-up.
again : (Q : Type 0) (m : Master) (s : Setting) (rs : List Raw) (d : Device)
    → those (is_by (number m)) rs ≡ stop (number m) ∷ setting_events (number m) s → those is_other rs ≡ []
    → (Q → never (grant_taken m) d rs ≡ true) → Silent m d → At Q none m s (run_from d rs)
unfolding run_from those
again Q m s [] d e o n a = absurd (not_empty (sym e))
again Q m s (r ∷ rs) d e o n a =
    let b = others_none r rs o in
    let later : Q → never (grant_taken m) (next d r) rs ≡ true = λ q. (never_comes (grant_taken m) r rs d (n q)).1 in
    split (is_by (number m) r)
    (λ h. let is = heads (sym (those_first (is_by (number m)) r rs h) ∙ e) in
    to_the_end Q m s rs (next d r) is.1 b.1 later (subst (λ (x : Raw). Silent m (next d x)) (sym is.0) (stop_silent m d a)))
    (λ h. again Q m s rs (next d r) (sym (those_later (is_by (number m)) r rs h) ∙ e) b.1 later
    (silent_on m r d ((left_by_others m r d (foreign m r d b.0 h)).request a.0) a))

pub reboot_after_withdrawal : RebootAfterWithdrawal
unfolding run_from
reboot_after_withdrawal m d r rs s w h =
    let x : Device = next d r in
    let quiet : Silent m x = withdrawn m r d w in
    let Q : Type 0 = never (grant_taken m) x rs ≡ true in
    let a : At Q none m s (run_from x rs) = again Q m s rs x h.own h.others (λ q. q) quiet in
    record {
      ended = quiet.0;
      passes = λ o z q. is_next (partner m) x (over_next m x (withdrawn_over m r d w o z) q);
      reserve = a.1.0;
      bits = a.1.1;
      rest = a.0;
      request = asks_or_granted m s rs x (run_from x rs) a;
    }

-- ---- the runs

starts_again : (m : Master) → StartsAgain m new_setting (six_among m)
unfolding those control_byte
starts_again Zero = record { own = refl; others = refl }
starts_again One = record { own = refl; others = refl }

computed : (k : Kind) → reboot_rows k ≡ true
unfolding rules_of own_written mail_written drives_written turn_written decode in_sequence acknowledged outcome commanded written lined ticked fresh_side
    power_up
    effect
    levels lost losses_from losses cut_from cut winner claim granted grant_from grant connect_from connect
    parts taken step_event step_decoded step run_from run control_byte order_events reboot_rows
computed Pca9641 = refl
computed Tpt29641 = refl

pub reboot_rows_hold : RebootRowsHold
reboot_rows_hold = (starts_again, computed)
