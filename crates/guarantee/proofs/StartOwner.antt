-- Who owns after a start without ticks: the one whose CONTR byte came first; and when its partner does.
-- Assumes nothing.
use Prim.Native.Nat.{ℕ, ◌-◌, ◌<◌, ◌≤◌}
use mathlib.Core.Path.{◌≡◌, refl, sym, ap, ap₂, ◌∙◌, subst}
use mathlib.Core.Bool.{true, false, ◌&&◌, true≢false, false≢true, and-eq-true_iff, and-false}
use mathlib.Core.List.{List, ◌∷◌}
use native.Mathlib.Omega.{arith}
use lib.Dec.{eqb, ltb}
use lib.ListN.{length}
use borrow.Author.Tests.{eq-eqb, eqb-true}
use Rattle.ranges.specs.Names.{Master, Zero, One, Ground, Turn, Nobody, Claims, Owns, Kind, Device, Raw}
use Rattle.arbiter.specs.Words.{partner, of}
use Rattle.arbiter.specs.State.{owns_turn, owns, is_idle}
use Rattle.arbiter.specs.Steps.{run_from, run}
use Rattle.arbiter.specs.AuditWords.{next, requests, resting, reserve_of, tick, ticks_in}
use Rattle.arbiter.specs.Witnesses.{number}
use Rattle.sheets.specs.declared.Setting.{Setting}
use Rattle.sheets.specs.declared.Order.{Order}
use Rattle.sheets.specs.Settings.{setting_events}
use Rattle.guarantee.specs.Guarantee.{reserve_in}
use Rattle.guarantee.specs.Starts.{is_by, is_tick_raw, those, Starts, Tickless, AsksFirst, FirstOwns, EitherInTime}
use Rattle.arbiter.proofs.Choice.{owns_turn_lem, turn_owns}
use Rattle.arbiter.proofs.Grounds.{has_turn, nobody_asks}
use Rattle.arbiter.proofs.Owner.{over_next}
use Rattle.arbiter.proofs.Raws.{tick_no_reset}
use Rattle.arbiter.proofs.Reserve.{ends_at_tick, lasts}
use Rattle.arbiter.proofs.Runs.{runs_on}
use Rattle.arbiter.proofs.Settled.{is_due, Ready, all_ready}
use Rattle.arbiter.proofs.Tenure.{Owner, run_owned, keeps, over, lot}
use Rattle.arbiter.proofs.Waiting.{next_owns}
use Rattle.audit.proofs.Blocking.{claimant_asks}
use Rattle.audit.proofs.Freed.{ready_next}
use Rattle.guarantee.proofs.StartParts.{unasked}
use Rattle.guarantee.proofs.StartOthers.{left_by_others}
use Rattle.guarantee.proofs.StartRaws.{foreign}
use Rattle.guarantee.proofs.StartStages.{Silent, Asking}
use Rattle.guarantee.proofs.StartWalk.{is_other, others_none}
use Rattle.guarantee.proofs.StartCalm.{Calm}
use Rattle.guarantee.proofs.StartAsks.{none_after, find, silent_early, Asks, asks_on}
use Rattle.guarantee.proofs.Starts.{reserve_started, rest_started, started_unheld}

-- ---- a claim

-- A device in which there is nothing to settle has a claim where somebody requests, and it is a requester's or an owner's.
pub claimed : (m : Master) (d : Device) → Ready d → Asking m d → Silent (partner m) d → has_turn m d.arb.turn ≡ true
claimed m d ready a s = go m d.arb.turn refl a s
  where
    silent : (j : Master) → requests j d ≡ true → d.arb.turn ≡ Nobody → ⊥
    silent Zero q t = true≢false (sym q ∙ (nobody_asks d ready t).0)
    silent One q t = true≢false (sym q ∙ (nobody_asks d ready t).1)

    theirs : (j : Master) (g : Ground) → d.arb.turn ≡ Claims j g → requests j d ≡ false → ⊥
    theirs j g t q = true≢false (sym (claimant_asks j d ready.1 t) ∙ q)

    go : (m : Master) (t : Turn) → d.arb.turn ≡ t → Asking m d → Silent (partner m) d → has_turn m d.arb.turn ≡ true
    go m Nobody t a s = absurd (silent m a.1 t)
    go Zero (Claims Zero g) t a s = ap (has_turn Zero) t
    go Zero (Claims One g) t a s = absurd (theirs One g t s.1)
    go One (Claims Zero g) t a s = absurd (theirs Zero g t s.1)
    go One (Claims One g) t a s = ap (has_turn One) t
    go Zero (Owns Zero g) t a s = ap (has_turn Zero) t
    go Zero (Owns One g) t a s = absurd (false≢true (sym s.0 ∙ ap (owns_turn One) t))
    go One (Owns Zero g) t a s = absurd (false≢true (sym s.0 ∙ ap (owns_turn Zero) t))
    go One (Owns One g) t a s = ap (has_turn One) t

-- With its port at rest and no hold, whose claim it is owns.
pub due_owns : (m : Master) (d : Device) → Ready d → has_turn m d.arb.turn ≡ true → resting m d ≡ true → d.bus.hold ≡ 0 → owns m d ≡ true
due_owns m d ready h rest z = go m d.arb.turn refl h rest
  where
    waits : (j : Master) (g : Ground) → d.arb.turn ≡ Claims j g → resting j d ≡ true → ⊥
    waits j g t r =
        true≢false (sym (ap₂ ◌&&◌ r (eq-eqb d.bus.hold 0 z)) ∙ sym (ap (λ (u : Turn). is_due u d) t) ∙ ready.2)

    go : (m : Master) (t : Turn) → d.arb.turn ≡ t → has_turn m d.arb.turn ≡ true → resting m d ≡ true → owns m d ≡ true
    go m Nobody t h r = absurd (false≢true (sym (ap (has_turn m) t) ∙ h))
    go Zero (Claims Zero g) t h r = absurd (waits Zero g t r)
    go Zero (Claims One g) t h r = absurd (false≢true (sym (ap (has_turn Zero) t) ∙ h))
    go One (Claims Zero g) t h r = absurd (false≢true (sym (ap (has_turn One) t) ∙ h))
    go One (Claims One g) t h r = absurd (waits One g t r)
    go m (Owns k g) t h r = ap (owns_turn m) t ∙ sym (ap (has_turn m) t) ∙ h

-- ---- who asks first

-- An event of m's port is not one of its partner's.
pub not_by : (m : Master) (r : Raw) → is_by (number m) r ≡ true → is_by (number (partner m)) r ≡ false
not_by Zero r h =
    ap (λ (x : ℕ). ltb r.kind 4 && eqb x 1) (eqb-true r.x 0 ((and-eq-true_iff (ltb r.kind 4) (eqb r.x 0)).0 h).1) ∙ and-false (ltb r.kind 4)
not_by One r h =
    ap (λ (x : ℕ). ltb r.kind 4 && eqb x 0) (eqb-true r.x 1 ((and-eq-true_iff (ltb r.kind 4) (eqb r.x 1)).0 h).1) ∙ and-false (ltb r.kind 4)

abbrev setting_in : Master → Order → Setting
setting_in m o = of m o.master0 o.master1

own_events : (m : Master) (o : Order) (rs : List Raw) → Starts o rs → those (is_by (number m)) rs ≡ setting_events (number m) (setting_in m o)
own_events Zero o rs h = h.first
own_events One o rs h = h.second

-- A controller's request stands at the end.
ends_asking : (k : Kind) (o : Order) (rs : List Raw) (m : Master) → Starts o rs → Tickless rs → requests m (run k rs) ≡ true
ends_asking k o rs m h t =
    let e = own_events m o rs h in
    let f = find (is_by (number m)) 4 rs (subst (λ (l : List Raw). 5 ≤ length l) (sym e) (omega arith)) in
    let w = f.whole in
    ap (requests m) (ap (run k) w ∙ runs_on k f.before f.r f.after)
    ∙ (asks_on k m (setting_in m o) f.before f.r f.after (ap (those (is_by (number m))) (sym w) ∙ e) (ap (those is_other) (sym w) ∙ h.others)
    (ap (those is_tick_raw) (sym w) ∙ t) f.count f.own).end.request

-- The first one has the claim at the end, and has not lost.
first_calm : (k : Kind) (o : Order) (rs : List Raw) (m : Master) → Starts o rs → Tickless rs → AsksFirst m rs
    → Calm m (run k rs) × (has_turn m (run k rs).arb.turn ≡ true)
first_calm k o rs m h t f =
    let p : Master = partner m in
    let d : Device = run k f.before in
    let n : Device = next d f.r in
    let w = f.whole in
    let others = ap (those is_other) (sym w) ∙ h.others in
    let a : Asks m n (run_from n f.after) =
    asks_on k m (setting_in m o) f.before f.r f.after (ap (those (is_by (number m))) (sym w) ∙ own_events m o rs h) others
    (ap (those is_tick_raw) (sym w) ∙ t) f.fifth f.own in
    let s : Silent p d =
    silent_early k p (setting_in p o) f.before (f.r ∷ f.after) (ap (those (is_by (number p))) (sym w) ∙ own_events p o rs h) others f.later in
    let admitted = (others_none f.r f.after (none_after is_other f.before (f.r ∷ f.after) others)).0 in
    let q : requests p n ≡ false = (left_by_others p f.r d (foreign p f.r d admitted (not_by m f.r f.own))).request s.0 ∙ s.1 in
    let c = claimed m n (ready_next f.r d (all_ready k f.before)) a.at (unasked p f.r d s.0 q, q) in
    let same = ap (run k) w ∙ runs_on k f.before f.r f.after in
    (subst (Calm m) (sym same) a.end, ap (λ (x : Device). has_turn m x.arb.turn) same ∙ a.turn c)

pub first_owns : FirstOwns
first_owns k o rs m h t f =
    let all = first_calm k o rs m h t f in (
      due_owns m (run k rs) (all_ready k rs) all.1 (rest_started k o rs m h) (started_unheld k o rs h),
      all.0.request,
      ends_asking k o rs (partner m) h t,
    )

-- ---- in time

-- At the tick that uses up the reserve, with the bus idle after it, the grant is over, and a partner that requests with its port at rest owns.
follows : (m : Master) (t : Raw) (d : Device) → Owner m d → 0 < reserve_of m d → d.arb.reserve ≤ 1 → tick t d ≡ true
    → requests (partner m) (next d t) ≡ true → is_idle (next d t).bus ≡ true → resting (partner m) (next d t) ≡ true → owns (partner m) (next d t) ≡ true
follows m t d w rt one h q idle rest =
    let n : Device = next d t in
    elim (lot m t d w (tick_no_reset t d h)) [
      | keeps k ↦ absurd (true≢false (sym (turn_owns m n.arb.turn k.owner.turn) ∙ ends_at_tick m t d w rt one h idle))
      | over x c ↦ turn_owns (partner m) n.arb.turn (next_owns (partner m) n (over_next m n x q) rest)
    ]

pub either_in_time : EitherInTime
either_in_time k o rs m h t f later u l is_tick nr nw q idle rest =
    let d : Device = run k rs in
    let x : Device = run_from d later in
    let own : owns m d ≡ true = (first_owns k o rs m h t f).0 in
    let turn = owns_turn_lem m d.arb.turn own in
    let rt : reserve_of m d ≡ reserve_in m o = reserve_started k o rs m h in
    let count : d.arb.reserve ≡ reserve_of m d = ((first_calm k o rs m h t f).0.whole own).0 in
    let kept = lasts m later d (run_owned k rs m turn.0 turn.1) (omega arith) (omega arith) nr nw in
    let same : reserve_of m x ≡ reserve_of m d = kept.rt in
    let left : x.arb.reserve ≡ d.arb.reserve - ticks_in d later = kept.count in
    follows m u x kept.owner (omega arith) (omega arith) is_tick q idle rest
