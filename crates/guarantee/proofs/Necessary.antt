-- Behind a reserve of 0 a wait has no bound: after a start m holds, and each short transfer leads back to the same device.
-- Assumes nothing.
use Prim.Native.Nat.{ℕ, ◌+◌, ◌≤◌}
use mathlib.Core.Path.{◌≡◌, refl, sym, ap, ◌∙◌, subst}
use mathlib.Core.Bool.{Bool, true, false, false≢true}
use mathlib.Core.List.{List}
use native.Mathlib.Omega.{arith}
use lib.Dec.{eqb}
use borrow.Author.Tests.{eqb-true, eqb-false}
use Rattle.arbiter.specs.Rules.{rules_of}
use Rattle.arbiter.specs.Words.{partner}
use Rattle.arbiter.specs.State.{owns, is_idle}
use Rattle.arbiter.specs.Events.{decode, in_sequence, acknowledged, outcome}
use Rattle.arbiter.specs.Effects.{lined, ticked, effect}
use Rattle.arbiter.specs.Order.{levels, losses_from, losses, cut_from, cut, claim, grant_from, grant, connect_from, connect}
use Rattle.arbiter.specs.Steps.{parts, taken, step_event, step_decoded, step, run_from, run}
use Rattle.arbiter.specs.AuditWords.{requests, resting, reset, ticks_in, never, throughout}
use Rattle.arbiter.specs.declared.Master.{Master}
use Rattle.arbiter.specs.declared.Master.TheVariants.{Zero, One}
use Rattle.arbiter.specs.declared.Kind.{Kind}
use Rattle.arbiter.specs.declared.Kind.TheVariants.{Pca9641, Tpt29641}
use Rattle.arbiter.specs.declared.Device.{Device}
use Rattle.arbiter.specs.declared.Raw.{Raw}
use Rattle.audit.specs.SettingsKept.{stores_rt, writes_to_contr}
use Rattle.sheets.specs.declared.Setting.{Setting}
use Rattle.sheets.specs.declared.Order.{Order}
use Rattle.sheets.specs.Settings.{order_of, order_events}
use Rattle.guarantee.specs.Guarantee.{reserve_in}
use Rattle.guarantee.specs.Necessary.{waits_from, StillWaits, ReserveNecessary, short_transfer, short_transfers, Bounded, BoundedExactly}
use Rattle.sheets.proofs.Complete.{events_read}
use Rattle.arbiter.proofs.Choice.{split}
use Rattle.arbiter.proofs.Connected.{partner_not}
use Rattle.audit.proofs.WorstWait.{at_end}
use Rattle.guarantee.proofs.Guarantee.{order_guarantees}
use Rattle.guarantee.proofs.Rounds.{never_append, rounds_same, rounds_never, rounds_throughout, rounds_ticks, owner_stops}
use Rattle.guarantee.proofs.Devices.{again, again_unwritten, holding, Came, came, holds_again}

-- ---- over one short transfer

-- what is seen of a device, and that is good
abbrev Seen : Type 0
Seen = Device × Bool × Bool × Bool × Bool × Bool × Bool × ℕ × Bool

abbrev seen : Master → Device → Seen
seen m d = (
  run_from d short_transfer,
  never reset d short_transfer,
  never (stores_rt m) d short_transfer,
  throughout (requests (partner m)) d short_transfer,
  throughout (owns m) d short_transfer,
  is_idle d.bus,
  resting (partner m) d,
  ticks_in d short_transfer,
  never (writes_to_contr m) d short_transfer,
)

abbrev good : Device → Seen
good d = (d, true, true, true, true, true, true, 1, true)

-- the holder's idle timer is on or off
transfer_good : (m : Master) (k : Kind) (s t : Setting) (i : Bool) → let s' : Setting = record { reserve = s.reserve; priority = s.priority; idle = i } in
    let t' : Setting = record { reserve = t.reserve; priority = t.priority; idle = i } in
    seen m (holding m k s' t') ≡ good (holding m k s' t')
unfolding rules_of decode in_sequence acknowledged outcome lined ticked effect
    levels losses_from losses cut_from cut claim grant_from grant connect_from connect
    parts taken step_event step_decoded step run_from ticks_in never throughout
transfer_good Zero Pca9641 s t true = refl
transfer_good Zero Pca9641 s t false = refl
transfer_good Zero Tpt29641 s t true = refl
transfer_good Zero Tpt29641 s t false = refl
transfer_good One Pca9641 s t true = refl
transfer_good One Pca9641 s t false = refl
transfer_good One Tpt29641 s t true = refl
transfer_good One Tpt29641 s t false = refl

holder_good : (m : Master) (k : Kind) (s t : Setting) → seen m (holding m k s t) ≡ good (holding m k s t)
holder_good Zero k s t = transfer_good Zero k s t s.idle
holder_good One k s t = transfer_good One k s t t.idle

-- ---- over many

still : (k : Kind) (rs : List Raw) (m : Master) (d : Device) (n : ℕ)
    → came m (again m) (run k rs) ≡ (d, true, true) → seen m d ≡ good d → StillWaits k rs m n
still k rs m d n there here =
    let at : waits_from k rs (again m) ≡ d = ap (λ (c : Came). c.0) there in
    let same : run_from d short_transfer ≡ d = ap (λ (x : Seen). x.0) here in
    let end : run_from (waits_from k rs (again m)) (short_transfers n) ≡ d = ap (λ (x : Device). run_from x (short_transfers n)) at ∙ rounds_same d same n in
    let held : throughout (owns m) (waits_from k rs (again m)) (short_transfers n) ≡ true =
    ap (λ (x : Device). throughout (owns m) x (short_transfers n)) at ∙ rounds_throughout d same (owns m) (ap (λ (x : Seen). x.4) here) n in
    record {
      before = again m;
      later = short_transfers n;
      unreset =
          never_append reset (again m) (short_transfers n) (run k rs) (ap (λ (c : Came). c.1) there)
          (ap (λ (x : Device). never reset x (short_transfers n)) at ∙ rounds_never d same reset (ap (λ (x : Seen). x.1) here) n);
      unstored =
          never_append (stores_rt m) (again m) (short_transfers n) (run k rs) (ap (λ (c : Came). c.2) there)
          (ap (λ (x : Device). never (stores_rt m) x (short_transfers n)) at ∙ rounds_never d same (stores_rt m) (ap (λ (x : Seen). x.2) here) n);
      unwritten =
          never_append (writes_to_contr m) (again m) (short_transfers n) (run k rs) (again_unwritten m (run k rs))
          (ap (λ (x : Device). never (writes_to_contr m) x (short_transfers n)) at ∙ rounds_never d same (writes_to_contr m) (ap (λ (x : Seen). x.8) here) n);
      long = ap (λ (x : Device). ticks_in x (short_transfers n)) at ∙ rounds_ticks d same (ap (λ (x : Seen). x.7) here) n;
      asks =
          ap (λ (x : Device). throughout (requests (partner m)) x (short_transfers n)) at
          ∙ rounds_throughout d same (requests (partner m)) (ap (λ (x : Seen). x.3) here) n;
      holds = held;
      stops = owner_stops m 0 (short_transfers n) (waits_from k rs (again m)) held;
      idle = ap (λ (x : Device). is_idle x.bus) end ∙ ap (λ (x : Seen). x.5) here;
      rest = ap (resting (partner m)) end ∙ ap (λ (x : Seen). x.6) here;
    }

pub reserve_necessary : ReserveNecessary
reserve_necessary k o m n none =
    still k (order_events o) m (holding m k o.master0 o.master1) n (holds_again k o m none) (holder_good m k o.master0 o.master1)

-- ---- so the wait is bounded exactly by a reserve

-- Served, the partner would own at the bound; but m does.
module _ (k : Kind) (rs : List Raw) (m : Master) (b : Bounded k rs m) (w : StillWaits k rs m b.bound) where
  abbrev end : Device
  end = run_from (waits_from k rs w.before) w.later

  partner_owns : owns (partner m) end ≡ true
  partner_owns =
      let long = w.long in
      b.serves w.before w.later w.unreset w.unstored (omega arith) w.asks w.stops w.idle w.rest

  partner_waits : owns (partner m) end ≡ false
  partner_waits = partner_not m end.arb.turn (at_end (owns m) w.later (waits_from k rs w.before) w.holds)

-- a wait behind a start by an order: bounded means that the reserve is not 0,
bounded_some : (k : Kind) (o : Order) (m : Master) → Bounded k (order_events o) m → 1 ≤ reserve_in m o
bounded_some k o m b =
    split (eqb (reserve_in m o) 0)
    (λ none.
    let w : StillWaits k (order_events o) m b.bound = reserve_necessary k o m b.bound (eqb-true (reserve_in m o) 0 none) in
    absurd (false≢true (sym (partner_waits k (order_events o) m b w) ∙ partner_owns k (order_events o) m b w)))
    (λ some.
    let no = eqb-false (reserve_in m o) 0 some in
    omega arith)

-- and a reserve bounds it.
some_bounded : (k : Kind) (o : Order) (m : Master) → 1 ≤ reserve_in m o → Bounded k (order_events o) m
some_bounded k o m some =
    record {
      bound = reserve_in m o + 1;
      serves = λ before later nr ns long. order_guarantees k o m before later 0 some nr ns (omega arith);
    }

pub bounded_exactly : BoundedExactly
bounded_exactly k board house buffer m h =
    let reserve : ℕ = reserve_in m (order_of board house) in
    subst (λ (rs : List Raw). (Bounded k rs m → 1 ≤ reserve) × (1 ≤ reserve → Bounded k rs m)) (sym (events_read board house buffer h))
    (bounded_some k (order_of board house) m, some_bounded k (order_of board house) m)
