-- What each grade of `wait_of` promises: the guarantee, the idle timer, and the waits that are not over.
-- Assumes nothing.
use Prim.Native.Nat.{ℕ, ◌-◌, ◌≤◌}
use mathlib.Core.Path.{◌≡◌, refl, sym, ap, ◌∙◌, subst}
use mathlib.Core.Bool.{Bool, true, false, not}
use mathlib.Core.List.{List, ◌++◌}
use native.Mathlib.Omega.{arith}
use lib.Dec.{eqb, ltb}
use borrow.Author.Tests.{eqb-true, eqb-false, ltb-true, ltb-false}
use Rattle.arbiter.specs.Rules.{limit_of}
use Rattle.std.specs.Prelude.{if◌then◌else◌, Ok, Err}
use Rattle.arbiter.specs.Words.{partner}
use Rattle.arbiter.specs.State.{owns}
use Rattle.arbiter.specs.Events.{master}
use Rattle.arbiter.specs.Effects.{power_up}
use Rattle.arbiter.specs.Steps.{run_from, run}
use Rattle.arbiter.specs.AuditWords.{requests, resting, reserve_of, reset, ticks_in, never, throughout}
use Rattle.arbiter.specs.Traces.{is_kind, kind_of}
use Rattle.arbiter.specs.Witnesses.{sets_contr}
use Rattle.arbiter.specs.declared.Master.{Master}
use Rattle.arbiter.specs.declared.Master.TheVariants.{Zero, One}
use Rattle.arbiter.specs.declared.Kind.{Kind}
use Rattle.arbiter.specs.declared.Device.{Device}
use Rattle.arbiter.specs.declared.Raw.{Raw}
use Rattle.audit.specs.Blocking.{idles_as_owner}
use Rattle.audit.specs.SettingsKept.{stores_rt}
use Rattle.sheets.specs.declared.Fault.{Fault}
use Rattle.sheets.specs.declared.Fault.TheVariants.{TooShort, WrongCount, BadBox, BytesAfterEnd, NoSuchBox, Unticked, NoRoom}
use Rattle.sheets.specs.declared.Order.{Order}
use Rattle.sheets.specs.Sheets.{OrFault, check_pair, fault_number}
use Rattle.sheets.specs.Settings.{is_complete, setting_of, order_of, order_events}
use Rattle.sheets.specs.Waits.{Wait, withheld, wait_behind, wait_on, once_sound_wait, wait_of}
use Rattle.guarantee.specs.Guarantee.{reserve_in}
use Rattle.guarantee.specs.Boxes.{setting_in}
use Rattle.guarantee.specs.Waits.{BoundedSilent, UnboundedSilent, Promised, WaitTells}
use Rattle.arbiter.proofs.Choice.{either, split}
use Rattle.arbiter.proofs.Runs.{from_append}
use Rattle.audit.proofs.IdleAnywhere.{idle_timer_to_partner}
use Rattle.audit.proofs.SettingsKept.{rt_kept_throughout}
use Rattle.sheets.proofs.Complete.{events_read}
use Rattle.guarantee.proofs.Guarantee.{reserve_set, order_guarantees}
use Rattle.guarantee.proofs.Rounds.{never_append}
use Rattle.guarantee.proofs.Devices.{again, holding, Came, holds_again}
use Rattle.guarantee.proofs.Necessary.{reserve_necessary}
use Rattle.guarantee.proofs.Boxes.{connects_05, idle_box_dropped}

-- ---- a silent holder

-- RT is still 0 wherever m owns, and the run goes on
bounded_silent : (k : Kind) (o : Order) (m : Master) → reserve_in m o ≡ 0 → BoundedSilent k (order_events o) m (limit_of k)
unfolding run
bounded_silent k o m none before later nr ns owner idles long asks rest =
    let start : Device = run k (order_events o) in
    let d : Device = run_from start before in
    let zero : reserve_of m d ≡ 0 = (rt_kept_throughout m start before nr ns).1 ∙ reserve_set k o m ∙ none in
    let at : run k (order_events o ++ before) ≡ d = from_append (order_events o) before (power_up k) in
    subst
    (λ (x : Device).
    owns m x ≡ true → reserve_of m x ≡ 0 → throughout (idles_as_owner m) x later ≡ true → limit_of k ≤ ticks_in x later
    → throughout (requests (partner m)) x later ≡ true → resting (partner m) (run_from x later) ≡ true → owns (partner m) (run_from x later) ≡ true)
    at (idle_timer_to_partner k m (order_events o ++ before) later) owner zero idles long asks rest

-- m connects with 05h, and its idle timer is off
unbounded_silent : (k : Kind) (o : Order) (m : Master) → reserve_in m o ≡ 0 → UnboundedSilent k (order_events o) m
unbounded_silent k o m none =
    let start : Device = run k (order_events o) in
    let there = holds_again k o m none in
    let so = connects_05 m k o.master0 o.master1 in
    let at : run_from start (again m) ≡ holding m k o.master0 o.master1 = ap (λ (c : Came). c.0) there in
    record {
      before = again m ++ sets_contr m 0x05;
      unreset =
          never_append reset (again m) (sets_contr m 0x05) start (ap (λ (c : Came). c.1) there)
          (ap (λ (x : Device). never reset x (sets_contr m 0x05)) at ∙ ap (λ (c : Came). c.1) so);
      unstored =
          never_append (stores_rt m) (again m) (sets_contr m 0x05) start (ap (λ (c : Came). c.2) there)
          (ap (λ (x : Device). never (stores_rt m) x (sets_contr m 0x05)) at ∙ ap (λ (c : Came). c.2) so);
      waits = λ n. idle_box_dropped k o m n none;
    }

-- ---- the three grades, after the events of an order

none_reserved : (n : ℕ) → ltb 0 n ≡ false → n ≡ 0
none_reserved n h =
    let low = ltb-false 0 n h in
    omega arith

reserve_of_lem : (m : Master) (o : Order) → (setting_in m o).reserve ≡ reserve_in m o
reserve_of_lem Zero o = refl
reserve_of_lem One o = refl

order_tells : (k : Kind) (o : Order) (m : Master) → Promised k (order_events o) m (wait_behind k (setting_in m o))
unfolding wait_behind
order_tells k o m =
    let same : (setting_in m o).reserve ≡ reserve_in m o = reserve_of_lem m o in
    either (Promised k (order_events o) m) (ltb 0 (setting_in m o).reserve)
    (λ some.
    let low = ltb-true 0 (setting_in m o).reserve some in
    record {
      one = refl;
      of_live = λ told before later more nr ns long. order_guarantees k o m before later more (omega arith) nr ns (omega arith);
      of_silent = λ told. absurd (omega arith);
      of_unbounded = λ told. absurd (omega arith);
    })
    (λ none.
    let zero : reserve_in m o ≡ 0 = sym same ∙ none_reserved (setting_in m o).reserve none in
    either (Promised k (order_events o) m) (setting_in m o).idle
    (λ on.
    record {
      one = refl;
      of_live = λ told. absurd (omega arith);
      of_silent = λ told. (bounded_silent k o m zero, λ n. reserve_necessary k o m n zero);
      of_unbounded = λ told. absurd (omega arith);
    })
    (λ off.
    record {
      one = refl;
      of_live = λ told. absurd (omega arith);
      of_silent = λ told. absurd (omega arith);
      of_unbounded = λ told. (unbounded_silent k o m zero, λ n. reserve_necessary k o m n zero);
    }))

-- ---- where the number is 0, a grade is told

fault_some : (f : Fault) → fault_number f ≡ 0 → {A : Type 0} → A
fault_some TooShort h = absurd (omega arith)
fault_some WrongCount h = absurd (omega arith)
fault_some BadBox h = absurd (omega arith)
fault_some BytesAfterEnd h = absurd (omega arith)
fault_some NoSuchBox h = absurd (omega arith)
fault_some Unticked h = absurd (omega arith)
fault_some NoRoom h = absurd (omega arith)

sound_told : (c : OrFault (Unit {0})) (x : Wait) → (once_sound_wait c x).number ≡ 0 → once_sound_wait c x ≡ x
sound_told (Ok tt) x h = refl
sound_told (Err f) x h = fault_some f h

-- the three tests of wait_on
abbrev tests : Bool → Bool → Bool → Wait → Wait
tests a b c x = if not a then withheld NoSuchBox else if not b then withheld BadBox else if not c then withheld Unticked else x

tests_told : (a b c : Bool) (x : Wait) → (tests a b c x).number ≡ 0 → (a ≡ true) × (tests a b c x ≡ x)
tests_told true true true x h = (refl, refl)
tests_told true true false x h = absurd (omega arith)
tests_told true false c x h = absurd (omega arith)
tests_told false b c x h = absurd (omega arith)

-- the other controller's setting is its master's
other_setting : (controller : ℕ) (board house : List ℕ) → ltb controller 2 ≡ true
    → setting_of (1 - controller) board house ≡ setting_in (partner (master controller)) (order_of board house)
unfolding order_of
other_setting controller board house h =
    let low = ltb-true controller 2 h in
    split (eqb controller 0)
    (λ is. ap (λ (n : ℕ). setting_of (1 - n) board house) (eqb-true controller 0 is)
    ∙ ap (λ (b : Bool). setting_in (partner (if b then Zero else One)) (order_of board house)) (sym is))
    (λ no.
    let one : controller ≡ 1 = (let apart = eqb-false controller 0 no in omega arith) in
    ap (λ (n : ℕ). setting_of (1 - n) board house) one ∙ ap (λ (b : Bool). setting_in (partner (if b then Zero else One)) (order_of board house)) (sym no))

-- what is told, and of whom
told : (controller kind : ℕ) (board house : List ℕ) → (wait_of controller kind board house).number ≡ 0
    → wait_behind (kind_of kind) (setting_in (partner (master controller)) (order_of board house)) ≡ wait_of controller kind board house
unfolding wait_of wait_on
told controller kind board house h =
    let x : Wait = wait_behind (kind_of kind) (setting_of (1 - controller) board house) in
    let sound = sound_told (check_pair board house) (wait_on controller kind board house) h in
    let all = tests_told (ltb controller 2) (is_kind kind) (is_complete board house) x (sym (ap (λ (w : Wait). w.number) sound) ∙ h) in
    sym (sound ∙ all.1 ∙ ap (wait_behind (kind_of kind)) (other_setting controller board house all.0))

pub wait_tells : WaitTells
wait_tells controller kind board house buffer h written =
    let k : Kind = kind_of kind in
    let m : Master = partner (master controller) in
    subst (λ (rs : List Raw). Promised k rs m (wait_of controller kind board house)) (sym (events_read board house buffer written))
    (subst (Promised k (order_events (order_of board house)) m) (told controller kind board house h) (order_tells k (order_of board house) m))
