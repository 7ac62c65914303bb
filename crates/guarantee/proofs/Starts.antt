-- A start in any order: what then stands of each controller's setting, and the wait that the sheets guarantee from there.
-- Assumes nothing.
use Prim.Native.Nat.{ℕ, ◌-◌}
use mathlib.Core.Path.{◌≡◌, sym, ap, ◌∙◌}
use mathlib.Core.Bool.{Bool, true, not, ◌||◌, or-true}
use mathlib.Core.List.{List, [], ◌++◌, append-nil}
use native.Mathlib.Omega.{arith}
use Rattle.ranges.specs.Names.{Master, Zero, One, Kind, Device, Raw}
use Rattle.arbiter.specs.Effects.{power_up}
use Rattle.arbiter.specs.Steps.{run_from, run}
use Rattle.arbiter.specs.AuditWords.{requests, resting, reserve_of, grant_taken, ticks_in, never}
use Rattle.arbiter.specs.Witnesses.{number}
use Rattle.audit.specs.WaitAsSet.{is_within}
use Rattle.sheets.specs.declared.Setting.{Setting}
use Rattle.sheets.specs.declared.Order.{Order}
use Rattle.sheets.specs.Settings.{setting_events}
use Rattle.guarantee.specs.Guarantee.{reserve_in}
use Rattle.guarantee.specs.Starts.{is_by, those, Starts, StandsAs, StartsInAnyOrder, StartsGuarantee}
use Rattle.arbiter.proofs.Choice.{split}
use Rattle.audit.proofs.Freed.{hold_run}
use Rattle.audit.proofs.WaitAsSet.{never_beyond, within_self, wait_as_set}
use Rattle.guarantee.proofs.StartStages.{Stage, six, five, four, three, two, one, none, left, At, not_empty, Led}
use Rattle.guarantee.proofs.StartWalk.{is_other, never_reset, walk, at_power_up}

-- Where no event is to come, it is the last stage.
pub at_end : (Q : Type 0) (m : Master) (s : Setting) (d : Device) (g : Stage) → [] ≡ left m s g → At Q g m s d → At Q none m s d
at_end Q m s d six e a = absurd (not_empty (sym e))
at_end Q m s d five e a = absurd (not_empty (sym e))
at_end Q m s d four e a = absurd (not_empty (sym e))
at_end Q m s d three e a = absurd (not_empty (sym e))
at_end Q m s d two e a = absurd (not_empty (sym e))
at_end Q m s d one e a = absurd (not_empty (sym e))
at_end Q m s d none e a = a

-- Its own six events lead from the first stage to the last, if all others are of a port, LINES or TICK.
pub to_the_end : (Q : Type 0) (m : Master) (s : Setting) (rs : List Raw) (d : Device) → those (is_by (number m)) rs ≡ setting_events (number m) s
    → those is_other rs ≡ [] → (Q → never (grant_taken m) d rs ≡ true) → At Q six m s d → At Q none m s (run_from d rs)
unfolding those
to_the_end Q m s rs d e o n a =
    let l : Led Q m s [] (run_from d rs) =
    walk Q m s rs [] d six (ap (those (is_by (number m))) (append-nil rs) ∙ e) (ap (those is_other) (append-nil rs) ∙ o)
    (λ q. ap (never (grant_taken m) d) (append-nil rs) ∙ n q) a in
    at_end Q m s (run_from d rs) l.stage l.events l.stands

-- Who asks unless it was granted asks or was granted.
pub asks_or_granted : (m : Master) (s : Setting) (rs : List Raw) (d x : Device) → At (never (grant_taken m) d rs ≡ true) none m s x
    → requests m x || not (never (grant_taken m) d rs) ≡ true
asks_or_granted m s rs d x a =
    split (never (grant_taken m) d rs)
    (λ q. ap (λ (b : Bool). b || not (never (grant_taken m) d rs)) (a.2 q).1)
    (λ q. ap (λ (b : Bool). requests m x || not b) q ∙ or-true (requests m x))

-- One controller: its own six events are all that it asks of the others but that they are of a port, LINES or TICK.
stands : (k : Kind) (m : Master) (s : Setting) (rs : List Raw) → those (is_by (number m)) rs ≡ setting_events (number m) s → those is_other rs ≡ []
    → StandsAs k rs m s
unfolding run
stands k m s rs e o =
    let d : Device = power_up k in
    let Q : Type 0 = never (grant_taken m) d rs ≡ true in
    let a : At Q none m s (run_from d rs) = to_the_end Q m s rs d e o (λ q. q) (at_power_up Q k m s) in
    record { reserve = a.1.0; bits = a.1.1; rest = a.0; request = asks_or_granted m s rs d (run_from d rs) a }

pub starts_in_any_order : StartsInAnyOrder
starts_in_any_order k o rs h = (stands k Zero o.master0 rs h.first h.others, stands k One o.master1 rs h.second h.others)

-- ---- the wait

pub reserve_started : (k : Kind) (o : Order) (rs : List Raw) (m : Master) → Starts o rs → reserve_of m (run k rs) ≡ reserve_in m o
reserve_started k o rs Zero h = (starts_in_any_order k o rs h).0.reserve
reserve_started k o rs One h = (starts_in_any_order k o rs h).1.reserve

pub rest_started : (k : Kind) (o : Order) (rs : List Raw) (m : Master) → Starts o rs → resting m (run k rs) ≡ true
rest_started k o rs Zero h = (starts_in_any_order k o rs h).0.rest
rest_started k o rs One h = (starts_in_any_order k o rs h).1.rest

-- No hold runs, for no reset has come.
pub started_unheld : (k : Kind) (o : Order) (rs : List Raw) → Starts o rs → (run k rs).bus.hold ≡ 0
unfolding run power_up
started_unheld k o rs h =
    let d : Device = power_up k in
    let count : (run_from d rs).bus.hold ≡ d.bus.hold - ticks_in d rs = hold_run rs d (never_reset rs d h.others) in
    omega arith

pub starts_guarantee : StartsGuarantee
starts_guarantee k o rs m h before later more some nr ns long =
    let most : ℕ = reserve_in m o in
    wait_as_set k m rs before later most more (ap (is_within most) (reserve_started k o rs m h) ∙ within_self most some)
    (started_unheld k o rs h) nr (never_beyond most m (before ++ later) (run k rs) ns) long
