-- Both controllers send the six events of their setting, in any order between the two, with ticks and line changes between them: what then
-- stands, and who owns. proofs/Starts.antt proves what holds of every start, proofs/StartAsks.antt and proofs/StartOwner.antt the rest.
-- Assumes nothing.
use Rattle.std.specs.Prelude.{ℕ, ◌+◌, ◌≤◌, ◌≡◌, Bool, true, false, not, ◌&&◌, ◌||◌, ◌⊎◌, List, [], ◌∷◌, ◌++◌, eqb, ltb, length}
use Rattle.arbiter.specs.Words.{partner}
use Rattle.arbiter.specs.State.{owns, is_idle}
use Rattle.arbiter.specs.Effects.{power_up}
use Rattle.arbiter.specs.Steps.{run_from, run}
use Rattle.arbiter.specs.AuditWords.{next, requests, resting, reserve_of, reset, tick, withdrawal_of, grant_taken, grant_ended, ticks_in, never}
use Rattle.arbiter.specs.Witnesses.{number}
use Rattle.arbiter.specs.declared.Master.{Master}
use Rattle.arbiter.specs.declared.Master.TheVariants.{Zero, One}
use Rattle.arbiter.specs.declared.Kind.{Kind}
use Rattle.arbiter.specs.declared.Device.{Device}
use Rattle.arbiter.specs.declared.Raw.{Raw}
use Rattle.audit.specs.SettingsKept.{bits_of}
use Rattle.sheets.specs.declared.Setting.{Setting}
use Rattle.sheets.specs.declared.Order.{Order}
use Rattle.sheets.specs.Settings.{setting_events}
use Rattle.guarantee.specs.Guarantee.{reserve_in, Guaranteed}

-- ---- a start in any order

-- an event of a controller's own port: COMMAND, WRITE, READ or STOP, with its number
abbrev pub is_by : ℕ → Raw → Bool
is_by m r = ltb r.kind 4 && eqb r.x m

-- TICK, and LINES or TICK
abbrev pub is_tick_raw : Raw → Bool
is_tick_raw r = eqb r.kind 6

abbrev pub is_between : Raw → Bool
is_between r = eqb r.kind 5 || is_tick_raw r

-- the events of a list that are such, in their order
abbrev pub kept_if : Bool → Raw → List Raw → List Raw
kept_if true r rs = r ∷ rs
kept_if false r rs = rs

unfoldable pub those : (Raw → Bool) → List Raw → List Raw
those such [] = []
those such (r ∷ rs) = kept_if (such r) r (those such rs)

-- Controller 0's events in rs are the six that are ordered, in their order, and so are controller 1's; all others are LINES or TICK.
pub record Starts (o : Order) (rs : List Raw) : Type 0 where
  pub first : those (is_by 0) rs ≡ setting_events 0 o.master0
  pub second : those (is_by 1) rs ≡ setting_events 1 o.master1
  pub others : those (λ (r : Raw). not (is_by 0 r || is_by 1 r || is_between r)) rs ≡ []

-- ---- what stands then

-- m was granted at some point of rs
abbrev pub was_granted : Master → Kind → List Raw → Bool
was_granted m k rs = not (never (grant_taken m) (power_up k) rs)

-- RT, PRIORITY and IDLE_TIMER_DIS of m are as ordered and its port is at rest; its request stands, or was lost after a grant.
pub record StandsAs (k : Kind) (rs : List Raw) (m : Master) (s : Setting) : Type 0 where
  pub reserve : reserve_of m (run k rs) ≡ s.reserve
  pub bits : bits_of m (run k rs) ≡ (s.priority, false, s.idle, false)
  pub rest : resting m (run k rs) ≡ true
  pub request : requests m (run k rs) || was_granted m k rs ≡ true

abbrev pub StartsInAnyOrder : Type 0
StartsInAnyOrder = (k : Kind) (o : Order) (rs : List Raw) → Starts o rs → StandsAs k rs Zero o.master0 × StandsAs k rs One o.master1

-- Where it does not stand, a grant of m's has ended at some point of rs. There is neither a reset nor a withdrawal among them: it was lost.
abbrev pub was_ended : Master → Kind → List Raw → Bool
was_ended m k rs = not (never (grant_ended m) (power_up k) rs)

abbrev pub RequestLost : Type 0
RequestLost = (k : Kind) (o : Order) (rs : List Raw) (m : Master) → Starts o rs → requests m (run k rs) || was_ended m k rs ≡ true

-- So what the sheets guarantee they guarantee from every such start.
abbrev pub StartsGuarantee : Type 0
StartsGuarantee = (k : Kind) (o : Order) (rs : List Raw) (m : Master) → Starts o rs → Guaranteed k rs m (reserve_in m o)

-- ---- without ticks

abbrev pub Tickless : List Raw → Type 0
Tickless rs = those is_tick_raw rs ≡ []

-- m's CONTR byte, its fifth event, comes before that of its partner: it is r
pub record AsksFirst (m : Master) (rs : List Raw) : Type 0 where
  pub before : List Raw
  pub r : Raw
  pub after : List Raw
  pub whole : rs ≡ before ++ r ∷ after
  pub fifth : length (those (is_by (number m)) before) ≡ 4
  pub own : is_by (number m) r ≡ true
  pub later : length (those (is_by (number (partner m))) before) ≤ 4

-- Of every start it is one or the other.
abbrev pub OneAsksFirst : Type 0
OneAsksFirst = (o : Order) (rs : List Raw) → Starts o rs → AsksFirst Zero rs ⊎ AsksFirst One rs

-- The one whose CONTR byte came first owns, and the requests of both stand.
abbrev pub FirstOwns : Type 0
FirstOwns =
    (k : Kind) (o : Order) (rs : List Raw) (m : Master) → Starts o rs → Tickless rs → AsksFirst m rs
    → (owns m (run k rs) ≡ true) × (requests m (run k rs) ≡ true) × (requests (partner m) (run k rs) ≡ true)

-- t is the tick after the start that makes as many as the reserve of m, which is not 0. No reset has come and m has not withdrawn. If after t the
-- request of m's partner stands, the bus is idle and its port at rest, then it owns.
abbrev pub InTimeFor : Master → Kind → List Raw → ℕ → Type 0
InTimeFor m k start reserve =
    (later : List Raw) (t : Raw) → let d : Device = run k start in
    let p : Master = partner m in
    let end : Device = next (run_from d later) t in
    ticks_in d later + 1 ≡ reserve → tick t (run_from d later) ≡ true → never reset d later ≡ true → never (withdrawal_of m) d later ≡ true
    → requests p end ≡ true → is_idle end.bus ≡ true → resting p end ≡ true → owns p end ≡ true

abbrev pub EitherInTime : Type 0
EitherInTime =
    (k : Kind) (o : Order) (rs : List Raw) (m : Master) → Starts o rs → Tickless rs → AsksFirst m rs → InTimeFor m k rs (reserve_in m o)
