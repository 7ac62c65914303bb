-- What the twelve events of an order do to a device of either kind, over the definition of a step: from power-up, and after any reset that
-- asks for no hold. Each statement is proved in proofs/, under the same name in small letters.
-- Assumes nothing.
use Rattle.std.specs.Prelude.{ℕ, ◌+◌, ◌≡◌, Bool, true, false, not, List, [], ◌∷◌, map, eqb, replicate}
use Rattle.arbiter.specs.Words.{side}
use Rattle.arbiter.specs.State.{owns, is_idle}
use Rattle.arbiter.specs.Events.{outcome_number}
use Rattle.arbiter.specs.Effects.{was_reset, power_up}
use Rattle.arbiter.specs.Steps.{run_from, answers_from, run}
use Rattle.arbiter.specs.AuditWords.{next, requests, resting, reserve_of, idle_timer_on, reset, tick, withdrawal_of, ticks_in, never}
use Rattle.arbiter.specs.Marks.{tick as aTick, times}
use Rattle.arbiter.specs.Traces.{raws_in}
use Rattle.arbiter.specs.Witnesses.{all_met}
use Rattle.arbiter.specs.declared.Master.{Master}
use Rattle.arbiter.specs.declared.Master.TheVariants.{Zero, One}
use Rattle.arbiter.specs.declared.Ground.TheVariants.{Sole}
use Rattle.arbiter.specs.declared.Turn.{Turn}
use Rattle.arbiter.specs.declared.Turn.TheVariants.{Owns}
use Rattle.arbiter.specs.declared.Kind.{Kind}
use Rattle.arbiter.specs.declared.Kind.TheVariants.{Pca9641, Tpt29641}
use Rattle.arbiter.specs.declared.Device.{Device}
use Rattle.arbiter.specs.declared.Raw.{Raw}
use Rattle.arbiter.specs.declared.Answer.{Answer}
use Rattle.arbiter.specs.declared.Outcome.TheVariants.{Done}
use Rattle.sheets.specs.declared.Setting.{Setting}
use Rattle.sheets.specs.declared.Order.{Order}
use Rattle.sheets.specs.Settings.{order_of, order_events, order_count, ordered, ordered_buffer}

-- ---- what the events leave

-- one master in a device: RT, PRIORITY, IDLE_TIMER_DIS (1 enables the idle timer), LOCK_REQ, and its port at rest
pub record Standing : Type 0 where
  pub reserve : ℕ
  pub priority : Bool
  pub idle : Bool
  pub request : Bool
  pub rest : Bool

abbrev pub standing : Master → Device → Standing
standing m d =
    record { reserve = reserve_of m d; priority = (side m d).contr.priority; idle = idle_timer_on m d; request = requests m d; rest = resting m d }

-- as ordered, with its request standing
abbrev pub as_ordered : Setting → Standing
as_ordered s = record { reserve = s.reserve; priority = s.priority; idle = s.idle; request = true; rest = true }

-- both masters and the turn after the events, and the outcome of each event
pub record Outset : Type 0 where
  pub master0 : Standing
  pub master1 : Standing
  pub turn : Turn
  pub outcomes : List ℕ

abbrev pub outset : Device → Order → Outset
outset start o =
    let d : Device = run_from start (order_events o) in
    let answers : List Answer = answers_from start (order_events o) in
    record {
      master0 = standing Zero d;
      master1 = standing One d;
      turn = d.arb.turn;
      outcomes = map (λ (a : Answer). a.outcome) answers;
    }

-- each master as ordered; master 0 owns, since it asks and stops first, as the sole requester; every event is done
abbrev pub outset_of : Order → Outset
outset_of o =
    record {
      master0 = as_ordered o.master0;
      master1 = as_ordered o.master1;
      turn = Owns Zero Sole;
      outcomes = replicate order_count (outcome_number Done);
    }

-- So it is for every order, from any device that was just reset without a hold, whatever the outside levels,
abbrev pub StandsAfterReset : Type 0
StandsAfterReset = (d : Device) (o : Order) → outset (was_reset 0 d) o ≡ outset_of o

-- and from power-up, of either kind.
abbrev pub StandsAtPowerUp : Type 0
StandsAtPowerUp = (k : Kind) (o : Order) → outset (power_up k) o ≡ outset_of o

-- ---- when the waiting one gets its turn

-- A device is started by these events, of which master 0's STOP has given it a grant with the ordered reserve. t is the tick after them that
-- makes as many as that reserve, so the reserve is not 0. No reset has come and master 0 has not withdrawn. If after t the request of master
-- 1 stands, the bus is idle and master 1's port at rest, then master 1 owns.
abbrev pub InTime : Kind → List Raw → ℕ → Type 0
InTime k start reserve =
    (later : List Raw) (t : Raw) → let d : Device = run k start in
    let end : Device = next (run_from d later) t in
    ticks_in d later + 1 ≡ reserve → tick t (run_from d later) ≡ true → never reset d later ≡ true → never (withdrawal_of Zero) d later ≡ true
    → requests One end ≡ true → is_idle end.bus ≡ true → resting One end ≡ true → owns One end ≡ true

-- So it is for the events of every order,
abbrev pub StartedInTime : Type 0
StartedInTime = (k : Kind) (o : Order) → InTime k (order_events o) o.master0.reserve

-- and for the bytes that a complete pair of sheets writes.
abbrev pub PairInTime : Type 0
PairInTime =
    (k : Kind) (board house buffer : List ℕ) → (ordered board house buffer).number ≡ 0
    → InTime k (raws_in order_count (ordered_buffer board house buffer)) (order_of board house).master0.reserve

-- ---- orders that meet the premises: nothing comes after the start but ticks, and master 1 waits

abbrev pub premises : Kind → Order → List Raw → Raw → List Bool
premises k o later t =
    let d : Device = run k (order_events o) in
    let end : Device = next (run_from d later) t in
    eqb (ticks_in d later + 1) o.master0.reserve ∷ tick t (run_from d later) ∷ never reset d later ∷ never (withdrawal_of Zero) d later
    ∷ requests One end ∷ is_idle end.bus ∷ resting One end ∷ not (owns One (run_from d later)) ∷ []

abbrev pub setting : ℕ → Bool → Bool → Setting
setting reserve priority idle = record { reserve = reserve; priority = priority; idle = idle }

abbrev pub order_with : Setting → Setting → Order
order_with s0 s1 = record { master0 = s0; master1 = s1 }

-- a reserve of 1, of 50 and of 255
abbrev pub PremisesMet : Type 0
PremisesMet =
    (all_met (premises Pca9641 (order_with (setting 1 true true) (setting 0 true true)) [] aTick) ≡ true)
    × (all_met (premises Pca9641 (order_with (setting 50 false false) (setting 20 true false)) (times 49 aTick) aTick) ≡ true)
    × (all_met (premises Tpt29641 (order_with (setting 255 false true) (setting 255 false true)) (times 254 aTick) aTick) ≡ true)
