-- Starts in six orders, for a part of each kind: that they are such starts, and what they come to. proofs/StartsWitnesses.antt computes them all.
-- Assumes nothing.
use Rattle.std.specs.Prelude.{ℕ, ◌+◌, ◌-◌, ◌≡◌, Bool, true, false, not, List, [], ◌∷◌, ◌++◌, eqb}
use Rattle.arbiter.specs.Words.{partner, of}
use Rattle.arbiter.specs.State.{owns, is_idle}
use Rattle.arbiter.specs.Steps.{run_from, run}
use Rattle.arbiter.specs.AuditWords.{next, requests, resting, reserve_of, reset, tick, withdrawal_of, ticks_in, never}
use Rattle.arbiter.specs.Marks.{raw, command, write, stop, lines, tick as aTick, times}
use Rattle.arbiter.specs.Witnesses.{number, all_met, both_masters}
use Rattle.arbiter.specs.declared.Master.{Master}
use Rattle.arbiter.specs.declared.Kind.{Kind}
use Rattle.arbiter.specs.declared.Device.{Device}
use Rattle.arbiter.specs.declared.Raw.{Raw}
use Rattle.sheets.specs.declared.Setting.{Setting}
use Rattle.sheets.specs.declared.Order.{Order}
use Rattle.sheets.specs.Settings.{control_byte, setting_events}
use Rattle.sheets.specs.Started.{setting, order_with}
use Rattle.guarantee.specs.Guarantee.{reserve_in}
use Rattle.guarantee.specs.Starts.{Starts, was_granted, was_ended, Tickless, AsksFirst}
use Rattle.guarantee.specs.Witnesses.{reaches}

-- ---- the order, and three starts by it for either controller m; p is its partner

abbrev pub an_order : Order
an_order = order_with (setting 2 true false) (setting 3 false true)

abbrev pub setting_for : Master → Setting
setting_for m = of m an_order.master0 an_order.master1

abbrev pub reserve_for : Master → ℕ
reserve_for m = reserve_in m an_order

-- all of m's six, then all of p's
abbrev pub one_after_other : Master → List Raw
one_after_other m = setting_events (number m) (setting_for m) ++ setting_events (number (partner m)) (setting_for (partner m))

-- Event by event; m's CONTR byte comes first, but its STOP last, with SCL low in between.
abbrev pub until_bytes : Master → List Raw
until_bytes m =
    let own : ℕ = number m in
    let other : ℕ = number (partner m) in
    command other 0x03 ∷ command own 0x03 ∷ write own (reserve_for m) ∷ write other (reserve_for (partner m)) ∷ stop own ∷ stop other
    ∷ command other 0x01 ∷ command own 0x01
    ∷ []

abbrev pub asking_byte : Master → Raw
asking_byte m = write (number m) (control_byte (setting_for m))

abbrev pub after_byte : Master → List Raw
after_byte m = lines 0 1 1 ∷ asking_byte (partner m) ∷ stop (number (partner m)) ∷ lines 1 1 1 ∷ stop (number m) ∷ []

abbrev pub event_by_event : Master → List Raw
event_by_event m = until_bytes m ++ asking_byte m ∷ after_byte m

-- m starts alone, and as many ticks come as its reserve, and LINES; one TICK and one LINES are refused, since fields are out of range. Then p starts.
abbrev pub with_loss : Master → List Raw
with_loss m =
    raw 6 1 0 0 ∷ setting_events (number m) (setting_for m) ++ lines 1 1 0 ∷ lines 2 0 0 ∷ times (reserve_for m) aTick
    ++ setting_events (number (partner m)) (setting_for (partner m))

-- They are starts by that order, and in the first two, which have no tick, m asks first.
pub record StartsSo (m : Master) : Type 0 where
  pub after_other : Starts an_order (one_after_other m)
  pub by_event : Starts an_order (event_by_event m)
  pub losing : Starts an_order (with_loss m)
  pub tickless : Tickless (one_after_other m)
  pub tickless_too : Tickless (event_by_event m)
  pub first : AsksFirst m (one_after_other m)
  pub first_too : AsksFirst m (event_by_event m)

-- ---- what they come to

-- m owns, and both requests stand
abbrev pub owned : Kind → List Raw → Master → List Bool
owned k rs m = owns m (run k rs) ∷ requests m (run k rs) ∷ requests (partner m) (run k rs) ∷ []

-- m's request was lost after a grant; its setting stands all the same, and p owns
abbrev pub lost : Kind → List Raw → Master → List Bool
lost k rs m =
    let d : Device = run k rs in
    not (requests m d) ∷ was_granted m k rs ∷ was_ended m k rs ∷ eqb (reserve_of m d) (reserve_for m) ∷ owns (partner m) d ∷ []

-- the premises of EitherInTime with nothing but ticks: p owns after the last one, and not before
abbrev pub in_time : Kind → List Raw → Master → List Bool
in_time k rs m =
    let p : Master = partner m in
    let d : Device = run k rs in
    let later : List Raw = times (reserve_for m - 1) aTick in
    let x : Device = run_from d later in
    let end : Device = next x aTick in
    eqb (ticks_in d later + 1) (reserve_for m) ∷ tick aTick x ∷ never reset d later ∷ never (withdrawal_of m) d later
    ∷ requests p end ∷ is_idle end.bus ∷ resting p end ∷ owns p end ∷ not (owns p x) ∷ []

-- and the figure of the guarantee reached from each
unfoldable pub starts_witnesses : Kind → List Bool
starts_witnesses k =
    both_masters (λ m. owned k (one_after_other m) m)
    ++ both_masters (λ m. owned k (event_by_event m) m)
    ++ both_masters (λ m. lost k (with_loss m) m)
    ++ both_masters (λ m. in_time k (one_after_other m) m)
    ++ both_masters (λ m. in_time k (event_by_event m) m)
    ++ both_masters (λ m. reaches k (event_by_event m) m (reserve_for m) ∷ [])
    ++ both_masters (λ m. reaches k (with_loss m) m (reserve_for m) ∷ [])

abbrev pub StartsWitnessesMeet : Type 0
StartsWitnessesMeet = ((m : Master) → StartsSo m) × ((k : Kind) → all_met (starts_witnesses k) ≡ true)
