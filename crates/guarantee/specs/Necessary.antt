-- Why a reserve has to be ordered: behind a holder with a reserve of 0 a wait has no bound, also where its idle timer is on and the bus is used for
-- short transfers only. proofs/Necessary.antt proves it.
-- Assumes nothing.
use Rattle.std.specs.Prelude.{ℕ, zero, suc, ◌≤◌, ◌≡◌, true, List, [], ◌∷◌, ◌++◌}
use Rattle.arbiter.specs.Words.{partner}
use Rattle.arbiter.specs.State.{owns, is_idle}
use Rattle.arbiter.specs.Steps.{run_from, run}
use Rattle.arbiter.specs.AuditWords.{requests, resting, reset, ticks_in, never, throughout}
use Rattle.arbiter.specs.Marks.{tick}
use Rattle.arbiter.specs.Traces.{raws_in}
use Rattle.arbiter.specs.Witnesses.{bus_start, bus_stop}
use Rattle.arbiter.specs.declared.Master.{Master}
use Rattle.arbiter.specs.declared.Kind.{Kind}
use Rattle.arbiter.specs.declared.Device.{Device}
use Rattle.arbiter.specs.declared.Raw.{Raw}
use Rattle.audit.specs.SettingsKept.{stores_rt, writes_to_contr}
use Rattle.audit.specs.WorstWait.{sends_stops}
use Rattle.audit.specs.WaitAsSet.{Served}
use Rattle.sheets.specs.declared.Order.{Order}
use Rattle.sheets.specs.Settings.{order_of, order_events, order_count, ordered, ordered_buffer}
use Rattle.guarantee.specs.Guarantee.{reserve_in}

-- ---- a wait of n ticks that is not over

-- the device after a start by the events rs and what came before the wait
abbrev pub waits_from : Kind → List Raw → List Raw → Device
waits_from k rs before = run_from (run k rs) before

-- After a start by the events rs, with no reset, no byte of m's that is stored in its RT and none in its CONTR, so that its idle timer is as ordered:
-- the request of m's partner stands over n ticks, and all the while m owns and is live. At the end the bus is idle and the partner's port at rest, and
-- still it waits.
pub record StillWaits (k : Kind) (rs : List Raw) (m : Master) (n : ℕ) : Type 0 where
  pub before : List Raw
  pub later : List Raw
  pub unreset : never reset (run k rs) (before ++ later) ≡ true
  pub unstored : never (stores_rt m) (run k rs) (before ++ later) ≡ true
  pub unwritten : never (writes_to_contr m) (run k rs) (before ++ later) ≡ true
  pub long : ticks_in (waits_from k rs before) later ≡ n
  pub asks : throughout (requests (partner m)) (waits_from k rs before) later ≡ true
  pub holds : throughout (owns m) (waits_from k rs before) later ≡ true
  pub stops : sends_stops 0 m (waits_from k rs before) later ≡ true
  pub idle : is_idle (run_from (waits_from k rs before) later).bus ≡ true
  pub rest : resting (partner m) (run_from (waits_from k rs before) later) ≡ true

-- By every order that gives m a reserve of 0, whatever else it says, its idle timer on among it, there is one for every n.
abbrev pub ReserveNecessary : Type 0
ReserveNecessary = (k : Kind) (o : Order) (m : Master) (n : ℕ) → reserve_in m o ≡ 0 → StillWaits k (order_events o) m n

-- In it a short transfer follows each tick, long before the idle limit.
abbrev pub short_transfer : List Raw
short_transfer = tick ∷ bus_start ∷ bus_stop ∷ []

unfoldable pub short_transfers : ℕ → List Raw
short_transfers zero = []
short_transfers (suc n) = short_transfer ++ short_transfers n

-- ---- exactly the reserves that are not 0 bound the wait

-- After a start by the events rs, with no reset and no byte of m's that is stored in its RT, `bound` ticks serve a partner of m that waits.
abbrev pub BoundedBy : Kind → List Raw → Master → ℕ → Type 0
BoundedBy k rs m bound =
    (before later : List Raw) → let start : Device = run k rs in
    let d : Device = run_from start before in
    never reset start (before ++ later) ≡ true → never (stores_rt m) start (before ++ later) ≡ true → bound ≤ ticks_in d later → Served 0 m d later

-- the waits behind m have a bound
pub record Bounded (k : Kind) (rs : List Raw) (m : Master) : Type 0 where
  pub bound : ℕ
  pub serves : BoundedBy k rs m bound

-- For the bytes that a complete pair of sheets writes: a wait behind a live m is bounded exactly if the reserve that is ordered for m is not 0.
abbrev pub BoundedExactly : Type 0
BoundedExactly =
    (k : Kind) (board house buffer : List ℕ) (m : Master) → (ordered board house buffer).number ≡ 0
    → let rs : List Raw = raws_in order_count (ordered_buffer board house buffer) in
    let reserve : ℕ = reserve_in m (order_of board house) in
    (Bounded k rs m → 1 ≤ reserve) × (1 ≤ reserve → Bounded k rs m)
