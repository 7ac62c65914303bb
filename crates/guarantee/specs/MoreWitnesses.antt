-- More runs after the events of sheets, for both masters of a part of each kind: where RT is stored anew, behind a silent holder, at the next CONTR byte;
-- and runs that wait beyond the figure, each with one premise not met. proofs/MoreWitnesses.antt computes them all.
-- Assumes nothing.
use Rattle.std.specs.Prelude.{ℕ, ◌+◌, ◌-◌, ◌≡◌, Bool, true, not, List, [], ◌∷◌, ◌++◌, eqb, ltb}
use Rattle.arbiter.specs.Rules.{limit_of}
use Rattle.arbiter.specs.Words.{partner, side}
use Rattle.arbiter.specs.State.{owns, is_idle}
use Rattle.arbiter.specs.Steps.{run_from, run}
use Rattle.arbiter.specs.AuditWords.{next, requests, resting, idle_timer_on, reset, ticks_in, never, throughout}
use Rattle.arbiter.specs.Marks.{command, write, tick, times}
use Rattle.arbiter.specs.Traces.{kind_number, raws_in}
use Rattle.arbiter.specs.Witnesses.{number, sets_rt, sets_contr, writes_contr, all_met}
use Rattle.arbiter.specs.declared.Master.{Master}
use Rattle.arbiter.specs.declared.Master.TheVariants.{Zero, One}
use Rattle.arbiter.specs.declared.Kind.{Kind}
use Rattle.arbiter.specs.declared.Device.{Device}
use Rattle.arbiter.specs.declared.Raw.{Raw}
use Rattle.audit.specs.Blocking.{idles_as_owner}
use Rattle.audit.specs.SettingsKept.{stores_rt, writes_to_contr}
use Rattle.audit.specs.WorstWait.{sends_stops}
use Rattle.audit.specs.WaitAsSet.{is_within, stores_beyond}
use Rattle.sheets.specs.Settings.{order_of, order_count, ordered, ordered_buffer}
use Rattle.sheets.specs.Waits.{Wait, wait_of}
use Rattle.guarantee.specs.Guarantee.{reserve_in}
use Rattle.guarantee.specs.Boxes.{is_contr_byte}
use Rattle.guarantee.specs.Witnesses.{Pair, pair_of, room, asks_first, stops_then}

-- ---- a pair, and its events

-- it is complete, and orders such a reserve for m
abbrev pub orders_reserve : Pair → Master → ℕ → List Bool
orders_reserve x m reserve = eqb (ordered x.board x.house room).number 0 ∷ eqb (reserve_in m (order_of x.board x.house)) reserve ∷ []

abbrev pub events_of : Pair → List Raw
events_of x = raws_in order_count (ordered_buffer x.board x.house room)

-- what `wait_of` tells m's partner by it: this grade and so many ticks
abbrev pub tells : Kind → Pair → Master → ℕ → ℕ → List Bool
tells k x m grade ticks =
    let w : Wait = wait_of (number (partner m)) (kind_number k) x.board x.house in
    eqb w.number 0 ∷ eqb w.grade grade ∷ eqb w.ticks ticks ∷ []

-- ---- RT stored anew

-- the premises of GuaranteedWithin, with so many ticks
abbrev pub premises_within : Kind → List Raw → Master → ℕ → ℕ → List Raw → List Raw → ℕ → List Bool
premises_within k rs m reserve most before later ticks =
    let p : Master = partner m in
    let start : Device = run k rs in
    let d : Device = run_from start before in
    let end : Device = run_from d later in
    is_within most reserve ∷ never reset start (before ++ later) ∷ never (stores_beyond most m) start (before ++ later) ∷ eqb (ticks_in d later) ticks
    ∷ throughout (requests p) d later ∷ sends_stops 0 m d later ∷ is_idle end.bus ∷ resting p end ∷ []

-- Both withdraw; m stores another reserve and asks, and has not sent its STOP when its partner asks.
abbrev pub stores_anew : Master → ℕ → List Raw
stores_anew m most = sets_contr Zero 0x00 ++ sets_contr One 0x00 ++ sets_rt m most ++ writes_contr m 0x01 ++ sets_contr (partner m) 0x01

-- met at `most` ticks and one, when the partner owns; and at one less, when it still waits
abbrev pub reaches_within : Kind → Pair → Master → ℕ → ℕ → List Bool
reaches_within k x m reserve most =
    let rs : List Raw = events_of x in
    let d : Device = run_from (run k rs) (stores_anew m most) in
    orders_reserve x m reserve ++ premises_within k rs m reserve most (stores_anew m most) (stops_then m most) (most + 1)
    ++ owns (partner m) (run_from d (stops_then m most))
    ∷ premises_within k rs m reserve most (stores_anew m most) (stops_then m (most - 1)) most
    ++ not (owns (partner m) (run_from d (stops_then m (most - 1)))) ∷ []

-- ---- why each premise is asked

-- After so many ticks all is met, and the partner does not own. The tests that come first say what is not met, or what is met beside.
abbrev pub waits_beyond : Kind → List Raw → Master → List Raw → List Raw → ℕ → List Bool
waits_beyond k rs m before later ticks =
    let p : Master = partner m in
    let start : Device = run k rs in
    let d : Device = run_from start before in
    let end : Device = run_from d later in
    never reset start (before ++ later) ∷ never (stores_rt m) start (before ++ later) ∷ eqb (ticks_in d later) ticks ∷ throughout (requests p) d later
    ∷ is_idle end.bus ∷ resting p end ∷ not (owns p end) ∷ []

-- m never sends its STOP: the figure is passed
abbrev pub without_stop : Kind → Pair → Master → ℕ → List Bool
without_stop k x m reserve =
    let rs : List Raw = events_of x in
    let later : List Raw = times (reserve + 1) tick in
    orders_reserve x m reserve ++ ltb 0 reserve ∷ not (sends_stops 0 m (run_from (run k rs) (asks_first m)) later)
    ∷ waits_beyond k rs m (asks_first m) later (reserve + 1)

-- a reserve of 0: one tick is passed, and m sends its STOPs
abbrev pub without_reserve : Kind → Pair → Master → List Bool
without_reserve k x m =
    let rs : List Raw = events_of x in
    orders_reserve x m 0 ++ sends_stops 0 m (run_from (run k rs) (asks_first m)) (stops_then m 0) ∷ waits_beyond k rs m (asks_first m) (stops_then m 0) 1

-- ---- behind a silent holder

-- m's partner withdraws and asks again, so that m owns and the partner waits
abbrev pub again : Master → List Raw
again m = sets_contr (partner m) 0x00 ++ sets_contr (partner m) 0x01

-- the premises of BoundedSilent, with so many ticks
abbrev pub premises_silent : Kind → List Raw → Master → ℕ → List Bool
premises_silent k rs m ticks =
    let p : Master = partner m in
    let start : Device = run k rs in
    let d : Device = run_from start (again m) in
    let later : List Raw = times ticks tick in
    never reset start (again m) ∷ never (stores_rt m) start (again m) ∷ owns m d ∷ throughout (idles_as_owner m) d later ∷ eqb (ticks_in d later) ticks
    ∷ throughout (requests p) d later ∷ resting p (run_from d later) ∷ []

-- Grade 2 is told, with the part's idle limit: at it the partner owns, and one tick earlier it waits.
abbrev pub silent_reaches : Kind → Pair → Master → List Bool
silent_reaches k x m =
    let rs : List Raw = events_of x in
    let d : Device = run_from (run k rs) (again m) in
    tells k x m 2 (limit_of k) ++ orders_reserve x m 0 ++ premises_silent k rs m (limit_of k) ++ owns (partner m) (run_from d (times (limit_of k) tick))
    ∷ premises_silent k rs m (limit_of k - 1) ++ not (owns (partner m) (run_from d (times (limit_of k - 1) tick))) ∷ []

-- ---- the boxes and the next CONTR byte

-- Until it comes both boxes stand, through a withdrawal of the partner's and ticks; then 05h takes their place, and A5h keeps them.
abbrev pub boxes_stand : Kind → Pair → Master → List Bool
boxes_stand k x m =
    let start : Device = run k (events_of x) in
    let later : List Raw = again m ++ times 3 tick ++ command (number m) 1 ∷ [] in
    let d : Device = run_from start later in
    let both : Device → List Bool = λ (y : Device). (side m y).contr.priority ∷ idle_timer_on m y ∷ [] in
    let y : Device = next d (write (number m) 0x05) in
    never reset start later ∷ never (writes_to_contr m) start later ∷ both d
    ++ is_contr_byte m 0x05 (write (number m) 0x05) d ∷ not (side m y).contr.priority ∷ not (idle_timer_on m y)
    ∷ is_contr_byte m 0xA5 (write (number m) 0xA5) d ∷ both (next d (write (number m) 0xA5))

-- ---- the rows

unfoldable pub more_witnesses : Kind → Master → List Bool
more_witnesses k m =
    reaches_within k (pair_of 20 0 0 20 1 0) m 20 50
    ++ reaches_within k (pair_of 1 1 1 1 1 1) m 1 255
    ++ without_stop k (pair_of 50 0 0 50 1 0) m 50
    ++ without_reserve k (pair_of 0 0 1 0 0 1) m
    ++ tells k (pair_of 50 0 0 50 1 0) m 1 51
    ++ tells k (pair_of 0 0 0 0 0 0) m 3 0
    ++ silent_reaches k (pair_of 0 0 1 0 0 1) m
    ++ boxes_stand k (pair_of 0 1 1 0 1 1) m

abbrev pub MoreWitnessesMeet : Type 0
MoreWitnessesMeet = (k : Kind) (m : Master) → all_met (more_witnesses k m) ≡ true
