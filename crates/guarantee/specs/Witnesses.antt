-- Pairs of sheets, byte by byte, and runs after their events that reach the figure of the guarantee, for both masters of a part of each kind: one
-- tick earlier the partner still waits. proofs/Witnesses.antt computes them all.
-- Assumes nothing.
use Rattle.std.specs.Prelude.{ℕ, ◌+◌, ◌-◌, ◌≡◌, Bool, true, not, ◌&&◌, List, [], ◌∷◌, ◌++◌, eqb, ltb, replicate}
use Rattle.arbiter.specs.Words.{partner}
use Rattle.arbiter.specs.State.{owns, is_idle}
use Rattle.arbiter.specs.Steps.{run_from, run}
use Rattle.arbiter.specs.AuditWords.{requests, resting, reset, ticks_in, never, throughout}
use Rattle.arbiter.specs.Marks.{tick, times}
use Rattle.arbiter.specs.Traces.{raws_in}
use Rattle.arbiter.specs.Witnesses.{sets_contr, writes_contr, stop_on, all_met}
use Rattle.arbiter.specs.declared.Master.{Master}
use Rattle.arbiter.specs.declared.Master.TheVariants.{Zero, One}
use Rattle.arbiter.specs.declared.Kind.{Kind}
use Rattle.arbiter.specs.declared.Device.{Device}
use Rattle.arbiter.specs.declared.Raw.{Raw}
use Rattle.audit.specs.WorstWait.{sends_stops}
use Rattle.audit.specs.SettingsKept.{stores_rt}
use Rattle.sheets.specs.Settings.{order_of, order_count, order_bytes, ordered, ordered_buffer}
use Rattle.sheets.specs.Examples.{filled, empty, sheet}
use Rattle.guarantee.specs.Guarantee.{reserve_in}

-- ---- the premises of Guaranteed, for a start by rs and such a reserve of m, with so many ticks

abbrev pub premises : Kind → List Raw → Master → ℕ → List Raw → List Raw → ℕ → ℕ → List Bool
premises k rs m reserve before later more ticks =
    let p : Master = partner m in
    let start : Device = run k rs in
    let d : Device = run_from start before in
    let end : Device = run_from d later in
    ltb 0 reserve ∷ never reset start (before ++ later) ∷ never (stores_rt m) start (before ++ later) ∷ eqb (ticks_in d later) ticks
    ∷ throughout (requests p) d later ∷ sends_stops more m d later ∷ is_idle end.bus ∷ resting p end ∷ []

-- Both withdraw; then m asks, and has not sent its STOP when its partner asks.
abbrev pub asks_first : Master → List Raw
asks_first m = sets_contr Zero 0x00 ++ sets_contr One 0x00 ++ writes_contr m 0x01 ++ sets_contr (partner m) 0x01

-- m sends it after one tick, and so many more follow.
abbrev pub stops_then : Master → ℕ → List Raw
stops_then m ticks = tick ∷ stop_on m ∷ times ticks tick

-- all is met at the figure; and all but the last tick, with the partner still waiting
abbrev pub reaches : Kind → List Raw → Master → ℕ → Bool
reaches k rs m reserve =
    all_met (premises k rs m reserve (asks_first m) (stops_then m reserve) 0 (reserve + 1))
    && all_met (premises k rs m reserve (asks_first m) (stops_then m (reserve - 1)) 0 reserve)
    && not (owns (partner m) (run_from (run k rs) (asks_first m ++ stops_then m (reserve - 1))))

-- ---- pairs of sheets: controller 0's three boxes on the board sheet, controller 1's on the house sheet

pub record Pair : Type 0 where
  pub board : List ℕ
  pub house : List ℕ

-- reserve, priority and idle of controller 0, then those of controller 1
abbrev pub pair_of : ℕ → ℕ → ℕ → ℕ → ℕ → ℕ → Pair
pair_of r0 p0 i0 r1 p1 i1 =
    record {
      board = sheet (filled r0) empty (filled p0) empty (filled i0) empty;
      house = sheet empty (filled r1) empty (filled p1) empty (filled i1);
    }

-- a buffer with room for the twelve events
abbrev pub room : List ℕ
room = replicate order_bytes 0

-- the pair is complete and orders such a reserve for m, and the run after the events that it writes reaches the figure
abbrev pub pair_reaches : Kind → Pair → Master → ℕ → Bool
pair_reaches k x m reserve =
    eqb (ordered x.board x.house room).number 0 && eqb (reserve_in m (order_of x.board x.house)) reserve
    && reaches k (raws_in order_count (ordered_buffer x.board x.house room)) m reserve

unfoldable pub guarantee_witnesses : Kind → List Bool
guarantee_witnesses k =
    pair_reaches k (pair_of 1 1 1 2 1 1) Zero 1
    ∷ pair_reaches k (pair_of 1 1 1 2 1 1) One 2
    ∷ pair_reaches k (pair_of 50 0 0 20 1 0) Zero 50
    ∷ pair_reaches k (pair_of 50 0 0 20 1 0) One 20
    ∷ pair_reaches k (pair_of 255 0 1 255 0 1) Zero 255
    ∷ pair_reaches k (pair_of 255 0 1 255 0 1) One 255
    ∷ []

abbrev pub GuaranteeWitnessesMeet : Type 0
GuaranteeWitnessesMeet = (k : Kind) → all_met (guarantee_witnesses k) ≡ true
