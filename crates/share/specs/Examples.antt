-- Short runs with their totals, and short traces with their numbers. proofs/Examples.antt computes each.
-- Assumes nothing.
use Rattle.std.specs.Prelude.{◌≡◌, ℕ, List, [], ◌∷◌, ◌++◌}
use Rattle.arbiter.specs.Marks.{sets, times, tick}
use Rattle.arbiter.specs.declared.Kind.TheVariants.{Pca9641}
use Rattle.arbiter.specs.declared.Raw.{Raw}
use Rattle.share.specs.declared.Totals.{Totals}
use Rattle.share.specs.States.{tick_states}
use Rattle.share.specs.Share.{shares_in, no_totals, added}

-- ---- rows: the figures of a run, and those of its list of states by hand

pub record Figures : Type 0 where
  pub ticks : ℕ
  pub owned : List ℕ
  pub unowned : ℕ
  pub connected : List ℕ
  pub waited : List ℕ
  pub longest : List ℕ

abbrev both : ℕ → ℕ → List ℕ
both a b = a ∷ b ∷ []

abbrev pub figures : Totals → Figures
figures x =
    record {
      ticks = x.ticks;
      owned = both x.owned0 x.owned1;
      unowned = x.unowned;
      connected = both x.connected0 x.connected1;
      waited = both x.waited0 x.waited1;
      longest = both x.longest0 x.longest1;
    }

abbrev pub figures_of : List Raw → Figures
figures_of rs = figures (shares_in (tick_states Pca9641 rs))

infix 15 ◌shows◌
pub record Row : Type 0 where
  pub found : Figures
  pub paper : Figures

abbrev pub ◌shows◌ : List Raw → Figures → Row
rs shows f = record { found = figures_of rs; paper = f }

abbrev found : List Row → List Figures
found [] = []
found (r ∷ rest) = r.found ∷ found rest

abbrev paper : List Row → List Figures
paper [] = []
paper (r ∷ rest) = r.paper ∷ paper rest

-- ---- the runs

-- m writes RT, then CONTR; with LOCK_REQ in it m is granted at the STOP, or waits
abbrev pub asks : ℕ → ℕ → ℕ → List Raw
asks m rt contr = sets m 3 rt ++ sets m 1 contr

-- A reserve of n that is granted at a STOP shows n - 1 owned ticks: the nth takes the grant, and the state after it counts.
abbrev pub reserve : ℕ → List Raw
reserve n = asks 0 n 0x01 ++ times 6 tick

-- RT 00h and no idle timer: master 0 is connected and keeps the bus, and master 1 waits.
abbrev pub stalled : List Raw
stalled = asks 0 0 0x05 ++ asks 1 20 0x01 ++ times 4 tick

-- Master 1 waits for three ticks, withdraws for one, and waits for two: its longest wait is three.
abbrev pub twice : List Raw
twice = asks 0 0 0x01 ++ sets 1 1 0x01 ++ times 3 tick ++ sets 1 1 0x00 ++ times 1 tick ++ sets 1 1 0x01 ++ times 2 tick

unfoldable pub rows : List Row
rows =
    (reserve 1 shows record { ticks = 6; owned = both 0 0; unowned = 6; connected = both 0 0; waited = both 0 0; longest = both 0 0 })
    ∷ (reserve 2 shows record { ticks = 6; owned = both 1 0; unowned = 5; connected = both 0 0; waited = both 0 0; longest = both 0 0 })
    ∷ (reserve 5 shows record { ticks = 6; owned = both 4 0; unowned = 2; connected = both 0 0; waited = both 0 0; longest = both 0 0 })
    ∷ (stalled shows record { ticks = 4; owned = both 4 0; unowned = 0; connected = both 4 0; waited = both 0 4; longest = both 0 4 })
    ∷ (twice shows record { ticks = 6; owned = both 6 0; unowned = 0; connected = both 0 0; waited = both 0 5; longest = both 0 3 })
    ∷ []

abbrev pub RowsHold : Type 0
RowsHold = found rows ≡ paper rows

-- ---- short traces from no totals: no byte at all is a trace cut (5), and two bytes of which the first is no 4 are 10

abbrev pub Refusals : Type 0
Refusals =
    let cut : Totals = (added no_totals []).totals in
    let other : Totals = (added no_totals (3 ∷ 0 ∷ [])).totals in
    ((added no_totals []).number ≡ 5) × (cut.traces ≡ 1) × (cut.refused5 ≡ 1) × (cut.refused10 ≡ 0)
    × ((added no_totals (3 ∷ 0 ∷ [])).number ≡ 10) × (other.refused5 ≡ 0) × (other.refused10 ≡ 1)
