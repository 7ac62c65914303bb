-- What a complete pair of sheets guarantees a master that waits: a number of ticks, from the reserve that the sheets order for its partner.
-- proofs/Guarantee.antt proves it.
-- Assumes nothing.
use Rattle.std.specs.Prelude.{ℕ, ◌+◌, ◌≤◌, ◌≡◌, true, List, ◌++◌}
use Rattle.arbiter.specs.Words.{of}
use Rattle.arbiter.specs.Steps.{run_from, run}
use Rattle.arbiter.specs.AuditWords.{reset, ticks_in, never}
use Rattle.arbiter.specs.Traces.{raws_in}
use Rattle.arbiter.specs.declared.Master.{Master}
use Rattle.arbiter.specs.declared.Kind.{Kind}
use Rattle.arbiter.specs.declared.Device.{Device}
use Rattle.arbiter.specs.declared.Raw.{Raw}
use Rattle.audit.specs.SettingsKept.{stores_rt}
use Rattle.audit.specs.WaitAsSet.{is_within, stores_beyond, Served}
use Rattle.sheets.specs.declared.Order.{Order}
use Rattle.sheets.specs.Settings.{order_of, order_events, order_count, ordered, ordered_buffer}

-- the reserve that is ordered for m
abbrev pub reserve_in : Master → Order → ℕ
reserve_in m o = of m o.master0.reserve o.master1.reserve

-- A device of such a kind is started by the events rs, by which m is given such a reserve, which is not 0. Then `before` and `later` come, with
-- no reset and no byte of m's that is stored in its RT. If over `later` the partner's request stands, m sends its STOPs within a tick and `more`,
-- and as many ticks come as the reserve, one and `more`, and if then the bus is idle and the partner's port at rest, the partner owns.
abbrev pub Guaranteed : Kind → List Raw → Master → ℕ → Type 0
Guaranteed k rs m reserve =
    (before later : List Raw) (more : ℕ) → let start : Device = run k rs in
    let d : Device = run_from start before in
    1 ≤ reserve → never reset start (before ++ later) ≡ true → never (stores_rt m) start (before ++ later) ≡ true
    → reserve + 1 + more ≤ ticks_in d later → Served more m d later

-- So it is for the events of every order,
abbrev pub OrderGuarantees : Type 0
OrderGuarantees = (k : Kind) (o : Order) (m : Master) → Guaranteed k (order_events o) m (reserve_in m o)

-- and for the bytes that a complete pair of sheets writes.
abbrev pub SheetsGuarantee : Type 0
SheetsGuarantee =
    (k : Kind) (board house buffer : List ℕ) (m : Master) → (ordered board house buffer).number ≡ 0
    → Guaranteed k (raws_in order_count (ordered_buffer board house buffer)) m (reserve_in m (order_of board house))

-- ---- where m may store another reserve

-- The same where m's RT may be stored anew, with 1 to `most`: then after `most` ticks, one and `more`.
abbrev pub GuaranteedWithin : Kind → List Raw → Master → ℕ → Type 0
GuaranteedWithin k rs m reserve =
    (before later : List Raw) (most more : ℕ) → let start : Device = run k rs in
    let d : Device = run_from start before in
    is_within most reserve ≡ true → never reset start (before ++ later) ≡ true → never (stores_beyond most m) start (before ++ later) ≡ true
    → most + 1 + more ≤ ticks_in d later → Served more m d later

abbrev pub OrderGuaranteesWithin : Type 0
OrderGuaranteesWithin = (k : Kind) (o : Order) (m : Master) → GuaranteedWithin k (order_events o) m (reserve_in m o)

abbrev pub SheetsGuaranteeWithin : Type 0
SheetsGuaranteeWithin =
    (k : Kind) (board house buffer : List ℕ) (m : Master) → (ordered board house buffer).number ≡ 0
    → GuaranteedWithin k (raws_in order_count (ordered_buffer board house buffer)) m (reserve_in m (order_of board house))
