-- What each grade of `sheets::wait_of` promises the controller that waits, behind the other one, m, after a start by the events of the sheets.
-- proofs/Waits.antt proves it.
-- Assumes nothing.
use Rattle.std.specs.Prelude.{ℕ, ◌+◌, ◌≤◌, ◌≡◌, true, ◌&&◌, ◌||◌, eqb, List, ◌++◌}
use Rattle.arbiter.specs.Words.{partner}
use Rattle.arbiter.specs.State.{owns}
use Rattle.arbiter.specs.Events.{master}
use Rattle.arbiter.specs.Steps.{run_from, run}
use Rattle.arbiter.specs.AuditWords.{requests, resting, reset, ticks_in, never, throughout}
use Rattle.arbiter.specs.Marks.{tick, times}
use Rattle.arbiter.specs.Traces.{raws_in, kind_of}
use Rattle.arbiter.specs.declared.Master.{Master}
use Rattle.arbiter.specs.declared.Kind.{Kind}
use Rattle.arbiter.specs.declared.Device.{Device}
use Rattle.arbiter.specs.declared.Raw.{Raw}
use Rattle.audit.specs.Blocking.{idles_as_owner}
use Rattle.audit.specs.SettingsKept.{stores_rt}
use Rattle.audit.specs.WaitAsSet.{Served}
use Rattle.sheets.specs.Settings.{order_count, ordered, ordered_buffer}
use Rattle.sheets.specs.Waits.{Wait, live, silent, unbounded, wait_of}
use Rattle.guarantee.specs.Necessary.{waits_from, StillWaits}

-- ---- behind a live holder

-- Over every run after the start, with no reset and no byte of m's that is stored in its RT, a wait is over after so many ticks, and `more` where m
-- sends its STOPs so much later, if then the bus is idle and the waiting one's port at rest.
abbrev pub BoundedLive : Kind → List Raw → Master → ℕ → Type 0
BoundedLive k rs m ticks =
    (before later : List Raw) (more : ℕ) → let start : Device = run k rs in
    let d : Device = run_from start before in
    never reset start (before ++ later) ≡ true → never (stores_rt m) start (before ++ later) ≡ true → ticks + more ≤ ticks_in d later → Served more m d later

-- There is a wait behind a live m of any length that is not over.
abbrev pub UnboundedLive : Kind → List Raw → Master → Type 0
UnboundedLive k rs m = (n : ℕ) → StillWaits k rs m n

-- ---- behind a silent holder, on an idle bus

-- m owns, and as long as it owns its idle timer is on and the bus is idle: the wait is over after so many ticks.
abbrev pub BoundedSilent : Kind → List Raw → Master → ℕ → Type 0
BoundedSilent k rs m ticks =
    (before later : List Raw) → let start : Device = run k rs in
    let d : Device = run_from start before in
    never reset start before ≡ true → never (stores_rt m) start before ≡ true → owns m d ≡ true → throughout (idles_as_owner m) d later ≡ true
    → ticks ≤ ticks_in d later → throughout (requests (partner m)) d later ≡ true → resting (partner m) (run_from d later) ≡ true
    → owns (partner m) (run_from d later) ≡ true

-- After some events m owns and the other's request stands; and however many ticks come, with nothing else, it is still so.
pub record UnboundedSilent (k : Kind) (rs : List Raw) (m : Master) : Type 0 where
  pub before : List Raw
  pub unreset : never reset (run k rs) before ≡ true
  pub unstored : never (stores_rt m) (run k rs) before ≡ true
  pub waits : (n : ℕ) → throughout (λ (x : Device). owns m x && requests (partner m) x) (waits_from k rs before) (times n tick) ≡ true

-- ---- what a grade promises

pub record Promised (k : Kind) (rs : List Raw) (m : Master) (w : Wait) : Type 0 where
  pub one : eqb w.grade live || eqb w.grade silent || eqb w.grade unbounded ≡ true
  pub of_live : w.grade ≡ live → BoundedLive k rs m w.ticks
  pub of_silent : w.grade ≡ silent → BoundedSilent k rs m w.ticks × UnboundedLive k rs m
  pub of_unbounded : w.grade ≡ unbounded → UnboundedSilent k rs m × UnboundedLive k rs m

-- So it is wherever the call tells a grade: its number is 0, the pair writes its events, and one of the three is told.
abbrev pub WaitTells : Type 0
WaitTells =
    (controller kind : ℕ) (board house buffer : List ℕ) → let w : Wait = wait_of controller kind board house in
    w.number ≡ 0 → (ordered board house buffer).number ≡ 0
    → Promised (kind_of kind) (raws_in order_count (ordered_buffer board house buffer)) (partner (master controller)) w
