-- A controller that starts again while it owns: what its reserve then is. proofs/Reboot.antt proves it.
-- Assumes nothing.
use Rattle.std.specs.Prelude.{ℕ, ◌≡◌, Bool, true, false, not, ◌&&◌, ◌||◌, List, [], ◌∷◌, ◌++◌, eqb, if◌then◌else◌}
use Rattle.arbiter.specs.Words.{partner}
use Rattle.arbiter.specs.State.{owns}
use Rattle.arbiter.specs.Steps.{run_from, run}
use Rattle.arbiter.specs.AuditWords.{next, requests, resting, reserve_of, accepted, reset, withdrawal_of, grant_taken, never, throughout}
use Rattle.arbiter.specs.Audit.{IsNext}
use Rattle.arbiter.specs.Marks.{command, write, stop, lines, tick, times}
use Rattle.arbiter.specs.Witnesses.{number, sets_contr, all_met, both_masters}
use Rattle.arbiter.specs.declared.Master.{Master}
use Rattle.arbiter.specs.declared.Kind.{Kind}
use Rattle.arbiter.specs.declared.Device.{Device}
use Rattle.arbiter.specs.declared.Raw.{Raw}
use Rattle.arbiter.specs.declared.Event.{Event}
use Rattle.audit.specs.SettingsKept.{bits_of, is_rt, writes_at, byte_by}
use Rattle.sheets.specs.declared.Setting.{Setting}
use Rattle.sheets.specs.Settings.{control_byte, setting_events, order_events}
use Rattle.sheets.specs.Started.{setting, order_with}
use Rattle.guarantee.specs.Starts.{is_by, is_between, those}

-- ---- from any device

-- m's byte v at RT is stored if m does not own. If it owns, the reserve of its grant stays.
abbrev pub RebootStores : Type 0
RebootStores =
    (m : Master) (d : Device) (r : Raw) (v : ℕ) → accepted (λ (e : Event) (x : Device). writes_at is_rt m e x && eqb (byte_by m e) v) r d ≡ true
    → reserve_of m (next d r) ≡ (if owns m d then reserve_of m d else v)

-- So whatever m sends while it owns, the six events of its setting among it, it has its old reserve as long as that grant lasts.
abbrev pub RebootWhileOwning : Type 0
RebootWhileOwning =
    (m : Master) (d : Device) (rs : List Raw) → never reset d rs ≡ true → throughout (owns m) d rs ≡ true → reserve_of m (run_from d rs) ≡ reserve_of m d

-- ---- one that withdraws first, from any device

-- m's events in rs, which come after its withdrawal, are the STOP of that byte and the six of its setting, in their order. All others are of its
-- partner's port, LINES or TICK.
pub record StartsAgain (m : Master) (s : Setting) (rs : List Raw) : Type 0 where
  pub own : those (is_by (number m)) rs ≡ stop (number m) ∷ setting_events (number m) s
  pub others : those (λ (r : Raw). not (is_by 0 r || is_by 1 r || is_between r)) rs ≡ []

-- After r m does not own; if it did before, its grant has ended, and its partner, if it asks, is next, where no hold runs. After rs m's RT is that of
-- its new setting, and so are PRIORITY and IDLE_TIMER_DIS; its port is at rest, and its request stands or it was granted in rs.
pub record StartedAgain (m : Master) (s : Setting) (d : Device) (r : Raw) (rs : List Raw) : Type 0 where
  pub ended : owns m (next d r) ≡ false
  pub passes : owns m d ≡ true → d.bus.hold ≡ 0 → requests (partner m) (next d r) ≡ true → IsNext (partner m) (next d r)
  pub reserve : reserve_of m (run_from d (r ∷ rs)) ≡ s.reserve
  pub bits : bits_of m (run_from d (r ∷ rs)) ≡ (s.priority, false, s.idle, false)
  pub rest : resting m (run_from d (r ∷ rs)) ≡ true
  pub request : requests m (run_from d (r ∷ rs)) || not (never (grant_taken m) (next d r) rs) ≡ true

-- r is m's withdrawal, a byte of its own in CONTR with LOCK_REQ 0, whether m owns until then or has lost its grant before.
abbrev pub RebootAfterWithdrawal : Type 0
RebootAfterWithdrawal =
    (m : Master) (d : Device) (r : Raw) (rs : List Raw) (s : Setting) → withdrawal_of m r d ≡ true → StartsAgain m s rs → StartedAgain m s d r rs

-- ---- runs: a reserve of 50, and one of 20 that is sent again after ten ticks of the grant

-- m owns, and its partner waits; ten ticks have passed
abbrev pub ten_ticks_in : Kind → Master → Device
ten_ticks_in k m =
    run k (order_events (order_with (setting 50 false false) (setting 50 false false)) ++ sets_contr (partner m) 0x00 ++ sets_contr (partner m) 0x01 ++ times 10 tick)

abbrev pub new_setting : Setting
new_setting = setting 20 false false

abbrev pub six_again : Master → List Raw
six_again m = setting_events (number m) new_setting

-- It keeps 50: its partner owns at the fiftieth tick and not before. One that withdraws first has 20.
abbrev pub reboots : Kind → Master → List Bool
reboots k m =
    let d : Device = ten_ticks_in k m in
    let x : Device = run_from d (six_again m) in
    let y : Device = run_from d (sets_contr m 0x00 ++ six_again m) in
    owns m d ∷ owns m x ∷ eqb (reserve_of m x) 50 ∷ owns m (run_from x (times 39 tick)) ∷ owns (partner m) (run_from x (times 40 tick))
    ∷ owns (partner m) y ∷ eqb (reserve_of m y) 20 ∷ []

-- the STOP of the withdrawal and the six, with ticks, line changes and events of the partner between
abbrev pub six_among : Master → List Raw
six_among m =
    let own : ℕ = number m in
    let other : ℕ = number (partner m) in
    tick ∷ stop own ∷ lines 0 1 1 ∷ command own 0x03 ∷ tick ∷ write own 20 ∷ command other 0x03 ∷ stop own
    ∷ command own 0x01 ∷ lines 1 1 1 ∷ write own (control_byte new_setting) ∷ stop other ∷ tick ∷ stop own
    ∷ []

-- m has CONTR open for writing, its byte 00h there, and the rest
abbrev pub opened : Master → Device → Device
opened m d = next d (command (number m) 0x01)

abbrev pub withdrawal : Master → Raw
withdrawal m = write (number m) 0x00

abbrev pub let_go : Master → Device → Device
let_go m d = next (opened m d) (withdrawal m)

abbrev pub at_the_end : Master → Device → Device
at_the_end m d = run_from (let_go m d) (six_among m)

-- The premises of RebootAfterWithdrawal, from a grant with a reserve of 50; at the end it is 20.
abbrev pub withdraws_first : Master → Device → List Bool
withdraws_first m d =
    owns m (opened m d) ∷ withdrawal_of m (withdrawal m) (opened m d) ∷ eqb (opened m d).bus.hold 0
    ∷ eqb (reserve_of m (opened m d)) 50 ∷ eqb (reserve_of m (at_the_end m d)) 20
    ∷ []

-- Its partner asks, and owns from the withdrawal on; three ticks of its 50 have passed at the end, and m asks.
abbrev pub passes_on : Master → Device → List Bool
passes_on m d =
    let p : Master = partner m in
    requests p (let_go m d) ∷ owns p (let_go m d) ∷ owns p (at_the_end m d) ∷ eqb (at_the_end m d).arb.reserve 47 ∷ requests m (at_the_end m d) ∷ []

-- It does not ask: m owns again at its last STOP, with the new reserve.
abbrev pub owns_again : Master → Device → List Bool
owns_again m d =
    not (requests (partner m) (let_go m d)) ∷ not (owns (partner m) (let_go m d)) ∷ owns m (at_the_end m d) ∷ eqb (at_the_end m d).arb.reserve 20 ∷ []

-- m has started alone
abbrev pub alone : Kind → Master → Device
alone k m = run k (setting_events (number m) (setting 50 false false))

unfoldable pub reboot_rows : Kind → Bool
reboot_rows k =
    all_met (both_masters (λ m. reboots k m))
    && all_met (both_masters (λ m. withdraws_first m (ten_ticks_in k m) ++ passes_on m (ten_ticks_in k m)))
    && all_met (both_masters (λ m. withdraws_first m (alone k m) ++ owns_again m (alone k m)))

abbrev pub RebootRowsHold : Type 0
RebootRowsHold = ((m : Master) → StartsAgain m new_setting (six_among m)) × ((k : Kind) → reboot_rows k ≡ true)
