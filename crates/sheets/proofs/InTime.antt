-- A shelf started by the events of an order: its partner's turn comes by the tick at which the reserve runs out.
-- Assumes nothing.
use Prim.Native.Nat.{ℕ, ◌+◌}
use mathlib.Core.Path.{◌≡◌, refl, sym, ap, subst, ◌∙◌}
use mathlib.Core.Bool.{Bool, true, false, not, ◌&&◌}
use mathlib.Core.List.{List, [], ◌∷◌, ◌++◌}
use native.Mathlib.Omega.{arith}
use Rattle.arbiter.specs.Rules.{rules_of}
use Rattle.arbiter.specs.Words.{worth}
use Rattle.arbiter.specs.Registers.{own_written, mail_written, drives_written, turn_written}
use Rattle.arbiter.specs.Events.{decode, in_sequence}
use Rattle.arbiter.specs.Effects.{commanded, written, ticked, fresh_side, power_up, effect}
use Rattle.arbiter.specs.Order.{is_reset, is_tick, levels, lost, losses_from, losses, cut_from, cut, winner, claim, granted, grant_from, grant, joined}
use Rattle.arbiter.specs.Order.{connect_from}
use Rattle.arbiter.specs.Order.{connect}
use Rattle.arbiter.specs.Steps.{parts, refused, taken, step_event, step_decoded, step, run_from, run}
use Rattle.arbiter.specs.AuditWords.{next, reserve_of, lets_go, accepted, reset, tick, withdrawal_of, grant_taken, ticks_in, never}
use Rattle.arbiter.specs.Marks.{command, write, stop}
use Rattle.arbiter.specs.declared.Master.TheVariants.{Zero, One}
use Rattle.arbiter.specs.declared.Kind.{Kind}
use Rattle.arbiter.specs.declared.Device.{Device}
use Rattle.arbiter.specs.declared.Raw.{Raw}
use Rattle.arbiter.specs.declared.Event.{Event}
use Rattle.arbiter.specs.declared.Event.TheVariants.{Command, Write, Stop}
use Rattle.arbiter.proofs.InTime.{partner_in_time}
use Rattle.sheets.specs.declared.Setting.{Setting}
use Rattle.sheets.specs.Settings.{control_byte, setting_events, order_of, order_events}
use Rattle.sheets.specs.Started.{InTime, StartedInTime, PairInTime, setting, PremisesMet}
use Rattle.sheets.proofs.Complete.{events_read}
use Rattle.sheets.proofs.Started.{table, at_each}

-- ---- master 0's STOP gives it the grant, with the ordered reserve

abbrev before_stop : Setting → List Raw
before_stop s = command 0 0x03 ∷ write 0 s.reserve ∷ stop 0 ∷ command 0 0x01 ∷ write 0 (control_byte s) ∷ []

abbrev first_grant : Kind → ℕ → Bool → Bool → Bool × ℕ
first_grant k r p i =
    let d : Device = run k (before_stop (setting r p i)) in
    (grant_taken Zero (stop 0) d, reserve_of Zero (next d (stop 0)))

granted_computed : (k : Kind) (r : ℕ) → table (first_grant k r) ≡ table (λ p i. (true, r))
unfolding own_written mail_written drives_written turn_written decode in_sequence commanded written fresh_side power_up effect
    levels lost losses_from losses cut_from cut winner claim granted grant_from grant joined connect_from connect
    parts refused taken step_event step_decoded step run_from run control_byte
granted_computed k r = refl

granted_first : (k : Kind) (s : Setting) → first_grant k s.reserve s.priority s.idle ≡ (true, s.reserve)
granted_first k s = at_each (first_grant k s.reserve) (λ p i. (true, s.reserve)) (granted_computed k s.reserve) s.priority s.idle

-- ---- master 1's six events are no tick, no reset and no withdrawal of master 0

abbrev Silent : (Raw → Device → Bool) → List Raw → Type 0
Silent such [] = Unit {0}
Silent such (r ∷ rs) = ((d : Device) → such r d ≡ false) × Silent such rs

and_false : (a : Bool) {b : Bool} → b ≡ false → a && b ≡ false
and_false true h = h
and_false false h = refl

events_silent : (such : Event → Device → Bool) → ((c : ℕ) (d : Device) → such (Command One c) d ≡ false)
    → ((v : ℕ) (d : Device) → such (Write One v) d ≡ false) → ((d : Device) → such (Stop One) d ≡ false)
    → (s : Setting) → Silent (accepted such) (setting_events 1 s)
unfolding decode
events_silent such noCommand noWrite noStop s =
    let commanding : (c : ℕ) (d : Device) → accepted such (command 1 c) d ≡ false = λ c d. and_false (in_sequence (Command One c) d) (noCommand c d) in
    let writing : (v : ℕ) (d : Device) → accepted such (write 1 v) d ≡ false = λ v d. and_false (in_sequence (Write One v) d) (noWrite v d) in
    let stopping : (d : Device) → accepted such (stop 1) d ≡ false = λ d. and_false (in_sequence (Stop One) d) (noStop d) in
    (commanding 0x03, (writing s.reserve, (stopping, (commanding 0x01, (writing (control_byte s), (stopping, tt))))))

-- What never comes after such events never comes from them on, and the ticks are as many.
never_passes : (such : Raw → Device → Bool) (rs later : List Raw) (d : Device) → Silent such rs → never such (run_from d rs) later ≡ true
    → never such d (rs ++ later) ≡ true
unfolding never run_from
never_passes such [] later d s h = h
never_passes such (r ∷ rs) later d s h =
    ap (λ (b : Bool). not b && never such (next d r) (rs ++ later)) (s.0 d) ∙ never_passes such rs later (next d r) s.1 h

ticks_pass : (rs later : List Raw) (d : Device) → Silent tick rs → ticks_in d (rs ++ later) ≡ ticks_in (run_from d rs) later
unfolding ticks_in run_from
ticks_pass [] later d s = refl
ticks_pass (r ∷ rs) later d s =
    let none : worth 1 (tick r d) ≡ 0 = ap (worth 1) (s.0 d) in
    let rest = ticks_pass rs later (next d r) s.1 in
    omega arith

-- ---- in time

pub started_in_time : StartedInTime
unfolding run run_from order_events
started_in_time k o later t l h resets gone q idle rest =
    let s1 : Setting = o.master1 in
    let first = granted_first k o.master0 in
    let d : Device = next (run k (before_stop o.master0)) (stop 0) in
    let ticks : ticks_in d (setting_events 1 s1 ++ later) + 1 ≡ reserve_of Zero d =
    ap (λ (n : ℕ). n + 1) (ticks_pass (setting_events 1 s1) later d (events_silent (λ e x. is_tick e) (λ c x. refl) (λ v x. refl) (λ x. refl) s1))
    ∙ l ∙ sym (ap (λ p. p.1) first) in
    partner_in_time k Zero (before_stop o.master0) (stop 0) (setting_events 1 s1 ++ later) t (ap (λ p. p.0) first) ticks h
    (never_passes reset (setting_events 1 s1) later d (events_silent (λ e x. is_reset e) (λ c x. refl) (λ v x. refl) (λ x. refl) s1) resets)
    (never_passes (withdrawal_of Zero) (setting_events 1 s1) later d (events_silent (lets_go Zero) (λ c x. refl) (λ v x. refl) (λ x. refl) s1) gone)
    q idle rest

pub pair_in_time : PairInTime
pair_in_time k board house buffer h =
    subst (λ (rs : List Raw). InTime k rs (order_of board house).master0.reserve) (sym (events_read board house buffer h))
    (started_in_time k (order_of board house))

-- ---- the premises are met

pub premises_met : PremisesMet
unfolding own_written mail_written drives_written turn_written decode in_sequence commanded written ticked fresh_side power_up effect
    levels lost losses_from losses cut_from cut winner claim granted grant_from grant joined connect_from connect
    parts refused taken step_event step_decoded step run_from run control_byte order_events ticks_in never rules_of
premises_met = (refl, refl, refl)
