-- Every step keeps the kind of part, so that a run of a kind is of that kind. And what else is needed of a kind's rules: its idle limit is not 0.
-- Assumes nothing.
use mathlib.Core.Path.{◌≡◌, refl, ◌∙◌}
use Rattle.arbiter.specs.Types.{Bool, false, eqb, Turn, Nobody, Claims, Owns, Kind, Pca9641, Tpt29641, Clock, Device, Raw, Event, Command}
use Rattle.arbiter.specs.Types.{Write, Read, Stop, Pair, Lines, Tick, Pulse, Reset, GeneralCall, Result, Event, Unread, Ok, Err, UnknownKind, BadField}
use Rattle.arbiter.specs.Rules.{rules_of, limit_of, idle_limit}
use Rattle.arbiter.specs.Words.{side}
use Rattle.arbiter.specs.Events.{decode, in_sequence, soft_reset}
use Rattle.arbiter.specs.Effects.{written, paired, was_read, lined, ticked, was_reset, power_up, effect}
use Rattle.arbiter.specs.Order.{is_reset, is_tick, clock_of, runs_out, levels, lost, losses_from, losses, cut_from, cut, claim, granted, grant_from, grant}
use Rattle.arbiter.specs.Order.{connect}
use Rattle.arbiter.specs.Steps.{parts, run}
use Rattle.arbiter.specs.AuditWords.{levelled_by, levelled}
use Rattle.arbiter.specs.Audit.{KeepsKind, RunsOfKind}
use Rattle.arbiter.proofs.Choice.{either}
use Rattle.arbiter.proofs.Cases.{cut_cases, grant_cases, connect_cases, step_keeps, run_keeps}

-- An idle count of 0 is below the limit.
pub limit_some : (k : Kind) → eqb 0 (limit_of k) ≡ false
unfolding rules_of
limit_some Pca9641 = refl
limit_some Tpt29641 = refl

-- n is of the same kind as d
abbrev Alike : Device → Device → Type 0
Alike d n = n.kind ≡ d.kind

-- part 1
pub effect_kind : (e : Event) (d : Device) → Alike d (effect e d)
unfolding effect written paired was_read lined ticked was_reset
effect_kind (Command m c) d = refl
effect_kind (Write m v) d = refl
effect_kind (Read m) d = refl
effect_kind (Stop m) d = refl
effect_kind (Pair v0 v1) d = refl
effect_kind (Lines scl sda intin) d = refl
effect_kind Tick d = refl
effect_kind (Pulse sda) d = refl
effect_kind Reset d = refl
effect_kind (GeneralCall m b) d = either (Alike d) (soft_reset b) (λ h. refl) (λ h. refl)

-- part 3
losses_kind : (t : Turn) (d : Device) → Alike d (losses_from t d)
unfolding losses_from lost
losses_kind Nobody d = refl
losses_kind (Claims m g) d = refl
losses_kind (Owns m g) d = either (Alike d) (runs_out (idle_limit d) (side m d) d.arb.reserve d.bus) (λ h. refl) (λ h. refl)

-- part 4
cut_kind : (on : Bool) (t : Turn) (d : Device) → Alike d (cut_from on t d)
unfolding cut_from
cut_kind on Nobody d = refl
cut_kind on (Claims m g) d = refl
cut_kind on (Owns m g) d = cut_cases (Alike d) on m g d refl refl

-- part 6
grant_kind : (t : Turn) (d : Device) → Alike d (grant_from t d)
unfolding grant_from granted
grant_kind Nobody d = refl
grant_kind (Claims m g) d = grant_cases (Alike d) m g d refl refl
grant_kind (Owns m g) d = refl

-- part 7
connect_kind : (c : Clock) (d : Device) → Alike d (connect c d)
connect_kind c d = connect_cases (Alike d) d (λ w fail. refl) (λ m on w fail h. refl) c

-- all seven
pub parts_kind : (e : Event) (d : Device) → Alike d (parts e d)
unfolding parts levels losses cut claim grant
parts_kind e d =
    let two : Device = levels (is_reset e) d.bus (effect e d) in
    let three : Device = losses two in
    let five : Device = claim (cut (is_tick e) three) in
    connect_kind (clock_of e) (grant five)
    ∙ grant_kind five.arb.turn five
    ∙ cut_kind (is_tick e) three.arb.turn three
    ∙ losses_kind two.arb.turn two
    ∙ effect_kind e d

pub keeps_kind : KeepsKind
keeps_kind d r = step_keeps (Alike d) (λ e n h. parts_kind e n ∙ h) d r refl

pub runs_of_kind : RunsOfKind
unfolding run power_up
runs_of_kind k rs = run_keeps (λ (n : Device). n.kind ≡ k) (λ e n h. parts_kind e n ∙ h) (power_up k) rs refl

-- So the device in which part 3 looks for a loss is of its kind too.
pub levelled_kind : (r : Raw) (d : Device) → Alike d (levelled r d)
unfolding levels
levelled_kind r d = go (decode r)
  where
    go : (x : Result Event Unread) → Alike d (levelled_by x d)
    go (Ok e) = either (Alike d) (in_sequence e d) (λ h. effect_kind e d) (λ h. refl)
    go (Err UnknownKind) = refl
    go (Err BadField) = refl
