-- The way back: seven events of p's own by which it gets the bus with a reserve, whoever hangs, from any device. proofs/ has
-- RecipeRaws.antt, RecipeWalk.antt, RecipeEnd.antt and Recipe.antt.
-- Assumes nothing.
use Rattle.std.specs.Prelude.{◌-◌, ◌<◌, ◌≡◌, ◌+◌, ◌&&◌, ◌||◌, ◌∷◌, ◌++◌, if◌then◌else◌}
use Rattle.ranges.specs.Names.{ℕ, Bool, true, false, not, List, [], eqb, ltb, Master, Kind, Device, Raw, Result, Event, Unread, Ok, Err, UnknownKind, BadField}
use Rattle.arbiter.specs.Words.{side}
use Rattle.arbiter.specs.State.{owns, claims}
use Rattle.arbiter.specs.Events.{decode}
use Rattle.arbiter.specs.Steps.{run_from, run}
use Rattle.arbiter.specs.AuditWords.{next, reserve_of, resting, is_accepted, tick as is_tick, ticks_in}
use Rattle.arbiter.specs.Marks.{stop, general_call, tick, times}
use Rattle.arbiter.specs.Witnesses.{number}
use Rattle.audit.specs.SettingsKept.{bits_of}
use Rattle.sheets.specs.declared.Setting.{Setting}
use Rattle.sheets.specs.Settings.{setting_events}
use Rattle.guarantee.specs.Guarantee.{Guaranteed, GuaranteedWithin}
use Rattle.guarantee.specs.Starts.{is_between, kept_if, those}

-- ---- the recipe

-- GENERAL CALL 06h; then the six events of p's setting: COMMAND 03h, WRITE of its reserve, STOP, COMMAND 01h, WRITE of its CONTR, STOP
abbrev pub recipe : Master → Setting → List Raw
recipe p s = general_call (number p) 0x06 ∷ setting_events (number p) s

-- four bytes that read as no event: of an unknown kind, or with a field out of range
abbrev pub is_unread : Result Event Unread → Bool
is_unread (Ok e) = false
is_unread (Err u) = true

abbrev pub is_none : Raw → Bool
is_none r = is_unread (decode r)

-- An event of p's: COMMAND, WRITE, READ, STOP or GENERAL CALL, with its number. What else may come between is TICK, LINES, and bytes that read as
-- no event.
abbrev pub is_from : ℕ → Raw → Bool
is_from p r = (ltb r.kind 4 || eqb r.kind 9) && eqb r.x p && not (is_none r)

-- The events rs are p's recipe, ending with its last STOP, with any such events between; m is silent.
pub record Recovers (p : Master) (s : Setting) (rs : List Raw) : Type 0 where
  pub before : List Raw
  pub whole : rs ≡ before ++ stop (number p) ∷ []
  pub own : those (is_from (number p)) rs ≡ recipe p s
  pub others : those (λ (r : Raw). not (is_from (number p) r || is_between r || is_none r)) rs ≡ []

-- ---- what it leads to

-- p owns with this reserve, whole, its port is at rest, and its settings are those ordered
pub record HasBus (p : Master) (s : Setting) (d : Device) : Type 0 where
  pub owner : owns p d ≡ true
  pub count : d.arb.reserve ≡ s.reserve
  pub reserve : reserve_of p d ≡ s.reserve
  pub bits : bits_of p d ≡ (s.priority, false, s.idle, false)
  pub rest : resting p d ≡ true

-- p claims with its port at rest, and nobody owns
pub record AwaitsBus (p : Master) (d : Device) : Type 0 where
  pub claimant : claims p d ≡ true
  pub rest : resting p d ≡ true
  pub unowned : (m : Master) → owns m d ≡ false

-- In x p has the bus if no hold runs. If one does, p claims over as many ticks less one, and has the bus at the tick after them.
abbrev pub GetsBus : Master → Setting → Device → Type 0
GetsBus p s x =
    ((n : ℕ) → n < x.bus.hold → AwaitsBus p (run_from x (times n tick))) × HasBus p s (run_from x (times x.bus.hold tick))

-- From any device: so it is at its last STOP.
abbrev pub RecoveryRecipe : Type 0
RecoveryRecipe = (d : Device) (p : Master) (s : Setting) (rs : List Raw) → Recovers p s rs → GetsBus p s (run_from d rs)

-- So too where line changes and bytes that read as no event come among the ticks after the STOP: until the hold is over p claims, and at the tick t
-- that ends it p has the bus.
abbrev pub RecoveryHeld : Type 0
RecoveryHeld =
    (d : Device) (p : Master) (s : Setting) (rs later : List Raw) → Recovers p s rs → those (λ (r : Raw). not (is_between r || is_none r)) later ≡ []
    → let x : Device = run_from d rs in
    let y : Device = run_from x later in
    ticks_in x later < x.bus.hold
    → AwaitsBus p y × ((t : Raw) → is_tick t y ≡ true → ticks_in x later + 1 ≡ x.bus.hold → HasBus p s (next y t))

-- The hold that runs then: none if p's SMBUS_SWRST was 0; else what is left of 35 after the ticks since its GENERAL CALL.
unfoldable pub ticks_since : ℕ → Device → List Raw → ℕ
ticks_since p d [] = 0
ticks_since p d (r ∷ rs) = if is_from p r && eqb r.kind 9 then ticks_in (run_from d (r ∷ [])) rs else ticks_since p (run_from d (r ∷ [])) rs

abbrev pub RecoveryHold : Type 0
RecoveryHold =
    (d : Device) (p : Master) (s : Setting) (rs : List Raw) → Recovers p s rs
    → (run_from d rs).bus.hold ≡ (if (side p d).contr.swrst then 35 - ticks_since (number p) d rs else 0)

-- And the other, coming back, is in by the reserve and one tick, as after any start (SheetsGuarantee).
abbrev pub RecoveryGuarantees : Type 0
RecoveryGuarantees =
    (k : Kind) (before rs : List Raw) (p : Master) (s : Setting) → Recovers p s rs
    → Guaranteed k (before ++ rs ++ times (run k (before ++ rs)).bus.hold tick) p s.reserve

-- And so from wherever p has the bus like that, also where it stores its RT anew: with 1 to `most` the other is in by `most` and one.
abbrev pub RecoveryGuaranteesWithin : Type 0
RecoveryGuaranteesWithin = (k : Kind) (rs : List Raw) (p : Master) (s : Setting) → HasBus p s (run k rs) → GuaranteedWithin k rs p s.reserve

-- ---- with refused events between

-- the events of a list that are accepted, each in the state that it meets
unfoldable pub accepted_of : Device → List Raw → List Raw
accepted_of d [] = []
accepted_of d (r ∷ rs) = kept_if (is_accepted r d) r (accepted_of (next d r) rs)

-- The others, of unknown kind, with a field out of range or out of sequence, can be left out.
abbrev pub RefusedLeftOut : Type 0
RefusedLeftOut = (d : Device) (rs : List Raw) → run_from d rs ≡ run_from d (accepted_of d rs)

-- So any refused events may come between, whoever sends them: where those of rs that are accepted are p's recipe, rs leads to the same.
abbrev pub RecoveryAmongRefused : Type 0
RecoveryAmongRefused =
    (d : Device) (p : Master) (s : Setting) (rs : List Raw) → Recovers p s (accepted_of d rs) → let x : Device = run_from d rs in
    (x.bus.hold ≡ (if (side p d).contr.swrst then 35 - ticks_since (number p) d (accepted_of d rs) else 0)) × GetsBus p s x
