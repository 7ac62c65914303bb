-- Runs of the way back, for both masters of a part of each kind: behind a partner that hangs, with nothing and with much between, without and with
-- the hold; and the short way that sets the next trap. proofs/RecipeWitnesses.antt computes them all.
-- Assumes nothing.
use Rattle.std.specs.Prelude.{◌≡◌, ◌+◌, ◌-◌, ◌&&◌, ◌||◌, ◌∷◌, ◌++◌}
use Rattle.ranges.specs.Names.{ℕ, Bool, true, not, List, [], eqb, length, Master, Kind, Device, Raw}
use Rattle.arbiter.specs.Words.{partner}
use Rattle.arbiter.specs.State.{owns, claims, is_idle}
use Rattle.arbiter.specs.Steps.{run_from, run}
use Rattle.arbiter.specs.AuditWords.{next, requests, resting, reserve_of, idle_timer_on, tick as is_tick, ticks_in}
use Rattle.arbiter.specs.Marks.{raw, command, write, stop, pair, lines, tick, pulse, general_call, times}
use Rattle.arbiter.specs.Witnesses.{number, sets_contr, writes_contr, bus_start, all_met}
use Rattle.sheets.specs.declared.Setting.{Setting}
use Rattle.sheets.specs.Settings.{control_byte}
use Rattle.guarantee.specs.Starts.{is_between, those}
use Rattle.guarantee.specs.Witnesses.{reaches}
use Rattle.recovery.specs.Recipe.{recipe, is_none, Recovers, accepted_of}

-- ---- the events of a recovery

-- p's recipe with ticks, line changes and bytes that read as no event before and between: of a kind that there is not, of a master that there is
-- not, a TICK, a LINES, the partner's STOP and p's own GENERAL CALL with a wrong field. Six of the ticks after the GENERAL CALL are accepted.
abbrev pub spread_before : Master → Setting → List Raw
spread_before p s =
    let n : ℕ = number p in
    tick ∷ lines 0 1 0 ∷ raw 10 1 2 3 ∷ general_call n 0x06
    ∷ tick ∷ bus_start ∷ command n 0x03
    ∷ raw 255 0 0 0 ∷ tick ∷ raw 6 1 0 0 ∷ write n s.reserve
    ∷ lines 0 0 0 ∷ raw 9 n 0x06 1 ∷ stop n
    ∷ tick ∷ tick ∷ raw 3 (number (partner p)) 0 1 ∷ command n 0x01
    ∷ lines 1 1 1 ∷ raw 5 2 0 0 ∷ tick ∷ write n (control_byte s)
    ∷ command 2 0x01 ∷ tick ∷ []

abbrev pub spread : Master → Setting → List Raw
spread p s = spread_before p s ++ stop (number p) ∷ []

-- Whatever the setting, both are recoveries of p's.
abbrev pub RecipesRecover : Type 0
RecipesRecover = (p : Master) (s : Setting) → Recovers p s (recipe p s) × Recovers p s (spread p s)

-- ---- behind a partner that hangs

-- it owns with RT 00h and its timer off; it claims with its port open
abbrev pub hangs_owning : Master → List Raw
hangs_owning m = sets_contr m 0x01

abbrev pub hangs_inside : Master → List Raw
hangs_inside m = writes_contr m 0x01

-- p asks with this byte in its CONTR, and waits so many ticks
abbrev pub waits_with : Master → ℕ → ℕ → List Raw
waits_with p v ticks = sets_contr p v ++ times ticks tick

-- it waits in vain
abbrev pub in_vain : Kind → Master → List Raw → List Bool
in_vain k p hangs = not (owns p (run k (hangs ++ waits_with p 0x01 300))) ∷ []

-- p claims with its port at rest, and nobody owns
abbrev pub awaits : Master → Device → Bool
awaits p d = claims p d && resting p d && not (owns p d) && not (owns (partner p) d)

-- ---- the recipe

abbrev pub twenty : Setting
twenty = record { reserve = 20; priority = true; idle = true }

-- After these events comes p's recovery, with so much of the hold left at its end. Through one tick less p claims, and then it owns with its reserve,
-- whole; and its partner, coming back, is in at the reserve and one, and not earlier.
abbrev pub recovers : Kind → Master → List Raw → List Raw → ℕ → List Bool
recovers k p before rs hold =
    let x : Device = run_from (run k before) rs in
    let y : Device = run_from x (times hold tick) in
    eqb x.bus.hold hold ∷ (eqb hold 0 || awaits p x && awaits p (run_from x (times (hold - 1) tick)))
    ∷ owns p y ∷ eqb y.arb.reserve 20 ∷ eqb (reserve_of p y) 20 ∷ resting p y ∷ reaches k (before ++ rs ++ times hold tick) p 20 ∷ []

-- so many ticks, with line changes and bytes that read as no event among them
abbrev pub spread_ticks : ℕ → List Raw
spread_ticks n = lines 0 1 1 ∷ times (n - 5) tick ++ raw 6 1 0 0 ∷ lines 0 0 0 ∷ raw 10 0 0 0 ∷ times 5 tick

-- Such ticks, one less than are left of the hold: p claims, and at the next it owns with its reserve, whole.
abbrev pub recovers_held : Kind → Master → List Raw → ℕ → List Bool
recovers_held k p before hold =
    let x : Device = run k before in
    let later : List Raw = spread_ticks (hold - 1) in
    let y : Device = run_from x later in
    let end : Device = next y tick in
    eqb (length (those (λ (r : Raw). not (is_between r || is_none r)) later)) 0 ∷ eqb x.bus.hold hold ∷ eqb (ticks_in x later + 1) hold
    ∷ awaits p y ∷ is_tick tick y ∷ owns p end ∷ eqb end.arb.reserve 20 ∷ []

-- each of the two, without SMBUS_SWRST and with it
abbrev pub recovers_behind : Kind → Master → List Raw → List Bool
recovers_behind k p hangs =
    in_vain k p hangs
    ++ recovers k p (hangs ++ waits_with p 0x01 3) (recipe p twenty) 0
    ++ recovers k p (hangs ++ waits_with p 0x01 3) (spread p twenty) 0
    ++ recovers k p (hangs ++ waits_with p 0x11 3) (recipe p twenty) 35
    ++ recovers k p (hangs ++ waits_with p 0x11 3) (spread p twenty) 29
    ++ recovers_held k p (hangs ++ waits_with p 0x11 3 ++ recipe p twenty) 35
    ++ recovers_held k p (hangs ++ waits_with p 0x11 3 ++ spread p twenty) 29

-- ---- with refused events between

-- p's recipe with events between that are out of sequence there: its partner's WRITE and STOP, a PAIR, a PULSE, and its own WRITE and STOP at rest
abbrev pub refused_before : Master → Setting → List Raw
refused_before p s =
    let n : ℕ = number p in
    let m : ℕ = number (partner p) in
    tick ∷ pulse 1 ∷ general_call n 0x06
    ∷ stop n ∷ write n 0x55 ∷ command n 0x03
    ∷ write m 0x01 ∷ pair 0x01 0x01 ∷ write n s.reserve
    ∷ stop m ∷ tick ∷ stop n
    ∷ stop n ∷ pulse 0 ∷ command n 0x01
    ∷ pair 0x00 0x00 ∷ raw 6 1 0 0 ∷ write n (control_byte s)
    ∷ write m 0x00 ∷ []

abbrev pub among_refused : Master → Setting → List Raw
among_refused p s = refused_before p s ++ stop (number p) ∷ stop (number p) ∷ []

-- p asks behind a partner that hangs owning, and waits three ticks. Twelve of these events are then refused, and the others are a recovery.
abbrev pub behind_owner : Kind → Master → ℕ → Device
behind_owner k p v = run k (hangs_owning (partner p) ++ waits_with p v 3)

abbrev pub RefusedRecover : Type 0
RefusedRecover =
    (k : Kind) (p : Master) → Recovers p twenty (accepted_of (behind_owner k p 0x01) (among_refused p twenty))
    × Recovers p twenty (accepted_of (behind_owner k p 0x11) (among_refused p twenty))

-- ---- the short way

-- After p's GENERAL CALL 06h, COMMAND 01h, WRITE 01h and STOP it owns, with RT 00h and its timer off: its partner, coming back, asks, and still
-- waits after 300 idle ticks.
abbrev pub trapped : Kind → Master → List Raw → List Bool
trapped k p hangs =
    let m : Master = partner p in
    let x : Device = run k (hangs ++ waits_with p 0x01 3 ++ general_call (number p) 0x06 ∷ sets_contr p 0x01) in
    let end : Device = run_from x (waits_with m 0x81 300) in
    owns p x ∷ eqb (reserve_of p x) 0 ∷ not (idle_timer_on p x) ∷ requests m end ∷ resting m end ∷ is_idle end.bus ∷ owns p end ∷ not (owns m end) ∷ []

-- ---- the rows

unfoldable pub recipe_witnesses : Kind → Master → List Bool
recipe_witnesses k p =
    recovers k p (hangs_owning (partner p) ++ waits_with p 0x01 3) (among_refused p twenty) 0
    ++ recovers k p (hangs_owning (partner p) ++ waits_with p 0x11 3) (among_refused p twenty) 34
    ++ recovers_behind k p (hangs_owning (partner p)) ++ recovers_behind k p (hangs_inside (partner p)) ++ trapped k p (hangs_owning (partner p))

abbrev pub RecipeWitnessesMeet : Type 0
RecipeWitnessesMeet = (k : Kind) (p : Master) → all_met (recipe_witnesses k p) ≡ true
