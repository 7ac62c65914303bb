-- Request #114: events whose own effect ends the step. In a settled device these are COMMAND, READ, a WRITE that leaves request, claim and switch alone, a
-- PAIR of two such bytes, a STOP of one who does not claim or while SCL is held, and LINES that end no grant: parts 3 to 7 have nothing to do after them,
-- part 2 none but after LINES, and the owner byte stays.
-- Assumes nothing.
use Rattle.std.specs.Prelude.{ℕ, ◌≡◌, Bool, true, false, not, ◌&&◌, ◌||◌, eqb, if◌then◌else◌}
use Rattle.arbiter.specs.Words.{bit, same_master, side}
use Rattle.arbiter.specs.Parts.{with_bus}
use Rattle.arbiter.specs.State.{claims_turn, owns}
use Rattle.arbiter.specs.Events.{in_sequence, outcome, outcome_number}
use Rattle.arbiter.specs.Effects.{outside, empties, effect}
use Rattle.arbiter.specs.Order.{busy_after, scl_changed, settled_bus}
use Rattle.arbiter.specs.Steps.{parts, byte_read, owner_byte, lines_byte, step_event, step}
use Rattle.arbiter.specs.declared.Master.{Master}
use Rattle.arbiter.specs.declared.Master.TheVariants.{Zero, One}
use Rattle.arbiter.specs.declared.Turn.{Turn}
use Rattle.arbiter.specs.declared.Turn.TheVariants.{Nobody, Claims, Owns}
use Rattle.arbiter.specs.declared.Register.{Register}
use Rattle.arbiter.specs.declared.Register.TheVariants.{Id, Contr, Status, Rt, IntStatus, IntMask, MailLow, MailHigh}
use Rattle.arbiter.specs.declared.Bus.{Bus}
use Rattle.arbiter.specs.declared.Device.{Device}
use Rattle.arbiter.specs.declared.Event.{Event}
use Rattle.arbiter.specs.declared.Event.TheVariants.{Command, Write, Read, Stop, Pair, Lines, Tick, Pulse, Reset, GeneralCall}
use Rattle.arbiter.specs.declared.Raw.{Raw}
use Rattle.arbiter.specs.declared.Stepped.{Stepped}
use Rattle.arbitration.specs.Quiet.{no_loss}
use Rattle.step.specs.Carried.{kept}
use Rattle.light.specs.Light.{Settled}

-- m's byte to CONTR, with this LOCK_REQ, moves no turn: there is no request and none comes, the claimant asks on, or the turn is the other's
abbrev pub leaves_turn : Master → Bool → Turn → Bool
leaves_turn m request Nobody = not request
leaves_turn m request (Claims k g) = request || not (same_master m k)
leaves_turn m request (Owns k g) = not (same_master m k)

-- m's byte v moves neither turn nor drives: a byte to STATUS moves the drives of an owner that is not connected
abbrev pub write_is_light : Register → Master → ℕ → Device → Bool
write_is_light Id m v d = true
write_is_light Contr m v d = leaves_turn m (bit 0 v) d.arb.turn
write_is_light Status m v d = not (owns m d && not (side m d).contr.busconnect)
write_is_light Rt m v d = true
write_is_light IntStatus m v d = true
write_is_light IntMask m v d = true
write_is_light MailLow m v d = true
write_is_light MailHigh m v d = true

-- the bus after LINES and part 2
abbrev pub lined_bus : Bool → Bool → Bool → Bus → Bus
lined_bus scl sda intin b =
    settled_bus (busy_after false b (outside scl sda intin b)) (scl_changed b (outside scl sda intin b)) (outside scl sda intin b)

-- the claimant's own STOP is not one but while SCL is held: it brings its port to rest, and a claimant at rest is granted
unfoldable pub ends_itself : Event → Device → Bool
ends_itself (Command m c) d = true
ends_itself (Write m v) d = write_is_light (side m d).pointer m v d
ends_itself (Read m) d = true
ends_itself (Stop m) d = not (claims_turn m d.arb.turn && eqb d.bus.hold 0)
ends_itself (Pair v0 v1) d = write_is_light d.side0.pointer Zero v0 d && write_is_light d.side1.pointer One v1 d
ends_itself (Lines scl sda intin) d = no_loss d.arb.turn (with_bus (lined_bus scl sda intin d.bus) d)
ends_itself Tick d = false
ends_itself (Pulse sda) d = false
ends_itself Reset d = false
ends_itself (GeneralCall m b) d = false

-- an event that leaves the last answer byte too: it raises no interrupt and moves no line
unfoldable pub keeps_lines : Event → Device → Bool
keeps_lines (Command m c) d = true
keeps_lines (Write m v) d = false
keeps_lines (Read m) d = not (empties (side m d))
keeps_lines (Stop m) d = true
keeps_lines (Pair v0 v1) d = false
keeps_lines (Lines scl sda intin) d = false
keeps_lines Tick d = false
keeps_lines (Pulse sda) d = false
keeps_lines Reset d = false
keeps_lines (GeneralCall m b) d = false

-- what a light event leaves: its own effect, and of LINES part 2 too
unfoldable pub its_end : Event → Device → Device
its_end (Command m c) d = effect (Command m c) d
its_end (Write m v) d = effect (Write m v) d
its_end (Read m) d = effect (Read m) d
its_end (Stop m) d = effect (Stop m) d
its_end (Pair v0 v1) d = effect (Pair v0 v1) d
its_end (Lines scl sda intin) d = with_bus (lined_bus scl sda intin d.bus) (effect (Lines scl sda intin) d)
its_end Tick d = effect Tick d
its_end (Pulse sda) d = effect (Pulse sda) d
its_end Reset d = effect Reset d
its_end (GeneralCall m b) d = effect (GeneralCall m b) d

-- the step so ended
abbrev pub ended_step : Event → Device → Stepped
ended_step e d =
    record {
      device = its_end e d;
      answer = kept (outcome_number (outcome e d)) (byte_read e d) (owner_byte d) (if keeps_lines e d then lines_byte d else lines_byte (its_end e d));
    }

-- ---- what is proved

-- In a settled device what such an event leaves is that, and the owner byte stays; so does the lines byte where the event keeps it.
abbrev pub EndsItself : Type 0
EndsItself =
    (e : Event) (d : Device) → Settled d → ends_itself e d ≡ true
    → (parts e d ≡ its_end e d) × (owner_byte (its_end e d) ≡ owner_byte d) × (keeps_lines e d ≡ true → lines_byte (its_end e d) ≡ lines_byte d)

-- So its step, where it is in sequence, is that.
abbrev pub EndedIsStep : Type 0
EndedIsStep = (e : Event) (d : Device) → Settled d → in_sequence e d ≡ true → ends_itself e d ≡ true → step_event e d ≡ ended_step e d

-- Every answer shows the device after its step, so the next step can take its last two bytes from it.
abbrev pub AnswerShows : Type 0
AnswerShows = (d : Device) (r : Raw) → ((step d r).answer.owner ≡ owner_byte (step d r).device) × ((step d r).answer.lines ≡ lines_byte (step d r).device)
