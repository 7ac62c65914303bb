-- What the one that waits can know: why it waits, whether waiting can help, that a word waits for it, how an initialisation ends.
-- proofs/ has Diagnosis.antt, Reading.antt, Mail.antt and Init.antt.
-- Assumes nothing.
use Rattle.std.specs.Prelude.{◌<◌, ◌≡◌, ◌+◌, ◌&&◌, ◌∷◌}
use Rattle.ranges.specs.Names.{ℕ, Bool, true, false, not, List, [], eqb, Master, Status, Initialising, Closed, Apart, Kind, Device, Raw, Event, Command, Write, Read, Stop, Pair, Lines, Tick, Pulse, Reset, GeneralCall}
use Rattle.arbiter.specs.Words.{bit, worth, partner, side}
use Rattle.arbiter.specs.State.{owns}
use Rattle.arbiter.specs.Registers.{reads_at}
use Rattle.arbiter.specs.Steps.{step, run_from, run}
use Rattle.arbiter.specs.AuditWords.{next, requests, resting, accepted, reset, never, throughout}
use Rattle.arbiter.specs.Marks.{command, read, stop}
use Rattle.arbiter.specs.Witnesses.{number}
use Rattle.mail.specs.Words.{emptying_of}
use Rattle.recovery.specs.Crash.{stalled_inside}

-- ---- why it waits

-- p waits at rest: it asks and does not own, its port is at rest, and no hold runs
abbrev pub waits_at_rest : Master → Device → Bool
waits_at_rest p d = requests p d && resting p d && not (owns p d) && eqb d.bus.hold 0

-- Then the other owns, or it claims with its port open; and bit 0 of the STATUS that p reads tells which.
abbrev pub Diagnosis : Type 0
Diagnosis =
    (k : Kind) (p : Master) (rs : List Raw) → let d : Device = run k rs in
    let m : Master = partner p in
    waits_at_rest p d ≡ true → (bit 0 (reads_at Status p d) ≡ owns m d) × (stalled_inside m d ≡ not (owns m d))

-- p reads STATUS
abbrev pub reads_status : Master → List Raw
reads_status p = command (number p) 2 ∷ read (number p) ∷ stop (number p) ∷ []

-- To read it, p opens its port, and is none the worse for it: where nothing comes between, the READ hands out that bit, and after p's STOP the turn
-- is whose it was.
abbrev pub DiagnosisRead : Type 0
DiagnosisRead =
    (k : Kind) (p : Master) (rs : List Raw) → let d : Device = run k rs in
    let m : Master = partner p in
    waits_at_rest p d ≡ true → (bit 0 (step (next d (command (number p) 2)) (read (number p))).answer.read ≡ owns m d)
    × ((run_from d (reads_status p)).arb.turn ≡ d.arb.turn)

-- ---- a word that waits

-- From any device: a full box of q's stays as it is, whatever comes but q's own READ of register 7, which empties it, and a reset. So a crashed
-- sender's word waits.
abbrev pub WordWaits : Type 0
WordWaits =
    (q : Master) (d : Device) (rs : List Raw) → (side q d).mail.full ≡ true → never reset d rs ≡ true → never (emptying_of q) d rs ≡ true
    → (side q (run_from d rs)).mail ≡ (side q d).mail

-- ---- how an initialisation ends

abbrev pub is_pulse : Bool → Event → Bool
is_pulse level (Command k c) = false
is_pulse level (Write k v) = false
is_pulse level (Read k) = false
is_pulse level (Stop k) = false
is_pulse level (Pair v0 v1) = false
is_pulse level (Lines scl sda intin) = false
is_pulse level Tick = false
is_pulse true (Pulse sda) = sda
is_pulse false (Pulse sda) = not sda
is_pulse level Reset = false
is_pulse level (GeneralCall k b) = false

-- an accepted PULSE with SDA at this level
abbrev pub pulse_of : Bool → Raw → Device → Bool
pulse_of level r d = accepted (λ (e : Event) (x : Device). is_pulse level e) r d

-- m initialises and has seen n PULSEs of 0, of which there are eight at the most; its grant lasts over r.
-- A PULSE of 1 ends it, connected, with BUS_INIT clear. One of 0 is counted; the ninth ends it, with BUS_INIT and BUS_CONNECT clear and BUS_INIT_FAIL set.
abbrev pub InitEnds : Type 0
InitEnds =
    (m : Master) (d : Device) (n : ℕ) (r : Raw) → d.arb.switch ≡ Initialising m n → (side m d).contr.busconnect ≡ true → owns m (next d r) ≡ true
    → let x : Device = next d r in
    (pulse_of true r d ≡ true → (x.arb.switch ≡ Closed m) × ((side m x).contr.businit ≡ false))
    × (pulse_of false r d ≡ true → n < 8 → x.arb.switch ≡ Initialising m (n + 1))
    × (pulse_of false r d ≡ true → n ≡ 8
    → (x.arb.switch ≡ Apart) × (x.arb.initfail ≡ true) × ((side m x).contr.businit ≡ false) × ((side m x).contr.busconnect ≡ false))

-- Nothing else does: without a PULSE, with m owning and its BUS_CONNECT set after r, it goes on as it was.
abbrev pub InitGoesOn : Type 0
InitGoesOn =
    (m : Master) (d : Device) (n : ℕ) (r : Raw) → d.arb.switch ≡ Initialising m n → pulse_of true r d ≡ false → pulse_of false r d ≡ false
    → owns m (next d r) ≡ true → (side m (next d r)).contr.busconnect ≡ true → (next d r).arb.switch ≡ Initialising m n

-- how many PULSEs of 0 are accepted
unfoldable pub low_pulses_in : Device → List Raw → ℕ
low_pulses_in d [] = 0
low_pulses_in d (r ∷ rs) = worth 1 (pulse_of false r d) + low_pulses_in (next d r) rs

-- m owns, with BUS_CONNECT set
abbrev pub owns_on : Master → Device → Bool
owns_on m d = owns m d && (side m d).contr.busconnect

-- So over many events: as long as m's grant and BUS_CONNECT last and no PULSE of 1 comes, it goes on over eight PULSEs of 0, and counts them. The next
-- one ends it, by InitEnds.
abbrev pub InitCounts : Type 0
InitCounts =
    (m : Master) (d : Device) (n : ℕ) (rs : List Raw) → d.arb.switch ≡ Initialising m n → throughout (owns_on m) d rs ≡ true
    → never (pulse_of true) d rs ≡ true → n + low_pulses_in d rs < 9 → (run_from d rs).arb.switch ≡ Initialising m (n + low_pulses_in d rs)
