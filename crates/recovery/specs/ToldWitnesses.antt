-- Runs that meet the premises of Told.antt and Diagnosis.antt, for both masters of a part of each kind, each with what the statement says of it and,
-- where a premise could be thought idle, with a run that lacks it. proofs/ToldWitnesses.antt computes them all.
-- Assumes nothing.
use Rattle.std.specs.Prelude.{◌≡◌, ◌+◌, ◌∷◌, ◌++◌}
use Rattle.ranges.specs.Names.{ℕ, Bool, true, false, not, List, [], eqb, Master, Zero, Status, Mailbox, Kind, Device, Raw}
use Rattle.ranges.specs.Ranges.{state_number}
use Rattle.arbiter.specs.Words.{bit, partner, of, side}
use Rattle.arbiter.specs.Parts.{with_reserve, with_arb}
use Rattle.arbiter.specs.State.{owns, connected}
use Rattle.arbiter.specs.Registers.{reads_at, output}
use Rattle.arbiter.specs.Steps.{step, run_from, run}
use Rattle.arbiter.specs.AuditWords.{next, requests, resting, reset, withdrawal_of, grant_taken, grant_ended, never, throughout}
use Rattle.arbiter.specs.Marks.{command, write, read, tick, pulse, general_call, sets, times}
use Rattle.arbiter.specs.Witnesses.{number, sets_rt, sets_contr, writes_contr, stop_on, all_met}
use Rattle.audit.specs.SettingsKept.{mask_of, writes_to_mask}
use Rattle.mail.specs.Words.{emptying_of}
use Rattle.sheets.specs.Started.{setting}
use Rattle.sheets.specs.Settings.{order_events}
use Rattle.recovery.specs.Crash.{stalled_inside}
use Rattle.recovery.specs.Told.{sees_grant, sees_loss, loss_of, line_of}
use Rattle.recovery.specs.Diagnosis.{waits_at_rest, pulse_of, low_pulses_in, owns_on}

-- ---- INT_STATUS and the line

-- m's STOP gives it the grant, of which bit 2 tells, and bit 1 does not; with RT 01h the next tick takes it, of which bit 1 tells. Of a reset and of
-- m's withdrawal, which end the grant too, it does not.
abbrev pub told_of : Kind → Master → List Bool
told_of k m =
    let d : Device = run k (sets_rt m 1 ++ writes_contr m 0x01) in
    let x : Device = next d (stop_on m) in
    let off : Raw = general_call 0 0x06 in
    let asked : Device = run_from x (command (number m) 1 ∷ []) in
    let withdrawal : Raw = write (number m) 0x00 in
    not (sees_grant m d) ∷ grant_taken m (stop_on m) d ∷ sees_grant m x ∷ not (sees_loss m x) ∷ loss_of m tick x ∷ sees_loss m (next x tick)
    ∷ grant_ended m off x ∷ reset off x ∷ not (sees_loss m (next x off))
    ∷ grant_ended m withdrawal asked ∷ withdrawal_of m withdrawal asked ∷ not (sees_loss m (next asked withdrawal)) ∷ []

-- INT_MSK 7Bh lets bit 2 through to the line, 7Dh bit 1, and 7Fh, as a reset leaves it, neither.
abbrev pub lines_told : Kind → Master → List Bool
lines_told k m =
    let d : Device = run k (sets (number m) 5 0x7B ++ sets_rt m 1 ++ writes_contr m 0x01) in
    let x : Device = run k (sets (number m) 5 0x7D ++ sets_rt m 1 ++ sets_contr m 0x01) in
    let shut : Device = run k (sets_rt m 1 ++ writes_contr m 0x01) in
    not (output m d) ∷ grant_taken m (stop_on m) d ∷ not (bit 2 (mask_of m (next d (stop_on m)))) ∷ line_of m (stop_on m) d
    ∷ not (output m x) ∷ loss_of m tick x ∷ not (bit 1 (mask_of m (next x tick))) ∷ line_of m tick x
    ∷ grant_taken m (stop_on m) shut ∷ not (line_of m (stop_on m) shut) ∷ []

-- A device that no run reaches: m owns, its reserve is over on an idle bus, and its port is at INT_MSK. By its byte there m loses, and masks the loss.
abbrev pub masked_loss : Kind → Master → List Bool
masked_loss k m =
    let x : Device = run k (sets_rt m 1 ++ sets_contr m 0x01 ++ sets (number m) 5 0x00 ++ command (number m) 5 ∷ []) in
    let d : Device = with_arb (with_reserve 0 x.arb) x in
    let r : Raw = write (number m) 0x7F in
    loss_of m r d ∷ not (bit 1 (mask_of m d)) ∷ not (line_of m r d) ∷ []

-- After an order's twelve events each of the two is granted and loses, and m's line says nothing of it, until m writes 79h to INT_MSK.
abbrev pub sheets_masked : Kind → Master → List Bool
sheets_masked k m =
    let start : Device = run k (order_events (record { master0 = setting 1 false false; master1 = setting 1 false false })) in
    let later : List Raw = tick ∷ sets_contr Zero 0x01 ++ tick ∷ [] in
    let end : Device = run_from start later in
    never (writes_to_mask m) start later ∷ sees_grant m end ∷ sees_loss m end ∷ eqb (mask_of m end) 0x7F ∷ not (output m end)
    ∷ output m (run_from end (sets (number m) 5 0x79)) ∷ []

-- ---- why it waits

-- bit 0 of the byte that m's partner reads with its COMMAND 02h and READ
abbrev pub status_read : Master → Device → Bool
status_read m d = let p : Master = partner m in bit 0 (step (next d (command (number p) 2)) (read (number p))).answer.read

-- m owns; m claims with its port open; and under a hold m, at rest, does neither
abbrev pub diagnosed : Kind → Master → List Bool
diagnosed k m =
    let p : Master = partner m in
    let held : Device = run k (sets_contr m 0x01 ++ sets_contr p 0x01) in
    let inside : Device = run k (writes_contr m 0x01 ++ sets_contr p 0x01) in
    let paused : Device = run k (sets_contr m 0x10 ++ general_call (number m) 0x06 ∷ sets_contr m 0x01 ++ sets_contr p 0x01) in
    waits_at_rest p held ∷ bit 0 (reads_at Status p held) ∷ status_read m held ∷ owns m held ∷ not (stalled_inside m held)
    ∷ waits_at_rest p inside ∷ not (bit 0 (reads_at Status p inside)) ∷ not (status_read m inside) ∷ not (owns m inside) ∷ stalled_inside m inside
    ∷ requests p paused ∷ resting p paused ∷ not (owns p paused) ∷ eqb paused.bus.lowscl 0 ∷ not (bit 0 (reads_at Status p paused)) ∷ not (stalled_inside m paused) ∷ []

-- ---- a word that waits

abbrev pub holds_word : ℕ → ℕ → Mailbox → List Bool
holds_word low high b = eqb b.low low ∷ eqb b.high high ∷ b.full ∷ []

-- m sends its partner the word 1234h, and then another, which is dropped; ticks pass, and m crashes; its partner's READ of 7 empties the box
abbrev pub word_waits : Kind → Master → List Bool
word_waits k m =
    let q : Master = partner m in
    let sends : ℕ → ℕ → List Raw = λ (low high : ℕ). sets (number m) 6 low ++ sets (number m) 7 high in
    let d : Device = run k (sends 0x34 0x12) in
    let later : List Raw = sends 0x78 0x56 ++ times 3 tick in
    let end : Device = run_from d later in
    let at : Device = run_from end (command (number q) 7 ∷ []) in
    holds_word 0x34 0x12 (side q d).mail ++ never reset d later ∷ never (emptying_of q) d later ∷ holds_word 0x34 0x12 (side q end).mail
    ++ emptying_of q (read (number q)) at ∷ not (side q (next at (read (number q)))).mail.full ∷ []

-- ---- how an initialisation ends

-- m initialises and has seen n PULSEs of 0; its grant and BUS_CONNECT are there
abbrev pub initialises : Master → ℕ → Device → List Bool
initialises m n d = eqb (state_number d.arb.switch) (of m 3 12 + n) ∷ owns m d ∷ (side m d).contr.busconnect ∷ []

-- A PULSE of 1 ends it at once and after eight of 0; the ninth of 0 fails; a tick leaves it.
abbrev pub init_ends : Kind → Master → List Bool
init_ends k m =
    let d : Device = run k (sets_contr m 0x0D) in
    let later : List Raw = tick ∷ times 8 (pulse 0) in
    let eight : Device = run_from d later in
    let ends : Device → List Bool = λ (x : Device). pulse_of true (pulse 1) x ∷ owns m (next x (pulse 1)) ∷ connected m (next x (pulse 1)) ∷ [] in
    let failed : Device = next eight (pulse 0) in
    initialises m 0 d ++ ends d ++ throughout (owns_on m) d later ∷ never (pulse_of true) d later ∷ eqb (low_pulses_in d later) 8
    ∷ initialises m 8 eight ++ ends eight
    ++ pulse_of false (pulse 0) eight ∷ owns m failed ∷ eqb (state_number failed.arb.switch) 0 ∷ failed.arb.initfail
    ∷ not (side m failed).contr.businit ∷ not (side m failed).contr.busconnect
    ∷ not (pulse_of true tick eight) ∷ not (pulse_of false tick eight) ∷ initialises m 8 (next eight tick)

-- ---- all of them

unfoldable pub told_witnesses : Kind → Master → List Bool
told_witnesses k m = told_of k m ++ lines_told k m ++ masked_loss k m ++ sheets_masked k m ++ diagnosed k m ++ word_waits k m ++ init_ends k m

abbrev pub ToldWitnessesMeet : Type 0
ToldWitnessesMeet = (k : Kind) (m : Master) → all_met (told_witnesses k m) ≡ true
