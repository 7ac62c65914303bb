-- Runs that reach the longest wait, for both masters of a part of each kind; and runs that go beyond it, each with one premise not met.
-- proofs/Witnesses.antt computes them all.
-- Assumes nothing.
use Rattle.std.specs.Prelude.{ℕ, ◌+◌, ◌-◌, ◌≡◌, Bool, true, false, not, ◌&&◌, List, [], ◌∷◌, ◌++◌, length, eqb, ltb, leb}
use Rattle.arbiter.specs.Words.{partner}
use Rattle.arbiter.specs.Effects.{power_up}
use Rattle.arbiter.specs.AuditWords.{reset as aReset, never, throughout}
use Rattle.arbiter.specs.Straps.{pins}
use Rattle.arbiter.specs.Traces.{kind_number}
use Rattle.arbiter.specs.Writing.{trace_of}
use Rattle.arbiter.specs.Marks.{command, tick, reset, times}
use Rattle.arbiter.specs.Witnesses.{number, sets_rt, sets_contr, stop_on, bus_start, bus_stop, all_met}
use Rattle.arbiter.specs.declared.Master.{Master}
use Rattle.arbiter.specs.declared.Kind.{Kind}
use Rattle.arbiter.specs.declared.Raw.{Raw}
use Rattle.std.specs.Prelude.{Result, Err, Ok}
use Rattle.arbiter.specs.declared.Accepted.{Accepted}
use Rattle.arbiter.specs.declared.Refusal.{Refusal}
use Rattle.audit.specs.WorstWait.{reserves_within, sends_stops}
use Rattle.audit.specs.WaitWitnesses.{after_hold, before_stop, late_stop, for_both}
use Rattle.share.specs.States.{tick_states, waits, longest}
use Rattle.share.specs.Share.{read_alone, totals_of}
use Rattle.longest.specs.Longest.{keeps_asking, waits_unready, longest_of}

-- ---- the premises of Meets, as tests

abbrev pub holds_back : ℕ → ℕ → Kind → Master → List Raw → Bool
holds_back most more k m rs = ltb 0 most && throughout (reserves_within most m) (power_up k) rs && sends_stops more m (power_up k) rs

abbrev pub asks_on : Kind → Master → List Raw → Bool
asks_on k m rs = keeps_asking (partner m) false (power_up k) rs

abbrev pub ready_but : ℕ → Kind → Master → List Raw → Bool
ready_but busy k m rs = leb (longest (waits_unready (partner m)) (tick_states k rs)) busy

abbrev pub meets : ℕ → ℕ → ℕ → Kind → Master → List Raw → Bool
meets most more busy k m rs = holds_back most more k m rs && asks_on k m rs && ready_but busy k m rs

-- ---- what is shown of a run

abbrev pub longest_wait : Kind → Master → List Raw → ℕ
longest_wait k m rs = longest (waits (partner m)) (tick_states k rs)

-- All is met, and the longest wait is the figure and `busy` but for one tick.
abbrev pub reaches : ℕ → ℕ → ℕ → Kind → Master → List Raw → Bool
reaches most more busy k m rs = meets most more busy k m rs && eqb (longest_wait k m rs + 1) (35 + most + more + busy)

abbrev pub reaches_unheld : ℕ → ℕ → ℕ → Kind → Master → List Raw → Bool
reaches_unheld most more busy k m rs =
    meets most more busy k m rs && never aReset (power_up k) rs && eqb (longest_wait k m rs + 1) (most + 1 + more + busy)

-- All is met but that the partner keeps asking, and the longest wait is beyond the figure.
abbrev pub outlasts : ℕ → Kind → Master → List Raw → Bool
outlasts most k m rs = holds_back most 0 k m rs && not (asks_on k m rs) && ready_but 0 k m rs && ltb (35 + most) (longest_wait k m rs)

-- m never owns and all else is met, with no reset; and the longest wait is one tick.
abbrev pub waits_for_none : Kind → Master → List Raw → Bool
waits_for_none k m rs =
    throughout (reserves_within 0 m) (power_up k) rs && sends_stops 0 m (power_up k) rs && asks_on k m rs && ready_but 0 k m rs
    && never aReset (power_up k) rs && eqb (longest_wait k m rs) 1

-- ---- the runs

-- m's STOP comes after one tick and so many more; its reserve of rt runs but for one tick
abbrev pub waits_out : ℕ → ℕ → Master → List Raw
waits_out rt more m = before_stop rt m ++ times (more + 1) tick ++ stop_on m ∷ times (rt - 1) tick

-- the same with the bus busy from there on over so many ticks, or with the partner's port open, up to a STOP
abbrev pub waits_busy : ℕ → ℕ → Master → List Raw
waits_busy rt busy m = waits_out rt 0 m ++ bus_start ∷ times busy tick ++ bus_stop ∷ tick ∷ []

abbrev pub waits_open : ℕ → ℕ → Master → List Raw
waits_open rt busy m = waits_out rt 0 m ++ command (number (partner m)) 1 ∷ times busy tick ++ stop_on (partner m) ∷ tick ∷ []

-- m is granted with a reserve of rt, and its partner asks
abbrev pub both_ask : ℕ → Master → List Raw
both_ask rt m = sets_rt m rt ++ sets_contr m 0x01 ++ sets_contr (partner m) 0x01

-- the partner withdraws; m withdraws and is granted anew; the partner asks again
abbrev pub asks_anew : Master → List Raw
asks_anew m = sets_contr (partner m) 0x00 ++ sets_contr m 0x00 ++ sets_contr m 0x01 ++ sets_contr (partner m) 0x01

-- ---- a trace of such a run, byte by byte

-- accepted with this address, count and kind
abbrev pub is_accepted : ℕ → ℕ → Kind → Result Accepted Refusal → Bool
is_accepted address n k (Ok a) = eqb address a.address && eqb n a.events && eqb (kind_number k) (kind_number a.kind)
is_accepted address n k (Err r) = false

-- All is met by its events, and in its totals the longest wait is the figure but for one tick.
abbrev pub trace_reaches : ℕ → Kind → Master → List Raw → Bool
trace_reaches most k m rs =
    let t : List ℕ = trace_of (pins 0 0 0 1) rs k in
    is_accepted 0x71 (length rs) k (read_alone t) && meets most 0 0 k m rs && eqb (longest_of (partner m) (totals_of (read_alone t) t) + 1) (35 + most)

unfoldable pub longest_witnesses : Kind → List Bool
longest_witnesses k =
    -- a hold of 35 ticks and a reserve of 3, and of 50; the same with m's STOP two ticks late
    for_both (λ m. reaches 3 0 0 k m (after_hold 3 m ++ times 38 tick))
    ∷ for_both (λ m. reaches 50 0 0 k m (after_hold 50 m ++ times 85 tick))
    ∷ for_both (λ m. reaches 3 2 0 k m (after_hold 3 m ++ late_stop m 2 3))
    -- the first as the bytes of a trace
    ∷ for_both (λ m. trace_reaches 3 k m (after_hold 3 m ++ times 38 tick))
    -- no hold
    ∷ for_both (λ m. reaches_unheld 3 0 0 k m (waits_out 3 0 m ++ tick ∷ []))
    ∷ for_both (λ m. reaches_unheld 50 0 0 k m (waits_out 50 0 m ++ tick ∷ []))
    ∷ for_both (λ m. reaches_unheld 3 2 0 k m (waits_out 3 2 m ++ tick ∷ []))
    -- the bus busy for two ticks where m would have lost, or the partner's port open
    ∷ for_both (λ m. reaches 3 0 2 k m (after_hold 3 m ++ times 37 tick ++ bus_start ∷ times 2 tick ++ bus_stop ∷ tick ∷ []))
    ∷ for_both (λ m. reaches_unheld 3 0 2 k m (waits_busy 3 2 m))
    ∷ for_both (λ m. reaches_unheld 50 0 2 k m (waits_open 50 2 m))
    -- why the partner must keep asking: two waits of 49 ticks each, with nothing but a withdrawal or a reset between two TICKs, count as one of 98
    ∷ for_both (λ m. outlasts 50 k m (both_ask 50 m ++ times 49 tick ++ asks_anew m ++ times 49 tick))
    ∷ for_both (λ m. outlasts 50 k m (both_ask 50 m ++ times 49 tick ++ reset ∷ both_ask 50 m ++ times 49 tick))
    -- why `most` is 1 at the least: at 0 the figure of LongestWaitBelow is 1, and it is reached
    ∷ for_both (λ m. waits_for_none k m (before_stop 1 m ++ tick ∷ []))
    ∷ []

abbrev pub LongestWitnessesMeet : Type 0
LongestWitnessesMeet = (k : Kind) → all_met (longest_witnesses k) ≡ true
