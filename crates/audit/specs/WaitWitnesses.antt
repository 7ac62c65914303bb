-- Runs that reach the figures of WorstWait, for both masters of a part of each kind: one tick earlier the partner still waits.
-- proofs/WaitWitnesses.antt computes them all.
-- Assumes nothing.
use Rattle.std.specs.Prelude.{◌≡◌, leb, ◌+◌, ◌&&◌, ◌∷◌, ◌++◌}
use Rattle.ranges.specs.Names.{ℕ, Bool, true, not, List, [], eqb, ltb, Master, Zero, One, Kind, Device, Raw}
use Rattle.arbiter.specs.Words.{worth, partner}
use Rattle.arbiter.specs.State.{owns, is_idle}
use Rattle.arbiter.specs.Steps.{run}
use Rattle.arbiter.specs.AuditWords.{next, requests, resting, reset, tick as aTick}
use Rattle.arbiter.specs.Marks.{command, tick, general_call, times}
use Rattle.arbiter.specs.Witnesses.{number, sets_rt, sets_contr, writes_contr, stop_on, bus_start, bus_stop, all_met}
use Rattle.audit.specs.WorstWait.{reserves_within, delayed}

-- ---- the premises of WaitIsOverWithin, found in one pass over the events

-- Before each event of `later` and at the end the partner's request stands and m reserves no more than `most`; no event is a reset, and m
-- sends its STOPs; and the device and the ticks so far are such at the end.
unfoldable pub goes_through : (ℕ → Device → Bool) → ℕ → ℕ → Master → ℕ → ℕ → Device → List Raw → Bool
goes_through ends most more m n ticks d [] = requests (partner m) d && reserves_within most m d && ends ticks d
goes_through ends most more m n ticks d (r ∷ rs) =
    requests (partner m) d && reserves_within most m d && not (reset r d) && ltb (delayed m n r d) (more + 2)
    && goes_through ends most more m (delayed m n r d) (ticks + worth 1 (aTick r d)) (next d r) rs

-- the bus is idle and the partner's port at rest
abbrev pub is_free : Master → Device → Bool
is_free m d = is_idle d.bus && resting (partner m) d

-- the figure's ticks have come
abbrev pub worst_wait : ℕ → ℕ → ℕ → Kind → Master → List Raw → List Raw → Bool
worst_wait most more figure k m rs later = goes_through (λ (ticks : ℕ) (d : Device). is_free m d && leb figure ticks) most more m 0 0 (run k rs) later

-- all is met but one tick of the figure, and the partner does not own
abbrev pub still_waits : ℕ → ℕ → ℕ → Kind → Master → List Raw → List Raw → Bool
still_waits most more figure k m rs later =
    goes_through (λ (ticks : ℕ) (d : Device). is_free m d && eqb (ticks + 1) figure && not (owns (partner m) d)) most more m 0 0 (run k rs) later

-- no hold runs at first
abbrev pub unheld : Kind → List Raw → Bool
unheld k rs = eqb (run k rs).bus.hold 0

-- ---- the runs

-- m's soft reset with SMBUS_SWRST; then m sets such an RT and its partner 255, m asks and then its partner
abbrev pub after_hold : ℕ → Master → List Raw
after_hold rt m =
    let p : Master = partner m in
    sets_contr m 0x10 ++ general_call (number m) 0x06 ∷ sets_rt m rt ++ sets_rt p 255 ++ sets_contr m 0x01 ++ sets_contr p 0x01

-- m sets such an RT and its partner 255, m asks and has not sent its STOP when its partner asks
abbrev pub before_stop : ℕ → Master → List Raw
before_stop rt m =
    let p : Master = partner m in
    sets_rt m rt ++ sets_rt p 255 ++ writes_contr m 0x01 ++ sets_contr p 0x01

-- 34 ticks of the hold; m has its port open over the last of them, and over so many more; its STOP, and then its reserve up to so many ticks
abbrev pub late_stop : Master → ℕ → ℕ → List Raw
late_stop m more ticks = times 34 tick ++ command (number m) 1 ∷ times (more + 1) tick ++ stop_on m ∷ times ticks tick

abbrev pub for_both : (Master → Bool) → Bool
for_both f = f Zero && f One

unfoldable pub wait_witnesses : Kind → List Bool
wait_witnesses k =
    -- m is granted at the 35th tick and loses at the 290th; with the bus busy over the 290th and ten more, at the STOP
    for_both (λ m. still_waits 255 0 290 k m (after_hold 255 m) (times 289 tick))
    ∷ for_both (λ m. worst_wait 255 0 290 k m (after_hold 255 m) (times 290 tick))
    ∷ for_both (λ m. worst_wait 255 0 290 k m (after_hold 255 m) (times 280 tick ++ bus_start ∷ times 20 tick ++ bus_stop ∷ []))
    -- no hold, and m's STOP comes after the first tick
    ∷ for_both (λ m. unheld k (before_stop 255 m) && still_waits 255 0 256 k m (before_stop 255 m) (tick ∷ stop_on m ∷ times 254 tick))
    ∷ for_both (λ m. unheld k (before_stop 255 m) && worst_wait 255 0 256 k m (before_stop 255 m) (tick ∷ stop_on m ∷ times 255 tick))
    -- m's STOP comes after the 37th tick
    ∷ for_both (λ m. still_waits 255 2 292 k m (after_hold 255 m) (late_stop m 2 254))
    ∷ for_both (λ m. worst_wait 255 2 292 k m (after_hold 255 m) (late_stop m 2 255))
    -- the same with a reserve of 50, and of 1
    ∷ for_both (λ m. still_waits 50 0 85 k m (after_hold 50 m) (times 84 tick))
    ∷ for_both (λ m. worst_wait 50 0 85 k m (after_hold 50 m) (times 85 tick))
    ∷ for_both (λ m. unheld k (before_stop 50 m) && still_waits 50 0 51 k m (before_stop 50 m) (tick ∷ stop_on m ∷ times 49 tick))
    ∷ for_both (λ m. unheld k (before_stop 50 m) && worst_wait 50 0 51 k m (before_stop 50 m) (tick ∷ stop_on m ∷ times 50 tick))
    ∷ for_both (λ m. still_waits 50 2 87 k m (after_hold 50 m) (late_stop m 2 49))
    ∷ for_both (λ m. worst_wait 50 2 87 k m (after_hold 50 m) (late_stop m 2 50))
    ∷ for_both (λ m. still_waits 1 0 36 k m (after_hold 1 m) (times 35 tick))
    ∷ for_both (λ m. worst_wait 1 0 36 k m (after_hold 1 m) (times 36 tick))
    ∷ for_both (λ m. unheld k (before_stop 1 m) && still_waits 1 0 2 k m (before_stop 1 m) (tick ∷ stop_on m ∷ []))
    ∷ for_both (λ m. unheld k (before_stop 1 m) && worst_wait 1 0 2 k m (before_stop 1 m) (tick ∷ stop_on m ∷ tick ∷ []))
    -- why `most` is 1 at the least: at 0 all is met after the one tick, with m the claimant still, and the partner waits
    ∷ for_both (λ m. unheld k (before_stop 1 m) && still_waits 0 0 2 k m (before_stop 1 m) (tick ∷ []))
    ∷ []

abbrev pub WaitWitnessesMeet : Type 0
WaitWitnessesMeet = (k : Kind) → all_met (wait_witnesses k) ≡ true
