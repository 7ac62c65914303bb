-- Request #111: runs that show what the statements of Mail and Using say, and what fails where a premise of theirs does. Each is run for both
-- boxes of a part of each kind: m is the reader, p the sender. proofs/Runs.antt computes them all.
-- Assumes nothing.
use Rattle.std.specs.Prelude.{eqb, ◌≡◌, ◌∷◌, ◌++◌}
use Rattle.mail.specs.Names.{ℕ, Bool, true, not, List, [], map, Master, Zero, One, Kind, Device, Raw, partner, of, side, step, run_from, run, next, is_accepted, reset, never, is_mail_high, Word}
use Rattle.mail.specs.Words.{full, word, at, drop_of, fill_of, emptying_of}
use Rattle.mail.specs.Mail.{filled, emptied, pending, last_low}
use Rattle.mail.specs.Using.{sees_emptied, clearing_of, low_read_of, own_of, read_of}
use Rattle.arbiter.specs.Marks.{raw, command, write, read, stop, pair, tick, reset as pinReset, general_call}
use Rattle.arbiter.specs.Witnesses.{number, all_met}

-- ---- what the masters do

-- p writes v to 6 of its partner's box, or to 7; or the word v w to both
abbrev pub low : Master → ℕ → List Raw
low p v = command (number p) 6 ∷ write (number p) v ∷ []

abbrev pub high : Master → ℕ → List Raw
high p v = command (number p) 7 ∷ write (number p) v ∷ []

abbrev pub sends : Master → ℕ → ℕ → List Raw
sends p v w = command (number p) 0x86 ∷ write (number p) v ∷ write (number p) w ∷ []

-- m reads, wherever its pointer is; or it reads 6 and then 7
abbrev pub reads_on : Master → Raw
reads_on m = read (number m)

abbrev pub reads_both : Master → List Raw
reads_both m = command (number m) 0x86 ∷ reads_on m ∷ reads_on m ∷ []

-- p clears bit 4 of its INT_STATUS
abbrev pub clears_it : Master → List Raw
clears_it p = command (number p) 4 ∷ write (number p) 0x10 ∷ []

-- both ports open for writing at 6 with auto-increment; the two bytes of one PAIR, m's and its partner's
abbrev pub both_at_low : List Raw
both_at_low = command 0 0x86 ∷ command 1 0x86 ∷ []

abbrev pub pair_of : Master → ℕ → ℕ → Raw
pair_of m v w = pair (of m v w) (of m w v)

-- both boxes filled by PAIR: m's with B0h B1h, its partner's with A0h A1h
abbrev pub both_filled : Master → List Raw
both_filled m = both_at_low ++ pair_of m 0xA0 0xB0 ∷ pair_of m 0xA1 0xB1 ∷ []

-- 11h 22h is sent; 33h to 7 is dropped; m reads both; 44h to 7 alone fills the box again; 55h to 6 is dropped
abbrev pub words : Master → List Raw
words m =
    let p : Master = partner m in
    sends p 0x11 0x22 ++ high p 0x33 ++ reads_both m ++ high p 0x44 ++ low p 0x55

-- 11h 22h is sent, and then come a WRITE, a PAIR and a STOP out of sequence, a bad COMMAND with a WRITE after it, and an unknown kind
abbrev pub refused_ones : Master → List Raw
refused_ones m =
    let p : Master = partner m in
    sends p 0x11 0x22 ++ reads_both m ++ stop (number p) ∷ write (number p) 0x33 ∷ stop (number p) ∷ command (number p) 7 ∷ pair 0x44 0x44
    ∷ command (number p) 0x0F ∷ write (number p) 0x55 ∷ raw 10 0 0 0 ∷ []

-- ---- the words of a run, found and told

pub record Row : Type 0 where
  pub found : List Word
  pub told : List Word

infix 15 ◌are◌
abbrev pub ◌are◌ : List Word → List Word → Row
x are y = record { found = x; told = y }

-- the bytes that the READs r and t hand out: after rs, and after what comes between
abbrev pub handed_out : Kind → List Raw → Raw → List Raw → Raw → ℕ × ℕ
handed_out k rs r between t =
    let d : Device = run k rs in
    ((step d r).answer.read, (step (run_from (next d r) between) t).answer.read)

-- read 6 first and 7 second, or 7 first and 6 second, as a word
abbrev pub low_first : Kind → List Raw → Raw → List Raw → Raw → List Word
low_first k rs r between t = word (handed_out k rs r between t).0 (handed_out k rs r between t).1 ∷ []

abbrev pub high_first : Kind → List Raw → Raw → List Raw → Raw → List Word
high_first k rs r between t = word (handed_out k rs r between t).1 (handed_out k rs r between t).0 ∷ []

unfoldable pub rows : Kind → Master → List Row
rows k m =
    let p : Master = partner m in
    let one : Word = word 0x11 0x22 in
    let late : List Raw = reads_on m ∷ low p 0x33 ++ command (number m) 6 ∷ reads_on m ∷ [] in
    let early : List Raw = low p 0x11 ++ command (number m) 0x86 ∷ reads_on m ∷ low p 0x33 ++ high p 0x22 ++ reads_on m ∷ [] in
    -- a word is filled as the box then holds it, its low byte of the write before; the dropped ones are nowhere
    (filled k m (words m) are one ∷ word 0x11 0x44 ∷ [])
    ∷ (emptied k m (words m) are one ∷ [])
    ∷ (pending k m (words m) are word 0x11 0x44 ∷ [])
    ∷ (filled k p (words m) are [])
    -- read once more after it is emptied, a box gives the same bytes and empties nothing
    ∷ (emptied k m (words m ++ reads_both m ++ reads_both m) are one ∷ word 0x11 0x44 ∷ [])
    -- a read of 6 empties nothing
    ∷ (emptied k m (sends p 0x11 0x22 ++ command (number m) 6 ∷ reads_on m ∷ []) are [])
    -- a reset of either kind ends both lists and the low byte
    ∷ (filled k m (words m ++ pinReset ∷ []) are [])
    ∷ (emptied k m (words m ++ general_call (number m) 0x06 ∷ []) are [])
    ∷ (filled k m (words m ++ general_call (number p) 0x06 ∷ high p 0x66) are word 0x00 0x66 ∷ [])
    -- one PAIR fills both boxes; a half that is dropped leaves the other half
    ∷ (filled k m (both_filled m) are word 0xB0 0xB1 ∷ [])
    ∷ (filled k p (both_filled m) are word 0xA0 0xA1 ∷ [])
    ∷ (filled k m (sends p 0x11 0x22 ++ both_filled m) are one ∷ [])
    ∷ (filled k p (sends p 0x11 0x22 ++ both_filled m) are word 0xA0 0xA1 ∷ [])
    -- emptying one leaves the other
    ∷ (emptied k m (both_filled m ++ reads_both m) are word 0xB0 0xB1 ∷ [])
    ∷ (pending k p (both_filled m ++ reads_both m) are word 0xA0 0xA1 ∷ [])
    -- refused events fill nothing
    ∷ (filled k m (refused_ones m) are one ∷ [])
    -- 6 and then 7, with the partner writing meanwhile: the word that is emptied
    ∷ (low_first k (sends p 0x11 0x22 ++ command (number m) 0x86 ∷ []) (reads_on m) (sends p 0x33 0x44) (reads_on m) are one ∷ [])
    ∷ (emptied k m (sends p 0x11 0x22 ++ command (number m) 0x86 ∷ reads_on m ∷ sends p 0x33 0x44 ++ reads_on m ∷ []) are one ∷ [])
    -- 7 and then 6: 11h 22h is emptied, and 33h 22h handed out
    ∷ (high_first k (sends p 0x11 0x22 ++ command (number m) 7 ∷ []) (reads_on m) (low p 0x33 ++ command (number m) 6 ∷ []) (reads_on m)
    are word 0x33 0x22 ∷ [])
    ∷ (emptied k m (sends p 0x11 0x22 ++ command (number m) 7 ∷ late) are one ∷ [])
    -- 6 before the box is full, and then 7: 33h 22h is emptied, and 11h 22h handed out
    ∷ (low_first k (low p 0x11 ++ command (number m) 0x86 ∷ []) (reads_on m) (low p 0x33 ++ high p 0x22) (reads_on m) are one ∷ [])
    ∷ (emptied k m early are word 0x33 0x22 ∷ [])
    -- the sender clears bit 4 with 11h 22h pending, sends 33h 44h when that is taken, and sees the bit set: 33h 44h is not taken
    ∷ (pending k m (sends p 0x11 0x22 ++ clears_it p ++ reads_both m ++ sends p 0x33 0x44) are word 0x33 0x44 ∷ [])
    -- it clears the bit and writes 33h to 7 with 11h 22h pending, which drops it, and sees the bit set: 33h is nowhere
    ∷ (filled k m (sends p 0x11 0x22 ++ clears_it p ++ high p 0x33 ++ reads_both m) are one ∷ [])
    ∷ []

abbrev pub RowsHold : Type 0
RowsHold = (k : Kind) (m : Master) → map (λ (r : Row). r.found) (rows k m) ≡ map (λ (r : Row). r.told) (rows k m)

-- ---- the premises of each statement, in its order, met by runs

unfoldable pub met : Kind → Master → List Bool
met k m =
    let p : Master = partner m in
    let sent : Device = run k (sends p 0x11 0x22) in
    let atSeven : Device = run k (both_at_low ++ pair_of m 0xA0 0xB0 ∷ []) in
    let cleared : List Raw = clears_it p in
    let sentAndCleared : Device = run k (sends p 0x11 0x22 ++ cleared) in
    let burst : Device = run k (sends p 0x11 0x22 ++ command (number m) 0x86 ∷ []) in
    -- LowKept: 11h stands though 55h was written to 6 of the full box
    eqb (last_low k m (words m)) 0x11
    -- WordFilled and ListsGrow: the byte to 7; DropIsNothing: to 6 and to 7 of a full box, and a half of a PAIR
    ∷ fill_of m (write (number p) 0x22) (run k (command (number p) 0x86 ∷ write (number p) 0x11 ∷ []))
    ∷ drop_of m (write (number p) 0x33) (next sent (command (number p) 6))
    ∷ drop_of m (write (number p) 0x33) (next sent (command (number p) 7))
    ∷ drop_of m (pair_of m 0xA0 0xB0) (run_from sent both_at_low)
    -- ResetsEnd: the pin, and a soft reset by either
    ∷ reset pinReset sent ∷ reset (general_call (number m) 0x06) sent ∷ reset (general_call (number p) 0x06) sent
    -- PairFillsBoth
    ∷ is_accepted (pair_of m 0xA1 0xB1) atSeven ∷ is_mail_high (at Zero atSeven) ∷ is_mail_high (at One atSeven)
    ∷ not (full Zero atSeven) ∷ not (full One atSeven)
    -- EmptyingLeaves, with the other box full
    ∷ emptying_of m (reads_on m) (run k (both_filled m ++ command (number m) 7 ∷ [])) ∷ full p (run k (both_filled m ++ command (number m) 7 ∷ []))
    -- ClearedSeen, of a bit that was set
    ∷ sees_emptied p (run k (sends p 0x11 0x22 ++ reads_both m))
    ∷ clearing_of p (write (number p) 0x10) (run k (sends p 0x11 0x22 ++ reads_both m ++ command (number p) 4 ∷ []))
    -- EmptiedSeen and WordsTaken: sent, cleared, read
    ∷ not (sees_emptied p sentAndCleared) ∷ never reset sentAndCleared (reads_both m) ∷ never (clearing_of p) sentAndCleared (reads_both m)
    ∷ sees_emptied p (run_from sentAndCleared (reads_both m)) ∷ not (never (emptying_of m) sentAndCleared (reads_both m))
    -- ClearUntilFilled: cleared, and some time later sent
    ∷ not (sees_emptied p (run k cleared)) ∷ not (full m (run k cleared))
    ∷ never (fill_of m) (run k cleared) (tick ∷ reads_both m ++ low p 0x11 ++ command (number p) 7 ∷ [])
    ∷ fill_of m (write (number p) 0x22) (run_from (run k cleared) (tick ∷ reads_both m ++ low p 0x11 ++ command (number p) 7 ∷ []))
    -- SentClearedSeen: sent, cleared some time later, read
    ∷ fill_of m (write (number p) 0x22) (run k (command (number p) 0x86 ∷ write (number p) 0x11 ∷ []))
    ∷ never reset sent (tick ∷ command (number p) 4 ∷ []) ∷ clearing_of p (write (number p) 0x10) (run_from sent (tick ∷ command (number p) 4 ∷ []))
    ∷ never reset (run_from sent (tick ∷ cleared)) (reads_both m) ∷ sees_emptied p (run_from sent (tick ∷ cleared ++ reads_both m))
    -- ClearedSentSeen: cleared with the box empty, sent some time later, read
    ∷ clearing_of p (write (number p) 0x10) (run k (command (number p) 4 ∷ [])) ∷ not (full m (run k (command (number p) 4 ∷ [])))
    ∷ never reset (run k cleared) (tick ∷ command (number p) 7 ∷ []) ∷ never (fill_of m) (run k cleared) (tick ∷ command (number p) 7 ∷ [])
    ∷ fill_of m (write (number p) 0x22) (run k (cleared ++ tick ∷ command (number p) 7 ∷ []))
    ∷ never reset (run k (cleared ++ tick ∷ high p 0x22)) (reads_both m) ∷ sees_emptied p (run k (cleared ++ tick ∷ high p 0x22 ++ reads_both m))
    -- in the two traps above the bit is seen set at the end
    ∷ sees_emptied p (run k (sends p 0x11 0x22 ++ cleared ++ reads_both m ++ sends p 0x33 0x44))
    ∷ sees_emptied p (run k (sends p 0x11 0x22 ++ cleared ++ high p 0x33 ++ reads_both m))
    -- LowThenHigh and BurstTakes: the partner sends meanwhile
    ∷ low_read_of m (reads_on m) burst ∷ full m burst ∷ (side m burst).auto
    ∷ never reset (next burst (reads_on m)) (sends p 0x33 0x44) ∷ never (emptying_of m) (next burst (reads_on m)) (sends p 0x33 0x44)
    ∷ never (own_of m) (next burst (reads_on m)) (sends p 0x33 0x44)
    ∷ read_of m (reads_on m) (run_from (next burst (reads_on m)) (sends p 0x33 0x44))
    ∷ emptying_of m (reads_on m) (run_from (next burst (reads_on m)) (sends p 0x33 0x44))
    ∷ []

abbrev pub PremisesMet : Type 0
PremisesMet = (k : Kind) (m : Master) → all_met (met k m) ≡ true
