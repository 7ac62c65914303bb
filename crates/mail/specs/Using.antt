-- Request #111, for the controllers' authors: how a sender knows that its word was taken, and how a reader gets the very word that it empties.
-- Statements over every run, as in Mail. proofs/Using.antt, Sender.antt and Reading.antt prove them. Runs shows what fails where a premise does.
-- Assumes nothing.
use Rattle.std.specs.Prelude.{◌≡◌, ◌&&◌, ◌∷◌, ◌++◌}
use Rattle.mail.specs.Names.{Bool, true, false, not, List, Master, Register, Id, Contr, Status, Rt, IntStatus, IntMask, MailLow, MailHigh, Kind, Device, Raw, Event, Command, Write, Read, Stop, Pair, Lines, Tick, Pulse, Reset, GeneralCall, bit, partner, same_master, side, reads_at, step, run_from, run, next, accepted, reset, never, Word}
use Rattle.mail.specs.Words.{full, word, held, at, writes, byte_of, reads, is_mail_low, fill_of, emptying_of}
use Rattle.mail.specs.Mail.{filled, emptied}

-- ---- full or empty, as STATUS shows it

-- "4 own mailbox full, 3 partner's mailbox empty"
abbrev pub StatusShows : Type 0
StatusShows =
    (m : Master) (d : Device) → (bit 4 (reads_at Status m d) ≡ full m d) × (bit 3 (reads_at Status m d) ≡ not (full (partner m) d))

-- ---- the sender's bit 4

-- s, reading its INT_STATUS, sees bit 4: "mail emptied"
abbrev pub sees_emptied : Master → Device → Bool
sees_emptied s d = bit 4 (reads_at IntStatus s d)

abbrev pub is_int_status : Register → Bool
is_int_status Id = false
is_int_status Contr = false
is_int_status Status = false
is_int_status Rt = false
is_int_status IntStatus = true
is_int_status IntMask = false
is_int_status MailLow = false
is_int_status MailHigh = false

-- s clears it: "INT_STATUS bits 5 to 0 stay until written 1"
abbrev pub clears : Master → Event → Device → Bool
clears s e d = writes s e && (is_int_status (at s d) && bit 4 (byte_of s e))

abbrev pub clearing_of : Master → Raw → Device → Bool
clearing_of s r d = accepted (clears s) r d

-- Cleared, it is seen clear.
abbrev pub ClearedSeen : Type 0
ClearedSeen = (s : Master) (d : Device) (r : Raw) → clearing_of s r d ≡ true → sees_emptied s (next d r) ≡ false

-- From where it is clear, without a reset and without being cleared again, it is seen set exactly if the partner's box has been emptied.
abbrev pub EmptiedSeen : Type 0
EmptiedSeen =
    (k : Kind) (s : Master) (rs later : List Raw) → let d : Device = run k rs in
    sees_emptied s d ≡ false → never reset d later ≡ true → never (clearing_of s) d later ≡ true
    → sees_emptied s (run_from d later) ≡ not (never (emptying_of (partner s)) d later)

-- Seen clear after rs, and set at some point after that without a reset between, it tells that every word that filled the partner's box up to
-- rs has been emptied.
abbrev pub WordsTaken : Type 0
WordsTaken =
    (k : Kind) (s : Master) (rs later : List Raw) → let d : Device = run k rs in let m : Master = partner s in
    sees_emptied s d ≡ false → never reset d later ≡ true → sees_emptied s (run_from d later) ≡ true
    → (since : List Word) × (emptied k m (rs ++ later) ≡ filled k m rs ++ since)

-- Clear while the partner's box is empty (STATUS bit 3), it stays clear until that box is filled, and with the fill.
abbrev pub ClearUntilFilled : Type 0
ClearUntilFilled =
    (k : Kind) (s : Master) (rs later : List Raw) (r : Raw) → let d : Device = run k rs in let m : Master = partner s in
    sees_emptied s d ≡ false → full m d ≡ false → never (fill_of m) d later ≡ true → sees_emptied s (next (run_from d later) r) ≡ false

-- So the sender's word was taken: f fills the partner's box with it, then c clears the bit, and then the bit is seen set.
abbrev pub SentClearedSeen : Type 0
SentClearedSeen =
    (k : Kind) (s : Master) (rs : List Raw) (f : Raw) (between : List Raw) (c : Raw) (later : List Raw) →
    let m : Master = partner s in let d : Device = next (run k rs) f in let x : Device = next (run_from d between) c in
    fill_of m f (run k rs) ≡ true → never reset d between ≡ true → clearing_of s c (run_from d between) ≡ true → never reset x later ≡ true
    → sees_emptied s (run_from x later) ≡ true
    → (since : List Word) × (emptied k m (rs ++ f ∷ (between ++ c ∷ later)) ≡ filled k m rs ++ held m d ∷ since)

-- Or c clears the bit first, with the partner's box empty; then f, the next fill, brings the word, and then the bit is seen set.
abbrev pub ClearedSentSeen : Type 0
ClearedSentSeen =
    (k : Kind) (s : Master) (rs : List Raw) (c : Raw) (between : List Raw) (f : Raw) (later : List Raw) →
    let m : Master = partner s in let d : Device = next (run k rs) c in let x : Device = next (run_from d between) f in
    clearing_of s c (run k rs) ≡ true → full m (run k rs) ≡ false → never reset d between ≡ true → never (fill_of m) d between ≡ true
    → fill_of m f (run_from d between) ≡ true → never reset x later ≡ true → sees_emptied s (run_from x later) ≡ true
    → (since : List Word) × (emptied k m (rs ++ c ∷ (between ++ f ∷ later)) ≡ filled k m rs ++ held m x ∷ since)

-- ---- the reader: 6 before 7

-- m reads 6
abbrev pub low_read_of : Master → Raw → Device → Bool
low_read_of m r d = accepted (λ (e : Event) (x : Device). reads m e && is_mail_low (at m x)) r d

-- r, a read of 6 while the box is full, and t, the read of 7 that empties it, hand out the very word that is emptied, if no reset and no
-- other emptying comes between. The partner may do anything else meanwhile, for what it writes is dropped. So may the reader.
abbrev pub LowThenHigh : Type 0
LowThenHigh =
    (k : Kind) (m : Master) (rs : List Raw) (r : Raw) (between : List Raw) (t : Raw) → let d : Device = run k rs in
    let x : Device = run_from (next d r) between in
    low_read_of m r d ≡ true → full m d ≡ true → never reset (next d r) between ≡ true → never (emptying_of m) (next d r) between ≡ true
    → emptying_of m t x ≡ true → word (step d r).answer.read (step x t).answer.read ≡ held m x

-- it is an event of m's: one on its port, or a PAIR
abbrev pub is_own : Master → Event → Bool
is_own m (Command k c) = same_master m k
is_own m (Write k v) = same_master m k
is_own m (Read k) = same_master m k
is_own m (Stop k) = same_master m k
is_own m (Pair v0 v1) = true
is_own m (Lines scl sda intin) = false
is_own m Tick = false
is_own m (Pulse sda) = false
is_own m Reset = false
is_own m (GeneralCall k b) = false

abbrev pub own_of : Master → Raw → Device → Bool
own_of m r d = accepted (λ (e : Event) (x : Device). is_own m e) r d

abbrev pub read_of : Master → Raw → Device → Bool
read_of m r d = accepted (λ (e : Event) (x : Device). reads m e) r d

-- With auto-increment two READs do it, if nothing comes between from that reader, and no reset: the second empties the box.
abbrev pub BurstTakes : Type 0
BurstTakes =
    (k : Kind) (m : Master) (rs : List Raw) (r : Raw) (between : List Raw) (t : Raw) → let d : Device = run k rs in
    let x : Device = run_from (next d r) between in
    low_read_of m r d ≡ true → full m d ≡ true → (side m d).auto ≡ true
    → never reset (next d r) between ≡ true → never (own_of m) (next d r) between ≡ true
    → read_of m t x ≡ true → (emptying_of m t x ≡ true) × (word (step d r).answer.read (step x t).answer.read ≡ held m x)
