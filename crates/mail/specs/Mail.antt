-- Request #111, "mail neither lost nor doubled", as statements over every run: any list of raw four-byte events from power-up of a part of
-- either kind, refused ones included. They hold of both boxes, for m is either master. Those that name a device and no run hold of every
-- device. proofs/Lists.antt and proofs/Box.antt prove them, under the same names in small letters; Assurance has them all.
-- Assumes nothing.
use Rattle.std.specs.Prelude.{◌≤◌, ◌≡◌, ◌∷◌, ◌++◌, if◌then◌else◌}
use Rattle.mail.specs.Names.{ℕ, Bool, true, false, List, [], length, drop, Master, Zero, One, MailHigh, Kind, Device, Raw, Pair, partner, decode, power_up, run, next, is_accepted, reset, Word, Ok}
use Rattle.mail.specs.Words.{box, full, word, held, at, drop_of, low_write_of, fill_of, emptying_of, byte_by, box_after}

-- ---- the lists of a run

-- the words of those events that are such, in order, "between resets": since the last one. ws are the words up to d, rs the events from d on.
unfoldable pub listed_from : (Raw → Device → Bool) → (Raw → Device → Word) → Device → List Word → List Raw → List Word
listed_from such word_of d ws [] = ws
listed_from such word_of d ws (r ∷ rs) =
    listed_from such word_of (next d r) (if reset r d then [] else if such r d then ws ++ word_of r d ∷ [] else ws) rs

-- "the low and high bytes .. the box held right after each write that filled it"
unfoldable pub filled : Kind → Master → List Raw → List Word
filled k m rs = listed_from (fill_of m) (λ (r : Raw) (d : Device). held m (next d r)) (power_up k) [] rs

-- "the low and high bytes held at each read that empties a box"
unfoldable pub emptied : Kind → Master → List Raw → List Word
emptied k m rs = listed_from (emptying_of m) (λ (r : Raw) (d : Device). held m d) (power_up k) [] rs

-- "filled .. not yet emptied": what is left of the first list after as many words as the second has
abbrev pub pending : Kind → Master → List Raw → List Word
pending k m rs = drop (length (emptied k m rs)) (filled k m rs)

-- the byte "of the last write to 6 not dropped" since the last reset, "else 0"; v is it up to d
unfoldable pub low_from : Master → Device → ℕ → List Raw → ℕ
low_from m d v [] = v
low_from m d v (r ∷ rs) = low_from m (next d r) (if reset r d then 0 else if low_write_of m r d then byte_by (partner m) r else v) rs

unfoldable pub last_low : Kind → Master → List Raw → ℕ
last_low k m rs = low_from m (power_up k) 0 rs

-- ---- neither lost nor doubled

-- The words emptied "are, in order, those" filled, "each once": the filled ones are the emptied ones and then the pending ones.
abbrev pub MailInOrder : Type 0
MailInOrder = (k : Kind) (m : Master) (rs : List Raw) → filled k m rs ≡ emptied k m rs ++ pending k m rs

-- A word is pending exactly while the box is full, and it is the one that the box holds.
abbrev pub PendingHeld : Type 0
PendingHeld = (k : Kind) (m : Master) (rs : List Raw) → let d : Device = run k rs in pending k m rs ≡ (if full m d then held m d ∷ [] else [])

-- "At most one filled word is not yet emptied."
abbrev pub OnePending : Type 0
OnePending = (k : Kind) (m : Master) (rs : List Raw) → length (pending k m rs) ≤ 1

-- "its low byte is that of the last write to 6 not dropped, else 0", full or not
abbrev pub LowKept : Type 0
LowKept = (k : Kind) (m : Master) (rs : List Raw) → (box m (run k rs)).low ≡ last_low k m rs

-- A filled word is that low byte and the byte that was written to 7.
abbrev pub WordFilled : Type 0
WordFilled =
    (k : Kind) (m : Master) (rs : List Raw) (r : Raw) → fill_of m r (run k rs) ≡ true
    → held m (next (run k rs) r) ≡ word (last_low k m rs) (byte_by (partner m) r)

-- "A write dropped on a full box counts as no fill." It changes neither the box nor the lists.
abbrev pub DropIsNothing : Type 0
DropIsNothing =
    (k : Kind) (m : Master) (rs : List Raw) (r : Raw) → drop_of m r (run k rs) ≡ true
    → (fill_of m r (run k rs) ≡ false) × (box m (next (run k rs) r) ≡ box m (run k rs))
    × (filled k m (rs ++ r ∷ []) ≡ filled k m rs) × (emptied k m (rs ++ r ∷ []) ≡ emptied k m rs)

-- A reset ends both lists, of both boxes, and leaves the boxes empty.
abbrev pub ResetsEnd : Type 0
ResetsEnd =
    (k : Kind) (m : Master) (rs : List Raw) (r : Raw) → reset r (run k rs) ≡ true
    → (filled k m (rs ++ r ∷ []) ≡ []) × (emptied k m (rs ++ r ∷ []) ≡ []) × (full m (next (run k rs) r) ≡ false)

-- ---- the lists and the box, one event further

-- Each list grows by its own events alone.
abbrev pub ListsGrow : Type 0
ListsGrow =
    (k : Kind) (m : Master) (rs : List Raw) (r : Raw) → let d : Device = run k rs in reset r d ≡ false
    → (filled k m (rs ++ r ∷ []) ≡ (if fill_of m r d then filled k m rs ++ held m (next d r) ∷ [] else filled k m rs))
    × (emptied k m (rs ++ r ∷ []) ≡ (if emptying_of m r d then emptied k m rs ++ held m d ∷ [] else emptied k m rs))

-- A box is changed by a write to 6 or 7 that is not dropped, by a read of 7 while it is full, and by a reset, as these say, and by nothing
-- else.
abbrev pub BoxChanges : Type 0
BoxChanges = (m : Master) (d : Device) (r : Raw) → box m (next d r) ≡ box_after m r d

-- ---- both directions together

-- One PAIR fills both boxes where both pointers are at 7 and neither box is full: each with the byte of the other's half.
abbrev pub PairFillsBoth : Type 0
PairFillsBoth =
    (d : Device) (r : Raw) (v0 v1 : ℕ) → decode r ≡ Ok (Pair v0 v1) → is_accepted r d ≡ true
    → at Zero d ≡ MailHigh → at One d ≡ MailHigh → full Zero d ≡ false → full One d ≡ false
    → (fill_of Zero r d ≡ true) × (fill_of One r d ≡ true) × ((box Zero (next d r)).high ≡ v1) × ((box One (next d r)).high ≡ v0)

-- What empties one box leaves the other as it is.
abbrev pub EmptyingLeaves : Type 0
EmptyingLeaves = (m : Master) (d : Device) (r : Raw) → emptying_of m r d ≡ true → box (partner m) (next d r) ≡ box (partner m) d
