-- The words filled into a box and emptied out of it, over a run.
-- Assumes nothing.
use native.Mathlib.Omega.{arith}
use mathlib.Core.Path.{◌≡◌, refl, sym, ap, ap₂, subst, ◌∙◌}
use mathlib.Core.Bool.{true≢false, false≢true, and-eq-true_iff}
use mathlib.Core.List.{append_assoc, append-nil}
use Rattle.std.specs.Prelude.{◌≤◌, ◌&&◌, ◌∷◌, ◌++◌, if◌then◌else◌}
use Rattle.mail.specs.Names.{ℕ, Bool, true, false, not, List, [], length, drop, Master, Zero, One, MailHigh, Mailbox, Kind, Device}
use Rattle.mail.specs.Names.{Raw, Pair, partner, is_mail_high, power_up, run_from, run, next, reset, Word, Result, Event, Unread, Ok}
use Rattle.mail.specs.Words.{box, full, word, held, at, fills, low_write_of, fill_of, emptying_of, decoded_byte, byte_by}
use Rattle.mail.specs.Mail.{listed_from, filled, emptied, low_from, last_low, MailInOrder, PendingHeld, OnePending, LowKept, WordFilled, DropIsNothing}
use Rattle.mail.specs.Mail.{ResetsEnd, ListsGrow, PairFillsBoth, EmptyingLeaves}
use Rattle.arbiter.specs.Events.{in_sequence}
use Rattle.arbiter.specs.Effects.{fresh_side}
use Rattle.arbiter.specs.AuditWords.{accepted_as}
use Rattle.arbiter.proofs.Choice.{either, split, if_true, if_false}
use Rattle.mail.proofs.Box.{box_by, box_changes}
use Rattle.mail.proofs.Said.{fill_meets, low_meets, emptying_meets, drop_meets, drop_no_reset, drop_no_emptying, fill_no_reset, fill_no_low}
use Rattle.mail.proofs.Said.{emptying_no_reset, emptying_no_low, emptying_no_fill, emptying_one, full_no_fill, full_no_low}

-- ---- one event

abbrev pub only : Bool → Word → List Word
only b w = if b then w ∷ [] else []

-- the word that a box holds
abbrev holds : Mailbox → Word
holds b = word b.low b.high

-- the words that it has waiting: the one that it holds, or none
abbrev pub waiting : Master → Device → List Word
waiting m d = only (full m d) (held m d)

-- the box after an event that is no reset
pub box_next : (m : Master) (r : Raw) (d : Device) → reset r d ≡ false
    → box m (next d r) ≡ box_by false (low_write_of m r d) (fill_of m r d) (emptying_of m r d) (byte_by (partner m) r) (box m d)
box_next m r d h =
    box_changes m d r ∙ ap (λ (x : Bool). box_by x (low_write_of m r d) (fill_of m r d) (emptying_of m r d) (byte_by (partner m) r) (box m d)) h

pub box_reset : (m : Master) (r : Raw) (d : Device) → reset r d ≡ true → box m (next d r) ≡ record { low = 0; high = 0; full = false }
box_reset m r d h =
    box_changes m d r ∙ ap (λ (x : Bool). box_by x (low_write_of m r d) (fill_of m r d) (emptying_of m r d) (byte_by (partner m) r) (box m d)) h

-- The word that waits, and then the one filled in, is the one emptied out, and then the word that waits after it.
passes : (lo hi out : Bool) (v : ℕ) (b : Mailbox)
    → (lo ≡ true → b.full ≡ false) → (hi ≡ true → b.full ≡ false) → (out ≡ true → b.full ≡ true)
    → let n : Mailbox = box_by false lo hi out v b in
    only b.full (holds b) ++ only hi (holds n) ≡ only out (holds b) ++ only n.full (holds n)
passes lo hi out v b p q o = go lo hi out b.full p q o
  where
    after : Bool → Bool → Bool → Bool → Mailbox
    after lo hi out f = box_by false lo hi out v (record { low = b.low; high = b.high; full = f })

    go : (lo hi out f : Bool) → (lo ≡ true → f ≡ false) → (hi ≡ true → f ≡ false) → (out ≡ true → f ≡ true)
        → let n : Mailbox = after lo hi out f in
        only f (holds b) ++ only hi (holds n) ≡ only out (holds b) ++ only n.full (holds n)
    go lo true out true p q o = absurd (true≢false (q refl))
    go lo true true false p q o = absurd (false≢true (o refl))
    go lo true false false p q o = refl
    go true false out true p q o = absurd (true≢false (p refl))
    go false false true true p q o = refl
    go false false false true p q o = refl
    go lo false true false p q o = absurd (false≢true (o refl))
    go lo false false false p q o = refl

step_passes : (m : Master) (r : Raw) (d : Device) → reset r d ≡ false
    → waiting m d ++ only (fill_of m r d) (held m (next d r)) ≡ only (emptying_of m r d) (held m d) ++ waiting m (next d r)
step_passes m r d h =
    subst
    (λ (n : Mailbox). waiting m d ++ only (fill_of m r d) (holds n) ≡ only (emptying_of m r d) (held m d) ++ only n.full (holds n))
    (sym (box_next m r d h))
    (passes (low_write_of m r d) (fill_of m r d) (emptying_of m r d) (byte_by (partner m) r) (box m d)
    (low_meets m r d) (fill_meets m r d) (emptying_meets m r d))

-- ---- the lists, from any device

abbrev pub filled_from : Master → Device → List Word → List Raw → List Word
filled_from m = listed_from (fill_of m) (λ (r : Raw) (d : Device). held m (next d r))

abbrev pub emptied_from : Master → Device → List Word → List Raw → List Word
emptied_from m = listed_from (emptying_of m) (λ (r : Raw) (d : Device). held m d)

-- a list one event further
abbrev pub grown : Bool → Bool → List Word → Word → List Word
grown now such ws w = if now then [] else if such then ws ++ w ∷ [] else ws

pub grown_by : (such : Bool) (ws : List Word) (w : Word) → grown false such ws w ≡ ws ++ only such w
grown_by true ws w = refl
grown_by false ws w = sym (append-nil ws)

regroup : (ws us ps xs ys qs : List Word) → ws ≡ us ++ ps → ps ++ xs ≡ ys ++ qs → ws ++ xs ≡ (us ++ ys) ++ qs
regroup ws us ps xs ys qs h k =
    ap (λ (l : List Word). l ++ xs) h ∙ append_assoc us ps xs ∙ ap (λ (l : List Word). us ++ l) k ∙ sym (append_assoc us ys qs)

-- What is filled is what is emptied and then what waits: if so before an event, so after it,
pub step_kept : (m : Master) (r : Raw) (d : Device) (ws us : List Word) → ws ≡ us ++ waiting m d
    → grown (reset r d) (fill_of m r d) ws (held m (next d r)) ≡ grown (reset r d) (emptying_of m r d) us (held m d) ++ waiting m (next d r)
step_kept m r d ws us h =
    split (reset r d)
    (λ x.
    ap (λ (b : Bool). grown b (fill_of m r d) ws (held m (next d r))) x
    ∙ sym
    (ap₂ (λ (b : Bool) (n : Mailbox). grown b (emptying_of m r d) us (held m d) ++ only n.full (holds n)) x (box_reset m r d x)))
    (λ x.
    ap (λ (b : Bool). grown b (fill_of m r d) ws (held m (next d r))) x
    ∙ grown_by (fill_of m r d) ws (held m (next d r))
    ∙ regroup ws us (waiting m d) _ _ _ h (step_passes m r d x)
    ∙ sym
    (ap (λ (l : List Word). l ++ waiting m (next d r))
    (ap (λ (b : Bool). grown b (emptying_of m r d) us (held m d)) x ∙ grown_by (emptying_of m r d) us (held m d))))

-- and over every run.
pub kept_from : (m : Master) (rs : List Raw) (d : Device) (ws us : List Word) → ws ≡ us ++ waiting m d
    → filled_from m d ws rs ≡ emptied_from m d us rs ++ waiting m (run_from d rs)
unfolding listed_from run_from
kept_from m [] d ws us h = h
kept_from m (r ∷ rs) d ws us h = kept_from m rs (next d r) _ _ (step_kept m r d ws us h)

-- a list of more events
pub listed_append : (such : Raw → Device → Bool) (word_of : Raw → Device → Word) (rs later : List Raw) (d : Device) (ws : List Word)
    → listed_from such word_of d ws (rs ++ later) ≡ listed_from such word_of (run_from d rs) (listed_from such word_of d ws rs) later
unfolding listed_from run_from
listed_append such word_of [] later d ws = refl
listed_append such word_of (r ∷ rs) later d ws = listed_append such word_of rs later (next d r) _

-- ---- from power-up

fresh_waiting : (k : Kind) (m : Master) → waiting m (power_up k) ≡ []
unfolding power_up fresh_side
fresh_waiting k Zero = refl
fresh_waiting k One = refl

pub kept : (k : Kind) (m : Master) (rs : List Raw) → filled k m rs ≡ emptied k m rs ++ waiting m (run k rs)
unfolding filled emptied run
kept k m rs = kept_from m rs (power_up k) [] [] (sym (fresh_waiting k m))

drop_append : (us ws : List Word) → drop (length us) (us ++ ws) ≡ ws
drop_append [] ws = refl
drop_append (u ∷ us) ws = drop_append us ws

pub pending_held : PendingHeld
pending_held k m rs = ap (drop (length (emptied k m rs))) (kept k m rs) ∙ drop_append (emptied k m rs) (waiting m (run k rs))

pub mail_in_order : MailInOrder
mail_in_order k m rs = kept k m rs ∙ ap (λ (l : List Word). emptied k m rs ++ l) (sym (pending_held k m rs))

only_one : (b : Bool) (w : Word) → length (only b w) ≤ 1
only_one true w = omega arith
only_one false w = omega arith

pub one_pending : OnePending
one_pending k m rs = subst (λ (l : List Word). length l ≤ 1) (sym (pending_held k m rs)) (only_one (full m (run k rs)) (held m (run k rs)))

pub lists_grow : ListsGrow
unfolding filled emptied run listed_from
lists_grow k m rs r h =
    let d : Device = run k rs in (
      listed_append (fill_of m) (λ (r : Raw) (d : Device). held m (next d r)) rs (r ∷ []) (power_up k) []
          ∙ ap (λ (b : Bool). grown b (fill_of m r d) (filled k m rs) (held m (next d r))) h,
      listed_append (emptying_of m) (λ (r : Raw) (d : Device). held m d) rs (r ∷ []) (power_up k) []
          ∙ ap (λ (b : Bool). grown b (emptying_of m r d) (emptied k m rs) (held m d)) h,
    )

pub resets_end : ResetsEnd
unfolding filled emptied run listed_from
resets_end k m rs r h =
    let d : Device = run k rs in (
      listed_append (fill_of m) (λ (r : Raw) (d : Device). held m (next d r)) rs (r ∷ []) (power_up k) []
          ∙ ap (λ (b : Bool). grown b (fill_of m r d) (filled k m rs) (held m (next d r))) h,
      listed_append (emptying_of m) (λ (r : Raw) (d : Device). held m d) rs (r ∷ []) (power_up k) []
          ∙ ap (λ (b : Bool). grown b (emptying_of m r d) (emptied k m rs) (held m d)) h,
      ap (λ (b : Mailbox). b.full) (box_reset m r d h),
    )

-- ---- the bytes

low_from_lem : (m : Master) (rs : List Raw) (d : Device) (v : ℕ) → (box m d).low ≡ v → (box m (run_from d rs)).low ≡ low_from m d v rs
unfolding low_from run_from
low_from_lem m [] d v h = h
low_from_lem m (r ∷ rs) d v h =
    low_from_lem m rs (next d r) _
    (either (λ (n : ℕ). (box m (next d r)).low ≡ n) (reset r d) (λ x. ap (λ (b : Mailbox). b.low) (box_reset m r d x))
    (λ x. ap (λ (b : Mailbox). b.low) (box_next m r d x) ∙ ap (λ (n : ℕ). if low_write_of m r d then byte_by (partner m) r else n) h))

fresh_low : (k : Kind) (m : Master) → (box m (power_up k)).low ≡ 0
unfolding power_up fresh_side
fresh_low k Zero = refl
fresh_low k One = refl

pub low_kept : LowKept
unfolding last_low run
low_kept k m rs = low_from_lem m rs (power_up k) 0 (fresh_low k m)

pub word_filled : WordFilled
word_filled k m rs r h =
    let d : Device = run k rs in
    let n = box_next m r d (fill_no_reset m r d h) in
    ap₂ word
    (ap (λ (b : Mailbox). b.low) n ∙ if_false _ _ (fill_no_low m r d h) ∙ low_kept k m rs)
    (ap (λ (b : Mailbox). b.high) n ∙ if_true _ _ h)

-- ---- what leaves a box

-- An event of which none of these is said leaves it.
pub box_stays : (m : Master) (r : Raw) (d : Device) → reset r d ≡ false → low_write_of m r d ≡ false → fill_of m r d ≡ false → emptying_of m r d ≡ false
    → box m (next d r) ≡ box m d
box_stays m r d now lo hi out =
    box_next m r d now
    ∙ ap₂ (λ (x y : Bool). box_by false x y (emptying_of m r d) (byte_by (partner m) r) (box m d)) lo hi
    ∙ ap (λ (x : Bool). box_by false false false x (byte_by (partner m) r) (box m d)) out

pub drop_is_nothing : DropIsNothing
drop_is_nothing k m rs r h =
    let d : Device = run k rs in
    let now = drop_no_reset m r d h in
    let hi = full_no_fill m r d (drop_meets m r d h) in
    let out = drop_no_emptying m r d h in
    let lists = lists_grow k m rs r now in (
      hi,
      box_stays m r d now (full_no_low m r d (drop_meets m r d h)) hi out,
      lists.0 ∙ if_false _ _ hi,
      lists.1 ∙ if_false _ _ out,
    )

pub emptying_leaves : EmptyingLeaves
emptying_leaves m d r h =
    box_stays (partner m) r d (emptying_no_reset m r d h)
    (emptying_no_low m r d (partner m) h) (emptying_no_fill m r d (partner m) h) (emptying_one m r d h)

-- ---- PAIR

pub pair_fills_both : PairFillsBoth
pair_fills_both d r v0 v1 h a p0 p1 f0 f1 =
    let seq = ((and-eq-true_iff (in_sequence (Pair v0 v1) d) true).0 (sym (ap (λ (x : Result Event Unread). accepted_as (λ e y. true) x d) h) ∙ a)).0 in
    let fill : (m : Master) → at (partner m) d ≡ MailHigh → full m d ≡ false → fill_of m r d ≡ true =
    λ m p f.
    ap (λ (x : Result Event Unread). accepted_as (fills m) x d) h
    ∙ ap₂ (λ (x y : Bool). x && y) seq (ap₂ (λ (x y : Bool). x && not y) (ap is_mail_high p) f)
    in
    let high : (m : Master) → fill_of m r d ≡ true → (box m (next d r)).high ≡ decoded_byte (partner m) (Ok (Pair v0 v1)) =
    λ m y. ap (λ (b : Mailbox). b.high) (box_next m r d (fill_no_reset m r d y)) ∙ if_true _ _ y ∙ ap (decoded_byte (partner m)) h
    in
    (fill Zero p1 f0, fill One p0 f1, high Zero (fill Zero p1 f0), high One (fill One p0 f1))
