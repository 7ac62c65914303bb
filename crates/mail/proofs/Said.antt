-- What follows from what is said of an event: a write is no read and no reset, a fill meets a box that is not full, and an emptying a full one.
-- Assumes nothing.
use mathlib.Core.Path.{◌≡◌, refl, sym, ap, ◌∙◌}
use mathlib.Core.Bool.{true≢false, false≢true, and-eq-true_iff, and-false}
use borrow.Author.Tests.{not-true}
use Rattle.std.specs.Prelude.{◌&&◌, ◌||◌}
use Rattle.mail.specs.Names.{Bool, true, false, not, Master, Zero, One, Register, Id, Contr, Status, Rt, IntStatus, IntMask, MailLow}
use Rattle.mail.specs.Names.{MailHigh, Device, Raw, Event, Command, Write, Read, Stop, Pair, Lines, Tick, Pulse, Reset, GeneralCall, Result, Unread, Ok}
use Rattle.mail.specs.Names.{partner, same_master, decode, is_mail_high, is_reset, accepted, reset, Err, UnknownKind, BadField}
use Rattle.mail.specs.Words.{full, at, writes, reads, is_mail_low, mails_low, mails_high, drops, lowers, fills, takes, empties, drop_of, low_write_of, fill_of}
use Rattle.mail.specs.Words.{emptying_of}
use Rattle.arbiter.specs.Events.{in_sequence}
use Rattle.arbiter.specs.AuditWords.{accepted_as}
use Rattle.arbiter.proofs.Choice.{split}

-- ---- an accepted event

-- What follows from an event's being such follows from four bytes' being such.
pub from_accepted : {A : Type 0} (such : Event → Device → Bool) (r : Raw) (d : Device) → accepted such r d ≡ true
    → ((e : Event) → such e d ≡ true → A) → A
from_accepted {A} such r d h f = go (decode r) h
  where
    go : (x : Result Event Unread) → accepted_as such x d ≡ true → A
    go (Ok e) y = f e ((and-eq-true_iff (in_sequence e d) (such e d)).0 y).1
    go (Err UnknownKind) y = absurd (false≢true y)
    go (Err BadField) y = absurd (false≢true y)

-- And if it makes it another such, or rules that out, so it does there.
pub also_accepted : (such other : Event → Device → Bool) (r : Raw) (d : Device) → accepted such r d ≡ true
    → ((e : Event) → such e d ≡ true → other e d ≡ true) → accepted other r d ≡ true
also_accepted such other r d h f = go (decode r) h
  where
    go : (x : Result Event Unread) → accepted_as such x d ≡ true → accepted_as other x d ≡ true
    go (Ok e) y =
        let both = (and-eq-true_iff (in_sequence e d) (such e d)).0 y in
        (and-eq-true_iff (in_sequence e d) (other e d)).1 (both.0, f e both.1)
    go (Err UnknownKind) y = absurd (false≢true y)
    go (Err BadField) y = absurd (false≢true y)

pub not_accepted : (such other : Event → Device → Bool) (r : Raw) (d : Device) → accepted such r d ≡ true
    → ((e : Event) → such e d ≡ true → other e d ≡ false) → accepted other r d ≡ false
not_accepted such other r d h f = go (decode r) h
  where
    go : (x : Result Event Unread) → accepted_as such x d ≡ true → accepted_as other x d ≡ false
    go (Ok e) y =
        ap (λ (b : Bool). in_sequence e d && b) (f e ((and-eq-true_iff (in_sequence e d) (such e d)).0 y).1) ∙ and-false (in_sequence e d)
    go (Err UnknownKind) y = refl
    go (Err BadField) y = refl

-- ---- a write, a read

pub write_only : (k m : Master) (e : Event) → writes k e ≡ true → (is_reset e ≡ false) × (reads m e ≡ false)
write_only k m (Command j c) h = absurd (false≢true h)
write_only k m (Write j v) h = (refl, refl)
write_only k m (Read j) h = absurd (false≢true h)
write_only k m (Stop j) h = absurd (false≢true h)
write_only k m (Pair v0 v1) h = (refl, refl)
write_only k m (Lines scl sda intin) h = absurd (false≢true h)
write_only k m Tick h = absurd (false≢true h)
write_only k m (Pulse sda) h = absurd (false≢true h)
write_only k m Reset h = absurd (false≢true h)
write_only k m (GeneralCall j b) h = absurd (false≢true h)

other_read : (m k : Master) → same_master m k ≡ true → same_master (partner m) k ≡ false
other_read Zero Zero h = refl
other_read Zero One h = absurd (false≢true h)
other_read One Zero h = absurd (false≢true h)
other_read One One h = refl

pub read_only : (m k : Master) (e : Event) → reads m e ≡ true → (is_reset e ≡ false) × (writes k e ≡ false) × (reads (partner m) e ≡ false)
read_only m k (Command j c) h = absurd (false≢true h)
read_only m k (Write j v) h = absurd (false≢true h)
read_only m k (Read j) h = (refl, refl, other_read m j h)
read_only m k (Stop j) h = absurd (false≢true h)
read_only m k (Pair v0 v1) h = absurd (false≢true h)
read_only m k (Lines scl sda intin) h = absurd (false≢true h)
read_only m k Tick h = absurd (false≢true h)
read_only m k (Pulse sda) h = absurd (false≢true h)
read_only m k Reset h = absurd (false≢true h)
read_only m k (GeneralCall j b) h = absurd (false≢true h)

-- 7 is not 6.
high_not_low : (r : Register) → is_mail_high r ≡ true → is_mail_low r ≡ false
high_not_low Id h = refl
high_not_low Contr h = refl
high_not_low Status h = refl
high_not_low Rt h = refl
high_not_low IntStatus h = refl
high_not_low IntMask h = refl
high_not_low MailLow h = absurd (false≢true h)
high_not_low MailHigh h = refl

-- ---- of the four bytes r in d

module _ (m : Master) (r : Raw) (d : Device) where
  abbrev both : (x y : Bool) → x && y ≡ true → (x ≡ true) × (y ≡ true)
  both x y h = (and-eq-true_iff x y).0 h

  off : (x y : Bool) → x ≡ false → x && y ≡ false
  off x y h = ap (λ (b : Bool). b && y) h

  -- A fill and a write to 6 that is not dropped meet a box that is not full; an emptying and a drop meet a full one.
  pub fill_meets : fill_of m r d ≡ true → full m d ≡ false
  fill_meets h = from_accepted (fills m) r d h λ e x. not-true (full m d) (both (mails_high m e d) (not (full m d)) x).1

  pub low_meets : low_write_of m r d ≡ true → full m d ≡ false
  low_meets h = from_accepted (lowers m) r d h λ e x. not-true (full m d) (both (mails_low m e d) (not (full m d)) x).1

  pub emptying_meets : emptying_of m r d ≡ true → full m d ≡ true
  emptying_meets h = from_accepted (empties m) r d h λ e x. (both (takes m e d) (full m d) x).1

  pub drop_meets : drop_of m r d ≡ true → full m d ≡ true
  drop_meets h = from_accepted (drops m) r d h λ e x. (both (mails_low m e d || mails_high m e d) (full m d) x).1

  -- A write that comes to the box, to 6 or to 7, is no reset and no emptying.
  mails_writes : (e : Event) → mails_low m e d || mails_high m e d ≡ true → writes (partner m) e ≡ true
  mails_writes e h = go (writes (partner m) e) (is_mail_low (at (partner m) d)) (is_mail_high (at (partner m) d)) h
    where
      go : (w x y : Bool) → (w && x) || (w && y) ≡ true → w ≡ true
      go true x y h = refl
      go false x y h = absurd (false≢true h)

  mails_empty : (e : Event) → writes (partner m) e ≡ true → empties m e d ≡ false
  mails_empty e h = ap (λ (b : Bool). (b && is_mail_high (at m d)) && full m d) (write_only (partner m) m e h).1

  drop_writes : (e : Event) → drops m e d ≡ true → writes (partner m) e ≡ true
  drop_writes e x = mails_writes e (both (mails_low m e d || mails_high m e d) (full m d) x).0

  pub drop_no_reset : drop_of m r d ≡ true → reset r d ≡ false
  drop_no_reset h = not_accepted (drops m) (λ e x. is_reset e) r d h λ e x. (write_only (partner m) m e (drop_writes e x)).0

  pub drop_no_emptying : drop_of m r d ≡ true → emptying_of m r d ≡ false
  drop_no_emptying h = not_accepted (drops m) (empties m) r d h λ e x. mails_empty e (drop_writes e x)

  -- A fill is no reset and no write to 6.
  fill_writes : (e : Event) → fills m e d ≡ true → (writes (partner m) e ≡ true) × (is_mail_high (at (partner m) d) ≡ true)
  fill_writes e x = both (writes (partner m) e) (is_mail_high (at (partner m) d)) (both (mails_high m e d) (not (full m d)) x).0

  pub fill_no_reset : fill_of m r d ≡ true → reset r d ≡ false
  fill_no_reset h = not_accepted (fills m) (λ e x. is_reset e) r d h λ e x. (write_only (partner m) m e (fill_writes e x).0).0

  pub fill_no_low : fill_of m r d ≡ true → low_write_of m r d ≡ false
  fill_no_low h =
      not_accepted (fills m) (lowers m) r d h λ e x.
      off (mails_low m e d) (not (full m d))
      (ap (λ (b : Bool). writes (partner m) e && b) (high_not_low (at (partner m) d) (fill_writes e x).1) ∙ and-false (writes (partner m) e))

  -- An emptying is m's read: no reset, and it brings nothing to either box, nor empties the partner's.
  emptying_reads : (e : Event) → empties m e d ≡ true → reads m e ≡ true
  emptying_reads e x = (both (reads m e) (is_mail_high (at m d)) (both (takes m e d) (full m d) x).0).0

  pub emptying_read : emptying_of m r d ≡ true → accepted (λ e x. reads m e) r d ≡ true
  emptying_read h = also_accepted (empties m) (λ e x. reads m e) r d h emptying_reads

  pub emptying_no_reset : emptying_of m r d ≡ true → reset r d ≡ false
  emptying_no_reset h = not_accepted (empties m) (λ e x. is_reset e) r d h λ e x. (read_only m m e (emptying_reads e x)).0

  pub emptying_no_low : (k : Master) → emptying_of m r d ≡ true → low_write_of k r d ≡ false
  emptying_no_low k h =
      not_accepted (empties m) (lowers k) r d h λ e x.
      ap (λ (b : Bool). (b && is_mail_low (at (partner k) d)) && not (full k d)) (read_only m (partner k) e (emptying_reads e x)).1

  pub emptying_no_fill : (k : Master) → emptying_of m r d ≡ true → fill_of k r d ≡ false
  emptying_no_fill k h =
      not_accepted (empties m) (fills k) r d h λ e x.
      ap (λ (b : Bool). (b && is_mail_high (at (partner k) d)) && not (full k d)) (read_only m (partner k) e (emptying_reads e x)).1

  pub emptying_one : emptying_of m r d ≡ true → emptying_of (partner m) r d ≡ false
  emptying_one h =
      not_accepted (empties m) (empties (partner m)) r d h λ e x.
      ap (λ (b : Bool). (b && is_mail_high (at (partner m) d)) && full (partner m) d) (read_only m m e (emptying_reads e x)).2

-- What meets a full box is no fill and no write to 6 that counts; what meets one that is not full empties nothing.
pub full_no_fill : (m : Master) (r : Raw) (d : Device) → full m d ≡ true → fill_of m r d ≡ false
full_no_fill m r d h = split (fill_of m r d) (λ x. absurd (true≢false (sym h ∙ fill_meets m r d x))) (λ x. x)

pub full_no_low : (m : Master) (r : Raw) (d : Device) → full m d ≡ true → low_write_of m r d ≡ false
full_no_low m r d h = split (low_write_of m r d) (λ x. absurd (true≢false (sym h ∙ low_meets m r d x))) (λ x. x)

pub empty_no_emptying : (m : Master) (r : Raw) (d : Device) → full m d ≡ false → emptying_of m r d ≡ false
empty_no_emptying m r d h = split (emptying_of m r d) (λ x. absurd (true≢false (sym (emptying_meets m r d x) ∙ h))) (λ x. x)
