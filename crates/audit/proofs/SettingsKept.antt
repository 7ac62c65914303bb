-- A master's settings over one event and over many: part 1 changes them by its own byte or a reset, and the other six parts leave them.
-- Assumes nothing.
use mathlib.Core.Path.{◌≡◌, refl, sym, ap, ap₂, ◌∙◌}
use mathlib.Core.Bool.{true≢false, false≢true, and-eq-true_iff}
use borrow.Author.Tests.{eq-eqb, eqb-true}
use Rattle.std.specs.Prelude.{◌%◌, ◌&&◌, ◌∷◌, if◌then◌else◌}
use Rattle.ranges.specs.Names.{ℕ, Bool, true, false, not, List, [], eqb, Master, Zero, One, Turn, Nobody, Claims, Owns, Register, Id, Contr}
use Rattle.ranges.specs.Names.{Status, Rt, IntStatus, IntMask, MailLow, MailHigh, Side, Switch, Clock, Device, Raw, Event, Command, Write, Read, Stop, Pair}
use Rattle.ranges.specs.Names.{Lines, Tick, Pulse, Reset, GeneralCall}
use Rattle.arbiter.specs.Rules.{rolls, idle_limit}
use Rattle.arbiter.specs.Words.{partner, side}
use Rattle.arbiter.specs.State.{owns}
use Rattle.arbiter.specs.Registers.{withdraws, control_of, own_written, mail_written}
use Rattle.arbiter.specs.Events.{good_command, soft_reset}
use Rattle.arbiter.specs.Effects.{commanded, write_risen, reader_side, written, paired, was_read, lined, ticked, fresh_side, was_reset, hold_asked, effect}
use Rattle.arbiter.specs.Order.{is_reset, is_tick, clock_of, runs_out, levels, lost, losses_from, losses, cut_from, cut, claim, granted, grant_from, grant}
use Rattle.arbiter.specs.Order.{connect}
use Rattle.arbiter.specs.Steps.{parts, run_from}
use Rattle.arbiter.specs.AuditWords.{next, reserve_of, is_contr, accepted, reset, never, throughout}
use Rattle.audit.specs.SettingsKept.{lasting_bits, bits_of, mask_of, is_rt, is_int_mask, writes_at, byte_by, writes_to_contr, stores, stores_rt, rt_is}
use Rattle.audit.specs.SettingsKept.{RtKept, BitsKept, MaskKept, SettingsKept, RtStored, BitsWritten, MaskWritten, SettingsReset, RtKeptThroughout}
use Rattle.audit.specs.SettingsKept.{BitsKeptThroughout}
use Rattle.arbiter.proofs.Choice.{either, if_true, if_false, of_either}
use Rattle.arbiter.proofs.Cases.{cut_cases, grant_cases, joined_by, init_ended, connect_cases}
use Rattle.arbiter.proofs.Raws.{refuses, takes, met}
use Rattle.arbiter.proofs.Runs.{never_comes}

-- a side's settings
abbrev Set : Type 0
Set = ℕ × (Bool × Bool × Bool × Bool) × ℕ

abbrev set : Side → Set
set s = (s.rt, lasting_bits s.contr, s.mask)

-- ---- part 1, one side

-- What an event does to the settings of a side s, which is n after it: its own byte v is stored in RT, or goes to CONTR or to INT_MSK, or to none.
record Held (stored control masked : Bool) (v : ℕ) (s n : Side) : Type 0 where
  rt : n.rt ≡ (if stored then v else s.rt)
  bits : lasting_bits n.contr ≡ (if control then lasting_bits (control_of v) else lasting_bits s.contr)
  mask : n.mask ≡ (if masked then v % 128 else s.mask)

held : {v : ℕ} {s n : Side} → set n ≡ set s → Held false false false v s n
held e = record { rt = ap (λ x. x.0) e; bits = ap (λ x. x.1) e; mask = ap (λ x. x.2) e }

held_on : {stored control masked : Bool} {v : ℕ} {s : Side} (n k : Side) → set k ≡ set n → Held stored control masked v s n
    → Held stored control masked v s k
held_on n k e h = record { rt = ap (λ x. x.0) e ∙ h.rt; bits = ap (λ x. x.1) e ∙ h.bits; mask = ap (λ x. x.2) e ∙ h.mask }

mail_set : (r : Register) (v : ℕ) (s : Side) → set (mail_written r v s) ≡ set s
unfolding mail_written
mail_set Id v s = refl
mail_set Contr v s = refl
mail_set Status v s = refl
mail_set Rt v s = refl
mail_set IntStatus v s = refl
mail_set IntMask v s = refl
mail_set MailLow v s = either (λ (x : Side). set x ≡ set s) s.mail.full (λ h. refl) (λ h. refl)
mail_set MailHigh v s = either (λ (x : Side). set x ≡ set s) s.mail.full (λ h. refl) (λ h. refl)

risen_set : (rolls : Bool) (s : Side) → set (write_risen rolls s) ≡ set s
risen_set rolls s = either (λ (x : Side). set x ≡ set s) s.auto (λ h. refl) (λ h. refl)

-- one's own byte, register by register
own_held : (g : Bool) (r : Register) (v : ℕ) (s : Side) → Held (is_rt r && not g) (is_contr r) (is_int_mask r) v s (own_written g r v s)
unfolding own_written
own_held g Id v s = held refl
own_held g Contr v s =
    either (Held false true false v s) (withdraws g v) (λ w. record { rt = refl; bits = refl; mask = refl })
    (λ w. record { rt = refl; bits = refl; mask = refl })
own_held g Status v s = held refl
own_held true Rt v s = held refl
own_held false Rt v s = record { rt = refl; bits = refl; mask = refl }
own_held g IntStatus v s = held refl
own_held g IntMask v s = record { rt = refl; bits = refl; mask = refl }
own_held g MailLow v s = held refl
own_held g MailHigh v s = held refl

writer_held : (rolls g : Bool) (v : ℕ) (s : Side)
    → Held (is_rt s.pointer && not g) (is_contr s.pointer) (is_int_mask s.pointer) v s (write_risen rolls (own_written g s.pointer v s))
writer_held rolls g v s =
    let n : Side = own_written g s.pointer v s in
    held_on n (write_risen rolls n) (risen_set rolls n) (own_held g s.pointer v s)

commanded_set : (c : ℕ) (s : Side) → set (commanded c s) ≡ set s
unfolding commanded
commanded_set c s = either (λ (x : Side). set x ≡ set s) (good_command c) (λ h. refl) (λ h. refl)

read_set : (s : Side) → set (reader_side s) ≡ set s
read_set s = either (λ (x : Side). set x ≡ set s) s.auto (λ h. refl) (λ h. refl)

-- ---- part 1, both sides

effect_held : (m : Master) (e : Event) (d : Device) → is_reset e ≡ false
    → Held (stores m e d) (writes_at is_contr m e d) (writes_at is_int_mask m e d) (byte_by m e) (side m d) (side m (effect e d))
unfolding effect written paired was_read lined ticked
effect_held m (Command k c) d h =
    of_either (λ (j : Master) (same : Bool) (x y : Side). Held false false false 0 x y) m k d _ _ (held (commanded_set c (side k d))) (held refl)
effect_held m (Write k v) d h =
    of_either (λ (j : Master) (same : Bool) (x y : Side). Held ((same && is_rt x.pointer) && not (owns j d)) (same && is_contr x.pointer)
    (same && is_int_mask x.pointer) v x y) m k d _ _
    (writer_held (rolls d) (owns k d) v (side k d)) (held (mail_set (side k d).pointer v (side (partner k) d)))
effect_held m (Read k) d h =
    of_either (λ (j : Master) (same : Bool) (x y : Side). Held false false false 0 x y) m k d _ _ (held (read_set (side k d))) (held refl)
effect_held m (Stop k) d h =
    of_either (λ (j : Master) (same : Bool) (x y : Side). Held false false false 0 x y) m k d _ _ (held refl) (held refl)
effect_held Zero (Pair v0 v1) d h = held_on _ _ (mail_set d.side1.pointer v1 _) (writer_held (rolls d) (owns Zero d) v0 d.side0)
effect_held One (Pair v0 v1) d h = held_on _ _ (mail_set d.side0.pointer v0 _) (writer_held (rolls d) (owns One d) v1 d.side1)
effect_held Zero (Lines scl sda intin) d h = held refl
effect_held One (Lines scl sda intin) d h = held refl
effect_held m Tick d h = held refl
effect_held m (Pulse sda) d h = held refl
effect_held m Reset d h = absurd (true≢false h)
effect_held m (GeneralCall k b) d h =
    either (λ (n : Device). Held false false false 0 (side m d) (side m n)) (soft_reset b) (λ r. absurd (true≢false (sym r ∙ h))) (λ r. held refl)

-- a reset clears them, but for INT_MSK
abbrev reset_set : Set
reset_set = (0, (false, false, false, false), 0x7F)

reset_set_lem : (m : Master) (hold : ℕ) (d : Device) → set (side m (was_reset hold d)) ≡ reset_set
unfolding was_reset fresh_side
reset_set_lem Zero hold d = refl
reset_set_lem One hold d = refl

effect_reset : (m : Master) (e : Event) (d : Device) → is_reset e ≡ true → set (side m (effect e d)) ≡ reset_set
unfolding effect
effect_reset m (Command k c) d h = absurd (false≢true h)
effect_reset m (Write k v) d h = absurd (false≢true h)
effect_reset m (Read k) d h = absurd (false≢true h)
effect_reset m (Stop k) d h = absurd (false≢true h)
effect_reset m (Pair v0 v1) d h = absurd (false≢true h)
effect_reset m (Lines scl sda intin) d h = absurd (false≢true h)
effect_reset m Tick d h = absurd (false≢true h)
effect_reset m (Pulse sda) d h = absurd (false≢true h)
effect_reset m Reset d h = reset_set_lem m 0 d
effect_reset m (GeneralCall k b) d h =
    ap (λ (n : Device). set (side m n)) (if_true (was_reset (hold_asked (side k d)) d) d h) ∙ reset_set_lem m (hold_asked (side k d)) d

-- ---- parts 2 to 7

-- both sides' settings
abbrev sets : Device → Set × Set
sets d = (set d.side0, set d.side1)

abbrev Same : Device → Device → Type 0
Same d n = sets n ≡ sets d

lost_set : (m : Master) (d : Device) → Same d (lost m d)
unfolding lost
lost_set Zero d = refl
lost_set One d = refl

losses_set : (t : Turn) (d : Device) → Same d (losses_from t d)
unfolding losses_from
losses_set Nobody d = refl
losses_set (Claims m g) d = refl
losses_set (Owns m g) d = either (Same d) (runs_out (idle_limit d) (side m d) d.arb.reserve d.bus) (λ h. lost_set m d) (λ h. refl)

cut_set : (on : Bool) (t : Turn) (d : Device) → Same d (cut_from on t d)
unfolding cut_from
cut_set on Nobody d = refl
cut_set on (Claims m g) d = refl
cut_set on (Owns Zero g) d = cut_cases (Same d) on Zero g d refl refl
cut_set on (Owns One g) d = cut_cases (Same d) on One g d refl refl

grant_set : (t : Turn) (d : Device) → Same d (grant_from t d)
unfolding grant_from granted
grant_set Nobody d = refl
grant_set (Claims Zero g) d = grant_cases (Same d) Zero g d refl refl
grant_set (Claims One g) d = grant_cases (Same d) One g d refl refl
grant_set (Owns m g) d = refl

connect_set : (c : Clock) (d : Device) → Same d (connect c d)
connect_set c d = connect_cases (Same d) d (λ w fail. refl) ended c
  where
    ended : (m : Master) (on : Bool) (w : Switch) (fail : Bool) → ((side m d).contr.busconnect ≡ false → on ≡ false)
        → Same d (joined_by w fail (init_ended m on d))
    ended Zero on w fail h = refl
    ended One on w fail h = refl

parts_set : (e : Event) (d : Device) → Same (effect e d) (parts e d)
unfolding parts levels losses cut claim grant
parts_set e d =
    let two : Device = levels (is_reset e) d.bus (effect e d) in
    let three : Device = losses two in
    let five : Device = claim (cut (is_tick e) three) in
    connect_set (clock_of e) (grant five)
    ∙ grant_set five.arb.turn five
    ∙ cut_set (is_tick e) three.arb.turn three
    ∙ losses_set two.arb.turn two

side_set : (m : Master) (n d : Device) → Same d n → set (side m n) ≡ set (side m d)
side_set Zero n d e = ap (λ x. x.0) e
side_set One n d e = ap (λ x. x.1) e

parts_held : (m : Master) (e : Event) (d : Device) → is_reset e ≡ false
    → Held (stores m e d) (writes_at is_contr m e d) (writes_at is_int_mask m e d) (byte_by m e) (side m d) (side m (parts e d))
parts_held m e d ok = held_on (side m (effect e d)) (side m (parts e d)) (side_set m (parts e d) (effect e d) (parts_set e d)) (effect_held m e d ok)

-- ---- one event

-- A byte is no reset.
pub byte_no_reset : (such : Register → Bool) (m : Master) (e : Event) (d : Device) → writes_at such m e d ≡ true → is_reset e ≡ false
byte_no_reset such m (Command k c) d h = refl
byte_no_reset such m (Write k v) d h = refl
byte_no_reset such m (Read k) d h = refl
byte_no_reset such m (Stop k) d h = refl
byte_no_reset such m (Pair v0 v1) d h = refl
byte_no_reset such m (Lines scl sda intin) d h = refl
byte_no_reset such m Tick d h = refl
byte_no_reset such m (Pulse sda) d h = refl
byte_no_reset such m Reset d h = absurd (false≢true h)
byte_no_reset such m (GeneralCall k b) d h = absurd (false≢true h)

-- One setting of m's, which part 1 takes from m's byte where the event is such a one, and leaves where it is another.
module _ {A : Type 0} (m : Master) (setting : Device → A) (such : Event → Device → Bool) (read : ℕ → A)
    (law : (e : Event) (d : Device) → is_reset e ≡ false → setting (parts e d) ≡ (if such e d then read (byte_by m e) else setting d)) where
  kept : (d : Device) (r : Raw) → reset r d ≡ false → accepted such r d ≡ false → setting (next d r) ≡ setting d
  kept d r ok none =
      elim (met r d) [
        | refuses x ↦ ap setting x.after
        | takes e x ↦
            (ap setting x.after
            ∙ law e d (sym (x.same λ f y. is_reset f) ∙ ok)
            ∙ if_false (read (byte_by m e)) (setting d) (sym (x.same such) ∙ none))
      ]

  taken : (at : Register → Bool) → ((e : Event) (d : Device) → such e d ≡ true → writes_at at m e d ≡ true) → (d : Device) (r : Raw) (v : ℕ)
      → accepted (λ (e : Event) (y : Device). such e y && eqb (byte_by m e) v) r d ≡ true → setting (next d r) ≡ read v
  taken at writes d r v h =
      elim (met r d) [
        | refuses x ↦ absurd (false≢true (sym (x.none λ f y. such f y && eqb (byte_by m f) v) ∙ h))
        | takes e x ↦
            (let both = (and-eq-true_iff (such e d) (eqb (byte_by m e) v)).0 (sym (x.same λ f y. such f y && eqb (byte_by m f) v) ∙ h) in
            ap setting x.after
            ∙ law e d (byte_no_reset at m e d (writes e d both.0))
            ∙ if_true (read (byte_by m e)) (setting d) both.0
            ∙ ap read (eqb-true (byte_by m e) v both.1))
      ]

pub rt_kept : RtKept
rt_kept m d r ok none = kept m (reserve_of m) (stores m) (λ v. v) (λ e d ok. (parts_held m e d ok).rt) d r ok none

pub bits_kept : BitsKept
bits_kept m d r ok none = kept m (bits_of m) (writes_at is_contr m) (λ v. lasting_bits (control_of v)) (λ e d ok. (parts_held m e d ok).bits) d r ok none

pub mask_kept : MaskKept
mask_kept m d r ok none = kept m (mask_of m) (writes_at is_int_mask m) (λ v. v % 128) (λ e d ok. (parts_held m e d ok).mask) d r ok none

pub settings_kept : SettingsKept
settings_kept = (rt_kept, bits_kept, mask_kept)

pub rt_stored : RtStored
rt_stored m d r v h =
    taken m (reserve_of m) (stores m) (λ v. v) (λ e d ok. (parts_held m e d ok).rt) is_rt
    (λ e d s. ((and-eq-true_iff (writes_at is_rt m e d) (not (owns m d))).0 s).0) d r v h

pub bits_written : BitsWritten
bits_written m d r v h =
    taken m (bits_of m) (writes_at is_contr m) (λ v. lasting_bits (control_of v)) (λ e d ok. (parts_held m e d ok).bits) is_contr (λ e d s. s) d r v h

pub mask_written : MaskWritten
mask_written m d r v h = taken m (mask_of m) (writes_at is_int_mask m) (λ v. v % 128) (λ e d ok. (parts_held m e d ok).mask) is_int_mask (λ e d s. s) d r v h

pub settings_reset : SettingsReset
settings_reset m d r h =
    elim (met r d) [
      | refuses x ↦ absurd (false≢true (sym (x.none λ f y. is_reset f) ∙ h))
      | takes e x ↦
          (let all = ap (λ (n : Device). set (side m n)) x.after ∙ side_set m (parts e d) (effect e d) (parts_set e d)
          ∙ effect_reset m e d (sym (x.same λ f y. is_reset f) ∙ h) in
          (ap (λ x. x.0) all, ap (λ x. x.1) all, ap (λ x. x.2) all))
    ]

-- ---- many

-- RT is n from d on
rt_stays : (m : Master) (n : ℕ) (rs : List Raw) (d : Device) → reserve_of m d ≡ n → never reset d rs ≡ true → never (stores_rt m) d rs ≡ true
    → (throughout (rt_is m n) d rs ≡ true) × (reserve_of m (run_from d rs) ≡ n)
unfolding run_from throughout
rt_stays m n [] d e nr ns = (eq-eqb (reserve_of m d) n e, e)
rt_stays m n (r ∷ rs) d e nr ns =
    let ok = never_comes reset r rs d nr in
    let unstored = never_comes (stores_rt m) r rs d ns in
    let later = rt_stays m n rs (next d r) (rt_kept m d r ok.0 unstored.0 ∙ e) ok.1 unstored.1 in
    (ap₂ ◌&&◌ (eq-eqb (reserve_of m d) n e) later.0, later.1)

pub rt_kept_throughout : RtKeptThroughout
rt_kept_throughout m d rs nr ns = rt_stays m (reserve_of m d) rs d refl nr ns

pub bits_kept_throughout : BitsKeptThroughout
unfolding run_from
bits_kept_throughout m d [] nr nw = refl
bits_kept_throughout m d (r ∷ rs) nr nw =
    let ok = never_comes reset r rs d nr in
    let unstored = never_comes (writes_to_contr m) r rs d nw in
    bits_kept_throughout m (next d r) rs ok.1 unstored.1 ∙ bits_kept m d r ok.0 unstored.0
