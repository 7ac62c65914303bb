-- The reader that reads 6 before 7 gets the word that it empties.
-- Assumes nothing.
use mathlib.Core.Path.{◌≡◌, refl, sym, ap, ap₂, ◌∙◌}
use mathlib.Core.Bool.{true≢false, false≢true, and-eq-true_iff, and-false}
use Rattle.std.specs.Prelude.{◌&&◌, ◌∷◌}
use Rattle.mail.specs.Names.{ℕ, Bool, true, false, not, List, [], Master, Zero, One, Register, Id, Contr, Status, Rt, IntStatus, IntMask}
use Rattle.mail.specs.Names.{MailLow, MailHigh, Mailbox, Side, Device, Raw, Event, Command, Write, Read, Stop, Pair, Lines, Tick, Pulse, Reset}
use Rattle.mail.specs.Names.{GeneralCall, side, reads_at, is_mail_high, is_reset, step, run_from, run, next, reset, never}
use Rattle.mail.specs.Words.{box, full, word, at, reads, is_mail_low, takes, empties, emptying_of}
use Rattle.mail.specs.Using.{low_read_of, is_own, own_of, read_of, LowThenHigh, BurstTakes}
use Rattle.arbiter.specs.declared.Port.TheVariants.{Open}
use Rattle.arbiter.specs.declared.Stepped.{Stepped}
use Rattle.arbiter.specs.Parts.{with_port}
use Rattle.arbiter.specs.Registers.{register_byte, mail_written}
use Rattle.arbiter.specs.Events.{soft_reset}
use Rattle.arbiter.specs.Effects.{after_read, reader_side, written, was_read, lined, ticked, effect}
use Rattle.arbiter.specs.Steps.{byte_read, taken, refused}
use Rattle.arbiter.proofs.Choice.{either, split}
use Rattle.arbiter.proofs.Cases.{step_cases}
use Rattle.arbiter.proofs.Raws.{taken_as}
use Rattle.arbiter.proofs.Runs.{never_comes}
use Rattle.mail.proofs.Parts.{parts_same}
use Rattle.mail.proofs.Said.{from_accepted, also_accepted, not_accepted, read_only, emptying_read, full_no_fill, full_no_low}
use Rattle.mail.proofs.Lists.{box_stays}

-- ---- the byte that is handed out

-- READ hands out the register at its pointer.
read_byte : (m : Master) (e : Event) (d : Device) → reads m e ≡ true → byte_read e d ≡ reads_at (at m d) m d
unfolding byte_read
read_byte m (Command k c) d h = absurd (false≢true h)
read_byte m (Write k v) d h = absurd (false≢true h)
read_byte Zero (Read Zero) d h = refl
read_byte Zero (Read One) d h = absurd (false≢true h)
read_byte One (Read Zero) d h = absurd (false≢true h)
read_byte One (Read One) d h = refl
read_byte m (Stop k) d h = absurd (false≢true h)
read_byte m (Pair v0 v1) d h = absurd (false≢true h)
read_byte m (Lines scl sda intin) d h = absurd (false≢true h)
read_byte m Tick d h = absurd (false≢true h)
read_byte m (Pulse sda) d h = absurd (false≢true h)
read_byte m Reset d h = absurd (false≢true h)
read_byte m (GeneralCall k b) d h = absurd (false≢true h)

handed : (m : Master) (r : Raw) (d : Device) → read_of m r d ≡ true → (step d r).answer.read ≡ reads_at (at m d) m d
unfolding taken refused
handed m r d h =
    step_cases (λ (s : Stepped). s.answer.read ≡ reads_at (at m d) m d) d r
    (λ e x i. read_byte m e d (sym ((taken_as e r d x i).same λ f y. reads m f) ∙ h))
    (λ n u. absurd (false≢true (sym (u.0 λ f y. reads m f) ∙ h)))

at_low : (r : Register) → is_mail_low r ≡ true → r ≡ MailLow
at_low Id h = absurd (false≢true h)
at_low Contr h = absurd (false≢true h)
at_low Status h = absurd (false≢true h)
at_low Rt h = absurd (false≢true h)
at_low IntStatus h = absurd (false≢true h)
at_low IntMask h = absurd (false≢true h)
at_low MailLow h = refl
at_low MailHigh h = absurd (false≢true h)

at_high : (r : Register) → is_mail_high r ≡ true → r ≡ MailHigh
at_high Id h = absurd (false≢true h)
at_high Contr h = absurd (false≢true h)
at_high Status h = absurd (false≢true h)
at_high Rt h = absurd (false≢true h)
at_high IntStatus h = absurd (false≢true h)
at_high IntMask h = absurd (false≢true h)
at_high MailLow h = absurd (false≢true h)
at_high MailHigh h = refl

-- ---- of a read of 6, and of an emptying

module _ (m : Master) (r : Raw) (d : Device) where
  low_reads : low_read_of m r d ≡ true → read_of m r d ≡ true
  low_reads h =
      also_accepted (λ e x. reads m e && is_mail_low (at m x)) (λ e x. reads m e) r d h λ e x. ((and-eq-true_iff (reads m e) (is_mail_low (at m d))).0 x).0

  low_at : low_read_of m r d ≡ true → at m d ≡ MailLow
  low_at h =
      from_accepted (λ e x. reads m e && is_mail_low (at m x)) r d h λ e x. at_low (at m d) ((and-eq-true_iff (reads m e) (is_mail_low (at m d))).0 x).1

  -- A read of 6 of a full box hands out its low byte and leaves the box.
  low_handed : low_read_of m r d ≡ true → (step d r).answer.read ≡ (box m d).low
  unfolding register_byte
  low_handed h = handed m r d (low_reads h) ∙ ap (λ (x : Register). reads_at x m d) (low_at h)

  low_stays : low_read_of m r d ≡ true → full m d ≡ true → box m (next d r) ≡ box m d
  low_stays h f =
      let now = not_accepted (λ e x. reads m e) (λ e x. is_reset e) r d (low_reads h) λ e x. (read_only m m e x).0 in
      let out = not_accepted (λ e x. reads m e) (empties m) r d (low_reads h) λ e x.
      ap (λ (p : Register). (reads m e && is_mail_high p) && full m d) (low_at h) ∙ ap (λ (b : Bool). b && full m d) (and-false (reads m e))
      in
      box_stays m r d now (full_no_low m r d f) (full_no_fill m r d f) out

  -- The read of 7 that empties it hands out its high byte.
  high_handed : emptying_of m r d ≡ true → (step d r).answer.read ≡ (box m d).high
  unfolding register_byte
  high_handed h =
      let high = from_accepted (empties m) r d h λ e x.
      at_high (at m d) ((and-eq-true_iff (reads m e) (is_mail_high (at m d))).0 ((and-eq-true_iff (takes m e d) (full m d)).0 x).0).1
      in
      handed m r d (emptying_read m r d h) ∙ ap (λ (x : Register). reads_at x m d) high

-- ---- 6, then 7

-- A full box stays as it is until it is emptied.
full_stays : (m : Master) (rs : List Raw) (d : Device) → full m d ≡ true → never reset d rs ≡ true → never (emptying_of m) d rs ≡ true
    → box m (run_from d rs) ≡ box m d
unfolding run_from
full_stays m [] d f n o = refl
full_stays m (r ∷ rs) d f n o =
    let now = never_comes reset r rs d n in
    let out = never_comes (emptying_of m) r rs d o in
    let same = box_stays m r d now.0 (full_no_low m r d f) (full_no_fill m r d f) out.0 in
    full_stays m rs (next d r) (ap (λ (b : Mailbox). b.full) same ∙ f) now.1 out.1 ∙ same

pub low_then_high : LowThenHigh
low_then_high k m rs r between t h f n o e =
    let d : Device = run k rs in
    let x : Device = run_from (next d r) between in
    let one = low_stays m r d h f in
    let same = full_stays m between (next d r) (ap (λ (b : Mailbox). b.full) one ∙ f) n o ∙ one in
    ap₂ word (low_handed m r d h ∙ sym (ap (λ (b : Mailbox). b.low) same)) (high_handed m t x e)

-- ---- in one burst

-- Only m's own events and resets move its pointer.
sent_pointer : (r : Register) (v : ℕ) (s : Side) → (mail_written r v s).pointer ≡ s.pointer
unfolding mail_written
sent_pointer Id v s = refl
sent_pointer Contr v s = refl
sent_pointer Status v s = refl
sent_pointer Rt v s = refl
sent_pointer IntStatus v s = refl
sent_pointer IntMask v s = refl
sent_pointer MailLow v s = either (λ (x : Side). x.pointer ≡ s.pointer) s.mail.full (λ h. refl) (λ h. refl)
sent_pointer MailHigh v s = either (λ (x : Side). x.pointer ≡ s.pointer) s.mail.full (λ h. refl) (λ h. refl)

effect_pointer : (m : Master) (e : Event) (d : Device) → is_own m e ≡ false → is_reset e ≡ false → at m (effect e d) ≡ at m d
unfolding effect written was_read lined ticked
effect_pointer Zero (Command Zero c) d o h = absurd (true≢false o)
effect_pointer Zero (Command One c) d o h = refl
effect_pointer One (Command Zero c) d o h = refl
effect_pointer One (Command One c) d o h = absurd (true≢false o)
effect_pointer Zero (Write Zero v) d o h = absurd (true≢false o)
effect_pointer Zero (Write One v) d o h = sent_pointer d.side1.pointer v d.side0
effect_pointer One (Write Zero v) d o h = sent_pointer d.side0.pointer v d.side1
effect_pointer One (Write One v) d o h = absurd (true≢false o)
effect_pointer Zero (Read Zero) d o h = absurd (true≢false o)
effect_pointer Zero (Read One) d o h = refl
effect_pointer One (Read Zero) d o h = refl
effect_pointer One (Read One) d o h = absurd (true≢false o)
effect_pointer Zero (Stop Zero) d o h = absurd (true≢false o)
effect_pointer Zero (Stop One) d o h = refl
effect_pointer One (Stop Zero) d o h = refl
effect_pointer One (Stop One) d o h = absurd (true≢false o)
effect_pointer m (Pair v0 v1) d o h = absurd (true≢false o)
effect_pointer Zero (Lines scl sda intin) d o h = refl
effect_pointer One (Lines scl sda intin) d o h = refl
effect_pointer m Tick d o h = refl
effect_pointer m (Pulse sda) d o h = refl
effect_pointer m Reset d o h = absurd (true≢false h)
effect_pointer m (GeneralCall k b) d o h =
    either (λ (n : Device). at m n ≡ at m d) (soft_reset b) (λ r. absurd (true≢false (sym r ∙ h))) (λ r. refl)

pointer_next : (m : Master) (r : Raw) (d : Device) → own_of m r d ≡ false → reset r d ≡ false → at m (next d r) ≡ at m d
unfolding taken refused
pointer_next m r d o n =
    step_cases (λ (s : Stepped). at m s.device ≡ at m d) d r
    (λ e x i.
    let said = (taken_as e r d x i).same in
    ap (λ p. p.2) (parts_same m e d) ∙ effect_pointer m e d (sym (said λ f y. is_own m f) ∙ o) (sym (said λ f y. is_reset f) ∙ n))
    (λ n u. refl)

pointer_stays : (m : Master) (rs : List Raw) (d : Device) → never (own_of m) d rs ≡ true → never reset d rs ≡ true → at m (run_from d rs) ≡ at m d
unfolding run_from
pointer_stays m [] d o n = refl
pointer_stays m (r ∷ rs) d o n =
    let own = never_comes (own_of m) r rs d o in
    let now = never_comes reset r rs d n in
    pointer_stays m rs (next d r) own.1 now.1 ∙ pointer_next m r d own.0 now.0

-- A read of 6 with auto-increment moves it to 7.
read_rises : (s : Side) → s.auto ≡ true → (reader_side s).pointer ≡ after_read s.pointer
read_rises s h =
    either (λ (x : Side). s.auto ≡ true → (with_port Open x).pointer ≡ after_read s.pointer) s.auto (λ y z. refl)
    (λ y z. absurd (true≢false (sym z ∙ y))) h

effect_rises : (m : Master) (e : Event) (d : Device) → reads m e ≡ true → (side m d).auto ≡ true → at m (effect e d) ≡ after_read (at m d)
unfolding effect was_read
effect_rises m (Command k c) d h a = absurd (false≢true h)
effect_rises m (Write k v) d h a = absurd (false≢true h)
effect_rises Zero (Read Zero) d h a = read_rises d.side0 a
effect_rises Zero (Read One) d h a = absurd (false≢true h)
effect_rises One (Read Zero) d h a = absurd (false≢true h)
effect_rises One (Read One) d h a = read_rises d.side1 a
effect_rises m (Stop k) d h a = absurd (false≢true h)
effect_rises m (Pair v0 v1) d h a = absurd (false≢true h)
effect_rises m (Lines scl sda intin) d h a = absurd (false≢true h)
effect_rises m Tick d h a = absurd (false≢true h)
effect_rises m (Pulse sda) d h a = absurd (false≢true h)
effect_rises m Reset d h a = absurd (false≢true h)
effect_rises m (GeneralCall k b) d h a = absurd (false≢true h)

rises_next : (m : Master) (r : Raw) (d : Device) → read_of m r d ≡ true → (side m d).auto ≡ true → at m (next d r) ≡ after_read (at m d)
unfolding taken refused
rises_next m r d h a =
    step_cases (λ (s : Stepped). at m s.device ≡ after_read (at m d)) d r
    (λ e x i. ap (λ p. p.2) (parts_same m e d) ∙ effect_rises m e d (sym ((taken_as e r d x i).same λ f y. reads m f) ∙ h) a)
    (λ n u. absurd (false≢true (sym (u.0 λ f y. reads m f) ∙ h)))

-- An emptying of m's box is m's own event.
read_own : (m : Master) (e : Event) → reads m e ≡ true → is_own m e ≡ true
read_own m (Command k c) h = absurd (false≢true h)
read_own m (Write k v) h = absurd (false≢true h)
read_own m (Read k) h = h
read_own m (Stop k) h = absurd (false≢true h)
read_own m (Pair v0 v1) h = refl
read_own m (Lines scl sda intin) h = absurd (false≢true h)
read_own m Tick h = absurd (false≢true h)
read_own m (Pulse sda) h = absurd (false≢true h)
read_own m Reset h = absurd (false≢true h)
read_own m (GeneralCall k b) h = absurd (false≢true h)

not_own : (m : Master) (r : Raw) (d : Device) → own_of m r d ≡ false → emptying_of m r d ≡ false
not_own m r d o =
    split (emptying_of m r d)
    (λ x. absurd (true≢false (sym (also_accepted (λ e y. reads m e) (λ e y. is_own m e) r d (emptying_read m r d x) (read_own m)) ∙ o)))
    (λ x. x)

never_own : (m : Master) (rs : List Raw) (d : Device) → never (own_of m) d rs ≡ true → never (emptying_of m) d rs ≡ true
unfolding never
never_own m [] d o = refl
never_own m (r ∷ rs) d o =
    let own = never_comes (own_of m) r rs d o in
    ap₂ (λ (x y : Bool). not x && y) (not_own m r d own.0) (never_own m rs (next d r) own.1)

pub burst_takes : BurstTakes
burst_takes k m rs r between t h f a n o e =
    let d : Device = run k rs in
    let x : Device = run_from (next d r) between in
    let one = low_stays m r d h f in
    let same = full_stays m between (next d r) (ap (λ (b : Mailbox). b.full) one ∙ f) n (never_own m between (next d r) o) ∙ one in
    let seven : at m x ≡ MailHigh =
    pointer_stays m between (next d r) o n ∙ rises_next m r d (low_reads m r d h) a ∙ ap after_read (low_at m r d h)
    in
    let out : emptying_of m t x ≡ true =
    also_accepted (λ e y. reads m e) (empties m) t x e λ e y.
    ap₂ (λ (p q : Bool). (p && is_mail_high (at m x)) && q) y (ap (λ (b : Mailbox). b.full) same ∙ f)
    ∙ ap (λ (p : Register). is_mail_high p && true) seven
    in
    (out, low_then_high k m rs r between t h f n (never_own m between (next d r) o) out)
