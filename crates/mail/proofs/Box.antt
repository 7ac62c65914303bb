-- What an event does to a mailbox: the partner's byte to 6 or 7, its own read of 7, a reset, and nothing else.
-- Assumes nothing.
use mathlib.Core.Path.{◌≡◌, refl, sym, ap, ap₂, ◌∙◌}
use mathlib.Core.Bool.{true≢false, false≢true}
use Rattle.std.specs.Prelude.{◌&&◌, if◌then◌else◌}
use Rattle.mail.specs.Names.{ℕ, Bool, true, false, not, Master, Zero, One, Register, Id, Contr, Status, Rt, IntStatus, IntMask, MailLow, MailHigh}
use Rattle.mail.specs.Names.{Mailbox, Side, Device, Raw, Event, Command, Write, Read, Stop, Pair, Lines, Tick, Pulse, Reset, GeneralCall, Result, Unread, Ok}
use Rattle.mail.specs.Names.{partner, side, decode, is_mail_high, is_reset}
use Rattle.mail.specs.Words.{box, byte_of, is_mail_low, mails_low, mails_high, lowers, fills, takes, empties, fill_of, emptying_of, decoded_byte, byte_by}
use Rattle.mail.specs.Words.{box_after}
use Rattle.mail.specs.Mail.{BoxChanges}
use Rattle.arbiter.specs.declared.Port.TheVariants.{Open}
use Rattle.arbiter.specs.declared.Stepped.{Stepped}
use Rattle.arbiter.specs.Parts.{with_port}
use Rattle.arbiter.specs.State.{owns}
use Rattle.arbiter.specs.Registers.{withdraws, own_written, mail_written}
use Rattle.arbiter.specs.Events.{in_sequence, good_command, soft_reset}
use Rattle.arbiter.specs.Effects.{commanded, writer_side, reader_side, written, paired, was_read, lined, ticked, fresh_side, was_reset, effect}
use Rattle.arbiter.specs.Steps.{taken, refused}
use Rattle.arbiter.proofs.Choice.{either, split, of_either}
use Rattle.arbiter.proofs.Cases.{Unsaid, step_cases}
use Rattle.arbiter.proofs.Raws.{taken_as}
use Rattle.mail.proofs.Parts.{parts_same}

-- ---- a box by its bytes

abbrev mk : ℕ → ℕ → Bool → Mailbox
mk l h f = record { low = l; high = h; full = f }

-- a box l h f when v comes to 6 (`lo`) or to 7 (`hi`), or its owner reads 7 (`out`)
abbrev after_by : Bool → Bool → Bool → ℕ → ℕ → ℕ → Bool → Mailbox
after_by lo hi out v l h f =
    mk (if lo && not f then v else l) (if hi && not f then v else h) (if hi && not f then true else if out && f then false else f)

abbrev after : Bool → Bool → Bool → ℕ → Mailbox → Mailbox
after lo hi out v b = after_by lo hi out v b.low b.high b.full

-- ---- part 1, side by side

-- One's own byte leaves one's box.
own_mail : (g : Bool) (r : Register) (v : ℕ) (s : Side) → (own_written g r v s).mail ≡ s.mail
unfolding own_written
own_mail g Id v s = refl
own_mail g Contr v s = either (λ (x : Side). x.mail ≡ s.mail) (withdraws g v) (λ h. refl) (λ h. refl)
own_mail g Status v s = refl
own_mail g Rt v s = either (λ (x : Side). x.mail ≡ s.mail) g (λ h. refl) (λ h. refl)
own_mail g IntStatus v s = refl
own_mail g IntMask v s = refl
own_mail g MailLow v s = refl
own_mail g MailHigh v s = refl

writer_mail : (m : Master) (v : ℕ) (d : Device) → (writer_side m v d).mail ≡ box m d
writer_mail m v d =
    let n : Side = own_written (owns m d) (side m d).pointer v (side m d) in
    either (λ (x : Side). x.mail ≡ n.mail) n.auto (λ h. refl) (λ h. refl) ∙ own_mail (owns m d) (side m d).pointer v (side m d)

-- The partner's byte goes to 6 or 7 if the box is not full, and nowhere if it is.
sent_mail : (r : Register) (v : ℕ) (s : Side) → (mail_written r v s).mail ≡ after (is_mail_low r) (is_mail_high r) false v s.mail
unfolding mail_written
sent_mail Id v s = refl
sent_mail Contr v s = refl
sent_mail Status v s = refl
sent_mail Rt v s = refl
sent_mail IntStatus v s = refl
sent_mail IntMask v s = refl
sent_mail MailLow v s =
    let by : Bool → Mailbox = after_by true false false v s.mail.low s.mail.high in
    either (λ (x : Side). x.mail ≡ by s.mail.full) s.mail.full
    (λ h. ap (mk s.mail.low s.mail.high) h ∙ sym (ap by h)) (λ h. ap (mk v s.mail.high) h ∙ sym (ap by h))
sent_mail MailHigh v s =
    let by : Bool → Mailbox = after_by false true false v s.mail.low s.mail.high in
    either (λ (x : Side). x.mail ≡ by s.mail.full) s.mail.full
    (λ h. ap (mk s.mail.low s.mail.high) h ∙ sym (ap by h)) (λ h. sym (ap by h))

-- A read of 7 empties one's box and leaves its bytes.
read_mail : (s : Side) → (reader_side s).mail ≡ after false false (is_mail_high s.pointer) 0 s.mail
read_mail s =
    either (λ (x : Side). (with_port Open x).mail ≡ after false false (is_mail_high s.pointer) 0 s.mail) s.auto
    (λ h. go (is_mail_high s.pointer) s.mail.full) (λ h. go (is_mail_high s.pointer) s.mail.full)
  where
    go : (out f : Bool) → mk s.mail.low s.mail.high (f && not (out && f)) ≡ after_by false false out 0 s.mail.low s.mail.high f
    go true true = refl
    go true false = refl
    go false true = refl
    go false false = refl

commanded_mail : (c : ℕ) (s : Side) → (commanded c s).mail ≡ s.mail
unfolding commanded
commanded_mail c s = either (λ (x : Side). x.mail ≡ s.mail) (good_command c) (λ h. refl) (λ h. refl)

-- ---- part 1

-- what is said of the event, done to m's box
abbrev told : Master → Event → Device → Mailbox
told m e d = after (mails_low m e d) (mails_high m e d) (takes m e d) (byte_of (partner m) e) (box m d)

effect_box : (m : Master) (e : Event) (d : Device) → is_reset e ≡ false → box m (effect e d) ≡ told m e d
unfolding effect written paired was_read lined ticked
effect_box m (Command k c) d h =
    of_either (λ (j : Master) (same : Bool) (x y : Side). y.mail ≡ x.mail) m k d _ _ (commanded_mail c (side k d)) refl
effect_box Zero (Write Zero v) d h = writer_mail Zero v d
effect_box Zero (Write One v) d h = sent_mail d.side1.pointer v d.side0
effect_box One (Write Zero v) d h = sent_mail d.side0.pointer v d.side1
effect_box One (Write One v) d h = writer_mail One v d
effect_box Zero (Read Zero) d h = read_mail d.side0
effect_box Zero (Read One) d h = refl
effect_box One (Read Zero) d h = refl
effect_box One (Read One) d h = read_mail d.side1
effect_box m (Stop k) d h = of_either (λ (j : Master) (same : Bool) (x y : Side). y.mail ≡ x.mail) m k d _ _ refl refl
effect_box Zero (Pair v0 v1) d h =
    let r : Register = d.side1.pointer in
    sent_mail r v1 (writer_side Zero v0 d) ∙ ap (after (is_mail_low r) (is_mail_high r) false v1) (writer_mail Zero v0 d)
effect_box One (Pair v0 v1) d h =
    let r : Register = d.side0.pointer in
    sent_mail r v0 (writer_side One v1 d) ∙ ap (after (is_mail_low r) (is_mail_high r) false v0) (writer_mail One v1 d)
effect_box Zero (Lines scl sda intin) d h = refl
effect_box One (Lines scl sda intin) d h = refl
effect_box m Tick d h = refl
effect_box m (Pulse sda) d h = refl
effect_box m Reset d h = absurd (true≢false h)
effect_box m (GeneralCall k b) d h =
    either (λ (n : Device). box m n ≡ box m d) (soft_reset b) (λ r. absurd (true≢false (sym r ∙ h))) (λ r. refl)

-- A reset leaves it empty, with both bytes 0.
fresh_box : (m : Master) (hold : ℕ) (d : Device) → box m (was_reset hold d) ≡ mk 0 0 false
unfolding was_reset fresh_side
fresh_box Zero hold d = refl
fresh_box One hold d = refl

reset_box : (m : Master) (e : Event) (d : Device) → is_reset e ≡ true → box m (effect e d) ≡ mk 0 0 false
unfolding effect
reset_box m (Command k c) d h = absurd (false≢true h)
reset_box m (Write k v) d h = absurd (false≢true h)
reset_box m (Read k) d h = absurd (false≢true h)
reset_box m (Stop k) d h = absurd (false≢true h)
reset_box m (Pair v0 v1) d h = absurd (false≢true h)
reset_box m (Lines scl sda intin) d h = absurd (false≢true h)
reset_box m Tick d h = absurd (false≢true h)
reset_box m (Pulse sda) d h = absurd (false≢true h)
reset_box m Reset d h = fresh_box m 0 d
reset_box m (GeneralCall k b) d h =
    either (λ (n : Device). box m n ≡ mk 0 0 false) (soft_reset b) (λ r. fresh_box m _ d) (λ r. absurd (false≢true (sym r ∙ h)))

-- ---- a step

-- box_after by the answers of its tests
abbrev pub box_by : Bool → Bool → Bool → Bool → ℕ → Mailbox → Mailbox
box_by now lo hi out v b =
    if now then mk 0 0 false else mk (if lo then v else b.low) (if hi then v else b.high) (if hi then true else if out then false else b.full)

module _ (m : Master) (d : Device) (r : Raw) where
  taken_box : (e : Event) → decode r ≡ Ok e → in_sequence e d ≡ true → box m (taken e d).device ≡ box_after m r d
  unfolding taken
  taken_box e h s =
      let said = (taken_as e r d h s).same in
      let v : ℕ = byte_of (partner m) e in
      let b : Mailbox = box m d in
      let words : box_after m r d ≡ box_by (is_reset e) (lowers m e d) (fills m e d) (empties m e d) v b =
      ap₂ (λ (x y : Bool). box_by x y (fill_of m r d) (emptying_of m r d) (byte_by (partner m) r) b) (said λ f y. is_reset f) (said (lowers m))
      ∙ ap₂ (λ (x y : Bool). box_by (is_reset e) (lowers m e d) x y (byte_by (partner m) r) b) (said (fills m)) (said (empties m))
      ∙ ap (λ (x : Result Event Unread). box_by (is_reset e) (lowers m e d) (fills m e d) (empties m e d) (decoded_byte (partner m) x) b) h
      in
      let now : Bool → Mailbox = λ x. box_by x (lowers m e d) (fills m e d) (empties m e d) v b in
      ap (λ p. p.0) (parts_same m e d)
      ∙ split (is_reset e) (λ y. reset_box m e d y ∙ sym (ap now y)) (λ y. effect_box m e d y ∙ sym (ap now y))
      ∙ sym words

  refused_box : (n : ℕ) → Unsaid r d → box m (refused n d).device ≡ box_after m r d
  unfolding refused
  refused_box n u =
      let b : Mailbox = box m d in
      let none = u.0 in
      sym
      (ap₂ (λ (x y : Bool). box_by x y (fill_of m r d) (emptying_of m r d) (byte_by (partner m) r) b) (none λ f y. is_reset f) (none (lowers m))
      ∙ ap₂ (λ (x y : Bool). box_by false false x y (byte_by (partner m) r) b) (none (fills m)) (none (empties m)))

pub box_changes : BoxChanges
box_changes m d r = step_cases (λ (s : Stepped). box m s.device ≡ box_after m r d) d r (taken_box m d r) (refused_box m d r)
