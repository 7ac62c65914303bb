-- What an event does to bit 4 of a sender's INT_STATUS: the emptying of the partner's box sets it, its own byte clears it, a reset clears it, and
-- nothing else changes it.
-- Assumes nothing.
use mathlib.Core.Path.{◌≡◌, refl, sym, ap, ap₂, ◌∙◌}
use mathlib.Core.Bool.{true≢false, false≢true}
use Rattle.std.specs.Prelude.{◌&&◌, ◌||◌, if◌then◌else◌}
use Rattle.mail.specs.Names.{ℕ, Bool, true, false, not, Master, Zero, One, Register, Id, Contr, Status, Rt, IntStatus, IntMask, MailLow}
use Rattle.mail.specs.Names.{MailHigh, Side, Device, Raw, Event, Command, Write, Read, Stop, Pair, Lines, Tick, Pulse, Reset, GeneralCall, Ok}
use Rattle.mail.specs.Names.{bit, partner, side, decode, is_mail_high, is_reset, next, reset}
use Rattle.mail.specs.Words.{full, at, empties, emptying_of}
use Rattle.mail.specs.Using.{sees_emptied, is_int_status, clears, clearing_of}
use Rattle.arbiter.specs.declared.Port.TheVariants.{Open}
use Rattle.arbiter.specs.declared.Stepped.{Stepped}
use Rattle.arbiter.specs.Parts.{with_port}
use Rattle.arbiter.specs.State.{owns, bus_hung}
use Rattle.arbiter.specs.Registers.{hung_int, mail_full_int, test_int, int_in_int, withdraws, register_byte, own_written, mail_written}
use Rattle.arbiter.specs.Events.{in_sequence, good_command, soft_reset}
use Rattle.arbiter.specs.Effects.{commanded, writer_side, reader_side, written, paired, was_read, lined, ticked, fresh_side, was_reset, effect}
use Rattle.arbiter.specs.Steps.{taken, refused}
use Rattle.arbiter.proofs.Choice.{either, split, of_either}
use Rattle.arbiter.proofs.Cases.{Unsaid, step_cases}
use Rattle.arbiter.proofs.Raws.{taken_as}
use Rattle.mail.proofs.Bits.{raised_other, raised_emptied, cleared_4}
use Rattle.mail.proofs.Parts.{parts_same}

-- the bit as it is stored
abbrev pub four : Side → Bool
four s = bit 4 s.ints

-- What s sees of it is what is stored.
pub sees_stored : (s : Master) (d : Device) → sees_emptied s d ≡ four (side s d)
unfolding register_byte
sees_stored s d = raised_other hung_int (bus_hung d.bus) (side s d).ints refl

-- the bit b after it is set (`set`), or cleared (`clear`)
abbrev pub four_by : Bool → Bool → Bool → Bool
four_by set clear b = if set then true else if clear then false else b

-- ---- part 1, side by side

own_four : (g : Bool) (r : Register) (v : ℕ) (s : Side) → four (own_written g r v s) ≡ four_by false (is_int_status r && bit 4 v) (four s)
unfolding own_written
own_four g Id v s = refl
own_four g Contr v s = either (λ (x : Side). four x ≡ four s) (withdraws g v) (λ h. refl) (λ h. refl)
own_four g Status v s = raised_other test_int (bit 5 v) s.ints refl
own_four g Rt v s = either (λ (x : Side). four x ≡ four s) g (λ h. refl) (λ h. refl)
own_four g IntStatus v s = cleared_4 v s.ints ∙ go (four s) (bit 4 v)
  where
    go : (b c : Bool) → b && not c ≡ (if c then false else b)
    go true true = refl
    go true false = refl
    go false true = refl
    go false false = refl
own_four g IntMask v s = refl
own_four g MailLow v s = refl
own_four g MailHigh v s = refl

writer_four : (s : Master) (v : ℕ) (d : Device) → four (writer_side s v d) ≡ four_by false (is_int_status (at s d) && bit 4 v) (four (side s d))
writer_four s v d =
    let n : Side = own_written (owns s d) (at s d) v (side s d) in
    either (λ (x : Side). four x ≡ four n) n.auto (λ h. refl) (λ h. refl) ∙ own_four (owns s d) (at s d) v (side s d)

sent_four : (r : Register) (v : ℕ) (s : Side) → four (mail_written r v s) ≡ four s
unfolding mail_written
sent_four Id v s = refl
sent_four Contr v s = refl
sent_four Status v s = refl
sent_four Rt v s = refl
sent_four IntStatus v s = refl
sent_four IntMask v s = refl
sent_four MailLow v s = either (λ (x : Side). four x ≡ four s) s.mail.full (λ h. refl) (λ h. refl)
sent_four MailHigh v s = either (λ (x : Side). four x ≡ four s) s.mail.full (λ h. refl) (λ h. raised_other mail_full_int true s.ints refl)

read_four : (s : Side) → four (reader_side s) ≡ four s
read_four s = either (λ (x : Side). four (with_port Open x) ≡ four s) s.auto (λ h. refl) (λ h. refl)

-- the reader empties its box or not, and the sender is told
told_four : (out : Bool) (i : ℕ) → bit 4 i || out ≡ four_by out false (bit 4 i)
told_four out i = go (bit 4 i) out
  where
    go : (b c : Bool) → b || c ≡ (if c then true else b)
    go true true = refl
    go true false = refl
    go false true = refl
    go false false = refl

commanded_four : (c : ℕ) (s : Side) → four (commanded c s) ≡ four s
unfolding commanded
commanded_four c s = either (λ (x : Side). four x ≡ four s) (good_command c) (λ h. refl) (λ h. refl)

-- ---- part 1

effect_four : (s : Master) (e : Event) (d : Device) → is_reset e ≡ false
    → four (side s (effect e d)) ≡ four_by (empties (partner s) e d) (clears s e d) (four (side s d))
unfolding effect written paired was_read lined ticked
effect_four s (Command k c) d h =
    of_either (λ (j : Master) (same : Bool) (x y : Side). four y ≡ four x) s k d _ _ (commanded_four c (side k d)) refl
effect_four Zero (Write Zero v) d h = writer_four Zero v d
effect_four Zero (Write One v) d h = sent_four d.side1.pointer v d.side0
effect_four One (Write Zero v) d h = sent_four d.side0.pointer v d.side1
effect_four One (Write One v) d h = writer_four One v d
effect_four Zero (Read Zero) d h = read_four d.side0
effect_four Zero (Read One) d h =
    let out : Bool = is_mail_high (at One d) && full One d in
    raised_emptied out d.side0.ints ∙ told_four out d.side0.ints
effect_four One (Read Zero) d h =
    let out : Bool = is_mail_high (at Zero d) && full Zero d in
    raised_emptied out d.side1.ints ∙ told_four out d.side1.ints
effect_four One (Read One) d h = read_four d.side1
effect_four s (Stop k) d h = of_either (λ (j : Master) (same : Bool) (x y : Side). four y ≡ four x) s k d _ _ refl refl
effect_four Zero (Pair v0 v1) d h = sent_four d.side1.pointer v1 (writer_side Zero v0 d) ∙ writer_four Zero v0 d
effect_four One (Pair v0 v1) d h = sent_four d.side0.pointer v0 (writer_side One v1 d) ∙ writer_four One v1 d
effect_four Zero (Lines scl sda intin) d h = raised_other int_in_int (d.bus.intin && not intin) d.side0.ints refl
effect_four One (Lines scl sda intin) d h = raised_other int_in_int (d.bus.intin && not intin) d.side1.ints refl
effect_four s Tick d h = refl
effect_four s (Pulse sda) d h = refl
effect_four s Reset d h = absurd (true≢false h)
effect_four s (GeneralCall k b) d h =
    either (λ (n : Device). four (side s n) ≡ four (side s d)) (soft_reset b) (λ r. absurd (true≢false (sym r ∙ h))) (λ r. refl)

fresh_four : (s : Master) (hold : ℕ) (d : Device) → four (side s (was_reset hold d)) ≡ false
unfolding was_reset fresh_side
fresh_four Zero hold d = refl
fresh_four One hold d = refl

reset_four : (s : Master) (e : Event) (d : Device) → is_reset e ≡ true → four (side s (effect e d)) ≡ false
unfolding effect
reset_four s (Command k c) d h = absurd (false≢true h)
reset_four s (Write k v) d h = absurd (false≢true h)
reset_four s (Read k) d h = absurd (false≢true h)
reset_four s (Stop k) d h = absurd (false≢true h)
reset_four s (Pair v0 v1) d h = absurd (false≢true h)
reset_four s (Lines scl sda intin) d h = absurd (false≢true h)
reset_four s Tick d h = absurd (false≢true h)
reset_four s (Pulse sda) d h = absurd (false≢true h)
reset_four s Reset d h = fresh_four s 0 d
reset_four s (GeneralCall k b) d h =
    either (λ (n : Device). four (side s n) ≡ false) (soft_reset b) (λ r. fresh_four s _ d) (λ r. absurd (false≢true (sym r ∙ h)))

-- ---- a step

-- by the answers of the tests: a reset, an emptying of the partner's box, a clearing
abbrev after : Bool → Bool → Bool → Bool → Bool
after now set clear b = if now then false else four_by set clear b

module _ (s : Master) (d : Device) (r : Raw) where
  abbrev Follows : Stepped → Type 0
  Follows n = four (side s n.device) ≡ after (reset r d) (emptying_of (partner s) r d) (clearing_of s r d) (four (side s d))

  taken_four : (e : Event) → decode r ≡ Ok e → in_sequence e d ≡ true → Follows (taken e d)
  unfolding taken
  taken_four e h i =
      let said = (taken_as e r d h i).same in
      let now : Bool → Bool = λ x. after x (empties (partner s) e d) (clears s e d) (four (side s d)) in
      ap (λ p. p.1) (parts_same s e d)
      ∙ split (is_reset e) (λ y. reset_four s e d y ∙ sym (ap now y)) (λ y. effect_four s e d y ∙ sym (ap now y))
      ∙ sym
      (ap₂ (λ (x y : Bool). after x y (clearing_of s r d) (four (side s d))) (said λ f y. is_reset f) (said (empties (partner s)))
      ∙ ap (λ (x : Bool). after (is_reset e) (empties (partner s) e d) x (four (side s d))) (said (clears s)))

  refused_four : (n : ℕ) → Unsaid r d → Follows (refused n d)
  unfolding refused
  refused_four n u =
      sym
      (ap₂ (λ (x y : Bool). after x y (clearing_of s r d) (four (side s d))) (u.0 λ f y. is_reset f) (u.0 (empties (partner s)))
      ∙ ap (λ (x : Bool). after false false x (four (side s d))) (u.0 (clears s)))

  -- What s sees of bit 4 after an event goes by what it saw before it.
  pub sees_next : sees_emptied s (next d r) ≡ (if reset r d then false else four_by (emptying_of (partner s) r d) (clearing_of s r d) (sees_emptied s d))
  sees_next =
      sees_stored s (next d r)
      ∙ step_cases Follows d r taken_four refused_four
      ∙ ap (after (reset r d) (emptying_of (partner s) r d) (clearing_of s r d)) (sym (sees_stored s d))
