-- A master's own COMMAND, its byte at RT and at CONTR, and its STOP: what each leaves of its port, its RT, its lasting bits and its request.
-- Assumes nothing.
use Prim.Native.Nat.{ℕ, ◌%◌}
use mathlib.Core.Path.{◌≡◌, refl, ap, ap₂, ◌∙◌}
use mathlib.Core.Bool.{Bool, true, false, not, ◌&&◌}
use lib.Dec.{eqb}
use borrow.Author.Tests.{eq-eqb}
use Rattle.ranges.specs.Names.{Master, Zero, One, Register, Id, Contr, Status, Rt, IntStatus, IntMask, MailLow, MailHigh, Rest, Writing, Side, Device, Raw}
use Rattle.ranges.specs.Names.{Event, Command, Write, Stop}
use Rattle.arbiter.specs.Words.{bit, side}
use Rattle.arbiter.specs.Parts.{with_port, with_side}
use Rattle.arbiter.specs.State.{owns, at_rest, for_writing}
use Rattle.arbiter.specs.Registers.{withdraws, own_written}
use Rattle.arbiter.specs.Events.{decode, in_sequence, good_command}
use Rattle.arbiter.specs.Effects.{register_at, commanded, writer_side, written, effect}
use Rattle.arbiter.specs.Order.{is_reset}
use Rattle.arbiter.specs.AuditWords.{next, requests, resting, reserve_of, is_contr}
use Rattle.arbiter.specs.Marks.{command, write, stop}
use Rattle.arbiter.specs.Witnesses.{number}
use Rattle.audit.specs.SettingsKept.{bits_of, is_rt, writes_at, byte_by, stores}
use Rattle.arbiter.proofs.Choice.{either, if_true, if_false, same_self}
use Rattle.arbiter.proofs.Raws.{Takes, taken_as}
use Rattle.audit.proofs.SettingsKept.{rt_kept, bits_kept, rt_stored, bits_written}
use Rattle.guarantee.proofs.StartParts.{seat, parts_seat, parts_request}

-- ---- an event of m's that is taken

-- m's side put in its place is m's side
side_own : (m : Master) (x : Side) (d : Device) → side m (with_side m x d) ≡ x
side_own Zero x d = refl
side_own One x d = refl

-- Its port, and its request if m does not own, are after the step as part 1 left them; its RT and its bits as they were, if it is no such byte.
module _ (m : Master) (e : Event) (r : Raw) (d : Device) (t : Takes e r d) (ok : is_reset e ≡ false) where
  own_seat : seat (side m (next d r)) ≡ seat (side m (effect e d))
  own_seat = ap (λ (n : Device). seat (side m n)) t.after ∙ parts_seat m e d

  own_request : owns m d ≡ false → requests m (next d r) ≡ requests m (effect e d)
  own_request o = ap (requests m) t.after ∙ parts_request m e d o

  own_rt : stores m e d ≡ false → reserve_of m (next d r) ≡ reserve_of m d
  own_rt h = rt_kept m d r (t.same (λ f y. is_reset f) ∙ ok) (t.same (stores m) ∙ h)

  own_bits : writes_at is_contr m e d ≡ false → bits_of m (next d r) ≡ bits_of m d
  own_bits h = bits_kept m d r (t.same (λ f y. is_reset f) ∙ ok) (t.same (writes_at is_contr m) ∙ h)

-- ---- COMMAND

-- m's RT, its bits and, if it does not own, its request are after r as they were.
pub record Kept (m : Master) (r : Raw) (d : Device) : Type 0 where
  pub rt : reserve_of m (next d r) ≡ reserve_of m d
  pub bits : bits_of m (next d r) ≡ bits_of m d
  pub request : owns m d ≡ false → requests m (next d r) ≡ requests m d

takes_command : (m : Master) (c : ℕ) (d : Device) → Takes (Command m c) (command (number m) c) d
unfolding decode in_sequence
takes_command Zero c d = taken_as (Command Zero c) (command 0 c) d refl refl
takes_command One c d = taken_as (Command One c) (command 1 c) d refl refl

commanded_request : (c : ℕ) (s : Side) → (commanded c s).contr.lockreq ≡ s.contr.lockreq
unfolding commanded
commanded_request c s = either (λ (x : Side). x.contr.lockreq ≡ s.contr.lockreq) (good_command c) (λ h. refl) (λ h. refl)

commanded_seat : (c : ℕ) (s : Side) → good_command c ≡ true → seat (commanded c s) ≡ (register_at (c % 8), bit 7 c, Writing)
unfolding commanded
commanded_seat c s h = ap seat (if_true _ _ h)

-- An acknowledged COMMAND sets the pointer and opens the port for writing.
pub commands : (m : Master) (c : ℕ) (d : Device) → good_command c ≡ true
    → (seat (side m (next d (command (number m) c))) ≡ (register_at (c % 8), bit 7 c, Writing)) × Kept m (command (number m) c) d
unfolding effect
commands m c d good =
    let r : Raw = command (number m) c in
    let t = takes_command m c d in
    let own : side m (effect (Command m c) d) ≡ commanded c (side m d) = side_own m (commanded c (side m d)) d in (
      own_seat m (Command m c) r d t refl ∙ ap seat own ∙ commanded_seat c (side m d) good,
      record {
        rt = own_rt m (Command m c) r d t refl refl;
        bits = own_bits m (Command m c) r d t refl refl;
        request = λ o. own_request m (Command m c) r d t refl o ∙ ap (λ (s : Side). s.contr.lockreq) own ∙ commanded_request c (side m d);
      },
    )

-- ---- STOP

takes_stop : (m : Master) (d : Device) → resting m d ≡ false → Takes (Stop m) (stop (number m)) d
unfolding decode in_sequence
takes_stop Zero d h = taken_as (Stop Zero) (stop 0) d refl (ap not h)
takes_stop One d h = taken_as (Stop One) (stop 1) d refl (ap not h)

-- A STOP of a port that is not at rest puts it to rest.
pub stops : (m : Master) (d : Device) → resting m d ≡ false → (resting m (next d (stop (number m))) ≡ true) × Kept m (stop (number m)) d
unfolding effect
stops m d h =
    let r : Raw = stop (number m) in
    let t = takes_stop m d h in
    let own : side m (effect (Stop m) d) ≡ with_port Rest (side m d) = side_own m (with_port Rest (side m d)) d in (
      ap (λ x. at_rest x.2) (own_seat m (Stop m) r d t refl ∙ ap seat own),
      record {
        rt = own_rt m (Stop m) r d t refl refl;
        bits = own_bits m (Stop m) r d t refl refl;
        request = λ o. own_request m (Stop m) r d t refl o ∙ ap (λ (s : Side). s.contr.lockreq) own;
      },
    )

-- ---- a byte

takes_write : (m : Master) (v : ℕ) (d : Device) → (side m d).port ≡ Writing → Takes (Write m v) (write (number m) v) d
unfolding decode in_sequence
takes_write Zero v d h = taken_as (Write Zero v) (write 0 v) d refl (ap for_writing h)
takes_write One v d h = taken_as (Write One v) (write 1 v) d refl (ap for_writing h)

written_side : (m : Master) (v : ℕ) (d : Device) → side m (effect (Write m v) d) ≡ writer_side m v d
unfolding effect written
written_side Zero v d = refl
written_side One v d = refl

-- It leaves the port as it is, without auto-increment,
byte_seat : (g : Bool) (r : Register) (v : ℕ) (s : Side) → seat (own_written g r v s) ≡ seat s
unfolding own_written
byte_seat g Id v s = refl
byte_seat g Contr v s = either (λ (x : Side). seat x ≡ seat s) (withdraws g v) (λ h. refl) (λ h. refl)
byte_seat g Status v s = refl
byte_seat g Rt v s = either (λ (x : Side). seat x ≡ seat s) g (λ h. refl) (λ h. refl)
byte_seat g IntStatus v s = refl
byte_seat g IntMask v s = refl
byte_seat g MailLow v s = refl
byte_seat g MailHigh v s = refl

-- and changes the request in CONTR alone.
rt_request : (g : Bool) (v : ℕ) (s : Side) → (own_written g Rt v s).contr.lockreq ≡ s.contr.lockreq
unfolding own_written
rt_request g v s = either (λ (x : Side). x.contr.lockreq ≡ s.contr.lockreq) g (λ h. refl) (λ h. refl)

contr_request : (g : Bool) (v : ℕ) (s : Side) → (own_written g Contr v s).contr.lockreq ≡ bit 0 v
unfolding own_written
contr_request g v s = either (λ (x : Side). x.contr.lockreq ≡ bit 0 v) (withdraws g v) (λ h. refl) (λ h. refl)

module _ (m : Master) (p : Register) (v : ℕ) (d : Device) (at : seat (side m d) ≡ (p, false, Writing)) where
  abbrev byte : Raw
  byte = write (number m) v

  byte_taken : Takes (Write m v) byte d
  byte_taken = takes_write m v d (ap (λ x. x.2) at)

  pointed : (side m d).pointer ≡ p
  pointed = ap (λ x. x.0) at

  -- part 1: m's side has the byte in the register at its pointer, which stays
  byte_side : side m (effect (Write m v) d) ≡ own_written (owns m d) p v (side m d)
  byte_side =
      let s : Side = own_written (owns m d) (side m d).pointer v (side m d) in
      written_side m v d
      ∙ if_false _ s (ap (λ x. x.1) (byte_seat (owns m d) (side m d).pointer v (side m d)) ∙ ap (λ x. x.1) at)
      ∙ ap (λ (q : Register). own_written (owns m d) q v (side m d)) pointed

  pub byte_stays : seat (side m (next d byte)) ≡ (p, false, Writing)
  byte_stays = own_seat m (Write m v) byte d byte_taken refl ∙ ap seat byte_side ∙ byte_seat (owns m d) p v (side m d) ∙ at

  writes_to : (such : Register → Bool) (b : Bool) → such p ≡ b → writes_at such m (Write m v) d ≡ b
  writes_to such b h = ap₂ ◌&&◌ (same_self m) (ap such pointed ∙ h)

  pub byte_rt : is_rt p ≡ false → reserve_of m (next d byte) ≡ reserve_of m d
  byte_rt h = own_rt m (Write m v) byte d byte_taken refl (ap (λ (b : Bool). b && not (owns m d)) (writes_to is_rt false h))

  pub byte_stored : is_rt p ≡ true → owns m d ≡ false → reserve_of m (next d byte) ≡ v
  byte_stored h o =
      rt_stored m d byte v
      (byte_taken.same (λ f y. stores m f y && eqb (byte_by m f) v)
      ∙ ap₂ ◌&&◌ (ap₂ (λ (a b : Bool). a && not b) (writes_to is_rt true h) o) (eq-eqb v v refl))

  pub byte_written : is_contr p ≡ true → bits_of m (next d byte) ≡ (bit 7 v, bit 6 v, bit 5 v, bit 4 v)
  byte_written h =
      bits_written m d byte v
      (byte_taken.same (λ f y. writes_at is_contr m f y && eqb (byte_by m f) v) ∙ ap₂ ◌&&◌ (writes_to is_contr true h) (eq-eqb v v refl))

  byte_request : owns m d ≡ false → requests m (next d byte) ≡ (own_written (owns m d) p v (side m d)).contr.lockreq
  byte_request o = own_request m (Write m v) byte d byte_taken refl o ∙ ap (λ (s : Side). s.contr.lockreq) byte_side

-- The byte at RT leaves the request, and that at CONTR is it.
pub rt_asks : (m : Master) (v : ℕ) (d : Device) → seat (side m d) ≡ (Rt, false, Writing) → owns m d ≡ false
    → requests m (next d (write (number m) v)) ≡ requests m d
rt_asks m v d at o = byte_request m Rt v d at o ∙ rt_request (owns m d) v (side m d)

pub contr_asks : (m : Master) (v : ℕ) (d : Device) → seat (side m d) ≡ (Contr, false, Writing) → owns m d ≡ false
    → requests m (next d (write (number m) v)) ≡ bit 0 v
contr_asks m v d at o = byte_request m Contr v d at o ∙ contr_request (owns m d) v (side m d)
