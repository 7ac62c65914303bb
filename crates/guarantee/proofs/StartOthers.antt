-- An event that is not a master's own: it leaves all that the master's setting is made of.
-- Assumes nothing.
use Prim.Native.Nat.{ℕ}
use mathlib.Core.Path.{◌≡◌, refl, sym, ap, ◌∙◌}
use mathlib.Core.Bool.{Bool, true, false, not, true≢false, false≢true}
use Rattle.ranges.specs.Names.{Master, Zero, One, Register, Id, Contr, Status, Rt, IntStatus, IntMask, MailLow, MailHigh, Port, Side, Device, Raw, Event}
use Rattle.ranges.specs.Names.{Command, Write, Read, Stop, Pair, Lines, Tick, Pulse, Reset, GeneralCall}
use Rattle.arbiter.specs.Words.{same_master, side}
use Rattle.arbiter.specs.State.{owns}
use Rattle.arbiter.specs.Registers.{mail_written}
use Rattle.arbiter.specs.Effects.{written, was_read, lined, ticked, effect}
use Rattle.arbiter.specs.Order.{is_reset}
use Rattle.arbiter.specs.AuditWords.{next, requests, reserve_of, is_contr, lets_go, accepted, reset, withdrawal_of}
use Rattle.audit.specs.SettingsKept.{bits_of, writes_at, stores}
use Rattle.arbiter.proofs.Choice.{either}
use Rattle.arbiter.proofs.Raws.{refuses, takes, met}
use Rattle.audit.proofs.SettingsKept.{rt_kept, bits_kept}
use Rattle.guarantee.proofs.StartParts.{seat, parts_seat, parts_request}

-- ---- an event that is not m's own: of its partner's port, LINES or TICK

abbrev pub is_foreign : Master → Event → Bool
is_foreign m (Command k c) = not (same_master m k)
is_foreign m (Write k v) = not (same_master m k)
is_foreign m (Read k) = not (same_master m k)
is_foreign m (Stop k) = not (same_master m k)
is_foreign m (Pair v0 v1) = false
is_foreign m (Lines scl sda intin) = true
is_foreign m Tick = true
is_foreign m (Pulse sda) = false
is_foreign m Reset = false
is_foreign m (GeneralCall k b) = false

-- It is no reset, no byte of m's in its RT or CONTR, and no withdrawal of m's,
record Quiet (m : Master) (e : Event) (d : Device) : Type 0 where
  unreset : is_reset e ≡ false
  unstored : stores m e d ≡ false
  unwritten : writes_at is_contr m e d ≡ false
  stays : lets_go m e d ≡ false

quiet : (m : Master) (e : Event) (d : Device) → is_foreign m e ≡ true → Quiet m e d
quiet m (Command k c) d h = record { unreset = refl; unstored = refl; unwritten = refl; stays = refl }
quiet Zero (Write Zero v) d h = absurd (false≢true h)
quiet Zero (Write One v) d h = record { unreset = refl; unstored = refl; unwritten = refl; stays = refl }
quiet One (Write Zero v) d h = record { unreset = refl; unstored = refl; unwritten = refl; stays = refl }
quiet One (Write One v) d h = absurd (false≢true h)
quiet m (Read k) d h = record { unreset = refl; unstored = refl; unwritten = refl; stays = refl }
quiet m (Stop k) d h = record { unreset = refl; unstored = refl; unwritten = refl; stays = refl }
quiet m (Pair v0 v1) d h = absurd (false≢true h)
quiet m (Lines scl sda intin) d h = record { unreset = refl; unstored = refl; unwritten = refl; stays = refl }
quiet m Tick d h = record { unreset = refl; unstored = refl; unwritten = refl; stays = refl }
quiet m (Pulse sda) d h = absurd (false≢true h)
quiet m Reset d h = absurd (false≢true h)
quiet m (GeneralCall k b) d h = absurd (false≢true h)

-- and leaves m's port and request in part 1.
abbrev view : Side → (Register × Bool × Port) × Bool
view s = (seat s, s.contr.lockreq)

mail_view : (r : Register) (v : ℕ) (s : Side) → view (mail_written r v s) ≡ view s
unfolding mail_written
mail_view Id v s = refl
mail_view Contr v s = refl
mail_view Status v s = refl
mail_view Rt v s = refl
mail_view IntStatus v s = refl
mail_view IntMask v s = refl
mail_view MailLow v s = either (λ (x : Side). view x ≡ view s) s.mail.full (λ h. refl) (λ h. refl)
mail_view MailHigh v s = either (λ (x : Side). view x ≡ view s) s.mail.full (λ h. refl) (λ h. refl)

foreign_view : (m : Master) (e : Event) (d : Device) → is_foreign m e ≡ true → view (side m (effect e d)) ≡ view (side m d)
unfolding effect written was_read lined ticked
foreign_view Zero (Command Zero c) d h = absurd (false≢true h)
foreign_view Zero (Command One c) d h = refl
foreign_view One (Command Zero c) d h = refl
foreign_view One (Command One c) d h = absurd (false≢true h)
foreign_view Zero (Write Zero v) d h = absurd (false≢true h)
foreign_view Zero (Write One v) d h = mail_view d.side1.pointer v d.side0
foreign_view One (Write Zero v) d h = mail_view d.side0.pointer v d.side1
foreign_view One (Write One v) d h = absurd (false≢true h)
foreign_view Zero (Read Zero) d h = absurd (false≢true h)
foreign_view Zero (Read One) d h = refl
foreign_view One (Read Zero) d h = refl
foreign_view One (Read One) d h = absurd (false≢true h)
foreign_view Zero (Stop Zero) d h = absurd (false≢true h)
foreign_view Zero (Stop One) d h = refl
foreign_view One (Stop Zero) d h = refl
foreign_view One (Stop One) d h = absurd (false≢true h)
foreign_view m (Pair v0 v1) d h = absurd (false≢true h)
foreign_view Zero (Lines scl sda intin) d h = refl
foreign_view One (Lines scl sda intin) d h = refl
foreign_view m Tick d h = refl
foreign_view m (Pulse sda) d h = absurd (false≢true h)
foreign_view m Reset d h = absurd (false≢true h)
foreign_view m (GeneralCall k b) d h = absurd (false≢true h)

-- four bytes that are refused, or such an event
abbrev pub Foreign : Master → Raw → Device → Type 0
Foreign m r d = accepted (λ (e : Event) (x : Device). not (is_foreign m e)) r d ≡ false

-- What they leave of m.
pub record Left (m : Master) (r : Raw) (d : Device) : Type 0 where
  pub port : seat (side m (next d r)) ≡ seat (side m d)
  pub rt : reserve_of m (next d r) ≡ reserve_of m d
  pub bits : bits_of m (next d r) ≡ bits_of m d
  pub request : owns m d ≡ false → requests m (next d r) ≡ requests m d
  pub unreset : reset r d ≡ false
  pub stays : withdrawal_of m r d ≡ false

pub left_by_others : (m : Master) (r : Raw) (d : Device) → Foreign m r d → Left m r d
left_by_others m r d f =
    elim (met r d) [
      | refuses x ↦
          (record {
            port = ap (λ (n : Device). seat (side m n)) x.after;
            rt = ap (reserve_of m) x.after;
            bits = ap (bits_of m) x.after;
            request = λ o. ap (requests m) x.after;
            unreset = x.none λ g y. is_reset g;
            stays = x.none (lets_go m);
          })
      | takes e x ↦
          (let is : is_foreign m e ≡ true = not_false (is_foreign m e) (sym (x.same λ g y. not (is_foreign m g)) ∙ f) in
          let q = quiet m e d is in
          let no : reset r d ≡ false = (x.same λ g y. is_reset g) ∙ q.unreset in
          let v = foreign_view m e d is in
          record {
            port = ap (λ (n : Device). seat (side m n)) x.after ∙ parts_seat m e d ∙ ap (λ y. y.0) v;
            rt = rt_kept m d r no (x.same (stores m) ∙ q.unstored);
            bits = bits_kept m d r no (x.same (writes_at is_contr m) ∙ q.unwritten);
            request = λ o. ap (requests m) x.after ∙ parts_request m e d o ∙ ap (λ y. y.1) v;
            unreset = no;
            stays = x.same (lets_go m) ∙ q.stays;
          })
    ]
  where
    not_false : (b : Bool) → not b ≡ false → b ≡ true
    not_false true h = refl
    not_false false h = absurd (true≢false h)
