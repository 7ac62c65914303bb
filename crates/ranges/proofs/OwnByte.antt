-- A side after its own byte, field by field: what own_written does with a choice around the whole side, each field says by itself. So two bytes that meet in a
-- side can be looked at field by field.
-- Assumes nothing.
use mathlib.Core.Path.{◌≡◌, refl, ap, ◌∙◌}
use Rattle.std.specs.Prelude.{◌%◌, if◌then◌else◌}
use Rattle.ranges.specs.Names.{ℕ, Bool, true, false, Register, Id, Contr, Status, Rt, IntStatus, IntMask, MailLow, MailHigh, Control, Side}
use Rattle.arbiter.specs.Words.{bit}
use Rattle.arbiter.specs.Parts.{with_bus_connect, with_pointer}
use Rattle.arbiter.specs.Registers.{test_int, raised, cleared, withdraws, control_of, own_written}
use Rattle.arbiter.specs.Effects.{after_write, write_risen}

-- ---- each field

abbrev own_rt : Bool → Register → ℕ → ℕ → ℕ
own_rt g Id v n = n
own_rt g Contr v n = n
own_rt g Status v n = n
own_rt g Rt v n = if g then n else v
own_rt g IntStatus v n = n
own_rt g IntMask v n = n
own_rt g MailLow v n = n
own_rt g MailHigh v n = n

abbrev own_contr : Bool → Register → ℕ → Control → Control
own_contr g Id v c = c
own_contr g Contr v c = if withdraws g v then with_bus_connect false (control_of v) else control_of v
own_contr g Status v c = c
own_contr g Rt v c = c
own_contr g IntStatus v c = c
own_contr g IntMask v c = c
own_contr g MailLow v c = c
own_contr g MailHigh v c = c

abbrev pub own_ints : Register → ℕ → ℕ → ℕ
own_ints Id v i = i
own_ints Contr v i = i
own_ints Status v i = raised test_int (bit 5 v) i
own_ints Rt v i = i
own_ints IntStatus v i = cleared v i
own_ints IntMask v i = i
own_ints MailLow v i = i
own_ints MailHigh v i = i

abbrev own_mask : Register → ℕ → ℕ → ℕ
own_mask Id v n = n
own_mask Contr v n = n
own_mask Status v n = n
own_mask Rt v n = n
own_mask IntStatus v n = n
own_mask IntMask v n = v % 128
own_mask MailLow v n = n
own_mask MailHigh v n = n

-- ---- all of them

-- the side after it, its pointer p
abbrev pub shaped : Register → Bool → Register → ℕ → Side → Side
shaped p g r v s =
    record {
      pointer = p;
      rt = own_rt g r v s.rt;
      contr = own_contr g r v s.contr;
      ints = own_ints r v s.ints;
      mail = s.mail;
      auto = s.auto;
      port = s.port;
      mask = own_mask r v s.mask;
    }

own_shaped : (g : Bool) (r : Register) (v : ℕ) (s : Side) → own_written g r v s ≡ shaped s.pointer g r v s
unfolding own_written
own_shaped g Id v s = refl
own_shaped g Contr v s = go (withdraws g v)
  where
    put : Control → Side
    put c = record { pointer = s.pointer; rt = s.rt; contr = c; ints = s.ints; mail = s.mail; auto = s.auto; port = s.port; mask = s.mask }

    go : (b : Bool) → (if b then put (with_bus_connect false (control_of v)) else put (control_of v))
        ≡ put (if b then with_bus_connect false (control_of v) else control_of v)
    go true = refl
    go false = refl
own_shaped g Status v s = refl
own_shaped true Rt v s = refl
own_shaped false Rt v s = refl
own_shaped g IntStatus v s = refl
own_shaped g IntMask v s = refl
own_shaped g MailLow v s = refl
own_shaped g MailHigh v s = refl

abbrev pub risen : Bool → Side → Register
risen rolls s = if s.auto then after_write rolls s.pointer else s.pointer

risen_shaped : (rolls : Bool) (s : Side) → write_risen rolls s ≡ with_pointer (risen rolls s) s
risen_shaped rolls s = go s.auto
  where
    go : (b : Bool) → (if b then with_pointer (after_write rolls s.pointer) s else s)
        ≡ with_pointer (if b then after_write rolls s.pointer else s.pointer) s
    go true = refl
    go false = refl

-- so of the whole
pub writer_shaped : (rolls g : Bool) (r : Register) (v : ℕ) (s : Side) → write_risen rolls (own_written g r v s) ≡ shaped (risen rolls s) g r v s
writer_shaped rolls g r v s = risen_shaped rolls (own_written g r v s) ∙ ap (λ (x : Side). with_pointer (risen rolls x) x) (own_shaped g r v s)
