-- Laws of `writing`: what the code writes as one literal with a choice for each field is what the definitions say by cases on the register.
-- Assumes nothing.
use mathlib.Core.Path.{◌≡◌, refl, ap, ◌∙◌}
use mathlib.Core.Bool.{Bool, true, false, not, ◌&&◌, ◌||◌}
use Prim.Native.Nat.{ℕ, ◌%◌}
use lib.Dec.{eqb}
use lib.Bits.{or_zero_r}
use Rattle.std.specs.Prelude.{if◌then◌else◌}
use Rattle.arbiter.specs.Words.{bit}
use Rattle.arbiter.specs.Parts.{with_bus_connect, with_contr, with_rt, with_ints, with_mask, with_pointer, with_mail}
use Rattle.arbiter.specs.Registers.{register_number, test_int, mail_full_int, raised, withdraws, control_of, cleared, disconnected, own_written, mail_written}
use Rattle.arbiter.specs.Registers.{drives_written, turn_written}
use Rattle.arbiter.specs.Effects.{after_read, after_write, write_risen}
use Rattle.arbiter.specs.declared.Register.{Register}
use Rattle.arbiter.specs.declared.Register.TheVariants.{Id, Contr, Status, Rt, IntStatus, IntMask, MailLow, MailHigh}
use Rattle.arbiter.specs.declared.Turn.{Turn}
use Rattle.arbiter.specs.declared.Turn.TheVariants.{Nobody}
use Rattle.arbiter.specs.declared.Side.{Side}
use Rattle.arbiter.specs.declared.Bus.{Bus}
use Rattle.bus.proofs.Laws.{released_law}
use Rattle.registers.proofs.Laws.{unraised}
use Rattle.writing.specs.Written.{contr_written, ints_written, mail_after}

-- ---- CONTR: BUS_CONNECT goes with the grant

pub control_law : (w : Bool) (v : ℕ) → record
    { priority = bit 7 v; smbusdis = bit 6 v; idletimer = bit 5 v; swrst = bit 4 v; businit = bit 3 v; busconnect = not w && bit 2 v; lockreq = bit 0 v }
    ≡ (if w then with_bus_connect false (control_of v) else control_of v)
control_law true v = refl
control_law false v = refl

-- ---- the pointer: as after a READ, but for 7

pub after_write_law : (rolls : Bool) (r : Register) → (if not rolls && eqb (register_number r) 7 then MailHigh else after_read r) ≡ after_write rolls r
after_write_law true Id = refl
after_write_law true Contr = refl
after_write_law true Status = refl
after_write_law true Rt = refl
after_write_law true IntStatus = refl
after_write_law true IntMask = refl
after_write_law true MailLow = refl
after_write_law true MailHigh = refl
after_write_law false Id = refl
after_write_law false Contr = refl
after_write_law false Status = refl
after_write_law false Rt = refl
after_write_law false IntStatus = refl
after_write_law false IntMask = refl
after_write_law false MailLow = refl
after_write_law false MailHigh = refl

-- ---- the writer's own side

abbrev risen_pointer : Bool → Side → Register
risen_pointer rolls s = if s.auto then after_write rolls s.pointer else s.pointer

risen : (rolls : Bool) (s : Side) → with_pointer (risen_pointer rolls s) s ≡ write_risen rolls s
risen rolls s = go s.auto
  where
    go : (a : Bool) → with_pointer (if a then after_write rolls s.pointer else s.pointer) s ≡ (if a then with_pointer (after_write rolls s.pointer) s else s)
    go true = refl
    go false = refl

abbrev writer_literal : Bool → Bool → Register → ℕ → Side → Side
writer_literal rolls granted r v s =
    record {
      pointer = risen_pointer rolls s;
      rt = if eqb (register_number r) 3 && not granted then v else s.rt;
      contr = if eqb (register_number r) 1 then contr_written granted v else s.contr;
      ints = ints_written (eqb (register_number r) 4) (eqb (register_number r) 2) v s.ints;
      mail = s.mail;
      auto = s.auto;
      port = s.port;
      mask = if eqb (register_number r) 5 then v % 128 else s.mask;
    }

-- the byte's own effect as one replacement, with no choice between two sides
abbrev own_alone_lem : Bool → Register → ℕ → Side → Side
own_alone_lem granted Id v s = s
own_alone_lem granted Contr v s = with_contr (contr_written granted v) s
own_alone_lem granted Status v s = with_ints (raised test_int (bit 5 v) s.ints) s
own_alone_lem granted Rt v s = with_rt (if not granted then v else s.rt) s
own_alone_lem granted IntStatus v s = with_ints (cleared v s.ints) s
own_alone_lem granted IntMask v s = with_mask (v % 128) s
own_alone_lem granted MailLow v s = s
own_alone_lem granted MailHigh v s = s

own_alone : (granted : Bool) (r : Register) (v : ℕ) (s : Side) → own_alone_lem granted r v s ≡ own_written granted r v s
unfolding own_written
own_alone granted Id v s = refl
own_alone granted Contr v s = go (withdraws granted v)
  where
    go : (w : Bool) → with_contr (if w then with_bus_connect false (control_of v) else control_of v) s
        ≡ (if w then disconnected (with_contr (control_of v) s) else with_contr (control_of v) s)
    go true = refl
    go false = refl
own_alone granted Status v s = refl
own_alone true Rt v s = refl
own_alone false Rt v s = refl
own_alone granted IntStatus v s = refl
own_alone granted IntMask v s = refl
own_alone granted MailLow v s = refl
own_alone granted MailHigh v s = refl

literal_alone : (rolls granted : Bool) (r : Register) (v : ℕ) (s : Side) → writer_literal rolls granted r v s
    ≡ with_pointer (risen_pointer rolls s) (own_alone_lem granted r v s)
literal_alone rolls granted Id v s = ap (with_pointer (risen_pointer rolls s)) (unraised s)
literal_alone rolls granted Contr v s = ap (λ (t : Side). with_pointer (risen_pointer rolls s) (with_contr (contr_written granted v) t)) (unraised s)
literal_alone rolls granted Status v s = refl
literal_alone rolls granted Rt v s = ap (λ (t : Side). with_pointer (risen_pointer rolls s) (with_rt (if not granted then v else s.rt) t)) (unraised s)
literal_alone rolls granted IntStatus v s = ap (λ (i : ℕ). with_pointer (risen_pointer rolls s) (with_ints (cleared v i) s)) (or_zero_r s.ints)
literal_alone rolls granted IntMask v s = ap (λ (t : Side). with_pointer (risen_pointer rolls s) (with_mask (v % 128) t)) (unraised s)
literal_alone rolls granted MailLow v s = ap (with_pointer (risen_pointer rolls s)) (unraised s)
literal_alone rolls granted MailHigh v s = ap (with_pointer (risen_pointer rolls s)) (unraised s)

-- pointer and auto-increment are not the byte's business
risen_alone : (rolls granted : Bool) (r : Register) (v : ℕ) (s : Side) → with_pointer (risen_pointer rolls s) (own_alone_lem granted r v s)
    ≡ write_risen rolls (own_alone_lem granted r v s)
risen_alone rolls granted Id v s = risen rolls s
risen_alone rolls granted Contr v s = risen rolls (own_alone_lem granted Contr v s)
risen_alone rolls granted Status v s = risen rolls (own_alone_lem granted Status v s)
risen_alone rolls granted Rt v s = risen rolls (own_alone_lem granted Rt v s)
risen_alone rolls granted IntStatus v s = risen rolls (own_alone_lem granted IntStatus v s)
risen_alone rolls granted IntMask v s = risen rolls (own_alone_lem granted IntMask v s)
risen_alone rolls granted MailLow v s = risen rolls s
risen_alone rolls granted MailHigh v s = risen rolls s

pub writer_law : (rolls granted : Bool) (r : Register) (v : ℕ) (s : Side) → writer_literal rolls granted r v s ≡ write_risen rolls (own_written granted r v s)
writer_law rolls granted r v s = literal_alone rolls granted r v s ∙ risen_alone rolls granted r v s ∙ ap (write_risen rolls) (own_alone granted r v s)

-- ---- mail

abbrev mail_literal : Register → ℕ → Side → Side
mail_literal r v s =
    with_ints (raised mail_full_int (eqb (register_number r) 7 && not s.mail.full) s.ints) (with_mail (mail_after (register_number r) v s.mail) s)

mail_boxed : (r : Register) (v lo hi : ℕ) (full : Bool) (s : Side) → mail_literal r v (with_mail (record { low = lo; high = hi; full = full }) s)
    ≡ mail_written r v (with_mail (record { low = lo; high = hi; full = full }) s)
unfolding mail_written
mail_boxed Id v lo hi full s = unraised (with_mail (record { low = lo; high = hi; full = full }) s)
mail_boxed Contr v lo hi full s = unraised (with_mail (record { low = lo; high = hi; full = full }) s)
mail_boxed Status v lo hi full s = unraised (with_mail (record { low = lo; high = hi; full = full }) s)
mail_boxed Rt v lo hi full s = unraised (with_mail (record { low = lo; high = hi; full = full }) s)
mail_boxed IntStatus v lo hi full s = unraised (with_mail (record { low = lo; high = hi; full = full }) s)
mail_boxed IntMask v lo hi full s = unraised (with_mail (record { low = lo; high = hi; full = full }) s)
mail_boxed MailLow v lo hi true s = unraised (with_mail (record { low = lo; high = hi; full = true }) s)
mail_boxed MailLow v lo hi false s = unraised (with_mail (record { low = v; high = hi; full = false }) s)
mail_boxed MailHigh v lo hi true s = unraised (with_mail (record { low = lo; high = hi; full = true }) s)
mail_boxed MailHigh v lo hi false s = refl

pub mail_law : (r : Register) (v : ℕ) (s : Side) → mail_literal r v s ≡ mail_written r v s
mail_law r v s = mail_boxed r v s.mail.low s.mail.high s.mail.full s

-- ---- the drives and the turn

abbrev drives_literal : Bool → Bool → Register → ℕ → Bus → Bus
drives_literal granted connect r v b =
    let frees : Bool = eqb (register_number r) 1 && (granted && (bit 2 v || not (bit 0 v))) in
    let sets : Bool = eqb (register_number r) 2 && (granted && not connect) in
    record {
      outscl = b.outscl;
      outsda = b.outsda;
      intin = b.intin;
      drivescl = frees || (if sets then bit 6 v else b.drivescl);
      drivesda = frees || (if sets then bit 7 v else b.drivesda);
      busy = b.busy;
      hold = b.hold;
      idle = b.idle;
      lowscl = b.lowscl;
      lowsda = b.lowsda;
    }

pub drives_law : (granted connect : Bool) (r : Register) (v : ℕ) (b : Bus) → drives_literal granted connect r v b ≡ drives_written granted connect r v b
unfolding drives_written
drives_law granted connect Id v b = refl
drives_law granted connect Contr v b = released_law (granted && (bit 2 v || not (bit 0 v))) b
drives_law true true Status v b = refl
drives_law true false Status v b = refl
drives_law false connect Status v b = refl
drives_law granted connect Rt v b = refl
drives_law granted connect IntStatus v b = refl
drives_law granted connect IntMask v b = refl
drives_law granted connect MailLow v b = refl
drives_law granted connect MailHigh v b = refl

pub turn_law : (granted : Bool) (r : Register) (v : ℕ) (t : Turn) → (if eqb (register_number r) 1 && (granted && not (bit 0 v)) then Nobody else t)
    ≡ turn_written granted r v t
unfolding turn_written
turn_law granted Id v t = refl
turn_law granted Contr v t = refl
turn_law granted Status v t = refl
turn_law granted Rt v t = refl
turn_law granted IntStatus v t = refl
turn_law granted IntMask v t = refl
turn_law granted MailLow v t = refl
turn_law granted MailHigh v t = refl
