-- Light of `light`: the events whose own effect ends the step, one by one: each changes its sides in nothing that the turn asks of them.
-- Assumes nothing.
use mathlib.Core.Path.{◌≡◌, refl, sym, ap, ap₂, ◌∙◌}
use mathlib.Core.Bool.{Bool, true, false, not, ◌&&◌, ◌||◌, false≢true, or-false, and-eq-true_iff}
use Prim.Native.Nat.{ℕ, ◌%◌}
use lib.Bits.{or_zero_r}
use lib.Dec.{eqb}
use Rattle.std.specs.Prelude.{if◌then◌else◌}
use Rattle.arbiter.specs.Words.{bit, partner, side, device}
use Rattle.arbiter.specs.Parts.{with_port, with_pointer, with_auto, with_mail, with_contr, with_rt, with_turn, with_drives}
use Rattle.arbiter.specs.State.{claims_turn, owns_turn, owns}
use Rattle.arbiter.specs.Registers.{mail_emptied_int, raised, control_of, disconnected, withdraws, own_written, mail_written, released}
use Rattle.arbiter.specs.Registers.{drives_written, turn_written}
use Rattle.arbiter.specs.Rules.{rolls}
use Rattle.arbiter.specs.Events.{good_command}
use Rattle.arbiter.specs.Effects.{register_at, after_read, after_write, commanded, writer_side, partner_side, written_bus, written_turn, written, paired}
use Rattle.arbiter.specs.Effects.{empties, reader_side, sender_side, was_read, int_in_fallen, lined, effect}
use Rattle.arbiter.specs.Order.{levels}
use Rattle.arbiter.specs.Steps.{parts, owner_byte, lines_byte}
use Rattle.arbiter.specs.declared.Master.{Master}
use Rattle.arbiter.specs.declared.Master.TheVariants.{Zero, One}
use Rattle.arbiter.specs.declared.Turn.{Turn}
use Rattle.arbiter.specs.declared.Turn.TheVariants.{Nobody, Claims, Owns}
use Rattle.arbiter.specs.declared.Register.{Register}
use Rattle.arbiter.specs.declared.Register.TheVariants.{Id, Contr, Status, Rt, IntStatus, IntMask, MailLow, MailHigh}
use Rattle.arbiter.specs.declared.Port.TheVariants.{Rest, Open, Writing}
use Rattle.arbiter.specs.declared.Side.{Side}
use Rattle.arbiter.specs.declared.Bus.{Bus}
use Rattle.arbiter.specs.declared.Device.{Device}
use Rattle.arbiter.specs.declared.Event.{Event}
use Rattle.arbiter.specs.declared.Event.TheVariants.{Command, Write, Read, Stop, Pair, Lines, Tick, Pulse, Reset, GeneralCall}
use Rattle.arbiter.specs.declared.Clock.TheVariants.{NoClock}
use Rattle.arbiter.proofs.Choice.{either, not_true}
use Rattle.step.specs.Carried.{parts_three_to_seven}
use Rattle.light.specs.Light.{Settled}
use Rattle.light.specs.Ended.{leaves_turn, write_is_light, lined_bus, ends_itself, keeps_lines, its_end, EndsItself}
use Rattle.light.proofs.Fits.{Alike, Fits, fits_on, fits_self, alike_fits, fits_settles, held_settles, both_settle, same_owner, same_lines, lined_settles}

-- what is to be shown of one event
abbrev Alone : Event → Device → Type 0
Alone e d =
    (parts e d ≡ its_end e d) × (owner_byte (its_end e d) ≡ owner_byte d) × (keeps_lines e d ≡ true → lines_byte (its_end e d) ≡ lines_byte d)

-- ---- COMMAND

module _ (m : Master) (c : ℕ) (d : Device) where
  abbrev opened : Bool → Side
  opened good = if good then with_port Writing (with_auto (bit 7 c) (with_pointer (register_at (c % 8)) (side m d))) else with_port Open (side m d)

  opened_fits : (t : Turn) (good : Bool) → Fits m t (side m d) (opened good)
  opened_fits Nobody true = λ e. e
  opened_fits Nobody false = λ e. e
  opened_fits (Claims k g) true = λ e. (λ q. q, λ q. absurd (false≢true q))
  opened_fits (Claims k g) false = λ e. (λ q. q, λ q. absurd (false≢true q))
  opened_fits (Owns k g) true = λ e. (refl, refl)
  opened_fits (Owns k g) false = λ e. (refl, refl)

  opened_shows : (good : Bool) → ((opened good).ints ≡ (side m d).ints) × ((opened good).mask ≡ (side m d).mask)
  opened_shows true = (refl, refl)
  opened_shows false = (refl, refl)

  command_alone : Settled d → Alone (Command m c) d
  unfolding parts parts_three_to_seven effect commanded its_end
  command_alone h =
      let shows = opened_shows (good_command c) in (
        fits_settles m d (opened (good_command c)) (side (partner m) d) h (opened_fits d.arb.turn (good_command c)) (refl, refl, refl),
        same_owner m d (opened (good_command c)) (side (partner m) d),
        λ k. same_lines d (opened (good_command c)) (side (partner m) d) m shows.0 shows.1 refl refl,
      )

-- ---- STOP

module _ (m : Master) (d : Device) where
  abbrev rested : Side
  rested = with_port Rest (side m d)

  rested_fits : (t : Turn) → not (claims_turn m t) ≡ true → Fits m t (side m d) rested
  rested_fits Nobody l = λ e. e
  rested_fits (Claims k g) l = λ e. absurd (false≢true (sym (not_true _ l) ∙ e))
  rested_fits (Owns k g) l = λ e. (refl, refl)

  stop_settles : Settled d → (claims : Bool) → claims_turn m d.arb.turn ≡ claims → not (claims && eqb d.bus.hold 0) ≡ true
      → parts_three_to_seven false NoClock (levels false d.bus (device m rested (side (partner m) d) d.bus d.arb d))
      ≡ device m rested (side (partner m) d) d.bus d.arb d
  stop_settles h false e l = fits_settles m d rested (side (partner m) d) h (rested_fits d.arb.turn (ap not e)) (refl, refl, refl)
  stop_settles h true e l = held_settles m d rested (side (partner m) d) h refl refl (not_true _ l) e

  stop_alone : Settled d → not (claims_turn m d.arb.turn && eqb d.bus.hold 0) ≡ true → Alone (Stop m) d
  unfolding parts parts_three_to_seven effect its_end
  stop_alone h l = (
    stop_settles h (claims_turn m d.arb.turn) refl l,
    same_owner m d rested (side (partner m) d),
    λ k. same_lines d rested (side (partner m) d) m refl refl refl refl,
  )

-- ---- READ

abbrev read_as : Bool → Side → Side → Side
read_as auto s r = with_port Open (if auto then with_pointer (after_read s.pointer) r else r)

abbrev unread : Bool → Side → Side
unread f s = with_mail (record { low = s.mail.low; high = s.mail.high; full = f }) s

read_fits : (m : Master) (t : Turn) (auto f : Bool) (s : Side) → Fits m t s (read_as auto s (unread f s))
read_fits m Nobody true f s = λ e. e
read_fits m Nobody false f s = λ e. e
read_fits m (Claims k g) true f s = λ e. (λ q. q, λ q. absurd (false≢true q))
read_fits m (Claims k g) false f s = λ e. (λ q. q, λ q. absurd (false≢true q))
read_fits m (Owns k g) true f s = λ e. (refl, refl)
read_fits m (Owns k g) false f s = λ e. (refl, refl)

read_shows : (auto f : Bool) (s : Side) → ((read_as auto s (unread f s)).ints ≡ s.ints) × ((read_as auto s (unread f s)).mask ≡ s.mask)
read_shows true f s = (refl, refl)
read_shows false f s = (refl, refl)

module _ (m : Master) (d : Device) where
  abbrev reader : Side
  reader = reader_side (side m d)

  abbrev sender : Side
  sender = sender_side (empties (side m d)) (side (partner m) d)

  unraised : (x : Bool) → x ≡ false → raised mail_emptied_int x (side (partner m) d).ints ≡ (side (partner m) d).ints
  unraised x e = ap (λ (y : Bool). raised mail_emptied_int y (side (partner m) d).ints) e ∙ or_zero_r (side (partner m) d).ints

  read_alone : Settled d → Alone (Read m) d
  unfolding parts parts_three_to_seven effect was_read its_end keeps_lines
  read_alone h =
      let shows = read_shows (side m d).auto _ (side m d) in (
        fits_settles m d reader sender h (read_fits m d.arb.turn (side m d).auto _ (side m d)) (refl, refl, refl),
        same_owner m d reader sender,
        λ k. same_lines d reader sender m shows.0 shows.1 (unraised (empties (side m d)) (not_true _ k)) refl,
      )

-- ---- WRITE

-- a byte to CONTR that leaves the turn is not the owner's
not_owner : (m : Master) (request : Bool) (t : Turn) → leaves_turn m request t ≡ true → owns_turn m t ≡ false
not_owner m request Nobody l = refl
not_owner m request (Claims k g) l = refl
not_owner m request (Owns k g) l = not_true _ l

-- a byte to RT or CONTR, whose writer owns as the turn has it
rt_fits : (m : Master) (t : Turn) (v : ℕ) (s : Side) → Fits m t s (if owns_turn m t then s else with_rt v s)
rt_fits m Nobody v s = λ e. e
rt_fits m (Claims k g) v s = λ e. (λ q. q, λ q. q)
rt_fits m (Owns k g) v s = λ e. (ap (λ (b : Bool). (if b then s else with_rt v s).rt) e, ap (λ (b : Bool). (if b then s else with_rt v s).contr) e)

contr_fits : (m : Master) (t : Turn) (v : ℕ) (s : Side) → leaves_turn m (bit 0 v) t ≡ true
    → Fits m t s (if withdraws (owns_turn m t) v then disconnected (with_contr (control_of v) s) else with_contr (control_of v) s)
contr_fits m Nobody v s l = λ e. not_true _ l
contr_fits m (Claims k g) v s l =
    λ e. (λ q. sym (or-false (bit 0 v)) ∙ ap (λ (b : Bool). bit 0 v || not b) (sym e) ∙ l, λ q. q)
contr_fits m (Owns k g) v s l = λ e. absurd (false≢true (sym (not_true _ l) ∙ e))

own_fits : (p : Register) (m : Master) (v : ℕ) (d : Device) → write_is_light p m v d ≡ true
    → Fits m d.arb.turn (side m d) (own_written (owns m d) p v (side m d))
unfolding own_written
own_fits Id m v d l = fits_self m d.arb.turn (side m d)
own_fits Contr m v d l = contr_fits m d.arb.turn v (side m d) l
own_fits Status m v d l = alike_fits m d.arb.turn (side m d) _ (refl, refl, refl)
own_fits Rt m v d l = rt_fits m d.arb.turn v (side m d)
own_fits IntStatus m v d l = alike_fits m d.arb.turn (side m d) _ (refl, refl, refl)
own_fits IntMask m v d l = alike_fits m d.arb.turn (side m d) _ (refl, refl, refl)
own_fits MailLow m v d l = fits_self m d.arb.turn (side m d)
own_fits MailHigh m v d l = fits_self m d.arb.turn (side m d)

pub risen_alike : (auto : Bool) (p : Register) (s : Side) → Alike s (if auto then with_pointer p s else s)
risen_alike true p s = (refl, refl, refl)
risen_alike false p s = (refl, refl, refl)

-- the partner's box and its interrupt alone
mail_alike : (p : Register) (v : ℕ) (s : Side) → Alike s (mail_written p v s)
unfolding mail_written
mail_alike Id v s = (refl, refl, refl)
mail_alike Contr v s = (refl, refl, refl)
mail_alike Status v s = (refl, refl, refl)
mail_alike Rt v s = (refl, refl, refl)
mail_alike IntStatus v s = (refl, refl, refl)
mail_alike IntMask v s = (refl, refl, refl)
mail_alike MailLow v s = either (Alike s) s.mail.full (λ h. (refl, refl, refl)) (λ h. (refl, refl, refl))
mail_alike MailHigh v s = either (Alike s) s.mail.full (λ h. (refl, refl, refl)) (λ h. (refl, refl, refl))

drives_stay : (p : Register) (m : Master) (v : ℕ) (d : Device) → write_is_light p m v d ≡ true
    → drives_written (owns m d) (side m d).contr.busconnect p v d.bus ≡ d.bus
unfolding drives_written
drives_stay Id m v d l = refl
drives_stay Contr m v d l = ap (λ (g : Bool). if g && (bit 2 v || not (bit 0 v)) then released d.bus else d.bus) (not_owner m (bit 0 v) d.arb.turn l)
drives_stay Status m v d l =
    ap (λ (g : Bool). if g then with_drives (bit 6 v) (bit 7 v) d.bus else d.bus) (not_true (owns m d && not (side m d).contr.busconnect) l)
drives_stay Rt m v d l = refl
drives_stay IntStatus m v d l = refl
drives_stay IntMask m v d l = refl
drives_stay MailLow m v d l = refl
drives_stay MailHigh m v d l = refl

turn_stays : (p : Register) (m : Master) (v : ℕ) (d : Device) → write_is_light p m v d ≡ true → turn_written (owns m d) p v d.arb.turn ≡ d.arb.turn
unfolding turn_written
turn_stays Id m v d l = refl
turn_stays Contr m v d l = ap (λ (g : Bool). if g && not (bit 0 v) then Nobody else d.arb.turn) (not_owner m (bit 0 v) d.arb.turn l)
turn_stays Status m v d l = refl
turn_stays Rt m v d l = refl
turn_stays IntStatus m v d l = refl
turn_stays IntMask m v d l = refl
turn_stays MailLow m v d l = refl
turn_stays MailHigh m v d l = refl

module _ (m : Master) (v : ℕ) (d : Device) (l : write_is_light (side m d).pointer m v d ≡ true) where
  abbrev writer : Side
  writer = writer_side m v d

  abbrev addressee : Side
  addressee = partner_side m v d (side (partner m) d)

  -- only the two sides are other ones
  pub written_sides : written m v d ≡ device m writer addressee d.bus d.arb d
  unfolding written
  written_sides =
      ap₂ (λ (b : Bus) (t : Turn). device m writer addressee b (with_turn t d.arb) d) (drives_stay (side m d).pointer m v d l)
      (turn_stays (side m d).pointer m v d l)

  writer_fits : Fits m d.arb.turn (side m d) writer
  writer_fits =
      let own = own_written (owns m d) (side m d).pointer v (side m d) in
      fits_on m d.arb.turn (side m d) own writer (own_fits (side m d).pointer m v d l)
      (risen_alike own.auto (after_write (rolls d) own.pointer) own)

  write_alone : Settled d → Alone (Write m v) d
  unfolding parts parts_three_to_seven effect its_end keeps_lines
  write_alone h = (
    ap (λ (x : Device). parts_three_to_seven false NoClock (levels false d.bus x)) written_sides
        ∙ fits_settles m d writer addressee h writer_fits (mail_alike (side m d).pointer v (side (partner m) d))
        ∙ sym written_sides,
    ap owner_byte written_sides ∙ same_owner m d writer addressee,
    λ k. absurd (false≢true k),
  )

-- ---- PAIR

module _ (v0 v1 : ℕ) (d : Device) (l0 : write_is_light d.side0.pointer Zero v0 d ≡ true) (l1 : write_is_light d.side1.pointer One v1 d ≡ true) where
  abbrev pair0 : Side
  pair0 = partner_side One v1 d (writer_side Zero v0 d)

  abbrev pair1 : Side
  pair1 = partner_side Zero v0 d (writer_side One v1 d)

  -- only the two sides are other ones
  pub paired_sides : paired v0 v1 d ≡ device Zero pair0 pair1 d.bus d.arb d
  unfolding paired
  paired_sides =
      ap₂ (λ (b : Bus) (t : Turn). device Zero pair0 pair1 b (with_turn t d.arb) d)
      (ap (λ (b : Bus). written_bus One v1 d b) (drives_stay d.side0.pointer Zero v0 d l0) ∙ drives_stay d.side1.pointer One v1 d l1)
      (ap (λ (t : Turn). written_turn One v1 d t) (turn_stays d.side0.pointer Zero v0 d l0) ∙ turn_stays d.side1.pointer One v1 d l1)

  pair_alone : Settled d → Alone (Pair v0 v1) d
  unfolding parts parts_three_to_seven effect its_end keeps_lines
  pair_alone h = (
    ap (λ (x : Device). parts_three_to_seven false NoClock (levels false d.bus x)) paired_sides
        ∙ both_settle Zero d pair0 pair1 h
        (fits_on Zero d.arb.turn d.side0 (writer_side Zero v0 d) pair0 (writer_fits Zero v0 d l0)
        (mail_alike d.side1.pointer v1 (writer_side Zero v0 d)))
        (fits_on One d.arb.turn d.side1 (writer_side One v1 d) pair1 (writer_fits One v1 d l1) (mail_alike d.side0.pointer v0 (writer_side One v1 d)))
        ∙ sym paired_sides,
    ap owner_byte paired_sides ∙ same_owner Zero d pair0 pair1,
    λ k. absurd (false≢true k),
  )

-- ---- LINES

module _ (scl sda intin : Bool) (d : Device) where
  lines_alone : Settled d → ends_itself (Lines scl sda intin) d ≡ true → Alone (Lines scl sda intin) d
  unfolding parts parts_three_to_seven effect lined levels its_end keeps_lines ends_itself owner_byte
  lines_alone h l =
      let fell : Bool = d.bus.intin && not intin in (
        lined_settles d (int_in_fallen fell d.side0) (int_in_fallen fell d.side1) (lined_bus scl sda intin d.bus) h (refl, refl, refl) (refl, refl, refl)
            refl l,
        refl,
        λ k. absurd (false≢true k),
      )

-- ---- all of them

none : (e : Event) (d : Device) → ends_itself e d ≡ false → ends_itself e d ≡ true → Alone e d
none e d f t = absurd (false≢true (sym f ∙ t))

pub ends_itself_lem : EndsItself
unfolding ends_itself
ends_itself_lem (Command m c) d h l = command_alone m c d h
ends_itself_lem (Write m v) d h l = write_alone m v d l h
ends_itself_lem (Read m) d h l = read_alone m d h
ends_itself_lem (Stop m) d h l = stop_alone m d h l
ends_itself_lem (Lines scl sda intin) d h l = lines_alone scl sda intin d h l
ends_itself_lem (Pair v0 v1) d h l =
    let both = (and-eq-true_iff (write_is_light d.side0.pointer Zero v0 d) (write_is_light d.side1.pointer One v1 d)).0 l in
    pair_alone v0 v1 d both.0 both.1 h
ends_itself_lem Tick d h l = none Tick d refl l
ends_itself_lem (Pulse sda) d h l = none (Pulse sda) d refl l
ends_itself_lem Reset d h l = none Reset d refl l
ends_itself_lem (GeneralCall m b) d h l = none (GeneralCall m b) d refl l
