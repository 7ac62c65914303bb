-- The bits "granted" and "lost" of INT_STATUS through the seven parts of a step: part 1 sets neither, part 3 sets the one at a loss, part 6 the
-- other at a grant.
-- Assumes nothing.
use Prim.Native.Nat.{◌-◌, ◌%◌}
use mathlib.Core.Path.{◌≡◌, refl, sym, ap, ◌∙◌}
use mathlib.Core.Bool.{or-false, and-true, and-false}
use Rattle.std.specs.Prelude.{◌&&◌, ◌||◌, if◌then◌else◌}
use Rattle.ranges.specs.Names.{ℕ, Bool, true, false, not, Master, Zero, One, Ground, Turn, Nobody, Claims, Owns, Rest, Register, Id, Contr, Status}
use Rattle.ranges.specs.Names.{Rt, IntStatus, IntMask, MailLow, MailHigh, Side, Switch, Clock, Device, Event, Command, Write, Read, Stop, Pair, Lines, Tick}
use Rattle.ranges.specs.Names.{Pulse, Reset, GeneralCall}
use Rattle.arbiter.specs.Rules.{rolls}
use Rattle.arbiter.specs.Words.{bit, partner, same_master, side}
use Rattle.arbiter.specs.Parts.{with_port}
use Rattle.arbiter.specs.State.{owns_turn, owns}
use Rattle.arbiter.specs.Registers.{mail_full_int, mail_emptied_int, test_int, granted_int, lost_int, int_in_int, withdraws, own_written, mail_written}
use Rattle.arbiter.specs.Events.{good_command, soft_reset}
use Rattle.arbiter.specs.Effects.{commanded, write_risen, writer_side, reader_side, sender_side, empties, written, paired, was_read, lined, ticked, fresh_side}
use Rattle.arbiter.specs.Effects.{was_reset, hold_asked, effect}
use Rattle.arbiter.specs.Order.{is_tick, clock_of, levels, lost, losses_from, losses, cut_from, cut, claim, granted, grant_from, grant, connect}
use Rattle.arbiter.specs.Steps.{parts}
use Rattle.arbiter.proofs.Choice.{either, of_either}
use Rattle.arbiter.proofs.Cases.{cut_cases, joined_by, init_ended, connect_cases}
use Rattle.arbiter.proofs.Owner.{mid, expired}
use Rattle.recovery.proofs.Flags.{Flag, raised_told, other}
use Rattle.recovery.proofs.Turns.{loses, free, given, gets}

-- ---- what parts 4 and 7 leave

abbrev both_ints : Device → ℕ × ℕ
both_ints d = (d.side0.ints, d.side1.ints)

abbrev Untold : Device → Device → Type 0
Untold d n = both_ints n ≡ both_ints d

cut_ints : (on : Bool) (t : Turn) (d : Device) → Untold d (cut_from on t d)
unfolding cut_from
cut_ints on Nobody d = refl
cut_ints on (Claims m g) d = refl
cut_ints on (Owns Zero g) d = cut_cases (Untold d) on Zero g d refl refl
cut_ints on (Owns One g) d = cut_cases (Untold d) on One g d refl refl

connect_ints : (c : Clock) (d : Device) → Untold d (connect c d)
connect_ints c d = connect_cases (Untold d) d (λ w fail. refl) ended c
  where
    ended : (m : Master) (on : Bool) (w : Switch) (fail : Bool) → ((side m d).contr.busconnect ≡ false → on ≡ false)
        → Untold d (joined_by w fail (init_ended m on d))
    ended Zero on w fail h = refl
    ended One on w fail h = refl

side_ints : (m : Master) (n d : Device) → Untold d n → (side m n).ints ≡ (side m d).ints
side_ints Zero n d e = ap (λ x. x.0) e
side_ints One n d e = ap (λ x. x.1) e

module _ (f : ℕ → Bool) (l : Flag f) where
  -- ---- part 1 does not set it

  abbrev Quiet : Side → Side → Type 0
  Quiet s n = f s.ints ≡ false → f n.ints ≡ false

  mail_quiet : (r : Register) (v : ℕ) (s : Side) → Quiet s (mail_written r v s)
  unfolding mail_written
  mail_quiet Id v s = λ h. h
  mail_quiet Contr v s = λ h. h
  mail_quiet Status v s = λ h. h
  mail_quiet Rt v s = λ h. h
  mail_quiet IntStatus v s = λ h. h
  mail_quiet IntMask v s = λ h. h
  mail_quiet MailLow v s = either (Quiet s) s.mail.full (λ x h. h) (λ x h. h)
  mail_quiet MailHigh v s = either (Quiet s) s.mail.full (λ x h. h) (λ x h. other f l mail_full_int true s.ints l.full ∙ h)

  own_quiet : (g : Bool) (r : Register) (v : ℕ) (s : Side) → Quiet s (own_written g r v s)
  unfolding own_written
  own_quiet g Id v s = λ h. h
  own_quiet g Contr v s = either (Quiet s) (withdraws g v) (λ x h. h) (λ x h. h)
  own_quiet g Status v s = λ h. other f l test_int (bit 5 v) s.ints l.test ∙ h
  own_quiet g Rt v s = either (Quiet s) g (λ x h. h) (λ x h. h)
  own_quiet g IntStatus v s = λ h. l.and s.ints (0x3F - v % 64) ∙ ap (λ (b : Bool). b && f (0x3F - v % 64)) h
  own_quiet g IntMask v s = λ h. h
  own_quiet g MailLow v s = λ h. h
  own_quiet g MailHigh v s = λ h. h

  risen_ints : (rolls : Bool) (s : Side) → (write_risen rolls s).ints ≡ s.ints
  risen_ints rolls s = either (λ (x : Side). x.ints ≡ s.ints) s.auto (λ h. refl) (λ h. refl)

  writer_quiet : (rolls g : Bool) (v : ℕ) (s : Side) → Quiet s (write_risen rolls (own_written g s.pointer v s))
  writer_quiet rolls g v s h = ap f (risen_ints rolls (own_written g s.pointer v s)) ∙ own_quiet g s.pointer v s h

  commanded_ints : (c : ℕ) (s : Side) → (commanded c s).ints ≡ s.ints
  unfolding commanded
  commanded_ints c s = either (λ (x : Side). x.ints ≡ s.ints) (good_command c) (λ h. refl) (λ h. refl)

  read_ints : (s : Side) → (reader_side s).ints ≡ s.ints
  read_ints s = either (λ (x : Side). x.ints ≡ s.ints) s.auto (λ h. refl) (λ h. refl)

  reset_quiet : (m : Master) (hold : ℕ) (d : Device) → f (side m (was_reset hold d)).ints ≡ false
  unfolding was_reset fresh_side
  reset_quiet Zero hold d = l.none
  reset_quiet One hold d = l.none

  pub effect_quiet : (m : Master) (e : Event) (d : Device) → Quiet (side m d) (side m (effect e d))
  unfolding effect written paired was_read lined ticked
  effect_quiet m (Command k c) d =
      of_either (λ (j : Master) (same : Bool) (x y : Side). Quiet x y) m k d
      (commanded c (side k d)) (side (partner k) d) (λ h. ap f (commanded_ints c (side k d)) ∙ h) (λ h. h)
  effect_quiet m (Write k v) d =
      of_either (λ (j : Master) (same : Bool) (x y : Side). Quiet x y) m k d
      (write_risen (rolls d) (own_written (owns k d) (side k d).pointer v (side k d))) (mail_written (side k d).pointer v (side (partner k) d))
      (writer_quiet (rolls d) (owns k d) v (side k d)) (mail_quiet (side k d).pointer v (side (partner k) d))
  effect_quiet m (Read k) d =
      of_either (λ (j : Master) (same : Bool) (x y : Side). Quiet x y) m k d
      (reader_side (side k d)) (sender_side (empties (side k d)) (side (partner k) d)) (λ h. ap f (read_ints (side k d)) ∙ h)
      (λ h. other f l mail_emptied_int (empties (side k d)) (side (partner k) d).ints l.emptied ∙ h)
  effect_quiet m (Stop k) d =
      of_either (λ (j : Master) (same : Bool) (x y : Side). Quiet x y) m k d
      (with_port Rest (side k d)) (side (partner k) d) (λ h. h) (λ h. h)
  effect_quiet Zero (Pair v0 v1) d = λ h.
      mail_quiet d.side1.pointer v1 (writer_side Zero v0 d) (writer_quiet (rolls d) (owns Zero d) v0 d.side0 h)
  effect_quiet One (Pair v0 v1) d = λ h.
      mail_quiet d.side0.pointer v0 (writer_side One v1 d) (writer_quiet (rolls d) (owns One d) v1 d.side1 h)
  effect_quiet Zero (Lines scl sda intin) d = λ h. other f l int_in_int (d.bus.intin && not intin) d.side0.ints l.intin ∙ h
  effect_quiet One (Lines scl sda intin) d = λ h. other f l int_in_int (d.bus.intin && not intin) d.side1.ints l.intin ∙ h
  effect_quiet m Tick d = λ h. h
  effect_quiet m (Pulse sda) d = λ h. h
  effect_quiet m Reset d = λ h. reset_quiet m 0 d
  effect_quiet m (GeneralCall k b) d =
      either (λ (n : Device). Quiet (side m d) (side m n)) (soft_reset b) (λ r h. reset_quiet m (hold_asked (side k d)) d) (λ r h. h)

  -- ---- parts 3 to 7

  -- nothing is told
  nothing : (m : Master) (d : Device) (this : ℕ) → f (side m d).ints ≡ f (side m d).ints || f this && false
  nothing m d this = sym (ap (λ (b : Bool). f (side m d).ints || b) (and-false (f this)) ∙ or-false (f (side m d).ints))

  -- part 3 sets "lost" of an owner that it finds to lose
  lost_told : (m k : Master) (d : Device) → f (side m (lost k d)).ints ≡ f (side m d).ints || f lost_int && same_master m k
  unfolding lost
  lost_told Zero Zero d = raised_told f l lost_int true d.side0.ints
  lost_told Zero One d = nothing Zero d lost_int
  lost_told One Zero d = nothing One d lost_int
  lost_told One One d = raised_told f l lost_int true d.side1.ints

  losses_told : (m : Master) (t : Turn) (d : Device)
      → f (side m (losses_from t d)).ints ≡ f (side m d).ints || f lost_int && (owns_turn m t && expired m d)
  unfolding losses_from
  losses_told m Nobody d = nothing m d lost_int
  losses_told m (Claims k g) d = nothing m d lost_int
  losses_told m (Owns k g) d = go (expired k d) refl
    where
      -- where m is the owner, what is asked of the owner is asked of m
      asked : (m k : Master) → same_master m k && expired k d ≡ same_master m k && expired m d
      asked Zero Zero = refl
      asked Zero One = refl
      asked One Zero = refl
      asked One One = refl

      go : (x : Bool) → expired k d ≡ x
          → f (side m (if x then lost k d else d)).ints ≡ f (side m d).ints || f lost_int && (same_master m k && expired m d)
      go true x =
          lost_told m k d
          ∙ ap (λ (b : Bool). f (side m d).ints || f lost_int && b)
          (sym (and-true (same_master m k)) ∙ ap (λ (b : Bool). same_master m k && b) (sym x) ∙ asked m k)
      go false x =
          nothing m d lost_int
          ∙ ap (λ (b : Bool). f (side m d).ints || f lost_int && b)
          (sym (and-false (same_master m k)) ∙ ap (λ (b : Bool). same_master m k && b) (sym x) ∙ asked m k)

  -- part 6 sets "granted" of a claimant that it grants
  granted_told : (m k : Master) (g : Ground) (d : Device) → f (side m (granted k g d)).ints ≡ f (side m d).ints || f granted_int && same_master m k
  unfolding granted
  granted_told Zero Zero g d = raised_told f l granted_int true d.side0.ints
  granted_told Zero One g d = nothing Zero d granted_int
  granted_told One Zero g d = nothing One d granted_int
  granted_told One One g d = raised_told f l granted_int true d.side1.ints

  grant_told : (m : Master) (t : Turn) (d : Device) → f (side m (grant_from t d)).ints ≡ f (side m d).ints || f granted_int && given m t d
  unfolding grant_from
  grant_told m Nobody d = nothing m d granted_int
  grant_told m (Claims k g) d =
      let told : Bool → Bool = λ (b : Bool). f (side m d).ints || f granted_int && b in
      let mine : Bool → Bool = λ (b : Bool). same_master m k && b in
      either (λ (n : Device). f (side m n).ints ≡ told (mine (free k d))) (free k d)
      (λ h. granted_told m k g d ∙ ap told (sym (and-true (same_master m k)) ∙ ap mine (sym h)))
      (λ h. nothing m d granted_int ∙ ap told (sym (and-false (same_master m k)) ∙ ap mine (sym h)))
  grant_told m (Owns k g) d = nothing m d granted_int

  -- all of them
  pub parts_told : (m : Master) (e : Event) (d : Device)
      → f (side m (parts e d)).ints ≡ (f (side m (effect e d)).ints || f lost_int && loses m e d) || f granted_int && gets m e d
  unfolding parts levels losses cut claim grant
  parts_told m e d =
      let x : Device = mid e d in
      let y : Device = losses x in
      let z : Device = claim (cut (is_tick e) y) in
      ap f (side_ints m (connect (clock_of e) (grant z)) (grant z) (connect_ints (clock_of e) (grant z)))
      ∙ grant_told m z.arb.turn z
      ∙ ap (λ (b : Bool). b || f granted_int && gets m e d)
      (ap f (side_ints m (cut (is_tick e) y) y (cut_ints (is_tick e) y.arb.turn y)) ∙ losses_told m x.arb.turn x)
