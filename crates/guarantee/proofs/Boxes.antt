-- The boxes in CONTR stand until the next byte there, and what becomes of a holder without a reserve by that byte.
-- Assumes nothing.
use Prim.Native.Nat.{ℕ, zero, suc, ◌-◌}
use mathlib.Core.Path.{◌≡◌, refl, ap, ◌∙◌}
use mathlib.Core.Bool.{Bool, true, false, ◌&&◌}
use Rattle.arbiter.specs.Rules.{rules_of, limit_of}
use Rattle.arbiter.specs.Words.{bit, partner, of}
use Rattle.arbiter.specs.State.{owns}
use Rattle.arbiter.specs.Registers.{own_written, mail_written, drives_written, turn_written}
use Rattle.arbiter.specs.Events.{decode, in_sequence, acknowledged, outcome}
use Rattle.arbiter.specs.Effects.{commanded, written, counted_to, ticked, effect}
use Rattle.arbiter.specs.Order.{levels, lost, losses_from, losses, cut_from, cut, claim, granted, grant_from, grant, joined, kept_joined, connect_from}
use Rattle.arbiter.specs.Order.{connect}
use Rattle.arbiter.specs.Steps.{parts, taken, step_event, step_decoded, step, run_from, run}
use Rattle.arbiter.specs.AuditWords.{next, requests, never, throughout}
use Rattle.arbiter.specs.Marks.{tick, times}
use Rattle.arbiter.specs.Witnesses.{sets_contr}
use Rattle.arbiter.specs.declared.Master.{Master}
use Rattle.arbiter.specs.declared.Master.TheVariants.{Zero, One}
use Rattle.arbiter.specs.declared.Kind.{Kind}
use Rattle.arbiter.specs.declared.Kind.TheVariants.{Pca9641, Tpt29641}
use Rattle.arbiter.specs.declared.Ground.TheVariants.{Sole}
use Rattle.arbiter.specs.declared.Turn.TheVariants.{Owns}
use Rattle.std.specs.Prelude.{Some}
use Rattle.arbiter.specs.declared.Port.TheVariants.{Rest}
use Rattle.arbiter.specs.declared.Register.TheVariants.{Contr}
use Rattle.arbiter.specs.declared.Switch.TheVariants.{Closed}
use Rattle.arbiter.specs.declared.Side.{Side}
use Rattle.arbiter.specs.declared.Bus.{Bus}
use Rattle.arbiter.specs.declared.Device.{Device}
use Rattle.audit.specs.SettingsKept.{bits_of}
use Rattle.sheets.specs.declared.Setting.{Setting}
use Rattle.sheets.specs.declared.Order.{Order}
use Rattle.sheets.specs.Settings.{control_byte, order_events}
use Rattle.sheets.specs.Started.{setting}
use Rattle.guarantee.specs.Guarantee.{reserve_in}
use Rattle.guarantee.specs.Boxes.{setting_in, BoxesOverwritten, keeping_byte, BoxesKept, connects_with, IdleBoxDropped, IdleBoxKept}
use Rattle.arbiter.proofs.Runs.{from_append}
use Rattle.audit.proofs.SettingsKept.{bits_written, bits_kept_throughout}
use Rattle.sheets.proofs.Started.{table, at_each}
use Rattle.guarantee.proofs.Devices.{side_with, starts, again, holding, Came, came, holds_again}

-- ---- the boxes

start_bits : (k : Kind) (o : Order) (m : Master) → bits_of m (run k (order_events o)) ≡ ((setting_in m o).priority, false, (setting_in m o).idle, false)
start_bits k o Zero = ap (bits_of Zero) (starts k o)
start_bits k o One = ap (bits_of One) (starts k o)

pub boxes_overwritten : BoxesOverwritten
boxes_overwritten k o m later nr nw =
    let start : Device = run k (order_events o) in
    (bits_kept_throughout m start later nr nw ∙ start_bits k o m, λ r v h. bits_written m (run_from start later) r v h)

-- the four bits of a byte
abbrev Bits : Type 0
Bits = Bool × Bool × Bool × Bool

abbrev bits_in : ℕ → Bits
bits_in v = (bit 7 v, bit 6 v, bit 5 v, bit 4 v)

abbrev kept : Bool → Bool → Bits
kept p i = (p, false, i, false)

keeping_table : (r : ℕ) → table (λ (p i : Bool). bits_in (keeping_byte (setting r p i))) ≡ table kept
unfolding control_byte
keeping_table r = refl

pub boxes_kept : BoxesKept
boxes_kept m s r d h =
    bits_written m d r (keeping_byte s) h
    ∙ at_each (λ (p i : Bool). bits_in (keeping_byte (setting s.reserve p i))) kept (keeping_table s.reserve) s.priority s.idle

-- ---- what it comes to

connects : (k : Kind) (o : Order) (m : Master) (v : ℕ) → reserve_in m o ≡ 0
    → connects_with k o m v ≡ run_from (holding m k o.master0 o.master1) (sets_contr m v)
connects k o m v none =
    from_append (again m) (sets_contr m v) (run k (order_events o))
    ∙ ap (λ (x : Device). run_from x (sets_contr m v)) (ap (λ (c : Came). c.0) (holds_again k o m none))

-- a master that has connected, with its idle timer on or off
abbrev connected_side : Bool → ℕ → Side
connected_side idle ints =
    record {
      pointer = Contr;
      rt = 0;
      contr = record { priority = false; smbusdis = false; idletimer = idle; swrst = false; businit = false; busconnect = true; lockreq = true };
      ints = ints;
      mail = record { low = 0; high = 0; full = false };
      auto = false;
      port = Rest;
      mask = 0x7F;
    }

-- m has connected so; its partner waits, with such a reserve, and so many idle ticks are counted
abbrev connected_to : Master → Bool → Kind → ℕ → ℕ → ℕ → Device
connected_to m idle k rt ints count =
    let bus : Bus = record {
      outscl = true;
      outsda = true;
      intin = true;
      drivescl = true;
      drivesda = true;
      busy = false;
      hold = 0;
      idle = count;
      lowscl = 0;
      lowsda = 0;
    } in
    record {
      side0 = of m (connected_side idle 0x04) (side_with rt false false true ints);
      side1 = of m (side_with rt false false true ints) (connected_side idle 0x04);
      bus = bus;
      arb = record { last = Some m; initfail = false; switch = Closed m; reserve = 0; turn = Owns m Sole };
      kind = k;
    }

-- the partner's reserve and interrupts, as `holding` has them
abbrev reserve_beside : Master → Setting → Setting → ℕ
reserve_beside m s t = of m t.reserve s.reserve

abbrev ints_beside : Master → ℕ
ints_beside m = of m 0 0x04

-- the byte 05h or 25h, from a holder whose timer was on or off
connected_05 : (m : Master) (k : Kind) (s t : Setting) (i : Bool) → let s' : Setting = record { reserve = s.reserve; priority = s.priority; idle = i } in
    let t' : Setting = record { reserve = t.reserve; priority = t.priority; idle = i } in
    came m (sets_contr m 0x05) (holding m k s' t') ≡ (connected_to m false k (reserve_beside m s t) (ints_beside m) 0, true, true)
unfolding rules_of own_written mail_written drives_written turn_written decode in_sequence acknowledged outcome commanded written effect
    levels losses_from losses cut_from cut claim grant_from grant joined kept_joined connect_from connect parts taken step_event step_decoded step run_from
    never
connected_05 Zero Pca9641 s t true = refl
connected_05 Zero Pca9641 s t false = refl
connected_05 Zero Tpt29641 s t true = refl
connected_05 Zero Tpt29641 s t false = refl
connected_05 One Pca9641 s t true = refl
connected_05 One Pca9641 s t false = refl
connected_05 One Tpt29641 s t true = refl
connected_05 One Tpt29641 s t false = refl

connected_25 : (m : Master) (k : Kind) (s t : Setting) (i : Bool) → let s' : Setting = record { reserve = s.reserve; priority = s.priority; idle = i } in
    let t' : Setting = record { reserve = t.reserve; priority = t.priority; idle = i } in
    run_from (holding m k s' t') (sets_contr m 0x25) ≡ connected_to m true k (reserve_beside m s t) (ints_beside m) 0
unfolding rules_of own_written mail_written drives_written turn_written decode in_sequence acknowledged outcome commanded written effect
    levels losses_from losses cut_from cut claim grant_from grant joined kept_joined connect_from connect parts taken step_event step_decoded step run_from
connected_25 Zero Pca9641 s t true = refl
connected_25 Zero Pca9641 s t false = refl
connected_25 Zero Tpt29641 s t true = refl
connected_25 Zero Tpt29641 s t false = refl
connected_25 One Pca9641 s t true = refl
connected_25 One Pca9641 s t false = refl
connected_25 One Tpt29641 s t true = refl
connected_25 One Tpt29641 s t false = refl

-- ---- with the timer off

-- a tick counts, up to the limit, and changes nothing else
untimed_tick : (m : Master) (k : Kind) (rt ints count : ℕ)
    → next (connected_to m false k rt ints count) tick ≡ connected_to m false k rt ints (counted_to (limit_of k) true count)
unfolding decode in_sequence acknowledged outcome ticked effect
    levels losses_from losses cut_from cut claim grant_from grant kept_joined connect_from connect parts taken step_event step_decoded step
untimed_tick Zero k rt ints count = refl
untimed_tick One k rt ints count = refl

untimed_ticks : (m : Master) (k : Kind) (rt ints count n : ℕ)
    → throughout (λ (x : Device). owns m x && requests (partner m) x) (connected_to m false k rt ints count) (times n tick) ≡ true
unfolding throughout
untimed_ticks Zero k rt ints count zero = refl
untimed_ticks One k rt ints count zero = refl
untimed_ticks Zero k rt ints count (suc n) =
    ap (λ (x : Device). throughout (λ (y : Device). owns Zero y && requests One y) x (times n tick)) (untimed_tick Zero k rt ints count)
    ∙ untimed_ticks Zero k rt ints (counted_to (limit_of k) true count) n
untimed_ticks One k rt ints count (suc n) =
    ap (λ (x : Device). throughout (λ (y : Device). owns One y && requests Zero y) x (times n tick)) (untimed_tick One k rt ints count)
    ∙ untimed_ticks One k rt ints (counted_to (limit_of k) true count) n

-- the idle setting of the holder is that of the order for it
pub connects_05 : (m : Master) (k : Kind) (s t : Setting)
    → came m (sets_contr m 0x05) (holding m k s t) ≡ (connected_to m false k (reserve_beside m s t) (ints_beside m) 0, true, true)
connects_05 Zero k s t = connected_05 Zero k s t s.idle
connects_05 One k s t = connected_05 One k s t t.idle

connects_25 : (m : Master) (k : Kind) (s t : Setting) → run_from (holding m k s t) (sets_contr m 0x25)
    ≡ connected_to m true k (reserve_beside m s t) (ints_beside m) 0
connects_25 Zero k s t = connected_25 Zero k s t s.idle
connects_25 One k s t = connected_25 One k s t t.idle

pub idle_box_dropped : IdleBoxDropped
idle_box_dropped k o m n none =
    ap (λ (x : Device). throughout (λ (y : Device). owns m y && requests (partner m) y) x (times n tick))
    (connects k o m 0x05 none ∙ ap (λ (c : Came). c.0) (connects_05 m k o.master0 o.master1))
    ∙ untimed_ticks m k (reserve_beside m o.master0 o.master1) (ints_beside m) 0 n

-- ---- with the timer on: computed

timed_ticks : (m : Master) (k : Kind) (rt : ℕ) → let d : Device = connected_to m true k rt (ints_beside m) 0 in
    (owns (partner m) (run_from d (times (limit_of k) tick)) ≡ true) × (owns m (run_from d (times (limit_of k - 1) tick)) ≡ true)
unfolding rules_of decode in_sequence acknowledged outcome ticked effect
    levels lost losses_from losses cut_from cut claim granted grant_from grant kept_joined connect_from connect parts taken step_event step_decoded step
    run_from
timed_ticks Zero Pca9641 rt = (refl, refl)
timed_ticks Zero Tpt29641 rt = (refl, refl)
timed_ticks One Pca9641 rt = (refl, refl)
timed_ticks One Tpt29641 rt = (refl, refl)

pub idle_box_kept : IdleBoxKept
idle_box_kept k o m none =
    let at : connects_with k o m 0x25 ≡ connected_to m true k (reserve_beside m o.master0 o.master1) (ints_beside m) 0 =
    connects k o m 0x25 none ∙ connects_25 m k o.master0 o.master1 in
    let both = timed_ticks m k (reserve_beside m o.master0 o.master1) in (
      ap (λ (x : Device). owns (partner m) (run_from x (times (limit_of k) tick))) at ∙ both.0,
      ap (λ (x : Device). owns m (run_from x (times (limit_of k - 1) tick))) at ∙ both.1,
    )
