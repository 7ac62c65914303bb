-- What a silent master does not do, and what it keeps: its port, its request and its settings.
-- Assumes nothing.
use mathlib.Core.Path.{◌≡◌, refl, sym, ap, ap₂, ◌∙◌}
use mathlib.Core.Bool.{true≢false, false≢true, and-eq-true_iff}
use Rattle.std.specs.Prelude.{◌&&◌, ◌∷◌}
use Rattle.ranges.specs.Names.{Bool, true, false, not, List, [], Master, Zero, One, Rest, Register, Side, Device, Raw, Event, Command, Write}
use Rattle.ranges.specs.Names.{Read, Stop, Pair, Lines, Tick, Pulse, Reset, GeneralCall}
use Rattle.arbiter.specs.Rules.{rolls}
use Rattle.arbiter.specs.Words.{partner, same_master, side}
use Rattle.arbiter.specs.Parts.{with_port}
use Rattle.arbiter.specs.State.{owns}
use Rattle.arbiter.specs.Registers.{own_written, mail_written}
use Rattle.arbiter.specs.Events.{soft_reset}
use Rattle.arbiter.specs.Effects.{commanded, write_risen, reader_side, sender_side, empties, written, paired, was_read, lined, ticked, effect}
use Rattle.arbiter.specs.Order.{is_reset}
use Rattle.arbiter.specs.AuditWords.{next, reserve_of, idle_timer_on, is_contr, lets_go, is_stop_of, accepted, reset, never}
use Rattle.audit.specs.SettingsKept.{is_rt, writes_at, stores}
use Rattle.recovery.specs.Crash.{is_of, sent_by}
use Rattle.arbiter.proofs.Choice.{either, split, of_either}
use Rattle.arbiter.proofs.Runs.{never_comes}
use Rattle.arbiter.proofs.Effects.{kept, mail_kept}
use Rattle.arbiter.proofs.Raws.{refuses, takes, met}
use Rattle.audit.proofs.SettingsKept.{rt_kept, bits_kept}

-- ---- what a silent master does not do

-- Whatever holds only of events of m's holds of none that is not.
module _ (m : Master) (such : Event → Device → Bool) (own : (e : Event) (d : Device) → such e d ≡ true → is_of m e ≡ true) where
  pub not_sent : (r : Raw) (d : Device) → sent_by m r d ≡ false → accepted such r d ≡ false
  not_sent r d h =
      elim (met r d) [
        | refuses x ↦ x.none such
        | takes e x ↦
            (x.same such
            ∙ split (such e d) (λ y. absurd (true≢false (sym (x.same (λ f y. is_of m f) ∙ own e d y) ∙ h))) (λ y. y))
      ]

  pub never_sent : (rs : List Raw) (d : Device) → never (sent_by m) d rs ≡ true → never (accepted such) d rs ≡ true
  unfolding never
  never_sent [] d h = refl
  never_sent (r ∷ rs) d h =
      let c = never_comes (sent_by m) r rs d h in
      ap₂ (λ (a b : Bool). not a && b) (not_sent r d c.0) (never_sent rs (next d r) c.1)

pub own_lets_go : (m : Master) (e : Event) (d : Device) → lets_go m e d ≡ true → is_of m e ≡ true
own_lets_go m (Command k c) d h = absurd (false≢true h)
own_lets_go m (Write k v) d h = ((and-eq-true_iff (same_master m k) _).0 h).0
own_lets_go m (Read k) d h = absurd (false≢true h)
own_lets_go m (Stop k) d h = absurd (false≢true h)
own_lets_go m (Pair v0 v1) d h = refl
own_lets_go m (Lines scl sda intin) d h = absurd (false≢true h)
own_lets_go m Tick d h = absurd (false≢true h)
own_lets_go m (Pulse sda) d h = absurd (false≢true h)
own_lets_go m Reset d h = absurd (false≢true h)
own_lets_go m (GeneralCall k b) d h = absurd (false≢true h)

own_writes : (reg : Register → Bool) (m : Master) (e : Event) (d : Device) → writes_at reg m e d ≡ true → is_of m e ≡ true
own_writes reg m (Command k c) d h = absurd (false≢true h)
own_writes reg m (Write k v) d h = ((and-eq-true_iff (same_master m k) (reg (side m d).pointer)).0 h).0
own_writes reg m (Read k) d h = absurd (false≢true h)
own_writes reg m (Stop k) d h = absurd (false≢true h)
own_writes reg m (Pair v0 v1) d h = refl
own_writes reg m (Lines scl sda intin) d h = absurd (false≢true h)
own_writes reg m Tick d h = absurd (false≢true h)
own_writes reg m (Pulse sda) d h = absurd (false≢true h)
own_writes reg m Reset d h = absurd (false≢true h)
own_writes reg m (GeneralCall k b) d h = absurd (false≢true h)

pub own_stores : (m : Master) (e : Event) (d : Device) → stores m e d ≡ true → is_of m e ≡ true
own_stores m e d h = own_writes is_rt m e d ((and-eq-true_iff (writes_at is_rt m e d) (not (owns m d))).0 h).0

pub own_stop : (m : Master) (e : Event) (d : Device) → is_stop_of m e ≡ true → is_of m e ≡ true
own_stop m (Command k c) d h = absurd (false≢true h)
own_stop m (Write k v) d h = absurd (false≢true h)
own_stop m (Read k) d h = absurd (false≢true h)
own_stop m (Stop k) d h = h
own_stop m (Pair v0 v1) d h = refl
own_stop m (Lines scl sda intin) d h = absurd (false≢true h)
own_stop m Tick d h = absurd (false≢true h)
own_stop m (Pulse sda) d h = absurd (false≢true h)
own_stop m Reset d h = absurd (false≢true h)
own_stop m (GeneralCall k b) d h = absurd (false≢true h)

-- ---- an event that is not m's leaves m's side

pub silent_kept : (m : Master) (e : Event) (d : Device) → is_reset e ≡ false → is_of m e ≡ false → kept (side m (effect e d)) ≡ kept (side m d)
unfolding effect written paired was_read lined ticked
silent_kept m (Command k c) d ok s =
    of_either (λ (j : Master) (same : Bool) (x y : Side). same ≡ false → kept y ≡ kept x) m k d (commanded c (side k d)) (side (partner k) d)
    (λ f. absurd (true≢false f)) (λ f. refl) s
silent_kept m (Write k v) d ok s =
    of_either (λ (j : Master) (same : Bool) (x y : Side). same ≡ false → kept y ≡ kept x) m k d
    (write_risen (rolls d) (own_written (owns k d) (side k d).pointer v (side k d))) (mail_written (side k d).pointer v (side (partner k) d))
    (λ f. absurd (true≢false f)) (λ f. mail_kept (side k d).pointer v (side (partner k) d)) s
silent_kept m (Read k) d ok s =
    of_either (λ (j : Master) (same : Bool) (x y : Side). same ≡ false → kept y ≡ kept x) m k d
    (reader_side (side k d)) (sender_side (empties (side k d)) (side (partner k) d)) (λ f. absurd (true≢false f)) (λ f. refl) s
silent_kept m (Stop k) d ok s =
    of_either (λ (j : Master) (same : Bool) (x y : Side). same ≡ false → kept y ≡ kept x) m k d
    (with_port Rest (side k d)) (side (partner k) d) (λ f. absurd (true≢false f)) (λ f. refl) s
silent_kept m (Pair v0 v1) d ok s = absurd (true≢false s)
silent_kept Zero (Lines scl sda intin) d ok s = refl
silent_kept One (Lines scl sda intin) d ok s = refl
silent_kept m Tick d ok s = refl
silent_kept m (Pulse sda) d ok s = refl
silent_kept m Reset d ok s = absurd (true≢false ok)
silent_kept m (GeneralCall k b) d ok s =
    either (λ (n : Device). kept (side m n) ≡ kept (side m d)) (soft_reset b) (λ r. absurd (true≢false (sym r ∙ ok))) (λ r. refl)

-- ---- its settings

module _ (m : Master) (r : Raw) (d : Device) (ok : reset r d ≡ false) (silent : sent_by m r d ≡ false) where
  pub rt_on : reserve_of m (next d r) ≡ reserve_of m d
  rt_on = rt_kept m d r ok (not_sent m (stores m) (own_stores m) r d silent)

  pub timer_on : idle_timer_on m (next d r) ≡ idle_timer_on m d
  timer_on = ap (λ b. b.2) (bits_kept m d r ok (not_sent m (writes_at is_contr m) (own_writes is_contr m) r d silent))
