-- Four bytes as a device meets them: refused, with nothing changed, or taken as an event with its seven parts.
-- Assumes nothing.
use mathlib.Core.Path.{◌≡◌, refl, sym, ap, ◌∙◌, subst}
use mathlib.Core.Bool.{false≢true}
use Rattle.std.specs.Prelude.{◌&&◌, if◌then◌else◌}
use Rattle.arbiter.specs.Types.{Bool, true, false, Device, Raw, Event, Command, Write, Read, Stop, Pair, Lines, Tick, Pulse, Reset, GeneralCall}
use Rattle.arbiter.specs.Types.{Stepped, Result, Event, Unread, Ok}
use Rattle.arbiter.specs.Events.{decode, in_sequence}
use Rattle.arbiter.specs.Order.{is_reset, is_tick}
use Rattle.arbiter.specs.Steps.{parts, refused, taken, step_event, step_decoded, step}
use Rattle.arbiter.specs.AuditWords.{next, accepted_as, accepted, reset, tick, levelled_by, levelled}
use Rattle.arbiter.proofs.Choice.{if_true}
use Rattle.arbiter.proofs.Cases.{step_cases}
use Rattle.arbiter.proofs.Owner.{mid}

-- r is refused in d: the device after it and the one in which part 3 would look for a loss are d, and nothing is said of it.
pub record Refuses (r : Raw) (d : Device) : Type 0 where
  pub after : next d r ≡ d
  pub middle : levelled r d ≡ d
  pub none : (such : Event → Device → Bool) → accepted such r d ≡ false

-- r is taken as e in d: so are both devices, and what is said of r is said of e.
pub record Takes (e : Event) (r : Raw) (d : Device) : Type 0 where
  pub after : next d r ≡ parts e d
  pub middle : levelled r d ≡ mid e d
  pub same : (such : Event → Device → Bool) → accepted such r d ≡ such e d

pub data Met (r : Raw) (d : Device) : Type 0 where
  refuses : Refuses r d → Met r d
  takes : (e : Event) → Takes e r d → Met r d

-- An event that reads as e and is in sequence is taken as e.
pub taken_as : (e : Event) (r : Raw) (d : Device) → decode r ≡ Ok e → in_sequence e d ≡ true → Takes e r d
unfolding step step_decoded step_event taken
taken_as e r d h s =
    record {
      after = ap (λ (x : Result Event Unread). (step_decoded x d).device) h ∙ ap (λ (b : Bool). (if b then taken e d else refused 4 d).device) s;
      middle = ap (λ (x : Result Event Unread). levelled_by x d) h ∙ if_true (mid e d) d s;
      same = λ such. ap (λ (x : Result Event Unread). accepted_as such x d) h ∙ ap (λ (b : Bool). b && such e d) s;
    }

-- One or the other holds of every four bytes.
pub met : (r : Raw) (d : Device) → Met r d
unfolding refused
met r d =
    step_cases (λ (s : Stepped). step d r ≡ s → Met r d) d r (λ e h s _. takes e (taken_as e r d h s))
    (λ n u same. refuses (record { after = ap (λ (s : Stepped). s.device) same; middle = u.1; none = u.0 })) refl

-- ---- a tick

-- Only TICK is a tick,
pub event_tick : (e : Event) → is_tick e ≡ true → e ≡ Tick
event_tick (Command k c) h = absurd (false≢true h)
event_tick (Write k v) h = absurd (false≢true h)
event_tick (Read k) h = absurd (false≢true h)
event_tick (Stop k) h = absurd (false≢true h)
event_tick (Pair v0 v1) h = absurd (false≢true h)
event_tick (Lines scl sda intin) h = absurd (false≢true h)
event_tick Tick h = refl
event_tick (Pulse sda) h = absurd (false≢true h)
event_tick Reset h = absurd (false≢true h)
event_tick (GeneralCall k b) h = absurd (false≢true h)

-- is taken as it, and is no reset.
pub taken_tick : (t : Raw) (d : Device) → tick t d ≡ true → Takes Tick t d
taken_tick t d h =
    elim (met t d) [
      | refuses x ↦ absurd (false≢true (sym (x.none λ f y. is_tick f) ∙ h))
      | takes e x ↦ subst (λ (f : Event). Takes f t d) (event_tick e (sym (x.same λ f y. is_tick f) ∙ h)) x
    ]

pub tick_no_reset : (t : Raw) (d : Device) → tick t d ≡ true → reset t d ≡ false
tick_no_reset t d h = (taken_tick t d h).same λ f y. is_reset f
