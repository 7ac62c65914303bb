-- What holds of parts 4 to 7, of every step and of every run, by the cases that there are.
-- Assumes nothing.
use mathlib.Core.Path.{◌≡◌, refl, sym, ap, subst, ◌∙◌}
use mathlib.Core.Bool.{Bool, true, false, ◌&&◌}
use Rattle.std.specs.Prelude.{◌∷◌}
use Rattle.arbiter.specs.Types.{ℕ, List, [], eqb, ltb, Master, Zero, One, Ground, Sole, Turn, Nobody, Claims, Owns, Switch, Apart, Initialising}
use Rattle.arbiter.specs.Types.{Closed, Clock, NoClock, ClockLow, ClockHigh, Device, Raw, Event, OutOfSequence, Result, Unread, Ok, Err, UnknownKind, BadField}
use Rattle.arbiter.specs.Types.{Stepped}
use Rattle.arbiter.specs.Words.{same_master, side}
use Rattle.arbiter.specs.Parts.{with_bus_connect, with_bus_init, with_contr, with_switch, with_init_fail, with_side, with_arb}
use Rattle.arbiter.specs.State.{at_rest}
use Rattle.arbiter.specs.Registers.{disconnected}
use Rattle.arbiter.specs.Events.{decode, decoded_number, in_sequence, outcome_number}
use Rattle.arbiter.specs.Order.{cut_ticks, cut_from, claim_by, new_claim, claim_after, granted, grant_from, joined, clocked, kept_joined, connect_from, connect}
use Rattle.arbiter.specs.AuditWords.{requests, accepted_as, accepted, levelled_by, levelled}
use Rattle.arbiter.specs.Steps.{parts, taken, refused, step_event, step_decoded, step, run_from}
use Rattle.arbiter.proofs.Choice.{either, split, if_true, if_false}

-- ---- part 4: the owner's BUS_CONNECT is cleared, or nothing is

pub cut_cases : (P : Device → Type 0) (on : Bool) (m : Master) (g : Ground) (d : Device) → P (with_side m (disconnected (side m d)) d) → P d
    → P (cut_from on (Owns m g) d)
unfolding cut_from
cut_cases P on m g d cleared left = either P (on && eqb d.bus.lowscl cut_ticks && (side m d).contr.smbusdis) (λ h. cleared) (λ h. left)

-- ---- part 5

-- a claimant that still requests stays
pub claimant_stays : (m : Master) (g : Ground) (d : Device) → requests m d ≡ true → claim_after (Claims m g) d ≡ Claims m g
claimant_stays m g d h = if_true (Claims m g) _ h

-- a new claim is nobody's or a claimant's
new_by : (P : Turn → Type 0) → P Nobody → ((m : Master) (g : Ground) → P (Claims m g)) → (r0 r1 : Bool) (w : Master) (g : Ground) → P (claim_by r0 r1 w g)
new_by P none some false false w g = none
new_by P none some true false w g = some Zero Sole
new_by P none some false true w g = some One Sole
new_by P none some true true w g = some w g

pub new_cases : (P : Turn → Type 0) (d : Device) → P Nobody → ((m : Master) (g : Ground) → P (Claims m g)) → P (new_claim d)
new_cases P d none some = new_by P none some (requests Zero d) (requests One d) _ _

-- and so is what comes of a claim
pub claim_cases : (P : Turn → Type 0) (m : Master) (g : Ground) (d : Device) → P Nobody → ((m : Master) (g : Ground) → P (Claims m g))
    → P (claim_after (Claims m g) d)
claim_cases P m g d none some =
    split (requests m d)
    (λ h. subst P (sym (claimant_stays m g d h)) (some m g))
    (λ h. subst P (sym (if_false _ (new_claim d) h)) (new_cases P d none some))

-- ---- part 6: the claimant is granted, or nothing is done

pub grant_cases : (P : Device → Type 0) (m : Master) (g : Ground) (d : Device) → P (granted m g d) → P d → P (grant_from (Claims m g) d)
unfolding grant_from
grant_cases P m g d given left = either P (at_rest (side m d).port && eqb d.bus.hold 0) (λ h. given) (λ h. left)

-- ---- part 7: it sets the switch and BUS_INIT_FAIL, and perhaps clears an owner's BUS_INIT, and with it perhaps its BUS_CONNECT

-- the device with such a switch, and with such a flag
abbrev pub joined_by : Switch → Bool → Device → Device
joined_by w fail d = with_arb (with_init_fail fail (with_switch w d.arb)) d

-- the device whose m has BUS_INIT cleared, and such a BUS_CONNECT
abbrev pub init_ended : Master → Bool → Device → Device
init_ended m on d = with_side m (with_contr (with_bus_init false (with_bus_connect on (side m d).contr)) (side m d)) d

module _ (P : Device → Type 0) (d : Device) (plain : (w : Switch) (fail : Bool) → P (joined_by w fail d))
    (ended : (m : Master) (on : Bool) (w : Switch) (fail : Bool) → ((side m d).contr.busconnect ≡ false → on ≡ false)
    → P (joined_by w fail (init_ended m on d))) where
  -- grant and BUS_CONNECT have become both true of m
  joined_cases : (m : Master) → P (joined m d)
  unfolding joined
  joined_cases m = either P (side m d).contr.businit (λ h. plain _ _) (λ h. plain _ _)

  -- an initialisation meets a PULSE, or none
  clocked_cases : (c : Clock) (m : Master) (n : ℕ) → P (clocked c m n d)
  unfolding clocked
  clocked_cases NoClock m n = plain _ _
  clocked_cases ClockHigh m n = ended m (side m d).contr.busconnect (Closed m) d.arb.initfail (λ h. h)
  clocked_cases ClockLow m n =
      either P (ltb n 8) (λ h. plain _ _) (λ h. ended m false Apart true (λ x. refl))

  -- grant and BUS_CONNECT are both true of m
  kept_cases : (c : Clock) (m : Master) (w : Switch) → P (kept_joined c m w d)
  unfolding kept_joined
  kept_cases c m Apart = joined_cases m
  kept_cases c m (Initialising k n) = either P (same_master m k) (λ h. clocked_cases c m n) (λ h. joined_cases m)
  kept_cases c m (Closed k) = either P (same_master m k) (λ h. plain _ _) (λ h. joined_cases m)

  -- and by whose turn it is
  from_cases : (c : Clock) (t : Turn) → P (connect_from c t d)
  unfolding connect_from
  from_cases c Nobody = plain _ _
  from_cases c (Claims m g) = plain _ _
  from_cases c (Owns m g) =
      either P (side m d).contr.busconnect (λ h. kept_cases c m d.arb.switch) (λ h. plain _ _)

  pub connect_cases : (c : Clock) → P (connect c d)
  unfolding connect
  connect_cases c = from_cases c d.arb.turn

-- ---- a step: the seven parts of an accepted event, or a refusal

-- nothing is said of a refused event, and part 3 would look for a loss in the device as it was
abbrev pub Unsaid : Raw → Device → Type 0
Unsaid r d = ((such : Event → Device → Bool) → accepted such r d ≡ false) × (levelled r d ≡ d)

unsaid : (x : Result Event Unread) (r : Raw) (d : Device) → decode r ≡ x → ((such : Event → Device → Bool) → accepted_as such x d ≡ false) → levelled_by x d ≡ d
    → Unsaid r d
unsaid x r d h a l = ((λ such. ap (λ (y : Result Event Unread). accepted_as such y d) h ∙ a such), ap (λ (y : Result Event Unread). levelled_by y d) h ∙ l)

-- what holds of every event taken in sequence and of every refusal holds of the step
module _ (Q : Stepped → Type 0) (d : Device) (r : Raw)
    (takes : (e : Event) → decode r ≡ Ok e → in_sequence e d ≡ true → Q (taken e d)) (refuses : (n : ℕ) → Unsaid r d → Q (refused n d)) where
  -- an event, in sequence or not
  event_cases : (e : Event) → decode r ≡ Ok e → Q (step_event e d)
  unfolding step_event
  event_cases e h =
      either Q (in_sequence e d) (λ s. takes e h s)
      (λ s. refuses (outcome_number OutOfSequence) (unsaid (Ok e) r d h (λ such. ap (λ (b : Bool). b && such e d) s) (if_false _ d s)))

  -- four bytes that read as one, or do not
  decoded_cases : (x : Result Event Unread) → decode r ≡ x → Q (step_decoded x d)
  unfolding step_decoded
  decoded_cases (Ok e) h = event_cases e h
  decoded_cases (Err UnknownKind) h = refuses (decoded_number (Err UnknownKind)) (unsaid (Err UnknownKind) r d h (λ such. refl) refl)
  decoded_cases (Err BadField) h = refuses (decoded_number (Err BadField)) (unsaid (Err BadField) r d h (λ such. refl) refl)

  pub step_cases : Q (step d r)
  unfolding step
  step_cases = decoded_cases (decode r) refl

-- ---- a run

-- what the seven parts keep, a step keeps, and a run
module _ (P : Device → Type 0) (keeps : (e : Event) (d : Device) → P d → P (parts e d)) where
  pub step_keeps : (d : Device) (r : Raw) → P d → P (step d r).device
  unfolding taken refused
  step_keeps d r h = step_cases (λ (s : Stepped). P s.device) d r (λ e x s. keeps e d h) (λ n u. h)

  pub run_keeps : (d : Device) (rs : List Raw) → P d → P (run_from d rs)
  unfolding run_from
  run_keeps d [] h = h
  run_keeps d (r ∷ rs) h = run_keeps (step d r).device rs (step_keeps d r h)
