-- When does the waiting one get its turn? Over every run, the partner of a master whose grant ends is next.
-- Assumes nothing.
use mathlib.Core.Path.{◌≡◌, refl, sym, ap, ◌∙◌, subst}
use mathlib.Core.Bool.{true≢false, and-eq-true_iff}
use Rattle.std.specs.Prelude.{◌∷◌}
use Rattle.arbiter.specs.Types.{Bool, true, false, not, List, [], Master, Zero, One, Ground, Sole, Claims, Owns, Device, Raw, Stop, Ok}
use Rattle.arbiter.specs.Words.{partner}
use Rattle.arbiter.specs.State.{owns, claims_turn, claims}
use Rattle.arbiter.specs.Events.{decode, in_sequence}
use Rattle.arbiter.specs.Effects.{effect}
use Rattle.arbiter.specs.Order.{is_reset}
use Rattle.arbiter.specs.Steps.{parts, run_from, run}
use Rattle.arbiter.specs.AuditWords.{next, requests, resting, lets_go, is_stop_of, reset, withdrawal_of, stop_of, grant_ended, never}
use Rattle.arbiter.specs.Audit.{IsNext, PartnerNext}
use Rattle.arbiter.proofs.Choice.{not_true, same_self, owns_turn_lem, turn_owns}
use Rattle.arbiter.proofs.Runs.{never_comes}
use Rattle.arbiter.proofs.Effects.{effect_side}
use Rattle.arbiter.proofs.Owner.{heir, Next, over_next, waits, port_left}
use Rattle.arbiter.proofs.Raws.{refuses, takes, met, taken_as}
use Rattle.arbiter.proofs.Tenure.{Owner, run_owned, keeps, over, lot}

-- p is the claimant on some ground, its request stands, no hold runs, and its port is not at rest.
pub record Waiting (p : Master) (d : Device) : Type 0 where
  pub ground : Ground
  pub turn : d.arb.turn ≡ Claims p ground
  pub request : requests p d ≡ true
  pub hold : d.bus.hold ≡ 0
  pub port : resting p d ≡ false

-- Who is next owns with its port at rest,
pub next_owns : (p : Master) {g : Ground} (d : Device) → Next p g d → resting p d ≡ true → d.arb.turn ≡ Owns p g
next_owns p {g} d n r = n.turn ∙ ap (λ (b : Bool). heir b p g) r

-- and else waits.
pub next_waits : (p : Master) {g : Ground} (d : Device) → Next p g d → resting p d ≡ false → Waiting p d
next_waits p {g} d n r = record { ground = g; turn = n.turn ∙ ap (λ (b : Bool). heir b p g) r; request = n.request; hold = n.hold; port = r }

-- It waits on over an event that is no reset, no withdrawal and no STOP of its own.
waits_on : (p : Master) (r : Raw) (d : Device) → Waiting p d → reset r d ≡ false → withdrawal_of p r d ≡ false → stop_of p r d ≡ false → Waiting p (next d r)
waits_on p r d w ok on up =
    elim (met r d) [
      | refuses x ↦ subst (Waiting p) (sym x.after) w
      | takes e x ↦
          (let no : is_reset e ≡ false = sym (x.same λ f y. is_reset f) ∙ ok in
          subst (Waiting p) (sym x.after)
          (next_waits p (parts e d) (waits p e d no w.turn w.request w.hold (sym (x.same (lets_go p)) ∙ on))
          (port_left p e d no w.turn ∙ (effect_side p e d no).opened (sym (x.same λ f y. is_stop_of p f) ∙ up) w.port)))
    ]

-- Its STOP puts its port to rest,
stop_rests : (p : Master) (d : Device) → resting p (effect (Stop p) d) ≡ true
unfolding effect
stop_rests Zero d = refl
stop_rests One d = refl

-- and makes it the owner.
stop_owns : (p : Master) (r : Raw) (d : Device) → Waiting p d → decode r ≡ Ok (Stop p) → owns p (next d r) ≡ true
unfolding in_sequence
stop_owns p r d w h =
    ap (owns p) (taken_as (Stop p) r d h (ap not w.port)).after
    ∙ turn_owns p (parts (Stop p) d).arb.turn
    (next_owns p (parts (Stop p) d) (waits p (Stop p) d refl w.turn w.request w.hold refl)
    (port_left p (Stop p) d refl w.turn ∙ stop_rests p d))

-- So over any events, from any device in which it waits.
until_stop : (p : Master) (rs : List Raw) (d : Device) → Waiting p d → never reset d rs ≡ true → never (withdrawal_of p) d rs ≡ true
    → never (stop_of p) d rs ≡ true
    → (claims p (run_from d rs) ≡ true) × ((r : Raw) → decode r ≡ Ok (Stop p) → owns p (next (run_from d rs) r) ≡ true)
unfolding run_from
until_stop p [] d w nr nw ns = (ap (claims_turn p) w.turn ∙ same_self p, λ r. stop_owns p r d w)
until_stop p (r ∷ rs) d w nr nw ns =
    let ok = never_comes reset r rs d nr in
    let on = never_comes (withdrawal_of p) r rs d nw in
    let still = never_comes (stop_of p) r rs d ns in
    until_stop p rs (next d r) (waits_on p r d w ok.0 on.0 still.0) ok.1 on.1 still.1

-- From any device in which m owns and its grant ends.
follows_next : (m : Master) (r : Raw) (d : Device) → Owner m d → grant_ended m r d ≡ true → reset r d ≡ false → requests (partner m) (next d r) ≡ true
    → Next (partner m) Sole (next d r)
follows_next m r d o g ok q =
    let n : Device = next d r in
    let ended : owns m n ≡ false = not_true (owns m n) ((and-eq-true_iff (owns m d) (not (owns m n))).0 g).1 in
    elim (lot m r d o ok) [
      | keeps k ↦ absurd (true≢false (sym (turn_owns m n.arb.turn k.owner.turn) ∙ ended))
      | over h c ↦ over_next m n h q
    ]

-- Who is next is so in the auditor's words.
pub is_next : (p : Master) {g : Ground} (d : Device) → Next p g d → IsNext p d
is_next p d x = (λ rest. turn_owns p d.arb.turn (next_owns p d x rest), λ rest later. until_stop p later d (next_waits p d x rest))

pub partner_next : PartnerNext
partner_next k m rs r g ok q =
    let d : Device = run k rs in
    let own : owns m d ≡ true = ((and-eq-true_iff (owns m d) (not (owns m (next d r)))).0 g).0 in
    let t = owns_turn_lem m d.arb.turn own in
    is_next (partner m) (next d r) (follows_next m r d (run_owned k rs m t.0 t.1) g ok q)
