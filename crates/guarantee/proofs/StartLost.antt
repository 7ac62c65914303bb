-- In every run the owner requests. So a request that does not stand after a start was lost with a grant.
-- Assumes nothing.
use mathlib.Core.Path.{◌≡◌, refl, sym, ap, ◌∙◌}
use mathlib.Core.Bool.{Bool, true, false, not, ◌&&◌, ◌||◌, true≢false, false≢true, or-true}
use mathlib.Core.List.{List, [], ◌∷◌}
use Rattle.ranges.specs.Names.{Master, Ground, Zero, One, Nobody, Owns, Kind, Device, Raw, Event}
use Rattle.arbiter.specs.State.{owns}
use Rattle.arbiter.specs.Effects.{power_up}
use Rattle.arbiter.specs.Order.{is_reset, levels}
use Rattle.arbiter.specs.Steps.{parts, run_from, run}
use Rattle.arbiter.specs.AuditWords.{next, requests, lets_go, reset, grant_taken, grant_ended, never}
use Rattle.guarantee.specs.Starts.{was_granted, was_ended, RequestLost}
use Rattle.arbiter.proofs.Choice.{split, if_true, owns_turn_lem}
use Rattle.arbiter.proofs.Effects.{effect_side}
use Rattle.arbiter.proofs.Order.{still_sides, side_kept, owned}
use Rattle.arbiter.proofs.Owner.{mid, over_unowned, turn_kept, Stays, stays, ends, fate}
use Rattle.arbiter.proofs.Raws.{refuses, takes, met}
use Rattle.arbiter.proofs.Resets.{reset_ends}
use Rattle.arbiter.proofs.Runs.{never_comes}
use Rattle.arbiter.proofs.Tenure.{Owned, next_owned, run_owned}
use Rattle.guarantee.proofs.StartParts.{unasked}
use Rattle.guarantee.proofs.Starts.{starts_in_any_order}

-- ---- an owner requests

abbrev Asks : Device → Type 0
Asks d = (m : Master) → owns m d ≡ true → requests m d ≡ true

-- Who keeps its grant has not let go.
not_gone : (m : Master) (g : Ground) (e : Event) (d : Device) → is_reset e ≡ false → d.arb.turn ≡ Owns m g → Stays m g e d → lets_go m e d ≡ false
unfolding levels
not_gone m g e d ok t s =
    split (lets_go m e d)
    (λ l. absurd (false≢true (ap owned (sym (if_true Nobody (Owns m g) l) ∙ sym (turn_kept e d (Owns m g) ok t) ∙ s.turn))))
    (λ l. l)

stays_asks : (m : Master) (g : Ground) (e : Event) (d : Device) → is_reset e ≡ false → d.arb.turn ≡ Owns m g → requests m d ≡ true → Stays m g e d
    → requests m (parts e d) ≡ true
unfolding levels
stays_asks m g e d ok t q s =
    ap (λ k. k.0) (side_kept m (parts e d) (mid e d) (still_sides (parts e d) (mid e d) s.left))
    ∙ (effect_side m e d ok).stands (not_gone m g e d ok t s) q

-- over one event
kept_asks : (m : Master) (r : Raw) (d : Device) → Owned d → owns m d ≡ true → requests m d ≡ true → reset r d ≡ false → owns m (next d r) ≡ true
    → requests m (next d r) ≡ true
kept_asks m r d i o q ok h =
    let t = owns_turn_lem m d.arb.turn o in
    elim (met r d) [
      | refuses x ↦ ap (requests m) x.after ∙ q
      | takes e x ↦
          (let no : is_reset e ≡ false = sym (x.same λ f y. is_reset f) ∙ ok in
          elim (fate m e d no t.1 (i m t.0 t.1).hold) [
            | stays s ↦ ap (requests m) x.after ∙ stays_asks m t.0 e d no t.1 q s
            | ends v w ↦ absurd (true≢false (sym h ∙ ap (owns m) x.after ∙ over_unowned m (parts e d) v))
          ])
    ]

next_asks : (r : Raw) (d : Device) → Owned d → Asks d → Asks (next d r)
next_asks r d i a m h =
    split (owns m d)
    (λ o. split (reset r d)
    (λ x. absurd (true≢false (sym h ∙ reset_ends m d r x)))
    (λ x. kept_asks m r d i o (a m o) x h))
    (λ o. split (requests m (next d r)) (λ q. q) (λ q. absurd (true≢false (sym h ∙ unasked m r d o q))))

from_asks : (rs : List Raw) (d : Device) → Owned d → Asks d → Asks (run_from d rs)
unfolding run_from
from_asks [] d i a = a
from_asks (r ∷ rs) d i a = from_asks rs (next d r) (next_owned r d i) (next_asks r d i a)

owner_asks : (k : Kind) (rs : List Raw) → Asks (run k rs)
unfolding run power_up run_from
owner_asks k rs = from_asks rs (power_up k) (run_owned k []) λ m h. absurd (false≢true h)

-- ---- a grant that has not ended

-- Who owns, or is granted later, and whose grants do not end, owns at the end.
never_ended : (m : Master) (rs : List Raw) (d : Device) → never (grant_ended m) d rs ≡ true → owns m d || not (never (grant_taken m) d rs) ≡ true
    → owns m (run_from d rs) ≡ true
unfolding run_from never
never_ended m [] d n h =
    split (owns m d) (λ o. o) (λ o. absurd (false≢true (sym (ap (λ (b : Bool). b || false) o) ∙ h)))
never_ended m (r ∷ rs) d n h =
    let b = never_comes (grant_ended m) r rs d n in
    never_ended m rs (next d r) b.1 (onward (owns m d) (owns m (next d r)) (never (grant_taken m) (next d r) rs) b.0 h)
  where
    -- before, after, and none is taken later
    onward : (o h t : Bool) → o && not h ≡ false → o || not (not (not o && h) && t) ≡ true → h || not t ≡ true
    onward o true t e k = refl
    onward true false t e k = absurd (true≢false e)
    onward false false true e k = absurd (false≢true k)
    onward false false false e k = refl

pub request_lost : RequestLost
unfolding run
request_lost k o rs m h =
    split (never (grant_ended m) (power_up k) rs)
    (λ n. split (requests m (run k rs))
    (λ q. ap (λ (b : Bool). b || was_ended m k rs) q)
    (λ q. let was : was_granted m k rs ≡ true = sym (ap (λ (b : Bool). b || was_granted m k rs) q) ∙ asked m in
    absurd (true≢false
    (sym (owner_asks k rs m (never_ended m rs (power_up k) n (ap (λ (b : Bool). owns m (power_up k) || b) was ∙ or-true (owns m (power_up k))))) ∙ q))))
    (λ n. ap (λ (b : Bool). requests m (run k rs) || not b) n ∙ or-true (requests m (run k rs)))
  where
    asked : (m : Master) → requests m (run k rs) || was_granted m k rs ≡ true
    asked Zero = (starts_in_any_order k o rs h).0.request
    asked One = (starts_in_any_order k o rs h).1.request
