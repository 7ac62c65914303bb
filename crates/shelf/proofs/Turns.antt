-- Demand 3 at a place of a shelf: the partner is next when a grant ends, and owns in time where its request stands throughout.
-- Assumes nothing.
use Prim.Native.Nat.{ℕ, ◌+◌, ◌<◌}
use mathlib.Core.Path.{◌≡◌, sym, ap, ◌∙◌, subst}
use mathlib.Core.Bool.{true, false}
use mathlib.Core.List.{List, [], ◌∷◌, ◌++◌}
use lib.ListN.{length}
use Rattle.arbiter.specs.Words.{partner}
use Rattle.arbiter.specs.State.{owns, claims, is_idle}
use Rattle.arbiter.specs.Steps.{run_from}
use Rattle.arbiter.specs.AuditWords.{next, requests, resting, reserve_of, reset, tick, grant_taken, grant_ended, ticks_in, never, throughout}
use Rattle.arbiter.specs.Audit.{IsNext}
use Rattle.arbiter.specs.declared.Master.{Master}
use Rattle.arbiter.proofs.Runs.{from_append}
use Rattle.arbiter.proofs.Waiting.{partner_next}
use Rattle.arbiter.proofs.InTime.{partner_in_time_throughout}
use Rattle.shelf.specs.Names.{Device, Raw}
use Rattle.shelf.specs.Shelf.{addresses_of, device_at}
use Rattle.shelf.specs.Runs.{Named, Slot, fresh_row, kind_at, shelf_after, reached, reached_at, reaches_at, IsNextAtPlace, PartnerInTimeThroughoutAtPlace}
use Rattle.shelf.specs.Runs.{PartnerNextAtPlace}
use Rattle.shelf.proofs.Places.{reached_first, reached_append, at_place, after_at_place, later_at_place, end_at_place}

pub partner_in_time_throughout_at_place : PartnerInTimeThroughoutAtPlace
partner_in_time_throughout_at_place slots i m es e later t l h k taken last ticks resets asks idle rests =
    ap (owns (partner m)) end_is
    ∙ subst (λ (x : Device). grant_taken m e.event x ≡ true → ticks_in (next x e.event) here + 1 ≡ reserve_of m (next x e.event)
    → tick t.event (run_from (next x e.event) here) ≡ true
    → never reset (next x e.event) here ≡ true → throughout (requests (partner m)) (next x e.event) (here ++ t.event ∷ []) ≡ true
    → is_idle (ends x).bus ≡ true → resting (partner m) (ends x) ≡ true → owns (partner m) (ends x) ≡ true)
    (sym (at_place slots es i l)) (partner_in_time_throughout (kind_at slots i) m (reached_at i slots es) e.event here t.event) taken last ticks resets asks
    (sym (ap (λ (x : Device). is_idle x.bus) end_is) ∙ idle) (sym (ap (resting (partner m)) end_is) ∙ rests)
  where
    here : List Raw
    here = reached_at i slots later

    ends : Device → Device
    ends x = next (run_from (next x e.event) here) t.event

    end_is : device_at (shelf_after slots (es ++ e ∷ (later ++ t ∷ []))) i ≡ ends (device_at (shelf_after slots es) i)
    end_is = end_at_place slots es e later t i l h k

-- who is next in the device at a place is next at the place
next_there : (slots : List Slot) (i : ℕ) (p : Master) (es : List Named) → i < length slots → IsNext p (device_at (shelf_after slots es) i)
    → IsNextAtPlace slots i p es
unfolding run_from reached
next_there slots i p es l (at_rest, in_turn) = (
  at_rest,
  λ busy later resets withdrawals stops.
      let turn = in_turn busy (reached_at i slots later) resets withdrawals stops in (
        ap (claims p) (after_at_place slots es later i l) ∙ turn.0,
        λ s reaches is_stop. ap (owns p) (stop_is later s reaches) ∙ turn.1 s.event is_stop,
      ),
)
  where
    stop_is : (later : List Named) (s : Named) → reaches_at i slots s ≡ true
        → device_at (shelf_after slots (es ++ (later ++ s ∷ []))) i ≡ next (run_from (device_at (shelf_after slots es) i) (reached_at i slots later)) s.event
    stop_is later s reaches =
        let roll = addresses_of (fresh_row slots) in
        after_at_place slots es (later ++ s ∷ []) i l
        ∙ ap (run_from (device_at (shelf_after slots es) i))
        (reached_append later (s ∷ []) i roll ∙ ap (λ (rs : List Raw). reached i roll later ++ rs) (reached_first i roll s [] reaches))
        ∙ from_append (reached_at i slots later) (s.event ∷ []) (device_at (shelf_after slots es) i)

pub partner_next_at_place : PartnerNextAtPlace
unfolding run_from reached
partner_next_at_place slots i m es e l h ended no_reset asks =
    next_there slots i (partner m) (es ++ e ∷ []) l
    (subst (IsNext (partner m)) (sym here-is)
    (subst (λ (x : Device). grant_ended m e.event x ≡ true → reset e.event x ≡ false → requests (partner m) (next x e.event) ≡ true
    → IsNext (partner m) (next x e.event))
    (sym (at_place slots es i l)) (partner_next (kind_at slots i) m (reached_at i slots es) e.event) ended no_reset
    (sym (ap (requests (partner m)) here-is) ∙ asks)))
  where
    here-is : device_at (shelf_after slots (es ++ e ∷ [])) i ≡ next (device_at (shelf_after slots es) i) e.event
    here-is = later_at_place slots es e [] i l h
