-- Every row of specs/ShelfWitnesses.antt meets its premises: antt computes each. And they are the premises of the statement that the row is for.
-- Assumes nothing.
use Prim.Native.Nat.{◌+◌}
use mathlib.Core.Path.{◌≡◌, refl, sym, ◌∙◌}
use borrow.Author.Tests.{ltb-true, eqb-true, not-true}
use Rattle.arbiter.specs.Rules.{rules_of}
use Rattle.arbiter.specs.Words.{byte_of, partner}
use Rattle.arbiter.specs.State.{owns, connected}
use Rattle.arbiter.specs.Registers.{contr_byte, status_byte, register_byte, is_asserted, own_written, mail_written, drives_written, turn_written}
use Rattle.arbiter.specs.Events.{decode, in_sequence, acknowledged, outcome}
use Rattle.arbiter.specs.Effects.{commanded, written, paired, was_read, lined, ticked, fresh_side, was_reset, power_up, effect}
use Rattle.arbiter.specs.Order.{levels, lost, losses_from, losses, cut_from, cut, winner, claim, granted, grant_from, grant, joined, clocked, kept_joined}
use Rattle.arbiter.specs.Order.{connect_from, connect}
use Rattle.arbiter.specs.Steps.{parts, owner_byte, lines_byte, byte_read, refused, taken, step_event, step_decoded, step, run_from, run}
use Rattle.arbiter.specs.AuditWords.{next, reserve_of, reset, ticks_in, never, throughout}
use Rattle.arbiter.specs.Witnesses.{sets_contr}
use Rattle.arbiter.specs.declared.Master.{Master}
use Rattle.arbiter.specs.declared.Master.TheVariants.{Zero}
use Rattle.arbiter.proofs.Witnesses.{Holds}
use Rattle.std.specs.Prelude.{◌∷◌, ◌++◌}
use Rattle.shelf.specs.Names.{ℕ, true, false, List, [], Device}
use Rattle.shelf.specs.Shelf.{no_record, device_at, naming, reaches, step_record, shelf_row, shelf_answer}
use Rattle.shelf.specs.Runs.{Named, kind_at, shelf_after, shelf_run, reached, reached_at, AnswerAtPlace, OneConnectedAtPlace, LaterAtPlace}
use Rattle.shelf.specs.Runs.{ReserveLastsAtPlace, PartnerInTimeAtPlace, PartnerInTimeThroughoutAtPlace, IsNextAtPlace, PartnerNextAtPlace}
use Rattle.shelf.specs.ShelfWitnesses.{two, turned, used, OneEventMet, answer_at_place, one_connected_at_place, later_at_place, reserve_lasts_at_place}
use Rattle.shelf.specs.ShelfWitnesses.{partner_in_time_at_place, partner_next_at_place, shelf_rows, ShelfWitnessesMeet}
use Rattle.shelf.specs.Examples.{at}
use Rattle.shelf.proofs.Places.{at_place}

-- Both devices are the run of the same events, by AtPlace.
equal_devices : device_at (used two) 1 ≡ device_at (used turned) 0
unfolding naming reaches reached
equal_devices =
    let es = at 0x71 (sets_contr Zero 0x05) in
    at_place two es 1 (ltb-true 1 2 refl) ∙ sym (at_place turned es 0 (ltb-true 0 2 refl))

pub one_event_met : OneEventMet
unfolding decode naming reaches step_record shelf_row shelf_run
one_event_met = (refl, refl, refl, refl, equal_devices, refl, refl, refl)

pub shelf_witnesses_meet : ShelfWitnessesMeet
unfolding rules_of byte_of contr_byte status_byte register_byte is_asserted own_written mail_written drives_written turn_written
    decode in_sequence acknowledged outcome commanded written paired was_read lined ticked fresh_side was_reset power_up effect
    levels lost losses_from losses cut_from cut winner claim granted grant_from grant joined clocked kept_joined connect_from connect
    parts owner_byte lines_byte byte_read refused taken step_event step_decoded step run_from run ticks_in never throughout
    no_record naming reaches step_record shelf_row shelf_run reached shelf_rows
shelf_witnesses_meet = refl

-- ---- the tests of a row are the premises of its statement

pub answer_at_place_met : AnswerAtPlace → (i : ℕ) (es : List Named) (e : Named) → Holds (answer_at_place i e)
    → shelf_answer (shelf_after two es) e.name e.event ≡ (step (run (kind_at two i) (reached_at i two es)) e.event).answer
answer_at_place_met told i es e (l, (reach, _)) = told two es e i (ltb-true i 2 l) reach

pub one_connected_at_place_met : OneConnectedAtPlace → (i : ℕ) (m : Master) (es : List Named) → Holds (one_connected_at_place i m es)
    → connected (partner m) (device_at (shelf_after two es) i) ≡ false
one_connected_at_place_met told i m es (l, (on, _)) = (told two es i m (ltb-true i 2 l) on).1

pub later_at_place_met : LaterAtPlace → (i : ℕ) (es : List Named) (e : Named) (later : List Named) → Holds (later_at_place i e)
    → device_at (shelf_after two (es ++ e ∷ later)) i ≡ run_from (next (device_at (shelf_after two es) i) e.event) (reached_at i two later)
later_at_place_met told i es e later (l, (reach, _)) = told two es e later i (ltb-true i 2 l) reach

pub reserve_lasts_at_place_met : ReserveLastsAtPlace → (i : ℕ) (m : Master) (es : List Named) (e : Named) (later : List Named)
    → Holds (reserve_lasts_at_place i m es e later) → owns m (device_at (shelf_after two (es ++ e ∷ later)) i) ≡ true
reserve_lasts_at_place_met told i m es e later (l, (reach, (taken-now, (few, (resets, (gone, _)))))) =
    let d : Device = next (device_at (shelf_after two es) i) e.event in
    told two i m es e later (ltb-true i 2 l) reach taken-now (ltb-true (ticks_in d (reached_at i two later)) (reserve_of m d) few) resets gone

-- both forms: m does not withdraw, or the request stands throughout
pub partner_in_time_at_place_met : PartnerInTimeAtPlace → PartnerInTimeThroughoutAtPlace → (i : ℕ) (m : Master) (es : List Named) (e : Named)
    (later : List Named) (t : Named) → Holds (partner_in_time_at_place i m es e later t)
    → let end : Device = device_at (shelf_after two (es ++ e ∷ (later ++ t ∷ []))) i in (owns (partner m) end ≡ true) × (owns (partner m) end ≡ true)
partner_in_time_at_place_met told always i m es e later t
    (l, (reach, (last, (taken-now, (count, (now, (resets, (gone, (asks, (idle, (rest, (stands, _)))))))))))) =
    let d : Device = next (device_at (shelf_after two es) i) e.event in
    let same : ticks_in d (reached_at i two later) + 1 ≡ reserve_of m d = eqb-true (ticks_in d (reached_at i two later) + 1) (reserve_of m d) count in (
      told two i m es e later t (ltb-true i 2 l) reach last taken-now same now resets gone asks idle rest,
      always two i m es e later t (ltb-true i 2 l) reach last taken-now same now resets stands idle rest,
    )

pub partner_next_at_place_met : PartnerNextAtPlace → (i : ℕ) (m : Master) (es : List Named) (e : Named) → Holds (partner_next_at_place i m es e)
    → IsNextAtPlace two i (partner m) (es ++ e ∷ [])
partner_next_at_place_met told i m es e (l, (reach, (ended, (reset-not, (asks, _))))) =
    told two i m es e (ltb-true i 2 l) reach ended (not-true (reset e.event (device_at (shelf_after two es) i)) reset-not) asks
