-- The recoveries of specs/RecipeWitnesses.antt are such, and come to what it says: antt computes each.
-- Assumes nothing.
use mathlib.Core.Path.{◌≡◌, refl, ap}
use Rattle.std.specs.Prelude.{◌∷◌, ◌++◌}
use Rattle.ranges.specs.Names.{ℕ, List, [], Master, Zero, One, Kind, Pca9641, Tpt29641, Raw}
use Rattle.arbiter.specs.Rules.{rules_of}
use Rattle.arbiter.specs.Words.{byte_of}
use Rattle.arbiter.specs.Registers.{contr_byte, status_byte, register_byte, is_asserted, own_written, mail_written, drives_written, turn_written}
use Rattle.arbiter.specs.Events.{decode, in_sequence, acknowledged, outcome}
use Rattle.arbiter.specs.Effects.{commanded, written, paired, was_read, lined, ticked, fresh_side, was_reset, power_up, effect}
use Rattle.arbiter.specs.Order.{levels, lost, losses_from, losses, cut_from, cut, winner, claim, granted, grant_from, grant, joined, clocked, kept_joined}
use Rattle.arbiter.specs.Order.{connect_from, connect}
use Rattle.arbiter.specs.Steps.{parts, owner_byte, lines_byte, byte_read, refused, taken, step_event, step_decoded, step, run_from, run}
use Rattle.arbiter.specs.AuditWords.{ticks_in, never, throughout}
use Rattle.arbiter.specs.Marks.{command, write, stop, tick, general_call}
use Rattle.arbiter.specs.Witnesses.{number}
use Rattle.audit.specs.WorstWait.{stops_after}
use Rattle.sheets.specs.declared.Setting.{Setting}
use Rattle.sheets.specs.Settings.{control_byte}
use Rattle.guarantee.specs.Starts.{those}
use Rattle.recovery.specs.Recipe.{is_from, Recovers, accepted_of}
use Rattle.recovery.proofs.RecipeRaws.{is_alien}
use Rattle.recovery.specs.RecipeWitnesses.{spread_before, twenty, among_refused, behind_owner, RecipesRecover, RefusedRecover, recipe_witnesses}
use Rattle.recovery.specs.RecipeWitnesses.{RecipeWitnessesMeet}

-- without the last STOP
abbrev recipe_before : Master → Setting → List Raw
recipe_before p s =
    general_call (number p) 0x06 ∷ command (number p) 0x03 ∷ write (number p) s.reserve ∷ stop (number p)
    ∷ command (number p) 0x01 ∷ write (number p) (control_byte s) ∷ []

pub recipes_recover : RecipesRecover
unfolding those decode
recipes_recover Zero s = (
  record { before = recipe_before Zero s; whole = refl; own = refl; others = refl },
  record { before = spread_before Zero s; whole = refl; own = refl; others = refl },
)
recipes_recover One s = (
  record { before = recipe_before One s; whole = refl; own = refl; others = refl },
  record { before = spread_before One s; whole = refl; own = refl; others = refl },
)

-- what is accepted of them, without the last STOP
abbrev accepted_before : Master → List Raw
accepted_before p =
    tick ∷ general_call (number p) 0x06 ∷ command (number p) 0x03 ∷ write (number p) 20 ∷ tick ∷ stop (number p)
    ∷ command (number p) 0x01 ∷ write (number p) 0xA1 ∷ []

refused_one : (k : Kind) (p : Master) (v : ℕ) → accepted_of (behind_owner k p v) (among_refused p twenty) ≡ accepted_before p ++ stop (number p) ∷ []
    → Recovers p twenty (accepted_of (behind_owner k p v) (among_refused p twenty))
unfolding those decode control_byte
refused_one k Zero v e = record { before = accepted_before Zero; whole = e; own = ap (those (is_from 0)) e; others = ap (those (is_alien Zero)) e }
refused_one k One v e = record { before = accepted_before One; whole = e; own = ap (those (is_from 1)) e; others = ap (those (is_alien One)) e }

refused_out : (k : Kind) (p : Master) → (accepted_of (behind_owner k p 0x01) (among_refused p twenty) ≡ accepted_before p ++ stop (number p) ∷ [])
    × (accepted_of (behind_owner k p 0x11) (among_refused p twenty) ≡ accepted_before p ++ stop (number p) ∷ [])
unfolding rules_of byte_of contr_byte status_byte register_byte is_asserted own_written mail_written drives_written turn_written
    decode in_sequence acknowledged outcome commanded written paired was_read lined ticked fresh_side was_reset power_up effect
    levels lost losses_from losses cut_from cut winner claim granted grant_from grant joined clocked kept_joined connect_from connect
    parts owner_byte lines_byte byte_read refused taken step_event step_decoded step run_from run
    control_byte accepted_of
refused_out Pca9641 Zero = (refl, refl)
refused_out Pca9641 One = (refl, refl)
refused_out Tpt29641 Zero = (refl, refl)
refused_out Tpt29641 One = (refl, refl)

pub refused_recover : RefusedRecover
refused_recover k p = let e = refused_out k p in (refused_one k p 0x01 e.0, refused_one k p 0x11 e.1)

pub recipe_witnesses_meet : RecipeWitnessesMeet
unfolding rules_of byte_of contr_byte status_byte register_byte is_asserted own_written mail_written drives_written turn_written
    decode in_sequence acknowledged outcome commanded written paired was_read lined ticked fresh_side was_reset power_up effect
    levels lost losses_from losses cut_from cut winner claim granted grant_from grant joined clocked kept_joined connect_from connect
    parts owner_byte lines_byte byte_read refused taken step_event step_decoded step run_from run
    ticks_in never throughout stops_after those control_byte recipe_witnesses
recipe_witnesses_meet Pca9641 Zero = refl
recipe_witnesses_meet Pca9641 One = refl
recipe_witnesses_meet Tpt29641 Zero = refl
recipe_witnesses_meet Tpt29641 One = refl
