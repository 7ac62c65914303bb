-- All statements of this crate in one record, one field a statement. proofs/Answers.antt fills it with one term, so that a lost proof fails
-- the check.
-- Assumes nothing.
use Rattle.recovery.specs.Crash.{CrashExact, CrashFree, StalledOnlyIf}
use Rattle.recovery.specs.Diagnosis.{Diagnosis, DiagnosisRead, WordWaits, InitEnds, InitGoesOn, InitCounts}
use Rattle.recovery.specs.Recipe.{RecoveryRecipe, RecoveryHeld, RecoveryHold, RecoveryGuarantees, RecoveryGuaranteesWithin, RefusedLeftOut, RecoveryAmongRefused}
use Rattle.recovery.specs.Told.{GrantTold, LossTold, LineTells, SheetsMasked}
use Rattle.recovery.specs.CrashWitnesses.{CrashWitnessesMeet}
use Rattle.recovery.specs.RecipeWitnesses.{RecipesRecover, RefusedRecover, RecipeWitnessesMeet}
use Rattle.recovery.specs.ToldWitnesses.{ToldWitnessesMeet}

pub record Answers : Type 0 where
  -- When can a controller that stalls keep the bus?
  pub crash_exact : CrashExact
  pub crash_free : CrashFree
  pub stalled_only_if : StalledOnlyIf
  -- How does the other know?
  pub diagnosis : Diagnosis
  pub diagnosis_read : DiagnosisRead
  pub grant_told : GrantTold
  pub loss_told : LossTold
  pub line_tells : LineTells
  pub sheets_masked : SheetsMasked
  -- How does it get the bus back?
  pub recovery_recipe : RecoveryRecipe
  pub recovery_held : RecoveryHeld
  pub recovery_hold : RecoveryHold
  pub recovery_guarantees : RecoveryGuarantees
  pub recovery_guarantees_within : RecoveryGuaranteesWithin
  pub refused_left_out : RefusedLeftOut
  pub recovery_among_refused : RecoveryAmongRefused
  -- What of a word that was sent, and of an initialisation?
  pub word_waits : WordWaits
  pub init_ends : InitEnds
  pub init_goes_on : InitGoesOn
  pub init_counts : InitCounts
  -- Are there such runs?
  pub crash_witnesses_meet : CrashWitnessesMeet
  pub recipes_recover : RecipesRecover
  pub refused_recover : RefusedRecover
  pub recipe_witnesses_meet : RecipeWitnessesMeet
  pub told_witnesses_meet : ToldWitnessesMeet
