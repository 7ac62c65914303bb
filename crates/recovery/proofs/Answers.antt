-- The answers, all of them: the one term that fills the record.
-- Assumes nothing.
use Rattle.recovery.specs.Answers.{Answers}
use Rattle.recovery.proofs.Passes.{stalled_only_if}
use Rattle.recovery.proofs.Exact.{crash_exact}
use Rattle.recovery.proofs.Free.{crash_free}
use Rattle.recovery.proofs.Recipe.{recovery_recipe, recovery_held, recovery_hold, recovery_guarantees, recovery_guarantees_within}
use Rattle.recovery.proofs.RecipeRefused.{refused_left_out, recovery_among_refused}
use Rattle.recovery.proofs.Told.{grant_told, loss_told}
use Rattle.recovery.proofs.Lines.{line_tells, sheets_masked}
use Rattle.recovery.proofs.Diagnosis.{diagnosis}
use Rattle.recovery.proofs.Reading.{diagnosis_read}
use Rattle.recovery.proofs.Mail.{word_waits}
use Rattle.recovery.proofs.Init.{init_ends, init_goes_on, init_counts}
use Rattle.recovery.proofs.CrashWitnesses.{crash_witnesses_meet}
use Rattle.recovery.proofs.RecipeWitnesses.{recipes_recover, refused_recover, recipe_witnesses_meet}
use Rattle.recovery.proofs.ToldWitnesses.{told_witnesses_meet}

pub answers : Answers
answers =
    record {
      crash_exact = crash_exact;
      crash_free = crash_free;
      stalled_only_if = stalled_only_if;
      diagnosis = diagnosis;
      diagnosis_read = diagnosis_read;
      grant_told = grant_told;
      loss_told = loss_told;
      line_tells = line_tells;
      sheets_masked = sheets_masked;
      recovery_recipe = recovery_recipe;
      recovery_held = recovery_held;
      recovery_hold = recovery_hold;
      recovery_guarantees = recovery_guarantees;
      recovery_guarantees_within = recovery_guarantees_within;
      refused_left_out = refused_left_out;
      recovery_among_refused = recovery_among_refused;
      word_waits = word_waits;
      init_ends = init_ends;
      init_goes_on = init_goes_on;
      init_counts = init_counts;
      crash_witnesses_meet = crash_witnesses_meet;
      recipes_recover = recipes_recover;
      refused_recover = refused_recover;
      recipe_witnesses_meet = recipe_witnesses_meet;
      told_witnesses_meet = told_witnesses_meet;
    }
