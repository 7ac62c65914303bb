-- What is proved of every stream of samples: the one term that fills the record.
-- Assumes nothing.
use Rattle.watch.specs.Answers.{Answers}
use Rattle.watch.proofs.Chunks.{chunks_alike, events_in_chunks, checks_in_chunks, device_is_run}
use Rattle.watch.proofs.Imported.{above_as_imported, as_imported}
use Rattle.watch.proofs.Faults.{faults_told}
use Rattle.watch.proofs.First.{all_counted}
use Rattle.watch.proofs.Told.{some_taken, none_missed, left_where_told}
use Rattle.watch.proofs.Examples.{examples_hold}

pub answers : Answers
answers =
    record {
      chunks_alike = chunks_alike;
      events_in_chunks = events_in_chunks;
      checks_in_chunks = checks_in_chunks;
      device_is_run = device_is_run;
      as_imported = as_imported;
      above_as_imported = above_as_imported;
      faults_told = faults_told;
      all_counted = all_counted;
      some_taken = some_taken;
      none_missed = none_missed;
      left_where_told = left_where_told;
      examples_hold = examples_hold;
    }
