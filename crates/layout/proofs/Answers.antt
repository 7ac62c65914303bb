-- The answers, all of them: the one term that fills the record.
-- Assumes nothing.
use Rattle.layout.specs.Answers.{Answers}
use Rattle.layout.proofs.Fits.{whole, record_fits, image_fits}
use Rattle.layout.proofs.Back.{read_back, laid_out_back}
use Rattle.layout.proofs.Steps.{steps_alike, stays_image, refused_kept, runs_alike, runs_in_range}
use Rattle.layout.proofs.Reached.{every_row_reached}

pub answers : Answers
answers =
    record {
      whole = whole;
      record_fits = record_fits;
      image_fits = image_fits;
      read_back = read_back;
      laid_out_back = laid_out_back;
      steps_alike = steps_alike;
      stays_image = stays_image;
      refused_kept = refused_kept;
      runs_alike = runs_alike;
      runs_in_range = runs_in_range;
      every_row_reached = every_row_reached;
    }
