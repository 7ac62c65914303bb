-- The answers, all of them: the one term that fills the record.
-- Assumes nothing.
use Rattle.imaging.specs.Answers.{Answers}
use Rattle.imaging.proofs.OnImages.{advanced_alike, advanced_stays, none_advanced, past_advanced, six_on_images}

pub answers : Answers
answers =
    record {
      advanced_alike = advanced_alike;
      advanced_stays = advanced_stays;
      none_advanced = none_advanced;
      past_advanced = past_advanced;
      six_on_images = six_on_images;
    }
