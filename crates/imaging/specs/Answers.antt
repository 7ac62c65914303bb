-- What is proved of an advance on an image, in one record, one field a statement. proofs/Answers.antt fills it with one term, so that a lost proof
-- fails the check.
-- Assumes nothing.
use Rattle.imaging.specs.Laws.{AdvancedAlike, AdvancedStays, NoneAdvanced, PastAdvanced, SixOnImages}

pub record Answers : Type 0 where
  pub advanced_alike : AdvancedAlike
  pub advanced_stays : AdvancedStays
  pub none_advanced : NoneAdvanced
  pub past_advanced : PastAdvanced
  pub six_on_images : SixOnImages
