-- What is proved of images, in one record, one field a statement. proofs/Answers.antt fills it with one term, so that a lost proof fails the check.
-- Assumes nothing.
use Rattle.layout.specs.Laws.{Whole, RecordFits, ImageFits, ReadBack, LaidOutBack, StepsAlike, StaysImage, RefusedKept, RunsAlike, RunsInRange, EveryRowReached}

pub record Answers : Type 0 where
  -- Are record and image inverse, each in range with the other?
  pub whole : Whole
  pub record_fits : RecordFits
  pub image_fits : ImageFits
  pub read_back : ReadBack
  pub laid_out_back : LaidOutBack
  -- What does a step on an image do?
  pub steps_alike : StepsAlike
  pub stays_image : StaysImage
  pub refused_kept : RefusedKept
  -- What do runs from power-up give?
  pub runs_alike : RunsAlike
  pub runs_in_range : RunsInRange
  pub every_row_reached : EveryRowReached
