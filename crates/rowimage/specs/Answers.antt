-- What is proved of rows in buffers, in one record, one field a statement. proofs/Answers.antt fills it with one term, so that a lost proof fails
-- the check.
-- Assumes nothing.
use Rattle.rowimage.specs.Laws.{RowReadBack, RowLaidOutBack, RowStays, RowRefused, FreshRowGood, RowsAlike}

pub record Answers : Type 0 where
  -- Are row and buffer inverse?
  pub row_read_back : RowReadBack
  pub row_laid_out_back : RowLaidOutBack
  -- What does one event leave?
  pub row_stays : RowStays
  pub row_refused : RowRefused
  -- What do events from power-up leave?
  pub fresh_row_good : FreshRowGood
  pub rows_alike : RowsAlike
