-- The answers, all of them: the one term that fills the record.
-- Assumes nothing.
use Rattle.rowimage.specs.Answers.{Answers}
use Rattle.rowimage.proofs.Bytes.{row_read_back, row_laid_out_back}
use Rattle.rowimage.proofs.Laws.{row_stays, row_refused, fresh_row_good, rows_alike}

pub answers : Answers
answers =
    record {
      row_read_back = row_read_back;
      row_laid_out_back = row_laid_out_back;
      row_stays = row_stays;
      row_refused = row_refused;
      fresh_row_good = fresh_row_good;
      rows_alike = rows_alike;
    }
