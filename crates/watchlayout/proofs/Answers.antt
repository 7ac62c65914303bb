-- The answers, all of them: the one term that fills the record.
-- Assumes nothing.
use Rattle.watchlayout.specs.Laws.{Answers}
use Rattle.watchlayout.proofs.Fits.{whole, buffer_fits, listener_fits}
use Rattle.watchlayout.proofs.Back.{read_back}
use Rattle.watchlayout.proofs.Stays.{stays_fit, begins_fit}
use Rattle.watchlayout.proofs.Calls.{stays_watch, many_calls}

pub answers : Answers
answers =
    record {
      whole = whole;
      read_back = read_back;
      buffer_fits = buffer_fits;
      listener_fits = listener_fits;
      stays_fit = stays_fit;
      begins_fit = begins_fit;
      stays_watch = stays_watch;
      many_calls = many_calls;
    }
