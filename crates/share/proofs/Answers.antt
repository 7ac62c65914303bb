-- The answers, all of them: the one term that fills the record.
-- Assumes nothing.
use Rattle.share.specs.Answers.{Answers}
use Rattle.share.proofs.Runs.{states_are_ticks, waiting_not_owning}
use Rattle.share.proofs.Sound.{add_up, connected_owned, waited_or_owned, longest_waited, refused_are_traces, totals_fit, traces_fit}
use Rattle.share.proofs.Order.{refused_adds_one, never_no_room, past_most, any_order, any_order_from}
use Rattle.share.proofs.Joined.{joined_alike, joined_past_most}
use Rattle.share.proofs.Buffers.{read_stored}
use Rattle.share.proofs.Examples.{rows_hold, refusals}

pub answers : Answers
answers =
    record {
      states_are_ticks = states_are_ticks;
      waiting_not_owning = waiting_not_owning;
      add_up = add_up;
      connected_owned = connected_owned;
      waited_or_owned = waited_or_owned;
      longest_waited = longest_waited;
      refused_are_traces = refused_are_traces;
      totals_fit = totals_fit;
      traces_fit = traces_fit;
      refused_adds_one = refused_adds_one;
      never_no_room = never_no_room;
      past_most = past_most;
      any_order = any_order;
      any_order_from = any_order_from;
      joined_alike = joined_alike;
      joined_past_most = joined_past_most;
      read_stored = read_stored;
      rows_hold = rows_hold;
      refusals = refusals;
    }
