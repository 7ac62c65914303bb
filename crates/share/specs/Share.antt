-- Request #112, "Bus share report": the totals, what a trace adds to them, and the refusals.
-- Assumes nothing.
use Rattle.arbiter.specs.declared.Accepted.{Accepted}
use Rattle.std.specs.Prelude.{ℕ, ◌+◌, List, [], ◌∷◌, eqb, ltb, length, Result, Ok, Err, if◌then◌else◌}
use Rattle.arbiter.specs.Words.{worth}
use Rattle.arbiter.specs.State.{owns, connected}
use Rattle.arbiter.specs.Traces.{answer_room, events_in, read_trace, refusal_number, read_number}
use Rattle.arbiter.specs.declared.Master.TheVariants.{Zero, One}
use Rattle.arbiter.specs.declared.Device.{Device}
use Rattle.arbiter.specs.declared.Refusal.{Refusal}
use Rattle.share.specs.declared.Totals.{Totals}
use Rattle.share.specs.declared.Uncounted.{Uncounted}
use Rattle.share.specs.declared.Uncounted.TheVariants.{BadTrace, PastMost, OtherLength}
use Rattle.share.specs.Numbers.{plus, larger}
use Rattle.share.specs.States.{tick_states, waits, unowned, count, longest}

-- "Totals are 64-bit over up to 65,535 traces"
abbrev pub most_traces : ℕ
most_traces = 65535

-- ---- what one trace has of each total

-- an accepted one: a count over the states after its TICKs for each
unfoldable pub shares_in : List Device → Totals
shares_in ds =
    record {
      traces = 1;
      ticks = length ds;
      owned0 = count (owns Zero) ds;
      owned1 = count (owns One) ds;
      unowned = count unowned ds;
      connected0 = count (connected Zero) ds;
      connected1 = count (connected One) ds;
      waited0 = count (waits Zero) ds;
      waited1 = count (waits One) ds;
      longest0 = longest (waits Zero) ds;
      longest1 = longest (waits One) ds;
      refused3 = 0;
      refused5 = 0;
      refused6 = 0;
      refused7 = 0;
      refused8 = 0;
      refused10 = 0;
    }

-- one that is refused with this number: "a refused trace adds nothing except one to a count of refused traces for its number"
unfoldable pub refused_by : ℕ → Totals
refused_by number =
    record {
      traces = 1;
      ticks = 0;
      owned0 = 0;
      owned1 = 0;
      unowned = 0;
      connected0 = 0;
      connected1 = 0;
      waited0 = 0;
      waited1 = 0;
      longest0 = 0;
      longest1 = 0;
      refused3 = worth 1 (eqb number 3);
      refused5 = worth 1 (eqb number 5);
      refused6 = worth 1 (eqb number 6);
      refused7 = worth 1 (eqb number 7);
      refused8 = worth 1 (eqb number 8);
      refused10 = worth 1 (eqb number 10);
    }

-- before the first trace
unfoldable pub no_totals : Totals
no_totals =
    record {
      traces = 0;
      ticks = 0;
      owned0 = 0;
      owned1 = 0;
      unowned = 0;
      connected0 = 0;
      connected1 = 0;
      waited0 = 0;
      waited1 = 0;
      longest0 = 0;
      longest1 = 0;
      refused3 = 0;
      refused5 = 0;
      refused6 = 0;
      refused7 = 0;
      refused8 = 0;
      refused10 = 0;
    }

-- There is no answer buffer, so a trace is read with room for the answers of any, and 9 does not come (Laws, NeverNoRoom).
abbrev pub read_alone : List ℕ → Result Accepted Refusal
read_alone t = read_trace t answer_room

unfoldable pub totals_of : Result Accepted Refusal → List ℕ → Totals
totals_of (Ok a) t = shares_in (tick_states a.kind (events_in a.events t))
totals_of (Err r) t = refused_by (refusal_number r)

-- ---- totals put together: sums, and of the longest waits the larger

unfoldable pub together : Totals → Totals → Totals
together x y =
    record {
      traces = plus x.traces y.traces;
      ticks = plus x.ticks y.ticks;
      owned0 = plus x.owned0 y.owned0;
      owned1 = plus x.owned1 y.owned1;
      unowned = plus x.unowned y.unowned;
      connected0 = plus x.connected0 y.connected0;
      connected1 = plus x.connected1 y.connected1;
      waited0 = plus x.waited0 y.waited0;
      waited1 = plus x.waited1 y.waited1;
      longest0 = larger x.longest0 y.longest0;
      longest1 = larger x.longest1 y.longest1;
      refused3 = plus x.refused3 y.refused3;
      refused5 = plus x.refused5 y.refused5;
      refused6 = plus x.refused6 y.refused6;
      refused7 = plus x.refused7 y.refused7;
      refused8 = plus x.refused8 y.refused8;
      refused10 = plus x.refused10 y.refused10;
    }

-- ---- the call

-- the totals after a trace, and its number
pub record Added : Type 0 where
  pub totals : Totals
  pub number : ℕ

abbrev pub added_with : Totals → ℕ → Added
added_with x number = record { totals = x; number = number }

-- "Refusal: 6 past 65,535 traces, refused ones included, totals kept"; else the number is the trace's own
unfoldable pub added : Totals → List ℕ → Added
added x t =
    if ltb x.traces most_traces then added_with (together x (totals_of (read_alone t) t)) (read_number (read_alone t))
    else added_with x 6

-- the totals after many traces, one after the other
unfoldable pub added_all : Totals → List (List ℕ) → Totals
added_all x [] = x
added_all x (t ∷ ts) = added_all (added x t).totals ts

abbrev pub totals_after : List (List ℕ) → Totals
totals_after ts = added_all no_totals ts

-- Totals of other traces joined to these, so that traces can be counted in several places: "6 past 65,535 traces, refused ones included, totals
-- kept" of both together.
unfoldable pub joined : Totals → Totals → Added
joined x y = if ltb most_traces (x.traces + y.traces) then added_with x 6 else added_with (together x y) 0

-- ---- what is told of a call, and its number

abbrev pub uncounted_number : Uncounted → ℕ
uncounted_number (BadTrace r) = refusal_number r
uncounted_number PastMost = 6
uncounted_number OtherLength = 9

abbrev pub told_number : Result (Unit {0}) Uncounted → ℕ
told_number (Ok x) = 0
told_number (Err why) = uncounted_number why

abbrev pub read_told : Result Accepted Refusal → Result (Unit {0}) Uncounted
read_told (Ok a) = Ok tt
read_told (Err r) = Err (BadTrace r)

unfoldable pub trace_told : Totals → List ℕ → Result (Unit {0}) Uncounted
trace_told x t = if ltb x.traces most_traces then read_told (read_alone t) else Err PastMost

unfoldable pub join_told : Totals → Totals → Result (Unit {0}) Uncounted
join_told x y = if ltb most_traces (x.traces + y.traces) then Err PastMost else Ok tt
