-- Walk of `share`: how the code counts one trace: what it sees of a state, and the counts that it hands from state to state.
-- Assumes nothing.
use Rattle.std.specs.Prelude.{ℕ, ◌+◌, ◌-◌, ◌*◌, ◌<◌, ◌≤◌, ◌≡◌, Bool, false, ◌||◌, List, [], ◌∷◌, ltb, drop, if◌then◌else◌}
use Rattle.arbiter.specs.Words.{worth}
use Rattle.arbiter.specs.State.{owns, connected}
use Rattle.arbiter.specs.Steps.{step, run_from}
use Rattle.arbiter.specs.Traces.{event_bytes, most_events, raws_in, event_count}
use Rattle.arbiter.specs.declared.Master.TheVariants.{Zero, One}
use Rattle.arbiter.specs.declared.Device.{Device}
use Rattle.arbiter.specs.declared.Raw.{Raw}
use Rattle.format.specs.Places.{event_at}
use Rattle.light.specs.Light.{Settled}
use Rattle.quiet.specs.Counts.{after_ticks}
use Rattle.quiet.specs.Quiet.{tick}
use Rattle.traces.specs.Ticks.{is_tick_raw}
use Rattle.share.specs.declared.Point.{Point}
use Rattle.share.specs.declared.Seen.{Seen}
use Rattle.share.specs.declared.Tally.{Tally}
use Rattle.share.specs.declared.Totals.{Totals}
use Rattle.share.specs.Numbers.{larger}
use Rattle.share.specs.States.{states_from, waits, unowned}

-- what is seen of a state
unfoldable pub seen_of : Device → Seen
seen_of d =
    record {
      owns0 = owns Zero d;
      owns1 = owns One d;
      free = unowned d;
      closed0 = connected Zero d;
      closed1 = connected One d;
      waits0 = waits Zero d;
      waits1 = waits One d;
    }

-- a wait that goes on for j states more, or has ended
unfoldable pub waited_on : ℕ → Bool → ℕ → ℕ
waited_on j waiting n = if waiting then n + j else 0

-- j states more, of which the same is seen
unfoldable pub noted : ℕ → Seen → Tally → Tally
noted j s t =
    record {
      ticks = t.ticks + j;
      owned0 = t.owned0 + worth j s.owns0;
      owned1 = t.owned1 + worth j s.owns1;
      unowned = t.unowned + worth j s.free;
      connected0 = t.connected0 + worth j s.closed0;
      connected1 = t.connected1 + worth j s.closed1;
      waited0 = t.waited0 + worth j s.waits0;
      waited1 = t.waited1 + worth j s.waits1;
      run0 = waited_on j s.waits0 t.run0;
      run1 = waited_on j s.waits1 t.run1;
      longest0 = larger t.longest0 (waited_on j s.waits0 t.run0);
      longest1 = larger t.longest1 (waited_on j s.waits1 t.run1);
    }

-- the counts after these states
unfoldable pub tally_from : Tally → List Device → Tally
tally_from t [] = t
tally_from t (d ∷ ds) = tally_from (noted 1 (seen_of d) t) ds

unfoldable pub no_tally : Tally
no_tally =
    record {
      ticks = 0;
      owned0 = 0;
      owned1 = 0;
      unowned = 0;
      connected0 = 0;
      connected1 = 0;
      waited0 = 0;
      waited1 = 0;
      run0 = 0;
      run1 = 0;
      longest0 = 0;
      longest1 = 0;
    }

-- every count is at most n
abbrev pub Within : ℕ → Tally → Type 0
Within n t =
    (t.ticks ≤ n)
    × (t.owned0 ≤ n)
    × (t.owned1 ≤ n)
    × (t.unowned ≤ n)
    × (t.connected0 ≤ n)
    × (t.connected1 ≤ n)
    × (t.waited0 ≤ n)
    × (t.waited1 ≤ n)
    × (t.run0 ≤ n)
    × (t.run1 ≤ n)
    × (t.longest0 ≤ n)
    × (t.longest1 ≤ n)

-- the counts of a trace as totals
unfoldable pub shares : Tally → Totals
shares t =
    record {
      traces = 1;
      ticks = t.ticks;
      owned0 = t.owned0;
      owned1 = t.owned1;
      unowned = t.unowned;
      connected0 = t.connected0;
      connected1 = t.connected1;
      waited0 = t.waited0;
      waited1 = t.waited1;
      longest0 = t.longest0;
      longest1 = t.longest1;
      refused3 = 0;
      refused5 = 0;
      refused6 = 0;
      refused7 = 0;
      refused8 = 0;
      refused10 = 0;
    }

-- ---- through the events

abbrev pub point_with : Device → Tally → ℕ → Point
point_with d t n = record { device = d; tally = t; at = n }

-- after one event more; its state is noted if the event is a TICK
unfoldable pub one_taken : Point → Raw → Point
one_taken p r =
    let d : Device = (step p.device r).device in
    point_with d (if is_tick_raw r then noted 1 (seen_of d) p.tally else p.tally) (p.at + 1)

-- after j quiet TICKs more
unfoldable pub quiet_taken : Point → ℕ → Point
quiet_taken p j =
    let d : Device = after_ticks j p.device in
    point_with d (noted j (seen_of d) p.tally) (p.at + j)

-- each of the r events from number n on is a TICK
abbrev pub AllTicks : ℕ → ℕ → List ℕ → Type 0
AllTicks r n b = (k : ℕ) → k < r → event_at (n + k) b ≡ tick

-- each of them is a TICK, or none is
abbrev pub AllSuch : Bool → ℕ → ℕ → List ℕ → Type 0
AllSuch ticks r n b = (k : ℕ) → k < r → is_tick_raw (event_at (n + k) b) ≡ ticks

-- none of them is
abbrev pub NoTicks : ℕ → ℕ → List ℕ → Type 0
NoTicks r n b = (k : ℕ) → k < r → is_tick_raw (event_at (n + k) b) ≡ false

-- after k events more of which none is a TICK: nothing is noted
abbrev pub others_taken : Point → ℕ → List ℕ → Point
others_taken p k b = point_with (run_from p.device (raws_in k (drop (event_bytes * p.at) b))) p.tally (p.at + k)

-- the events of the first n from number i on
abbrev pub left : List ℕ → ℕ → ℕ → List Raw
left b n i = raws_in (n - i) (drop (event_bytes * i) b)

-- q is further on than p, and with what is left comes to the same counts; its device is settled
abbrev pub Onward : List ℕ → ℕ → Point → Point → Type 0
Onward b n p q =
    (p.at < q.at)
    × (q.at ≤ n)
    × Within q.at q.tally
    × (tally_from q.tally (states_from q.device (left b n q.at)) ≡ tally_from p.tally (states_from p.device (left b n p.at)))
    × Settled q.device

-- the counts of the first n events; none where there are not so many, or more than a trace has
unfoldable pub counted_in : Device → List ℕ → ℕ → Tally
counted_in d b n = if ltb most_events n || ltb (event_count b) n then no_tally else tally_from no_tally (states_from d (raws_in n b))
