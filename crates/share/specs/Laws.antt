-- Laws of `share`: what holds of the totals of #112, whatever the traces. proofs/ prove each, under the same name in small letters.
-- Assumes nothing.
use Rattle.std.specs.Prelude.{ℕ, ◌+◌, ◌*◌, ◌<◌, ◌≤◌, ◌≡◌, true, false, eqb, length}
use mathlib.Core.List.{List, ◌++◌, Permᴰ}
use Rattle.arbiter.specs.Words.{worth}
use Rattle.arbiter.specs.State.{owns}
use Rattle.arbiter.specs.Effects.{power_up}
use Rattle.arbiter.specs.Traces.{most_events, refusal_number}
use Rattle.arbiter.specs.AuditWords.{ticks_in}
use Rattle.arbiter.specs.declared.Master.{Master}
use Rattle.arbiter.specs.declared.Kind.{Kind}
use Rattle.arbiter.specs.declared.Device.{Device}
use Rattle.arbiter.specs.declared.Raw.{Raw}
use Rattle.arbiter.specs.declared.Refusal.{Refusal}
use Rattle.arbiter.specs.declared.Refusal.TheVariants.{NoRoom}
use Rattle.std.specs.Prelude.{Err}
use Rattle.share.specs.declared.Totals.{Totals}
use Rattle.share.specs.Numbers.{top, plus}
use Rattle.share.specs.States.{tick_states, waits}
use Rattle.share.specs.Share.{most_traces, read_alone, together, added, added_with, added_all, totals_after, joined}

-- ---- of one run

-- The list has a state for each accepted TICK.
abbrev pub StatesAreTicks : Type 0
StatesAreTicks = (k : Kind) (rs : List Raw) → length (tick_states k rs) ≡ ticks_in (power_up k) rs

-- Who waits does not own.
abbrev pub WaitingNotOwning : Type 0
WaitingNotOwning = (m : Master) (d : Device) → waits m d ≡ true → owns m d ≡ false

-- ---- of the totals after any traces

-- "Owned by 0, owned by 1 and owned by none add up to the TICK events."
abbrev pub AddUp : Type 0
AddUp = (ts : List (List ℕ)) → let x : Totals = totals_after ts in x.owned0 + x.owned1 + x.unowned ≡ x.ticks

-- Who is connected owns.
abbrev pub ConnectedOwned : Type 0
ConnectedOwned = (ts : List (List ℕ)) → let x : Totals = totals_after ts in (x.connected0 ≤ x.owned0) × (x.connected1 ≤ x.owned1)

-- No tick is both waited and owned by one controller.
abbrev pub WaitedOrOwned : Type 0
WaitedOrOwned = (ts : List (List ℕ)) → let x : Totals = totals_after ts in (x.waited0 + x.owned0 ≤ x.ticks) × (x.waited1 + x.owned1 ≤ x.ticks)

-- A longest wait is among the ticks waited.
abbrev pub LongestWaited : Type 0
LongestWaited = (ts : List (List ℕ)) → let x : Totals = totals_after ts in (x.longest0 ≤ x.waited0) × (x.longest1 ≤ x.waited1)

-- The refused traces are among the traces, each under one number.
abbrev pub refusals : Totals → ℕ
refusals x = x.refused3 + x.refused5 + x.refused6 + x.refused7 + x.refused8 + x.refused10

abbrev pub RefusedAreTraces : Type 0
RefusedAreTraces = (ts : List (List ℕ)) → let x : Totals = totals_after ts in refusals x ≤ x.traces

-- Every total is at most so much.
abbrev pub AllWithin : ℕ → Totals → Type 0
AllWithin n x =
    (x.traces ≤ n)
    × (x.ticks ≤ n)
    × (x.owned0 ≤ n)
    × (x.owned1 ≤ n)
    × (x.unowned ≤ n)
    × (x.connected0 ≤ n)
    × (x.connected1 ≤ n)
    × (x.waited0 ≤ n)
    × (x.waited1 ≤ n)
    × (x.longest0 ≤ n)
    × (x.longest1 ≤ n)
    × (x.refused3 ≤ n)
    × (x.refused5 ≤ n)
    × (x.refused6 ≤ n)
    × (x.refused7 ≤ n)
    × (x.refused8 ≤ n)
    × (x.refused10 ≤ n)

-- "Totals are 64-bit over up to 65,535 traces": no sum of them reaches the top, where it would stop.
abbrev pub most_total : ℕ
most_total = most_traces * most_events

abbrev pub TotalsFit : Type 0
TotalsFit = ((ts : List (List ℕ)) → AllWithin most_total (totals_after ts)) × (most_total < top)

abbrev pub TracesFit : Type 0
TracesFit = (ts : List (List ℕ)) → (totals_after ts).traces ≤ most_traces

-- ---- of adding a trace

-- "a refused trace adds nothing except one to a count of refused traces for its number": in any 64-bit totals every other total stays
abbrev pub SameShares : Totals → Totals → Type 0
SameShares x y =
    (x.ticks ≡ y.ticks)
    × (x.owned0 ≡ y.owned0)
    × (x.owned1 ≡ y.owned1)
    × (x.unowned ≡ y.unowned)
    × (x.connected0 ≡ y.connected0)
    × (x.connected1 ≡ y.connected1)
    × (x.waited0 ≡ y.waited0)
    × (x.waited1 ≡ y.waited1)
    × (x.longest0 ≡ y.longest0)
    × (x.longest1 ≡ y.longest1)

-- x after y: one more trace, and one more under this number
abbrev pub OneMoreRefused : ℕ → Totals → Totals → Type 0
OneMoreRefused number x y =
    (x.traces ≡ y.traces + 1)
    × (x.refused3 ≡ plus y.refused3 (worth 1 (eqb number 3)))
    × (x.refused5 ≡ plus y.refused5 (worth 1 (eqb number 5)))
    × (x.refused6 ≡ plus y.refused6 (worth 1 (eqb number 6)))
    × (x.refused7 ≡ plus y.refused7 (worth 1 (eqb number 7)))
    × (x.refused8 ≡ plus y.refused8 (worth 1 (eqb number 8)))
    × (x.refused10 ≡ plus y.refused10 (worth 1 (eqb number 10)))

abbrev pub RefusedAddsOne : Type 0
RefusedAddsOne =
    (x : Totals) (t : List ℕ) (r : Refusal) → AllWithin top x → x.traces < most_traces → read_alone t ≡ Err r
    → SameShares (added x t).totals x × OneMoreRefused (refusal_number r) (added x t).totals x × ((added x t).number ≡ refusal_number r)

-- There is no answer buffer that could lack room: 9 does not come.
abbrev pub NeverNoRoom : Type 0
NeverNoRoom = (t : List ℕ) → read_alone t ≡ Err NoRoom → ⊥

-- "6 past 65,535 traces, refused ones included, totals kept", whatever the trace
abbrev pub PastMost : Type 0
PastMost = (x : Totals) (t : List ℕ) → most_traces ≤ x.traces → added x t ≡ added_with x 6

-- the one list is the other in another order
abbrev pub Reordered : List (List ℕ) → List (List ℕ) → Type 0
Reordered ts us = Permᴰ ts us

-- In what order up to 65,535 traces are added is all one; so it is from any totals on, made up or not, as long as all of them are taken.
abbrev pub AnyOrder : Type 0
AnyOrder = (ts us : List (List ℕ)) → Reordered ts us → length ts ≤ most_traces → totals_after ts ≡ totals_after us

abbrev pub AnyOrderFrom : Type 0
AnyOrderFrom = (x : Totals) (ts us : List (List ℕ)) → Reordered ts us → x.traces + length ts ≤ most_traces → added_all x ts ≡ added_all x us

-- ---- of joining totals

-- Traces counted in two places and put together have the totals of all of them counted in one, and the call answers so.
abbrev pub JoinedAlike : Type 0
JoinedAlike =
    (ts us : List (List ℕ)) → length ts + length us ≤ most_traces
    → (together (totals_after ts) (totals_after us) ≡ totals_after (ts ++ us))
    × (joined (totals_after ts) (totals_after us) ≡ added_with (totals_after (ts ++ us)) 0)

-- "totals kept", of any totals, made up or not
abbrev pub JoinedPastMost : Type 0
JoinedPastMost = (x y : Totals) → most_traces < x.traces + y.traces → joined x y ≡ added_with x 6
