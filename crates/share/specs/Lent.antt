-- The totals in a lent buffer of 17 numbers, in the order of the record: what adding a trace to them, and joining other totals to them, answers and leaves.
-- Assumes nothing.
use Rattle.std.specs.Prelude.{ℕ, ◌≡◌, Bool, ◌&&◌, List, [], ◌∷◌, eqb, length, get_or, Result, Err, if◌then◌else◌}
use Rattle.share.specs.declared.Totals.{Totals}
use Rattle.share.specs.declared.Uncounted.{Uncounted}
use Rattle.share.specs.declared.Uncounted.TheVariants.{OtherLength}
use Rattle.share.specs.Share.{added, joined, trace_told, join_told}

abbrev pub total_count : ℕ
total_count = 17

abbrev at : List ℕ → ℕ → ℕ
at l i = get_or l i 0

unfoldable pub totals_in : List ℕ → Totals
totals_in l =
    record {
      traces = at l 0;
      ticks = at l 1;
      owned0 = at l 2;
      owned1 = at l 3;
      unowned = at l 4;
      connected0 = at l 5;
      connected1 = at l 6;
      waited0 = at l 7;
      waited1 = at l 8;
      longest0 = at l 9;
      longest1 = at l 10;
      refused3 = at l 11;
      refused5 = at l 12;
      refused6 = at l 13;
      refused7 = at l 14;
      refused8 = at l 15;
      refused10 = at l 16;
    }

unfoldable pub totals_list : Totals → List ℕ
totals_list x =
    x.traces
    ∷ x.ticks
    ∷ x.owned0
    ∷ x.owned1
    ∷ x.unowned
    ∷ x.connected0
    ∷ x.connected1
    ∷ x.waited0
    ∷ x.waited1
    ∷ x.longest0
    ∷ x.longest1
    ∷ x.refused3
    ∷ x.refused5
    ∷ x.refused6
    ∷ x.refused7
    ∷ x.refused8
    ∷ x.refused10
    ∷ []

-- Totals stored so and read back are the same.
abbrev pub ReadStored : Type 0
ReadStored = (x : Totals) → totals_in (totals_list x) ≡ x

-- a buffer of another length is refused with 9 and stays; else the number is that of the trace added, and the buffer has the totals after it
unfoldable pub lent_number : List ℕ → List ℕ → ℕ
lent_number l t = if eqb (length l) total_count then (added (totals_in l) t).number else 9

unfoldable pub lent_after : List ℕ → List ℕ → List ℕ
lent_after l t = if eqb (length l) total_count then totals_list (added (totals_in l) t).totals else l

-- other totals joined to those of a buffer: both have 17 numbers, or 9 refuses them and the buffer stays
abbrev pub both_totals : List ℕ → List ℕ → Bool
both_totals l o = eqb (length l) total_count && eqb (length o) total_count

unfoldable pub join_number : List ℕ → List ℕ → ℕ
join_number l o = if both_totals l o then (joined (totals_in l) (totals_in o)).number else 9

unfoldable pub join_after : List ℕ → List ℕ → List ℕ
join_after l o = if both_totals l o then totals_list (joined (totals_in l) (totals_in o)).totals else l

-- ---- what is told of either call

unfoldable pub lent_told : List ℕ → List ℕ → Result (Unit {0}) Uncounted
lent_told l t = if eqb (length l) total_count then trace_told (totals_in l) t else Err OtherLength

unfoldable pub lent_joined_told : List ℕ → List ℕ → Result (Unit {0}) Uncounted
lent_joined_told l o = if both_totals l o then join_told (totals_in l) (totals_in o) else Err OtherLength
