-- What the code decides on plain values, in the shape in which it decides it.
-- Assumes nothing.
use Rattle.std.specs.Prelude.{ℕ, zero, suc, ◌+◌, Bool, true, false, ◌||◌, List, [], ◌∷◌, Option, Some, None, Result, Ok, Err, eqb, ltb, length, get_or, set, if◌then◌else◌}
use Rattle.std.specs.declared.ops.Range.{Range}
use Rattle.arbiter.specs.declared.Answer.{Answer}
use Rattle.shelf.specs.declared.Record.{Record}
use Rattle.shelf.specs.declared.Naming.{Naming}
use Rattle.shelf.specs.declared.Naming.TheVariants.{AnAddress, APlace, Nothing}
use Rattle.shelf.specs.declared.Fault.{Fault}
use Rattle.shelf.specs.declared.Fault.TheVariants.{EmptyRow, TooMany, EqualAddresses, NotInRow}
use Rattle.shelf.specs.declared.Reach.{Reach}
use Rattle.shelf.specs.declared.Reach.TheVariants.{At, Everyone}
use Rattle.shelf.specs.Shelf.{record_at, naming}
use Rattle.routing.specs.declared.Seen.{Seen}

-- ---- what is known of a row after some of its records

abbrev pub no_addresses : List ℕ
no_addresses = 0 ∷ 0 ∷ 0 ∷ 0 ∷ 0 ∷ 0 ∷ 0 ∷ 0 ∷ 0 ∷ 0 ∷ 0 ∷ 0 ∷ 0 ∷ 0 ∷ 0 ∷ 0 ∷ []

unfoldable pub start_of : ℕ → Seen
start_of name = record { name = name; count = 0; equal = false; place = None; addresses = no_addresses }

-- the place that was found first stays
unfoldable pub first_at : Option ℕ → Bool → ℕ → Option ℕ
first_at (Some i) hit n = Some i
first_at None hit n = if hit then Some n else None

-- a is among the first n of them
unfoldable pub among_first : ℕ → List ℕ → ℕ → Bool
among_first a l zero = false
among_first a l (suc n) = among_first a l n || eqb (get_or l n 0) a

unfoldable pub see_of : Seen → ℕ → Seen
see_of s a =
    if ltb s.count 16
    then record {
      name = s.name;
      count = s.count + 1;
      equal = s.equal || among_first a s.addresses s.count;
      place = first_at s.place (eqb a s.name) s.count;
      addresses = set s.addresses s.count a;
    }
    else record { name = s.name; count = 17; equal = s.equal; place = s.place; addresses = s.addresses }

-- after the first i records of the row
unfoldable pub seen_to : ℕ → ℕ → List Record → Seen
seen_to zero name row = start_of name
seen_to (suc i) name row = see_of (seen_to i name row) (record_at row i).address

unfoldable pub seen_of : ℕ → List Record → Seen
seen_of name row = seen_to (length row) name row

-- ---- whom an event reaches

-- a place that was found
abbrev pub place_in : Option ℕ → Result Reach Fault
place_in (Some i) = Ok (At i)
place_in None = Err NotInRow

unfoldable pub place_below : ℕ → ℕ → Result Reach Fault
place_below name count = if ltb name count then Ok (At name) else Err NotInRow

unfoldable pub named_in : Naming → Seen → Result Reach Fault
named_in AnAddress s = place_in s.place
named_in APlace s = place_below s.name s.count
named_in Nothing s = Ok Everyone

unfoldable pub reach_for : Seen → Naming → Result Reach Fault
reach_for s n =
    if eqb s.count 0 then Err EmptyRow
    else if ltb 16 s.count then Err TooMany
    else if s.equal then Err EqualAddresses
    else named_in n s

unfoldable pub reach_in : Seen → ℕ → Result Reach Fault
reach_in s kind = reach_for s (naming kind)

-- ---- what is to be done

abbrev pub no_answer : Answer
no_answer = record { outcome = 0; read = 0; owner = 0; lines = 0 }

-- the places from one to below another
abbrev pub places : ℕ → ℕ → Range ℕ
places from to = record { start = from; end = to }

abbrev pub plan_by : Reach → ℕ → Range ℕ
plan_by (At i) count = places i (i + 1)
plan_by Everyone count = places 0 count

abbrev pub plan_in : Result Reach Fault → ℕ → Result (Range ℕ) Fault
plan_in (Ok w) count = Ok (plan_by w count)
plan_in (Err f) count = Err f

unfoldable pub plan_of : Seen → ℕ → Result (Range ℕ) Fault
plan_of s kind = plan_in (reach_in s kind) s.count

-- ---- what one record answers where others did so before it: the first one answers

abbrev pub first_answer : Option Answer → Answer → Answer
first_answer (Some before) now = before
first_answer None now = now
