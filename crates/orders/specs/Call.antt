-- Request 109, the call: its refusals in their order, its answer, and what the lent buffer holds after it.
-- Assumes nothing.
use Rattle.std.specs.Prelude.{ℕ, ◌%◌, ◌≤◌, ◌≡◌, Bool, not, ◌&&◌, ◌||◌, List, ◌++◌, Result, Ok, Err, eqb, ltb, length, take, drop, if◌then◌else◌}
use Rattle.arbiter.specs.Traces.{event_bytes, raws_in, event_count}
use Rattle.arbiter.specs.declared.Raw.{Raw}
use Rattle.orders.specs.Orders.{number_of_orders, order_bytes}
use Rattle.orders.specs.declared.ScriptFault.{ScriptFault}
use Rattle.orders.specs.declared.ScriptFault.TheVariants.{NotInFours, TooLong, NoRoom}

-- "both controllers' scripts, up to six events each"
abbrev pub most_scripted : ℕ
most_scripted = 6

-- the events of a script's bytes, refused ones included
unfoldable pub script_in : List ℕ → List Raw
script_in script = raws_in (event_count script) script

abbrev pub in_fours : List ℕ → Bool
in_fours script = eqb (length script % event_bytes) 0

abbrev pub too_long : List ℕ → Bool
too_long script = ltb most_scripted (event_count script)

-- "the smaller of that limit and the number of orders"
abbrev pub smaller : ℕ → ℕ → ℕ
smaller a b = if ltb a b then a else b

abbrev pub list_count : List ℕ → List ℕ → ℕ → ℕ
list_count script0 script1 limit = smaller limit (number_of_orders (event_count script0) (event_count script1))

-- "Refusals, nothing written: 6 a script above six, then 9 when room is under that number." Bytes that are not in fours are 5, before these.
unfoldable pub list_number : List ℕ → List ℕ → ℕ → ℕ → ℕ
list_number script0 script1 limit room =
    if not (in_fours script0 && in_fours script1) then 5
    else if too_long script0 || too_long script1 then 6
    else if ltb room (list_count script0 script1 limit) then 9
    else 0

-- what the listing reports: its number, and how many orders it listed
pub record Listed : Type 0 where
  pub number : ℕ
  pub count : ℕ

abbrev pub listed_with : ℕ → ℕ → Listed
listed_with number count = record { number = number; count = count }

-- by the number: "answers how many it listed", and none where it is refused
abbrev pub listed_by : ℕ → List ℕ → List ℕ → ℕ → Listed
listed_by number script0 script1 limit = listed_with number (if eqb number 0 then list_count script0 script1 limit else 0)

-- "The caller gives a limit; the call stops there": the front of what there is to list. Bytes past it stay.
abbrev pub buffer_by : ℕ → List ℕ → List ℕ → ℕ → List ℕ → List ℕ
buffer_by number script0 script1 limit buffer =
    if eqb number 0 then take limit (order_bytes (script_in script0) (script_in script1)) ++ drop (list_count script0 script1 limit) buffer else buffer

-- the answer, and the buffer
unfoldable pub orders_listed : List ℕ → List ℕ → ℕ → List ℕ → Listed
orders_listed script0 script1 limit buffer = listed_by (list_number script0 script1 limit (length buffer)) script0 script1 limit

unfoldable pub orders_buffer : List ℕ → List ℕ → ℕ → List ℕ → List ℕ
orders_buffer script0 script1 limit buffer = buffer_by (list_number script0 script1 limit (length buffer)) script0 script1 limit buffer

-- the answer as the code has it: how many were listed, or why none
abbrev pub script_fault_number : ScriptFault → ℕ
script_fault_number NotInFours = 5
script_fault_number TooLong = 6
script_fault_number NoRoom = 9

abbrev pub listed_of : Result ℕ ScriptFault → Listed
listed_of (Ok n) = listed_with 0 n
listed_of (Err f) = listed_with (script_fault_number f) 0

-- ---- what is proved of a call that is not refused: it lists the front of what a call without a limit lists, all of it where the limit is
-- not under the number of orders, and leaves the rest of the buffer

module _ (script0 script1 : List ℕ) (limit : ℕ) (buffer : List ℕ) where
  abbrev pub all_bytes : List ℕ
  all_bytes = order_bytes (script_in script0) (script_in script1)

  abbrev pub count_listed : ℕ
  count_listed = (orders_listed script0 script1 limit buffer).count

  abbrev pub bytes_listed : List ℕ
  bytes_listed = take count_listed (orders_buffer script0 script1 limit buffer)

  pub record Front : Type 0 where
    pub count : count_listed ≡ length bytes_listed
    pub front : bytes_listed ≡ take limit all_bytes
    pub whole : number_of_orders (event_count script0) (event_count script1) ≤ limit → bytes_listed ≡ all_bytes
    pub stays : drop count_listed (orders_buffer script0 script1 limit buffer) ≡ drop count_listed buffer

abbrev pub FrontOfAll : Type 0
FrontOfAll =
    (script0 script1 : List ℕ) (limit : ℕ) (buffer : List ℕ)
    → list_number script0 script1 limit (length buffer) ≡ 0 → Front script0 script1 limit buffer
