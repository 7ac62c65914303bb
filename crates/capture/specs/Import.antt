-- Request 104, the call: its refusals in their order, its answer, and what the lent buffer holds after it.
-- Assumes nothing.
use Rattle.std.specs.Prelude.{◌*◌, ◌||◌, ◌++◌, if◌then◌else◌, Result, Ok, Err}
use Rattle.capture.specs.Names.{ℕ, Bool, not, List, eqb, ltb, length, drop, Zero, One, ImportFault, TooLong, BadAddress, Cut, NoRoom}
use Rattle.arbiter.specs.Straps.{in_range}
use Rattle.capture.specs.OneBus.{cut_on}
use Rattle.capture.specs.Events.{captured, event_bytes}

-- "up to 32,768 samples"
abbrev pub most_samples : ℕ
most_samples = 32768

abbrev pub cut_on_either : ℕ → List ℕ → Bool
cut_on_either address samples = cut_on Zero address samples || cut_on One address samples

-- "Refusals .. in order: 13 above 32,768 samples; 11 for the address; 12 a START or STOP inside a byte, or the capture ending inside one; 9."
-- Room is four bytes an event.
unfoldable pub import_number : ℕ → List ℕ → ℕ → ℕ
import_number address samples room =
    if ltb most_samples (length samples) then 13
    else if not (in_range address) then 11
    else if cut_on_either address samples then 12
    else if ltb room (4 * length (captured address samples)) then 9
    else 0

-- what an import answers beside the events: the number, and how many events there are
pub record Imported : Type 0 where
  pub number : ℕ
  pub count : ℕ

-- by the number: "Refusals, nothing written", and no events then
abbrev pub imported_by : ℕ → ℕ → List ℕ → Imported
imported_by number address samples =
    record { number = number; count = if eqb number 0 then length (captured address samples) else 0 }

abbrev pub buffer_by : ℕ → ℕ → List ℕ → List ℕ → List ℕ
buffer_by number address samples buffer =
    if eqb number 0 then event_bytes (captured address samples) ++ drop (4 * length (captured address samples)) buffer else buffer

-- the answer, and the buffer; bytes past the events stay
unfoldable pub imported : ℕ → List ℕ → List ℕ → Imported
imported address samples buffer = imported_by (import_number address samples (length buffer)) address samples

unfoldable pub imported_buffer : ℕ → List ℕ → List ℕ → List ℕ
imported_buffer address samples buffer = buffer_by (import_number address samples (length buffer)) address samples buffer

-- ---- what the call hands back: how many events, or why there are none

abbrev pub refusal_number : ImportFault → ℕ
refusal_number TooLong = 13
refusal_number BadAddress = 11
refusal_number Cut = 12
refusal_number NoRoom = 9

abbrev pub import_told : Result ℕ ImportFault → Imported
import_told (Ok n) = record { number = 0; count = n }
import_told (Err f) = record { number = refusal_number f; count = 0 }
