-- What there is to find in a stream of samples, said without counting: all its READs in their order, which of them differ, and how many faults it has.
-- Assumes nothing.
use Rattle.std.specs.Prelude.{◌+◌, ◌∷◌, ◌++◌, if◌then◌else◌}
use Rattle.watch.specs.Names.{ℕ, List, [], Event, Command, Write, Read, Stop, Pair, Lines, Tick, Pulse, Reset, GeneralCall, Check, Watcher}
use Rattle.watch.specs.Stream.{check_of, differs, followed, events_now, faults_now, watched_at}

-- of one event
unfoldable pub checks_of : Event → Watcher → List Check
checks_of (Command m c) w = []
checks_of (Write m v) w = []
checks_of (Read m) w = check_of w.tally.samples w.ear.both m w.device ∷ []
checks_of (Stop m) w = []
checks_of (Pair v0 v1) w = []
checks_of (Lines scl sda intin) w = []
checks_of Tick w = []
checks_of (Pulse sda) w = []
checks_of Reset w = []
checks_of (GeneralCall m b) w = []

-- of the events of one sample
unfoldable pub checks_among : List Event → Watcher → List Check
checks_among [] w = []
checks_among (e ∷ es) w = checks_of e w ++ checks_among es (followed e w)

-- of a stream
unfoldable pub checks : List ℕ → Watcher → List Check
checks [] w = []
checks (x ∷ xs) w = checks_among (events_now x w) w ++ checks xs (watched_at x w)

-- those where the byte heard is not the model's answer
unfoldable pub differing : List Check → List Check
differing [] = []
differing (k ∷ ks) = if differs k then k ∷ differing ks else differing ks

-- the first of them, or another where there is none
abbrev pub first_or : Check → List Check → Check
first_or other [] = other
first_or other (k ∷ ks) = k

-- how often a START or STOP came inside a byte
unfoldable pub faults : List ℕ → Watcher → ℕ
faults [] w = 0
faults (x ∷ xs) w = faults_now x w + faults xs (watched_at x w)
