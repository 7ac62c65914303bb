-- Document 01, M1: the listing's text, as the codes of its characters.
-- Assumes nothing.
use Rattle.std.specs.Prelude.{◌+◌, ◌*◌, ◌/◌, ◌%◌, ◌∷◌, ◌++◌, if◌then◌else◌}
use Rattle.arbiter.specs.Types.{ℕ, List, [], ltb, Answer, Result, Accepted, Refusal, Err, Ok}
use Rattle.arbiter.specs.Traces.{most_events, answer_room, refusal_number, read_trace, answers_in}

-- ---- numbers as text

abbrev pub newline : List ℕ
newline = 0x0A ∷ []

abbrev pub space : List ℕ
space = 0x20 ∷ []

-- "in capital hex": 0 to 9 are 30h to 39h, A to F are 41h to 46h
abbrev pub hex_digit : ℕ → ℕ
hex_digit n = if ltb n 10 then 0x30 + n else 0x37 + n

abbrev pub hex2 : ℕ → List ℕ
hex2 v = hex_digit (v / 16 % 16) ∷ hex_digit (v % 16) ∷ []

abbrev pub hex4 : ℕ → List ℕ
hex4 v = hex2 (v / 256) ++ hex2 (v % 256)

-- a refusal's number, "in decimal"
abbrev pub decimal : ℕ → List ℕ
decimal n = if ltb n 10 then (0x30 + n) ∷ [] else (0x30 + n / 10) ∷ (0x30 + n % 10) ∷ []

-- ---- the lines: "address (two digits), a space and the count (four), then one answer a line (eight)"

abbrev pub head_line : ℕ → ℕ → List ℕ
head_line address n = hex2 address ++ space ++ hex4 n ++ newline

abbrev pub answer_line : Answer → List ℕ
answer_line a = hex2 a.outcome ++ hex2 a.read ++ hex2 a.owner ++ hex2 a.lines ++ newline

abbrev pub answer_lines : List Answer → List ℕ
answer_lines [] = []
answer_lines (a ∷ rest) = answer_line a ++ answer_lines rest

-- the lengths of the two, their ends counted, and of the longest listing
abbrev pub head_chars : ℕ
head_chars = 8

abbrev pub line_chars : ℕ
line_chars = 9

abbrev pub most_chars : ℕ
most_chars = head_chars + line_chars * most_events

-- "A refused trace prints one line only, R and its number"; R is 52h
unfoldable pub listing_of : Result Accepted Refusal → List ℕ → List ℕ
listing_of (Ok a) t = head_line a.address a.events ++ answer_lines (answers_in a.kind a.events t)
listing_of (Err r) t = 0x52 ∷ decimal (refusal_number r) ++ newline

-- the listing program has room for the answers of any trace
unfoldable pub listing : List ℕ → List ℕ
listing t = listing_of (read_trace t answer_room) t
