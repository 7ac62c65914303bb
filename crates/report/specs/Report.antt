-- The text of the report of #112: "prints a line a controller: number, owned, connected, waited, in decimal with single spaces".
-- Assumes nothing.
use Rattle.std.specs.Prelude.{ℕ, zero, suc, ◌+◌, ◌-◌, ◌*◌, ◌/◌, ◌%◌, ◌^◌, ◌<◌, ◌≡◌, Bool, List, [], ◌∷◌, ◌++◌, ltb, if◌then◌else◌}
use Rattle.share.specs.declared.Totals.{Totals}

-- ---- a number in decimal

abbrev pub digit : ℕ → ℕ
digit n = 48 + n

-- with at most so many digits, the first digit first and no 0 before another
unfoldable pub digits : ℕ → ℕ → List ℕ
digits zero n = []
digits (suc k) n = if ltb n 10 then digit n ∷ [] else digits k (n / 10) ++ (digit (n % 10) ∷ [])

-- a 64-bit number has no more than 20 (proofs/Decimal.antt)
abbrev pub most_digits : ℕ
most_digits = 20

abbrev pub decimal : ℕ → List ℕ
decimal n = digits most_digits n

-- what digits are worth, after those that are worth n
unfoldable pub value_from : ℕ → List ℕ → ℕ
value_from n [] = n
value_from n (c ∷ cs) = value_from (10 * n + (c - 48)) cs

-- ---- the lines

abbrev pub space : ℕ
space = 32

abbrev pub line_end : ℕ
line_end = 10

-- a number, and what follows it
abbrev pub field : ℕ → ℕ → List ℕ
field n after = decimal n ++ after ∷ []

unfoldable pub line : ℕ → ℕ → ℕ → ℕ → List ℕ
line m owned connected waited = digit m ∷ space ∷ [] ++ field owned space ++ field connected space ++ field waited line_end

-- R6 and a line end
abbrev pub past_line : List ℕ
past_line = 82 ∷ 54 ∷ line_end ∷ []

-- the two lines, and R6 after them past 65,535 traces
unfoldable pub report_text : Totals → Bool → List ℕ
report_text x past =
    line 0 x.owned0 x.connected0 x.waited0 ++ line 1 x.owned1 x.connected1 x.waited1 ++ (if past then past_line else [])

-- ---- law: the digits of a 64-bit number are worth that number

abbrev pub DecimalIsWorth : Type 0
DecimalIsWorth = (n : ℕ) → n < 10 ^ most_digits → value_from 0 (decimal n) ≡ n
