-- Numbers of the totals: a sum that stops at the top of 64 bits, and the larger of two.
-- Assumes nothing.
use Rattle.std.specs.Prelude.{ℕ, ◌+◌, ltb, if◌then◌else◌}

-- "Totals are 64-bit": the largest such number
unfoldable pub top : ℕ
top = 18446744073709551615

-- a number that stops at a limit
abbrev pub up_to : ℕ → ℕ → ℕ
up_to limit n = if ltb limit n then limit else n

-- a sum of totals. No sum of #112 reaches the top (Laws, TotalsFit); totals that a caller made up stop there.
unfoldable pub plus : ℕ → ℕ → ℕ
plus a b = up_to top (a + b)

unfoldable pub larger : ℕ → ℕ → ℕ
larger a b = if ltb a b then b else a
