-- Walk of `orders`: how the code goes through the orders: it carries the device and the last byte, so that orders with a common beginning share
-- its steps, and pours the bytes into the buffer up to a limit.
-- Assumes nothing.
use Rattle.std.specs.Prelude.{ℕ, ◌+◌, List, [], ◌∷◌, ◌++◌, leb, set, if◌then◌else◌}
use Rattle.arbiter.specs.Steps.{step}
use Rattle.arbiter.specs.declared.Device.{Device}
use Rattle.arbiter.specs.declared.Raw.{Raw}
use Rattle.orders.specs.declared.Reached.{Reached}

-- a point on the way: the device, and the third byte of the last answer
abbrev pub reached_with : Device → ℕ → Reached
reached_with d byte = record { device = d; byte = byte }

-- one event more
abbrev pub reached : Reached → Raw → Reached
reached c e = reached_with (step c.device e).device (step c.device e).answer.owner

-- the byte of each order of what is left of the two scripts
unfoldable pub bytes_from : Reached → List Raw → List Raw → List ℕ
bytes_from c [] [] = c.byte ∷ []
bytes_from c (x ∷ xs) [] = bytes_from (reached c x) xs []
bytes_from c [] (y ∷ ys) = bytes_from (reached c y) [] ys
bytes_from c (x ∷ xs) (y ∷ ys) = bytes_from (reached c x) xs (y ∷ ys) ++ bytes_from (reached c y) (x ∷ xs) ys

-- a buffer and a place: each byte goes to the place, and the place moves on, until it is at the limit
unfoldable pub pour : ℕ → List ℕ × ℕ → List ℕ → List ℕ × ℕ
pour limit s [] = s
pour limit s (b ∷ bs) = if leb limit s.1 then s else pour limit (set s.0 s.1 b, s.1 + 1) bs
