-- A listing of orders as the library tells of it to another language: document 02's number in the low byte, what was found above it.
-- Assumes nothing.
use Rattle.std.specs.Prelude.{ℕ, ◌+◌, ◌*◌}
use Rattle.orders.specs.Call.{Listed}

-- a listing of orders: the number, and from 256 on how many were listed
abbrev pub packed_listed : Listed → ℕ
packed_listed r = r.number + 256 * r.count
