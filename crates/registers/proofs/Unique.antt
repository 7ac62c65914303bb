-- What each public call of `registers` promises leaves room for one result.
-- Assumes nothing.
use Rattle.arbiter.proofs.Once.{OneResult, once}
use Rattle.registers.proofs.raised_in.Reads as raised-in
use Rattle.registers.proofs.is_asserted_by.Reads as is-asserted-by
use Rattle.registers.proofs.fallen_side.Reads as fallen-side
use Rattle.registers.proofs.register_byte.Reads as register-byte
use Rattle.registers.proofs.after_read.Reads as after_read
use Rattle.registers.proofs.empties_own.Reads as empties-own
use Rattle.registers.proofs.reader_side.Reads as reader_side
use Rattle.registers.proofs.sender_side.Reads as sender-side

pub raised_in_once : OneResult raised-in.Post
raised_in_once κ a x y s t p q = once p q

pub is_asserted_by_once : OneResult is-asserted-by.Post
is_asserted_by_once κ a x y s t p q = once p q

pub fallen_side_once : OneResult fallen-side.Post
fallen_side_once κ a x y s t p q = once p q

pub register_byte_once : OneResult register-byte.Post
register_byte_once κ a x y s t p q = once p q

pub after_read_once : OneResult after_read.Post
after_read_once κ a x y s t p q = once p q

pub empties_own_once : OneResult empties-own.Post
empties_own_once κ a x y s t p q = once p q

pub reader_side_once : OneResult reader_side.Post
reader_side_once κ a x y s t p q = once p q

pub sender_side_once : OneResult sender-side.Post
sender_side_once κ a x y s t p q = once p q
