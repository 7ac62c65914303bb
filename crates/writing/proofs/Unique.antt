-- What each public call of `writing` promises leaves room for one result.
-- Assumes nothing.
use Rattle.arbiter.proofs.Once.{OneResult, once}
use Rattle.writing.proofs.writable_at.Reads as writable-at
use Rattle.writing.proofs.written_by.Reads as written-by
use Rattle.writing.proofs.paired_by.Reads as Paired-by
use Rattle.writing.proofs.writer_side.Reads as writer_side
use Rattle.writing.proofs.mail_written.Reads as mail-written

pub writable_at_once : OneResult writable-at.Post
writable_at_once κ a x y s t p q = once p q

pub written_by_once : OneResult written-by.Post
written_by_once κ a x y s t p q = once p q

pub paired_by_once : OneResult Paired-by.Post
paired_by_once κ a x y s t p q = once p q

pub writer_side_once : OneResult writer_side.Post
writer_side_once κ a x y s t p q = once p q

pub mail_written_once : OneResult mail-written.Post
mail_written_once κ a x y s t p q = once p q
