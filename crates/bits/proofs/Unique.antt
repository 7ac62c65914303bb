-- What each public call of `bits` promises leaves room for one result.
-- Assumes nothing.
use Rattle.arbiter.proofs.Once.{OneResult, once}
use denote.RattleType.{RattleType}
use denote.Param.Laws.{Laws, IsCopy}
use mir.Syntax.{Dict}
use Rattle.std.specs.declared.clone.Clone.{Ghosts}
use Rattle.bits.proofs.pick.Reads as Pick
use Rattle.bits.proofs.counted.Reads as counted-of
use Rattle.bits.proofs.bit_0.Reads as bit-0
use Rattle.bits.proofs.worth_of.Reads as worth-of
use Rattle.bits.proofs.byte_of.Reads as byte_of

pub bit_0_once : OneResult bit-0.Post
bit_0_once κ a x y s t p q = once p q

pub worth_of_once : OneResult worth-of.Post
worth_of_once κ a x y s t p q = once p.0 q.0

pub byte_of_once : OneResult byte_of.Post
byte_of_once κ a x y s t p q = once p q

pub counted_once : OneResult counted-of.Post
counted_once κ a x y s t p q = once p q

-- of any type that is copied
pub pick_once : (T : RattleType) (laws : Laws T) (copies : IsCopy T) (clone : Ghosts T.Denot) (dict : Dict) → OneResult (Pick.Post T laws copies clone dict)
pick_once T laws copies clone dict κ a x y s t p q = once p q
