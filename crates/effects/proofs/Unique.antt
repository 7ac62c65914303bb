-- What each public call of `effects` promises leaves room for one result.
-- Assumes nothing.
use Rattle.arbiter.proofs.Once.{OneResult, once}
use Rattle.effects.proofs.did_so.Reads as Did-so
use Rattle.effects.proofs.effect_of.Reads as effect_of

pub did_so_once : OneResult Did-so.Post
did_so_once κ a x y s t p q = once p q

pub effect_of_once : OneResult effect_of.Post
effect_of_once κ a x y s t p q = once p q
