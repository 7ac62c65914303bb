-- What the public calls of `hearing` promise leaves room for one result.
-- Assumes nothing.
use Rattle.arbiter.proofs.Once.{OneResult, once}
use Rattle.hearing.proofs.nothing_given.Reads as nothing-given
use Rattle.hearing.proofs.hear_sample.Reads as hear-sample
use Rattle.hearing.proofs.hear_watched.Reads as hear-watched

pub nothing_given_once : OneResult nothing-given.Post
nothing_given_once κ a x y s t p q = once p q

pub hear_sample_once : OneResult hear-sample.Post
hear_sample_once κ a x y s t p q = once p q

pub hear_watched_once : OneResult hear-watched.Post
hear_watched_once κ a x y s t p q = once p q
