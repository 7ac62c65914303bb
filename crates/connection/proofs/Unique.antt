-- What each public call of `connection` promises leaves room for one result.
-- Assumes nothing.
use Rattle.arbiter.proofs.Once.{OneResult, once}
use Rattle.connection.proofs.initialises.Reads as initialises
use Rattle.connection.proofs.connect_of.Reads as connect-of
use Rattle.connection.proofs.switch_stays.Reads as switch_stays_lem

pub initialises_once : OneResult initialises.Post
initialises_once κ a x y s t p q = once p q

pub connect_of_once : OneResult connect-of.Post
connect_of_once κ a x y s t p q = once p q

pub switch_stays_once : OneResult switch_stays_lem.Post
switch_stays_once κ a x y s t p q = once p q
