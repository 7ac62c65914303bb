-- `importing::kept::Kept::push_few`: two events one after the other.
-- Assumes nothing.
use Rattle.importing.proofs.Stored.{two_kept}
use Rattle.importing.proofs.kept.Kept.push_few.Goals as goal

pub returns-in-Some-rest : goal.returns-in-Some-rest
returns-in-Some-rest c = two_kept _ _ _ _ _ _ _ c.in-Some.is c.in-Some-rest.is c.push.ensures c.push-in-Some-rest.ensures
