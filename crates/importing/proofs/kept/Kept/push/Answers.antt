-- `importing::kept::Kept::push`: the bytes copied after those that were there are those of the event.
-- Assumes nothing.
use Rattle.std.proofs.Common.{length, ap, ◌∙◌, arith}
use Rattle.std.proofs.lemmas.Slice.{take-put_mid}
use Rattle.importing.proofs.Stored.{kept}
use Rattle.importing.proofs.kept.Kept.push.Goals as goal

pub returns : goal.returns
returns c =
    take-put_mid c.self.inside.used _ c.self.inside.room c.copy_from_slice.new.self _ (omega (arith, ap length c.copy_from_slice.ensures.after))
    (omega (arith, c.self.invariant, c.self.told))
    ∙ kept _ _ _ _ _ c.self.view_is c.copy_from_slice.ensures.after c.raw_of-r.ensures
