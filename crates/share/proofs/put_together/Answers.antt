-- `share::put_together` meets its contract.
-- Assumes nothing.
use Rattle.share.specs.Share.{together}
use Rattle.share.proofs.Numbers.{plus_is, larger_is}
use Rattle.share.proofs.put_together.Goals as goal

pub returns : goal.returns
unfolding together
returns c =
    simp (
      c.saturating_add.ensures,
      c.saturating_add-2.ensures,
      c.saturating_add-3.ensures,
      c.saturating_add-4.ensures,
      c.saturating_add-5.ensures,
      c.saturating_add-6.ensures,
      c.saturating_add-7.ensures,
      c.saturating_add-8.ensures,
      c.saturating_add-9.ensures,
      c.saturating_add-10.ensures,
      c.saturating_add-11.ensures,
      c.saturating_add-12.ensures,
      c.saturating_add-13.ensures,
      c.saturating_add-14.ensures,
      c.saturating_add-15.ensures,
      c.max.ensures,
      c.max-2.ensures,
      plus_is,
      larger_is,
    )
