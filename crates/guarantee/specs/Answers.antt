-- All statements of this crate in one record, one field a statement. proofs/Answers.antt fills it with one term, so that a lost proof fails
-- the check.
-- Assumes nothing.
use Rattle.guarantee.specs.Guarantee.{OrderGuarantees, SheetsGuarantee, OrderGuaranteesWithin, SheetsGuaranteeWithin}
use Rattle.guarantee.specs.Necessary.{ReserveNecessary, BoundedExactly}
use Rattle.guarantee.specs.Boxes.{BoxesOverwritten, BoxesKept, IdleBoxDropped, IdleBoxKept}
use Rattle.guarantee.specs.Starts.{StartsInAnyOrder, RequestLost, StartsGuarantee, OneAsksFirst, FirstOwns, EitherInTime}
use Rattle.guarantee.specs.Reboot.{RebootStores, RebootWhileOwning, RebootAfterWithdrawal, RebootRowsHold}
use Rattle.guarantee.specs.Waits.{WaitTells}
use Rattle.guarantee.specs.Witnesses.{GuaranteeWitnessesMeet}
use Rattle.guarantee.specs.MoreWitnesses.{MoreWitnessesMeet}
use Rattle.guarantee.specs.StartsWitnesses.{StartsWitnessesMeet}

pub record Answers : Type 0 where
  -- How long can a master wait at the most, by the sheets?
  pub order_guarantees : OrderGuarantees
  pub sheets_guarantee : SheetsGuarantee
  pub order_guarantees_within : OrderGuaranteesWithin
  pub sheets_guarantee_within : SheetsGuaranteeWithin
  -- And without a reserve?
  pub reserve_necessary : ReserveNecessary
  pub bounded_exactly : BoundedExactly
  -- Do the boxes last?
  pub boxes_overwritten : BoxesOverwritten
  pub boxes_kept : BoxesKept
  pub idle_box_dropped : IdleBoxDropped
  pub idle_box_kept : IdleBoxKept
  -- Does it matter in which order both start?
  pub starts_in_any_order : StartsInAnyOrder
  pub request_lost : RequestLost
  pub starts_guarantee : StartsGuarantee
  pub one_asks_first : OneAsksFirst
  pub first_owns : FirstOwns
  pub either_in_time : EitherInTime
  -- What if a controller starts again while it owns?
  pub reboot_stores : RebootStores
  pub reboot_while_owning : RebootWhileOwning
  pub reboot_after_withdrawal : RebootAfterWithdrawal
  pub reboot_rows_hold : RebootRowsHold
  -- What does the grade promise that `wait_of` tells?
  pub wait_tells : WaitTells
  -- Are there orders and runs that reach it?
  pub guarantee_witnesses_meet : GuaranteeWitnessesMeet
  pub more_witnesses_meet : MoreWitnessesMeet
  pub starts_witnesses_meet : StartsWitnessesMeet
