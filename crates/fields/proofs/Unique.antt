-- What each public call of `fields` promises leaves room for one result.
-- Assumes nothing.
use Rattle.arbiter.proofs.Once.{OneResult, once}
use Rattle.fields.proofs.partner_of.Reads as m-partner-of
use Rattle.fields.proofs.with_sides.Reads as m-with-sides
use Rattle.fields.proofs.sides_of.Reads as m-sides-of
use Rattle.fields.proofs.side_of.Reads as m-side-of
use Rattle.fields.proofs.with_turn.Reads as with-turn
use Rattle.fields.proofs.idle_limit.Reads as idle-limit
use Rattle.fields.proofs.rolls_over.Reads as rolls-over
use Rattle.fields.proofs.owns_turn.Reads as owns_turn_lem
use Rattle.fields.proofs.limit_of.Reads as limit-of
use Rattle.fields.proofs.claims_turn.Reads as claims_turn_lem
use Rattle.fields.proofs.closed_for.Reads as closed-for
use Rattle.fields.proofs.is_apart.Reads as is_apart_lem
use Rattle.fields.proofs.master_of.Reads as master-of
use Rattle.fields.proofs.register_number.Reads as register-number
use Rattle.fields.proofs.register_at.Reads as register-at

pub with_turn_once : OneResult with-turn.Post
with_turn_once κ a x y s t p q = once p q

pub idle_limit_once : OneResult idle-limit.Post
idle_limit_once κ a x y s t p q = once p q

pub rolls_over_once : OneResult rolls-over.Post
rolls_over_once κ a x y s t p q = once p q

pub owns_turn_once : OneResult owns_turn_lem.Post
owns_turn_once κ a x y s t p q = once p q

pub limit_of_once : OneResult limit-of.Post
limit_of_once κ a x y s t p q = once p q

pub claims_turn_once : OneResult claims_turn_lem.Post
claims_turn_once κ a x y s t p q = once p q

pub closed_for_once : OneResult closed-for.Post
closed_for_once κ a x y s t p q = once p q

pub is_apart_once : OneResult is_apart_lem.Post
is_apart_once κ a x y s t p q = once p q

pub master_of_once : OneResult master-of.Post
master_of_once κ a x y s t p q = once p q

pub register_number_once : OneResult register-number.Post
register_number_once κ a x y s t p q = once p q

pub register_at_once : OneResult register-at.Post
register_at_once κ a x y s t p q = once p q

pub side_of_once : OneResult m-side-of.Post
side_of_once κ a x y s t p q = once p q

pub sides_of_once : OneResult m-sides-of.Post
sides_of_once κ a x y s t p q = once p q

pub with_sides_once : OneResult m-with-sides.Post
with_sides_once κ a x y s t p q = once p q

pub partner_of_once : OneResult m-partner-of.Post
partner_of_once κ a x y s t p q = once p q
