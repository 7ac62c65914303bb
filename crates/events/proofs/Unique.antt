-- What each public call of `events` promises leaves room for one result.
-- Assumes nothing.
use Rattle.arbiter.proofs.Once.{OneResult, once}
use Rattle.events.proofs.decode_raw.Reads as decode-raw
use Rattle.events.proofs.decoded_number.Reads as decoded-number
use Rattle.events.proofs.outcome_number.Reads as outcome-number
use Rattle.events.proofs.acknowledged_number.Reads as acknowledged-number
use Rattle.events.proofs.is_tick.Reads as is_tick
use Rattle.events.proofs.clock_of.Reads as clock-of

pub decode_raw_once : OneResult decode-raw.Post
decode_raw_once κ a x y s t p q = once p.0 q.0

pub decoded_number_once : OneResult decoded-number.Post
decoded_number_once κ a x y s t p q = once p q

pub outcome_number_once : OneResult outcome-number.Post
outcome_number_once κ a x y s t p q = once p q

pub acknowledged_number_once : OneResult acknowledged-number.Post
acknowledged_number_once κ a x y s t p q = once p q

pub is_tick_once : OneResult is_tick.Post
is_tick_once κ a x y s t p q = once p q

pub clock_of_once : OneResult clock-of.Post
clock_of_once κ a x y s t p q = once p q
