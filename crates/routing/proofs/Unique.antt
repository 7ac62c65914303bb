-- What each public call of `routing` promises leaves room for one result.
-- Assumes nothing.
use Rattle.arbiter.proofs.Once.{OneResult, once}
use Rattle.routing.proofs.start.Reads as start
use Rattle.routing.proofs.see.Reads as see
use Rattle.routing.proofs.see_record.Reads as see-record
use Rattle.routing.proofs.reach_for.Reads as reach-for
use Rattle.routing.proofs.fault_number.Reads as fault-number
use Rattle.routing.proofs.fault_answer.Reads as fault-answer
use Rattle.routing.proofs.no_answer.Reads as no_answer
use Rattle.routing.proofs.plan_of.Reads as plan-of

pub start_once : OneResult start.Post
start_once κ a x y s t p q = once p q

pub see_once : OneResult see.Post
see_once κ a x y s t p q = once p q

pub see_record_once : OneResult see-record.Post
see_record_once κ a x y s t p q = once p q

pub reach_for_once : OneResult reach-for.Post
reach_for_once κ a x y s t p q = once p q

pub fault_number_once : OneResult fault-number.Post
fault_number_once κ a x y s t p q = once p q

pub fault_answer_once : OneResult fault-answer.Post
fault_answer_once κ a x y s t p q = once p q

pub no_answer_once : OneResult no_answer.Post
no_answer_once κ a x y s t p q = once p q

pub plan_of_once : OneResult plan-of.Post
plan_of_once κ a x y s t p q = once p q
