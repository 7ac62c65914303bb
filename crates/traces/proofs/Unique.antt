-- What each public call of `traces` promises leaves room for one result.
-- Assumes nothing.
use Rattle.arbiter.proofs.Once.{OneResult, OneLeft, once}
use Rattle.traces.proofs.Told.{ran_apart, report_apart, head_apart}
use Rattle.traces.proofs.reading.read_trace.Reads as read-trace
use Rattle.traces.proofs.run_events.Reads as run-events
use Rattle.traces.proofs.run_settled.Reads as run_settled
use Rattle.traces.proofs.run_trace.Reads as run-trace
use Rattle.traces.proofs.answer_trace.Reads as answer-trace
use Rattle.traces.proofs.ticks.is_tick.Reads as is_tick

pub read_trace_once : OneResult read-trace.Post
read_trace_once κ a x y s t p q = once p.0 q.0

pub run_events_once : OneLeft (λ κ s. s.1.1.0.now) run-events.Post
run_events_once κ a x y s t p q = (ran_apart _ _ _ (once p.0 q.0), once p.1 q.1)

pub run_settled_once : OneLeft (λ κ s. s.1.1.0.now) run_settled.Post
run_settled_once κ a x y s t p q = (ran_apart _ _ _ (once p.0 q.0), once p.1 q.1)

pub run_trace_once : OneLeft (λ κ s. s.1.0.now) run-trace.Post
run_trace_once κ a x y s t p q = (report_apart _ _ (once p.0 q.0), once p.1 q.1)

pub answer_trace_once : OneLeft (λ κ s. s.1.0.now) answer-trace.Post
answer_trace_once κ a x y s t p q = (head_apart _ _ (once p.0 q.0), once p.1 q.1)

pub is_tick_once : OneResult is_tick.Post
is_tick_once κ a x y s t p q = once p q
