-- `bench::run_bench`: what is read is the input's beginning, and that lists as the whole input does.
-- Assumes nothing.
use Rattle.std.proofs.Common.{arith}
use Rattle.printing.proofs.Listed.{printed_if}
use Rattle.bench.proofs.run_bench.Goals as goal

pub returns : goal.returns
returns g c = printed_if _ _ _ _ _ _ (omega arith) c.in_ok-n.ensures.front c.print_trace.ensures
