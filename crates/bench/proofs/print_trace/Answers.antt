-- `bench::print_trace`: the events of an accepted trace lie in it, and are at most 4,096; what is printed is its listing (`Listed.antt`).
-- Assumes nothing.
use Rattle.std.proofs.Common.{arith, ℕ, List, OnOk, sym, ◌∙◌, subst}
use Rattle.std.specs.Io.KnownBytes.{Appends}
use Rattle.traces.proofs.Accepted.{accepted_fits, part_length}
use Rattle.bench.proofs.Listed.{listed}
use Rattle.bench.proofs.print_trace.Goals as goal

pub print_accepted-requires : goal.print_accepted-requires
print_accepted-requires g c =
    let h = sym c.read_trace-read.ensures.0 ∙ c.in-Ok.is in
    let size = part_length _ _ _ _ _ h in
    (omega (arith, size), (accepted_fits _ _ _ _ _ h).2)

pub returns-in-Ok : goal.returns-in-Ok
returns-in-Ok g c =
    subst (λ (l : List ℕ). OnOk c.print_accepted.result (Appends (g.W.Write.contents c.args.out.now) (g.W.Write.contents c.print_accepted.new.out) l))
    (listed _ _ _ _ (sym c.read_trace-read.ensures.0 ∙ c.in-Ok.is)) c.print_accepted.ensures
