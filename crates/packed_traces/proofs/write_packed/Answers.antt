-- `packed_traces::write_packed` meets its contract. Nothing written is longer than the longest trace, so its length can be packed.
-- Assumes nothing.
use mathlib.Core.Path.{subst, sym}
use Prim.Native.Nat.{◌≤◌}
use Rattle.arbiter.specs.Traces.{most_bytes}
use Rattle.arbiter.specs.Types.{Written}
use Rattle.writer.proofs.Laws.{written_few}
use Rattle.packed_traces.proofs.write_packed.Goals as goal

pub packed_length-requires : goal.packed_length-requires
packed_length-requires c =
    subst (λ (w : Written). w.length ≤ most_bytes) (sym c.write_trace-written.ensures.0) (written_few _ _ _ _)
