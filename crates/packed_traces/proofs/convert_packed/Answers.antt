-- `packed_traces::convert_packed` meets its contract. Nothing written is longer than the longest trace, so its length can be packed.
-- Assumes nothing.
use mathlib.Core.Path.{subst, sym}
use Prim.Native.Nat.{◌≤◌}
use Rattle.arbiter.specs.Traces.{most_bytes}
use Rattle.arbiter.specs.Types.{Written}
use Rattle.converter.proofs.Laws.{conversion_few}
use Rattle.packed_traces.proofs.convert_packed.Goals as goal

pub packed_length-requires : goal.packed_length-requires
packed_length-requires c =
    subst (λ (w : Written). w.length ≤ most_bytes) (sym c.convert_trace-converted.ensures.0) (conversion_few _ _)
