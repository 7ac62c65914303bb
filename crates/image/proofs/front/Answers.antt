-- `image::front`: the one chunk of the first 38 bytes is these bytes.
-- Assumes nothing.
use Rattle.std.proofs.Common.{ℕ, List, [], ap, ◌∙◌, take, length-take-le}
use lib.ListN.{get_or}
use Rattle.image.proofs.Padded.{only_chunk}
use Rattle.image.proofs.front.Goals as goal

pub returns : goal.returns
returns c = ap (λ (l : List (List ℕ)). get_or l 0 []) c.as_chunks.ensures.front ∙ only_chunk (take 38 c.args.b.now) (length-take-le 38 _ c.requires)
