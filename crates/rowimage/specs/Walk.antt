-- Walk of `rowimage`: a row in a buffer gone through by the code: one image replaced, and an answer handed on.
-- Assumes nothing.
use Rattle.std.specs.Prelude.{ℕ, ◌+◌, ◌*◌, List, Option, Some, ◌++◌, take, drop}
use Rattle.arbiter.specs.declared.Answer.{Answer}
use Rattle.layout.specs.Layout.{image_length}
use Rattle.routing.specs.Deciding.{first_answer}
use Rattle.rowimage.specs.Row.{record_bytes}

-- where the image of a place stands: after the address of its record
abbrev pub image_place : ℕ → ℕ
image_place i = record_bytes * i + 1

-- the bytes with those of this image from there on
abbrev pub with_image : ℕ → List ℕ → List ℕ → List ℕ
with_image i image b = take (image_place i) b ++ (image ++ drop image_length (drop (image_place i) b))

-- the first one answers
abbrev pub told_by : Option Answer → Answer → Option Answer
told_by told now = Some (first_answer told now)
