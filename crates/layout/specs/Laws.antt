-- Laws of `layout`: what holds of images: record and image are inverse, their ranges agree, steps agree, and so do runs. proofs/ proves each.
-- Assumes nothing.
use Rattle.std.specs.Prelude.{ℕ, ◌<◌, ◌≡◌, true, List, [], ◌∷◌, ◌++◌, length}
use Rattle.arbiter.specs.Effects.{power_up}
use Rattle.arbiter.specs.Steps.{answer, step, answers_from, run}
use Rattle.ranges.specs.Ranges.{in_range, is_bytes, are_bytes}
use Rattle.arbiter.specs.declared.Master.TheVariants.{Zero, One}
use Rattle.arbiter.specs.declared.Kind.{Kind}
use Rattle.arbiter.specs.declared.Device.{Device}
use Rattle.arbiter.specs.declared.Raw.{Raw}
use Rattle.layout.specs.Layout.{Row, registers, counts, shared, port, image_length, image_of, device_in}
use Rattle.layout.specs.Images.{is_image, image_answer, image_after, image_run, image_answers}

-- ---- the image of a record

-- The image of every record has the length, with no byte to spare.
abbrev pub Whole : Type 0
Whole = (d : Device) → length (image_of d) ≡ image_length

-- The image of a record with its fields in range (Ranges) has its own in range: it is never refused.
abbrev pub RecordFits : Type 0
RecordFits = (d : Device) → in_range d ≡ true → is_image (image_of d) ≡ true

-- An image in range is that of a record in range: nothing else is let in.
abbrev pub ImageFits : Type 0
ImageFits = (b : List ℕ) → is_image b ≡ true → in_range (device_in b) ≡ true

-- There and back: the record comes back from its image, and the image from its record.
abbrev pub ReadBack : Type 0
ReadBack = (d : Device) → in_range d ≡ true → device_in (image_of d) ≡ d

abbrev pub LaidOutBack : Type 0
LaidOutBack = (b : List ℕ) → is_image b ≡ true → image_of (device_in b) ≡ b

-- ---- steps

-- "A step on the image gives the answer of a step on the record, and the new image is that of the new record."
abbrev pub StepsAlike : Type 0
StepsAlike =
    (d : Device) (r : Raw) → in_range d ≡ true
    → (image_answer (image_of d) r ≡ (step d r).answer) × (image_after (image_of d) r ≡ image_of (step d r).device)

-- A step leaves an image in range, whatever image in range it was given.
abbrev pub StaysImage : Type 0
StaysImage = (b : List ℕ) (r : Raw) → is_bytes r ≡ true → is_image b ≡ true → is_image (image_after b r) ≡ true

-- 2, 3 and 4 on an image in range leave it, and the answer shows its device, with byte read 00.
abbrev pub RefusedKept : Type 0
RefusedKept =
    (b : List ℕ) (r : Raw) → is_image b ≡ true → 1 < (image_answer b r).outcome
    → (image_after b r ≡ b) × (image_answer b r ≡ answer (image_answer b r).outcome 0 (device_in b))

-- ---- runs from power-up

-- Events one after the other on a fresh image leave the image of their run, and answer as it does: 16 is never answered.
abbrev pub RunsAlike : Type 0
RunsAlike =
    (k : Kind) (rs : List Raw) → are_bytes rs ≡ true
    → (image_run (image_of (power_up k)) rs ≡ image_of (run k rs)) × (image_answers (image_of (power_up k)) rs ≡ answers_from (power_up k) rs)

abbrev pub RunsInRange : Type 0
RunsInRange = (k : Kind) (rs : List Raw) → are_bytes rs ≡ true → is_image (image_of (run k rs)) ≡ true

-- "the range a run from power-up can give it": each value that a row lets in, a run gives to its field
abbrev pub RowReached : Kind → Row → Type 0
RowReached k r = (v : ℕ) → r.holds k v ≡ true → (rs : List Raw) × (are_bytes rs ≡ true) × (r.value (run k rs) ≡ v)

abbrev pub RowsReached : Kind → List Row → Type 0
RowsReached k [] = Unit {0}
RowsReached k (r ∷ rs) = RowReached k r × RowsReached k rs

-- of every row but the kind's, which is the run's own
abbrev pub EveryRowReached : Type 0
EveryRowReached = (k : Kind) → RowsReached k (registers Zero ++ registers One ++ counts ++ shared ++ port Zero ++ port One)
