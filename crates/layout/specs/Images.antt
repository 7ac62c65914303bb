-- Request #108: what a step on an image answers and leaves, what a fresh image is, and what a register of an image reads. The refusals come
-- in one order: 9 for a buffer of another length, 16 for a field outside its range, and then document 01's own.
-- Assumes nothing.
use Rattle.std.specs.Prelude.{ℕ, Bool, ◌&&◌, List, [], ◌∷◌, eqb, ltb, length, if◌then◌else◌}
use Rattle.arbiter.specs.Registers.{reads_at}
use Rattle.arbiter.specs.Events.{master}
use Rattle.arbiter.specs.Effects.{register_at, power_up}
use Rattle.arbiter.specs.Steps.{step}
use Rattle.arbiter.specs.Traces.{is_kind, kind_of}
use Rattle.arbiter.specs.declared.Raw.{Raw}
use Rattle.arbiter.specs.declared.Answer.{Answer}
use Rattle.layout.specs.Layout.{image_length, image_of, device_in, image_in_range}
use Rattle.layout.specs.Refusals.{Shown}

-- ---- the refusals of a buffer

abbrev pub is_long : List ℕ → Bool
is_long b = eqb (length b) image_length

-- "an image with a field outside its range is refused, with 16 ..; a buffer of another length is refused first, with 9"
unfoldable pub image_number : List ℕ → ℕ
image_number b = if is_long b then (if image_in_range b then 0 else 16) else 9

-- it is an image, all fields in range
abbrev pub is_image : List ℕ → Bool
is_image b = eqb (image_number b) 0

-- ---- a step

-- "Both come before 01's own and answer number, 00, 00, 00."
abbrev pub refused_by : ℕ → Answer
refused_by number = record { outcome = number; read = 0; owner = 0; lines = 0 }

-- "A step on the image gives the answer of a step on the record ..
unfoldable pub image_answer : List ℕ → Raw → Answer
image_answer b r = if is_image b then (step (device_in b) r).answer else refused_by (image_number b)

-- .. and the new image is that of the new record." A refused one is "left untouched".
unfoldable pub image_after : List ℕ → Raw → List ℕ
image_after b r = if is_image b then image_of (step (device_in b) r).device else b

-- one event after the other
unfoldable pub image_run : List ℕ → List Raw → List ℕ
image_run b [] = b
image_run b (r ∷ rs) = image_run (image_after b r) rs

unfoldable pub image_answers : List ℕ → List Raw → List Answer
image_answers b [] = []
image_answers b (r ∷ rs) = image_answer b r ∷ image_answers (image_after b r) rs

-- ---- a fresh image: of a device of this kind after power-up. 9 first here too, then #105's 3 for another kind.

unfoldable pub fresh_number : ℕ → List ℕ → ℕ
fresh_number kind b = if is_long b then (if is_kind kind then 0 else 3) else 9

unfoldable pub fresh_after : ℕ → List ℕ → List ℕ
fresh_after kind b = if eqb (fresh_number kind b) 0 then image_of (power_up (kind_of kind)) else b

-- ---- a register as a master reads it, without an event: 9 and 16, and then 3 for a master above 1 or a register above 7

unfoldable pub shown_number : ℕ → ℕ → List ℕ → ℕ
shown_number m r b = if is_image b then (if ltb m 2 && ltb r 8 then 0 else 3) else image_number b

unfoldable pub shown : ℕ → ℕ → List ℕ → Shown
shown m r b =
    record { number = shown_number m r b; byte = if eqb (shown_number m r b) 0 then reads_at (register_at r) (master m) (device_in b) else 0 }
