-- Request #113 on an image: what an advance of the device in a buffer tells, and what it leaves there. The refusals come in one order: 9 for a
-- buffer of another length, 16 for a field outside its range, and then 3 past 65,535 ticks.
-- Assumes nothing.
use Rattle.std.specs.Prelude.{ℕ, List, Result, Ok, Err, if◌then◌else◌}
use Rattle.layout.specs.Layout.{image_of, device_in}
use Rattle.layout.specs.declared.ImageRefusal.{ImageRefusal}
use Rattle.layout.specs.Refusals.{refusal_number}
use Rattle.layout.specs.Images.{is_image, image_number}
use Rattle.advance.specs.Advance.{Advanced}
use Rattle.advance.specs.Advance.{advanced}

-- what an advance tells: its number, and how many of its ticks changed anything but counts
pub record Told : Type 0 where
  pub number : ℕ
  pub reported : ℕ

abbrev pub told_with : ℕ → ℕ → Told
told_with number reported = record { number = number; reported = reported }

abbrev pub told_of : Advanced → Told
told_of a = told_with a.number a.reported

-- the code answers with a Result: what it reports, or why it is refused
unfoldable pub told_by : Result ℕ ImageRefusal → Told
told_by (Ok reported) = told_with 0 reported
told_by (Err r) = told_with (refusal_number r) 0

-- "It reports the number of those ticks that change anything other than counts", as an advance of the record does. A refused image reports 0.
unfoldable pub image_told : ℕ → List ℕ → Told
image_told n b = if is_image b then told_of (advanced n (device_in b)) else told_with (image_number b) 0

-- The new image is that of the advanced record. A refused one is left as it was.
unfoldable pub image_advanced : ℕ → List ℕ → List ℕ
image_advanced n b = if is_image b then image_of (advanced n (device_in b)).device else b
