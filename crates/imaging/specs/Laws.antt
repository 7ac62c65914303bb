-- Laws of `imaging`: what holds of an advance on an image: it goes with as many TICK events on it, and an image in range stays one.
-- proofs/OnImages.antt proves each.
-- Assumes nothing.
use Rattle.std.specs.Prelude.{ℕ, ◌<◌, ◌≤◌, ◌≡◌, true, List, replicate}
use Rattle.arbiter.specs.Steps.{run}
use Rattle.arbiter.specs.declared.Kind.{Kind}
use Rattle.arbiter.specs.declared.Raw.{Raw}
use Rattle.ranges.specs.Ranges.{are_bytes}
use Rattle.layout.specs.Layout.{image_of}
use Rattle.layout.specs.Images.{is_image, image_run}
use Rattle.quiet.specs.Quiet.{tick}
use Rattle.advance.specs.Advance.{most_ticks}
use Rattle.imaging.specs.Advancing.{told_with, image_told, image_advanced}

-- "equal in its end state to as many TICK events"
abbrev pub AdvancedAlike : Type 0
AdvancedAlike = (b : List ℕ) (n : ℕ) → is_image b ≡ true → n ≤ most_ticks → image_advanced n b ≡ image_run b (replicate n tick)

-- An image in range stays one, so no later call refuses it with 16.
abbrev pub AdvancedStays : Type 0
AdvancedStays = (b : List ℕ) (n : ℕ) → is_image b ≡ true → is_image (image_advanced n b) ≡ true

-- "Zero ticks changes nothing and reports 0."
abbrev pub NoneAdvanced : Type 0
NoneAdvanced = (b : List ℕ) → is_image b ≡ true → (image_told 0 b ≡ told_with 0 0) × (image_advanced 0 b ≡ b)

-- "Past 65,535: refusal 3, device unchanged, 0 reported."
abbrev pub PastAdvanced : Type 0
PastAdvanced = (b : List ℕ) (n : ℕ) → is_image b ≡ true → most_ticks < n → (image_told n b ≡ told_with 3 0) × (image_advanced n b ≡ b)

-- "this is never above six from any state reached from power-up": of the image of any run
abbrev pub SixOnImages : Type 0
SixOnImages = (k : Kind) (rs : List Raw) (n : ℕ) → are_bytes rs ≡ true → (image_told n (image_of (run k rs))).reported ≤ 6
