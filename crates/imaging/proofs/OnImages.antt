-- An advance on an image: ticks keep the ranges, so the new record has an image; and it goes with as many TICK events on the image.
-- Assumes nothing.
use Prim.Native.Nat.{ℕ, zero, suc, ◌<◌, ◌≤◌}
use mathlib.Core.Path.{◌≡◌, refl, sym, ap, subst, ◌∙◌}
use mathlib.Core.Bool.{Bool, true, false}
use mathlib.Core.List.{List}
use native.Mathlib.Omega.{arith}
use lib.Dec.{ltb}
use lib.ListN.{replicate}
use borrow.Author.Tests.{ltb-false, lt-ltb, le-ltb}
use Rattle.arbiter.specs.Words.{worth}
use Rattle.arbiter.specs.Steps.{step, run_from, run}
use Rattle.arbiter.specs.declared.Device.{Device}
use Rattle.arbiter.proofs.Choice.{either, if_true, if_false}
use Rattle.ranges.specs.Ranges.{in_range}
use Rattle.ranges.proofs.Ranges.{in_range_lem, stays_in_range}
use Rattle.layout.specs.Layout.{image_of, device_in}
use Rattle.layout.specs.Images.{is_image, image_run}
use Rattle.layout.proofs.Fits.{record_fits, image_fits}
use Rattle.layout.proofs.Back.{read_back, laid_out_back}
use Rattle.layout.proofs.Steps.{steps_alike}
use Rattle.std.specs.Prelude.{Result, Ok, Err}
use Rattle.layout.specs.declared.ImageRefusal.{ImageRefusal}
use Rattle.layout.specs.declared.ImageRefusal.TheVariants.{Length, Range, Argument}
use Rattle.layout.proofs.Once.{result_of}
use Rattle.quiet.specs.Quiet.{tick, ticks}
use Rattle.advance.specs.Advance.{Advanced}
use Rattle.advance.specs.Changes.{changes}
use Rattle.advance.specs.Advance.{changing, most_ticks, advanced_with, advanced}
use Rattle.advance.proofs.Answers.{answers}
use Rattle.imaging.specs.Advancing.{Told, told_by, told_of, image_told, image_advanced}
use Rattle.imaging.specs.Laws.{AdvancedAlike, AdvancedStays, NoneAdvanced, PastAdvanced, SixOnImages}

-- ---- ticks keep the ranges

pub ticks_in_range : (n : ℕ) (d : Device) → in_range d ≡ true → in_range (ticks n d) ≡ true
unfolding ticks run_from
ticks_in_range zero d h = h
ticks_in_range (suc n) d h = ticks_in_range n (step d tick).device (stays_in_range d tick refl h)

advanced_in_range : (n : ℕ) (d : Device) → in_range d ≡ true → in_range (advanced n d).device ≡ true
unfolding advanced
advanced_in_range n d h = either (λ (a : Advanced). in_range a.device ≡ true) (ltb most_ticks n) (λ t. h) (λ f. ticks_in_range n d h)

-- ---- what is told and left, by the image

pub told_good : (b : List ℕ) (n : ℕ) → is_image b ≡ true → image_told n b ≡ told_of (advanced n (device_in b))
unfolding image_told
told_good b n h = if_true _ _ h

pub left_good : (b : List ℕ) (n : ℕ) → is_image b ≡ true → image_advanced n b ≡ image_of (advanced n (device_in b)).device
unfolding image_advanced
left_good b n h = if_true _ _ h

pub in_few : (n : ℕ) (d : Device) → n ≤ most_ticks → advanced n d ≡ advanced_with 0 (ticks n d) (changing n d)
unfolding advanced
in_few n d h = if_false _ _ (le-ltb most_ticks n h)

pub past_few : (n : ℕ) (d : Device) → most_ticks < n → advanced n d ≡ advanced_with 3 d 0
unfolding advanced
past_few n d h = if_true _ _ (lt-ltb most_ticks n h)

-- ---- the laws

run_alike : (n : ℕ) (d : Device) → in_range d ≡ true → image_run (image_of d) (replicate n tick) ≡ image_of (ticks n d)
unfolding ticks run_from image_run
run_alike zero d h = refl
run_alike (suc n) d h =
    ap (λ (b : List ℕ). image_run b (replicate n tick)) (steps_alike d tick h).1
    ∙ run_alike n (step d tick).device (stays_in_range d tick refl h)

pub advanced_alike : AdvancedAlike
advanced_alike b n h few =
    left_good b n h
    ∙ ap (λ (a : Advanced). image_of a.device) (in_few n (device_in b) few)
    ∙ sym (run_alike n (device_in b) (image_fits b h))
    ∙ ap (λ (l : List ℕ). image_run l (replicate n tick)) (laid_out_back b h)

pub advanced_stays : AdvancedStays
advanced_stays b n h =
    subst (λ (l : List ℕ). is_image l ≡ true) (sym (left_good b n h))
    (record_fits (advanced n (device_in b)).device (advanced_in_range n (device_in b) (image_fits b h)))

pub none_advanced : NoneAdvanced
unfolding ticks run_from changing
none_advanced b h =
    let e = in_few 0 (device_in b) (omega arith) in (
      told_good b 0 h ∙ ap told_of e,
      left_good b 0 h ∙ ap (λ (a : Advanced). image_of a.device) e ∙ laid_out_back b h,
    )

pub past_advanced : PastAdvanced
past_advanced b n h past =
    let e = past_few n (device_in b) past in (
      told_good b n h ∙ ap told_of e,
      left_good b n h ∙ ap (λ (a : Advanced). image_of a.device) e ∙ laid_out_back b h,
    )

-- ---- what is reported is among the ticks

pub one_at_most : (b : Bool) → worth 1 b ≤ 1
one_at_most true = omega arith
one_at_most false = omega arith

pub changing_few : (n : ℕ) (d : Device) → changing n d ≤ n
unfolding changing
changing_few zero d = omega arith
changing_few (suc n) d =
    let one = one_at_most (changes d (step d tick).device) in
    let rest = changing_few n (step d tick).device in
    omega (arith, one, rest)

pub told_few : (n : ℕ) (b : List ℕ) → (image_told n b).reported ≤ most_ticks
unfolding image_told advanced
told_few n b =
    either (λ (t : Told). t.reported ≤ most_ticks) (is_image b)
    (λ t. either (λ (a : Advanced). a.reported ≤ most_ticks) (ltb most_ticks n) (λ past. omega arith)
    (λ f. let most = ltb-false most_ticks n f in let few = changing_few n (device_in b) in omega (arith, most, few)))
    (λ f. omega arith)

few_reported : (n : ℕ) (d : Device) → changing n d ≤ 6 → (advanced n d).reported ≤ 6
unfolding advanced
few_reported n d h = either (λ (a : Advanced). a.reported ≤ 6) (ltb most_ticks n) (λ t. omega arith) (λ f. h)

pub six_on_images : SixOnImages
six_on_images k rs n bytes =
    let fits = in_range_lem k rs bytes in
    let back = read_back (run k rs) fits in
    subst (λ (t : Told). t.reported ≤ 6) (sym (told_good (image_of (run k rs)) n (record_fits (run k rs) fits)))
    (subst (λ (d : Device). (advanced n d).reported ≤ 6) (sym back) (few_reported n (run k rs) (answers.six_at_most k rs n)))

-- ---- what is told, and the result that tells it

reported_by : Told → Result ℕ ImageRefusal
reported_by t = result_of t.reported t.number

of_told : (r : Result ℕ ImageRefusal) → reported_by (told_by r) ≡ r
unfolding told_by reported_by
of_told (Ok reported) = refl
of_told (Err Length) = refl
of_told (Err Range) = refl
of_told (Err Argument) = refl

-- an advance is told whole by its two numbers
pub told_once : {t : Told} {x y : Result ℕ ImageRefusal} → told_by x ≡ t → told_by y ≡ t → x ≡ y
told_once p q = sym (of_told _) ∙ ap reported_by (p ∙ sym q) ∙ of_told _
