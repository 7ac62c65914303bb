-- The ranges of the rows, one by one: those of a record in range (arbiter/specs/Ranges) hold in its image, and those of an image in range hold
-- in its record.
-- Assumes nothing.
use Prim.Native.Nat.{ℕ, ◌+◌, ◌*◌, ◌/◌, ◌%◌, ◌≤◌, ◌<◌}
use mathlib.Core.Path.{◌≡◌, refl, sym, ap, ap₂, subst, ◌∙◌}
use mathlib.Core.Bool.{Bool, true, ◌&&◌, false≢true, and-eq-true_iff}
use mathlib.Core.List.{List, [], ◌∷◌}
use native.Mathlib.Omega.{arith}
use lib.Dec.{eqb, ltb, leb}
use lib.ListN.{length}
use borrow.Author.Tests.{ltb-true, lt-ltb, leb-true, le-leb, eq-eqb, eqb-true}
use Rattle.arbiter.specs.Rules.{limit_of}
use Rattle.arbiter.specs.Words.{worth}
use Rattle.arbiter.specs.Traces.{byte_at}
use Rattle.ranges.specs.Ranges.{Field, fits, narrow, bytes, all_fit, in_range, pulses}
use Rattle.arbiter.specs.declared.Master.TheVariants.{Zero, One}
use Rattle.arbiter.specs.declared.Kind.{Kind}
use Rattle.arbiter.specs.declared.Device.{Device}
use Rattle.arbiter.proofs.Choice.{split, if_true, if_false}
use Rattle.layout.specs.Layout.{Row, registers, counts, shared, part, port, image_length, laid_out, image_of, word_at, kind_in}
use Rattle.layout.specs.Layout.{side_in, bus_in, arb_in, device_in, fits_at, after, rows_fit_too, rows_fit, image_in_range}
use Rattle.layout.specs.Images.{is_long, image_number, is_image}
use Rattle.layout.specs.Laws.{Whole, RecordFits, ImageFits}
use Rattle.layout.proofs.Numbers.{register_back, port_back, turn_back, last_back, kind_back, flag_back, switch_back}
use Rattle.layout.proofs.Numbers.{contr_back, word_back, switch_pulses, ◌also◌}

-- ---- the fields of a record, one by one

below_next : (v top : ℕ) → ltb v (top + 1) ≡ true → leb v top ≡ true
below_next v top h = let less : v < top + 1 = ltb-true v (top + 1) h in le-leb v top (omega arith)

next_below : (v top : ℕ) → leb v top ≡ true → ltb v (top + 1) ≡ true
next_below v top h = let most : v ≤ top = leb-true v top h in lt-ltb v (top + 1) (omega arith)

abbrev AllHeld : List Field → Device → Type 0
AllHeld [] d = Unit {0}
AllHeld (f ∷ fs) d = (leb (f.value d) (f.top d.kind) ≡ true) × AllHeld fs d

all_held : (fs : List Field) (d : Device) → all_fit fs d ≡ true → AllHeld fs d
unfolding all_fit
all_held [] d h = tt
all_held (f ∷ fs) d h =
    let two = (and-eq-true_iff (fits f d) (all_fit fs d)).0 h in
    (below_next (f.value d) (f.top d.kind) two.0, all_held fs d two.1)

held_all : (fs : List Field) (d : Device) → AllHeld fs d → all_fit fs d ≡ true
unfolding all_fit
held_all [] d h = refl
held_all (f ∷ fs) d h = ap₂ ◌&&◌ (next_below (f.value d) (f.top d.kind) h.0) (held_all fs d h.1)

abbrev Held : Device → Type 0
Held d = AllHeld narrow d × AllHeld bytes d

pub held : (d : Device) → in_range d ≡ true → Held d
unfolding in_range
held d h =
    let two = (and-eq-true_iff (all_fit narrow d) (all_fit bytes d)).0 h in
    (all_held narrow d two.0, all_held bytes d two.1)

held_in : (d : Device) → Held d → in_range d ≡ true
unfolding in_range
held_in d h = ap₂ ◌&&◌ (held_all narrow d h.0) (held_all bytes d h.1)

-- the PULSEs
pub held_pulses : (d : Device) → in_range d ≡ true → pulses d.arb.switch < 9
held_pulses d h =
    let (ints0, (mask0, (ints1, (mask1, (hold, (idle, (scl, (sda, (pulsed, _))))))))) = (held d h).0 in
    let few : pulses d.arb.switch ≤ 8 = leb-true _ 8 pulsed in
    omega arith

-- ---- the rows of an image, one by one

abbrev pub AllFit : ℕ → List Row → List ℕ → Type 0
AllFit at [] b = Unit {0}
AllFit at (r ∷ rs) b = (fits_at at r b ≡ true) × AllFit (after r at) rs b

all_fit_too : (before : Bool) (at : ℕ) (rs : List Row) (b : List ℕ) → rows_fit_too before at rs b ≡ true → (before ≡ true) × AllFit at rs b
unfolding rows_fit_too
all_fit_too before at [] b h = (h, tt)
all_fit_too before at (r ∷ rs) b h =
    let rest = all_fit_too (before && fits_at at r b) (after r at) rs b h in
    let two = (and-eq-true_iff before (fits_at at r b)).0 rest.0 in
    (two.0, (two.1, rest.1))

pub all_fit_lem : (at : ℕ) (rs : List Row) (b : List ℕ) → rows_fit at rs b ≡ true → AllFit at rs b
all_fit_lem at rs b h = (all_fit_too true at rs b h).1

fit_all_too : (before : Bool) (at : ℕ) (rs : List Row) (b : List ℕ) → before ≡ true → AllFit at rs b → rows_fit_too before at rs b ≡ true
unfolding rows_fit_too
fit_all_too before at [] b h f = h
fit_all_too before at (r ∷ rs) b h f = fit_all_too (before && fits_at at r b) (after r at) rs b (ap₂ ◌&&◌ h f.0) f.1

fit_all : (at : ℕ) (rs : List Row) (b : List ℕ) → AllFit at rs b → rows_fit at rs b ≡ true
fit_all at rs b f = fit_all_too true at rs b refl f

-- ---- the groups of an image

pub record Fit (b : List ℕ) : Type 0 where
  pub zero : AllFit 0 (registers Zero) b
  pub one : AllFit 7 (registers One) b
  pub counted : AllFit 14 counts b
  pub common : AllFit 21 shared b
  pub kind : AllFit 31 part b
  pub port0 : AllFit 32 (port Zero) b
  pub port1 : AllFit 35 (port One) b

fit_in : (b : List ℕ) → Fit b → image_in_range b ≡ true
unfolding image_in_range
fit_in b f =
    let r = ap₂ ◌&&◌ (fit_all 0 (registers Zero) b f.zero) (fit_all 7 (registers One) b f.one) in
    let s = ap₂ ◌&&◌ (ap₂ ◌&&◌ r (fit_all 14 counts b f.counted)) (fit_all 21 shared b f.common) in
    let k = ap₂ ◌&&◌ s (fit_all 31 part b f.kind) in
    ap₂ ◌&&◌ (ap₂ ◌&&◌ k (fit_all 32 (port Zero) b f.port0)) (fit_all 35 (port One) b f.port1)

abbrev up_to_counts : List ℕ → Bool
up_to_counts b = rows_fit 0 (registers Zero) b && rows_fit 7 (registers One) b && rows_fit 14 counts b

abbrev up_to_kind : List ℕ → Bool
up_to_kind b = up_to_counts b && rows_fit 21 shared b && rows_fit 31 part b

in_fit : (b : List ℕ) → image_in_range b ≡ true → Fit b
unfolding image_in_range
in_fit b h =
    let p1 = (and-eq-true_iff (up_to_kind b && rows_fit 32 (port Zero) b) (rows_fit 35 (port One) b)).0 h in
    let p0 = (and-eq-true_iff (up_to_kind b) (rows_fit 32 (port Zero) b)).0 p1.0 in
    let k = (and-eq-true_iff (up_to_counts b && rows_fit 21 shared b) (rows_fit 31 part b)).0 p0.0 in
    let s = (and-eq-true_iff (up_to_counts b) (rows_fit 21 shared b)).0 k.0 in
    let c = (and-eq-true_iff (rows_fit 0 (registers Zero) b && rows_fit 7 (registers One) b) (rows_fit 14 counts b)).0 s.0 in
    let r = (and-eq-true_iff (rows_fit 0 (registers Zero) b) (rows_fit 7 (registers One) b)).0 c.0 in
    record {
      zero = all_fit_lem 0 (registers Zero) b r.0;
      one = all_fit_lem 7 (registers One) b r.1;
      counted = all_fit_lem 14 counts b c.1;
      common = all_fit_lem 21 shared b s.1;
      kind = all_fit_lem 31 part b k.1;
      port0 = all_fit_lem 32 (port Zero) b p0.1;
      port1 = all_fit_lem 35 (port One) b p1.1;
    }

-- ---- the refusals

-- what is not refused has the length, and its fields are in range
pub image_good : (b : List ℕ) → is_image b ≡ true → (length b ≡ image_length) × (image_in_range b ≡ true)
unfolding image_number
image_good b h =
    split (is_long b)
    (λ long. split (image_in_range b)
    (λ fits. (eqb-true (length b) image_length long, fits))
    (λ out. absurd (false≢true (sym (ap (λ (n : ℕ). eqb n 0) (if_true _ 9 long ∙ if_false 0 16 out)) ∙ h))))
    (λ other. absurd (false≢true (sym (ap (λ (n : ℕ). eqb n 0) (if_false _ 9 other)) ∙ h)))

pub good_image : (b : List ℕ) → length b ≡ image_length → image_in_range b ≡ true → is_image b ≡ true
unfolding image_number
good_image b long fits = ap (λ (n : ℕ). eqb n 0) (if_true _ 9 (eq-eqb (length b) image_length long) ∙ if_true 0 16 fits)

pub fit : (b : List ℕ) → is_image b ≡ true → Fit b
fit b h = in_fit b (image_good b h).1

-- ---- from the record to its image

pub whole : Whole
unfolding image_of laid_out
whole d = refl

kind_in_lem : (d : Device) → kind_in (image_of d) ≡ d.kind
unfolding image_of laid_out
kind_in_lem d = (kind_back d.kind).0

words_fit : (n top : ℕ) → leb n top ≡ true → leb (n % 256) 255 && leb (n % 256 + 256 * (n / 256)) top ≡ true
words_fit n top h =
    let low : n % 256 ≤ 255 = omega arith in
    ap₂ ◌&&◌ (le-leb (n % 256) 255 low) (ap (λ (v : ℕ). leb v top) (word_back n) ∙ h)

record_fit : (d : Device) → Held d → Fit (image_of d)
unfolding image_of laid_out
record_fit d h =
    let (ints0, (mask0, (ints1, (mask1, (hold, (idle, (scl, (sda, (pulsed, _))))))))) = h.0 in
    let (rt0, (low0, (high0, (rt1, (low1, (high1, (reserve, _))))))) = h.1 in
    let few : pulses d.arb.switch ≤ 8 = leb-true _ 8 pulsed in
    let flag : (f : Bool) → leb (worth 1 f) 1 ≡ true = λ f. (flag_back f).1 in
    let a = d.arb in
    let b = d.bus in
    let idle-fits = subst (λ (k : Kind). leb b.idle (limit_of k) ≡ true) (sym (kind_in_lem d)) idle in
    let Switch-fits = le-leb _ 20 (switch_back a.switch (omega arith)).1 in
    let from-turn = (turn_back a.turn).1 also (last_back a.last).1 also Switch-fits also flag a.initfail also tt in
    let from-drives = flag b.drivescl also flag b.drivesda also flag b.busy also from-turn in
    record {
      zero = (contr_back d.side0.contr).1 also rt0 also ints0 also mask0 also low0 also high0 also flag d.side0.mail.full also tt;
      one = (contr_back d.side1.contr).1 also rt1 also ints1 also mask1 also low1 also high1 also flag d.side1.mail.full also tt;
      counted = reserve also hold also words_fit b.lowscl 500 scl also words_fit b.lowsda 501 sda also idle-fits also tt;
      common = flag b.outscl also flag b.outsda also flag b.intin also from-drives;
      kind = (kind_back d.kind).1 also tt;
      port0 = (port_back d.side0.port).1 also (register_back d.side0.pointer).1 also flag d.side0.auto also tt;
      port1 = (port_back d.side1.port).1 also (register_back d.side1.pointer).1 also flag d.side1.auto also tt;
    }

pub record_fits : RecordFits
record_fits d h = good_image (image_of d) (whole d) (fit_in (image_of d) (record_fit d (held d h)))

-- ---- from the image to its record

image_held : (b : List ℕ) → Fit b → Held (device_in b)
unfolding device_in side_in bus_in arb_in
image_held b f =
    let (_, (rt0, (ints0, (mask0, (low0, (high0, _)))))) = f.zero in
    let (_, (rt1, (ints1, (mask1, (low1, (high1, _)))))) = f.one in
    let (reserve, (hold, (scl, (sda, (idle, _))))) = f.counted in
    let (_, (_, (_, (_, (_, (_, (_, (_, (switch, _))))))))) = f.common in
    let scl-held = ((and-eq-true_iff (leb (byte_at 16 b) 255) (leb (word_at 16 b) 500)).0 scl).1 in
    let sda-held = ((and-eq-true_iff (leb (byte_at 18 b) 255) (leb (word_at 18 b) 501)).0 sda).1 in
    let pulsed = switch_pulses (byte_at 29 b) switch in
    let numbers = ints0 also mask0 also ints1 also mask1 also hold also idle also scl-held also sda-held also pulsed also tt in
    (numbers, rt0 also low0 also high0 also rt1 also low1 also high1 also reserve also tt)

pub image_fits : ImageFits
image_fits b h = held_in (device_in b) (image_held b (fit b h))
