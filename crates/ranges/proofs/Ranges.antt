-- Every step keeps every field in its range (specs/Ranges.antt), and so every run from power-up does.
-- Assumes nothing.
use Prim.Native.Nat.{◌<◌}
use mathlib.Core.Path.{◌≡◌, ap₂}
use mathlib.Core.Bool.{true, ◌&&◌, and-eq-true_iff}
use native.Mathlib.Omega.{arith}
use borrow.Author.Tests.{ltb-true}
use Rattle.std.specs.Prelude.{◌-◌, ◌∷◌}
use Rattle.ranges.specs.Names.{ℕ, List, [], ltb, Kind, Device, Raw}
use Rattle.arbiter.specs.Steps.{run}
use Rattle.arbiter.specs.AuditWords.{next}
use Rattle.ranges.specs.Ranges.{narrow, bytes, all_fit, in_range, is_bytes, are_bytes, InRange, NarrowInRange, StaysInRange}
use Rattle.ranges.proofs.Fields.{fit_all, all_fit_lem, DeviceFits, ok_narrow}
use Rattle.ranges.proofs.Fits.{RawOk, step_ok, RawsOk, run_ok}

-- ---- of any events

abbrev pub Any : ℕ → Type 0
Any n = Unit {0}

any_raws : (rs : List Raw) → RawsOk Any rs
any_raws [] = tt
any_raws (r ∷ rs) = ((tt, tt), any_raws rs)

pub any_ok : (k : Kind) (rs : List Raw) → DeviceFits Any (run k rs)
any_ok k rs = run_ok Any tt (λ n b. tt) k rs (any_raws rs)

pub narrow_in_range : NarrowInRange
narrow_in_range k rs = ok_narrow Any (run k rs) (any_ok k rs)

-- ---- of events in bytes

abbrev Byte : ℕ → Type 0
Byte n = n < 256

byte_none : Byte 0
byte_none = omega arith

byte_less : (n : ℕ) → Byte n → Byte (n - 1)
byte_less n h = omega arith

-- every number in its range
abbrev Fits : Device → Type 0
Fits d = DeviceFits Byte d

fits_in : (d : Device) → Fits d → in_range d ≡ true
unfolding in_range
fits_in d h =
    let (_, _, rt0, (low0, high0)) = h.zero in
    let (_, _, rt1, (low1, high1)) = h.one in
    let (_, reserve) = h.arb in
    ap₂ ◌&&◌ (ok_narrow Byte d h)
    (fit_all bytes d (omega arith, (omega arith, (omega arith, (omega arith, (omega arith, (omega arith, (omega arith, tt))))))))

in_fits : (d : Device) → in_range d ≡ true → Fits d
unfolding in_range
in_fits d h =
    let two = (and-eq-true_iff (all_fit narrow d) (all_fit bytes d)).0 h in
    let (ints0, (mask0, (ints1, (mask1, (hold, (idle, (scl, (sda, (pulsed, _))))))))) = all_fit_lem narrow d two.0 in
    let (rt0, (low0, (high0, (rt1, (low1, (high1, (reserve, _))))))) = all_fit_lem bytes d two.1 in
    record {
      zero = (ints0, mask0, rt0, (low0, high0));
      one = (ints1, mask1, rt1, (low1, high1));
      bus = (hold, idle, scl, sda);
      arb = (pulsed, reserve);
    }

raw_bytes : (r : Raw) → is_bytes r ≡ true → RawOk Byte r
raw_bytes r h =
    let outer = (and-eq-true_iff (ltb r.kind 256 && ltb r.x 256 && ltb r.y 256) (ltb r.z 256)).0 h in
    let inner = (and-eq-true_iff (ltb r.kind 256 && ltb r.x 256) (ltb r.y 256)).0 outer.0 in
    (ltb-true r.x 256 ((and-eq-true_iff (ltb r.kind 256) (ltb r.x 256)).0 inner.0).1, ltb-true r.y 256 inner.1)

raws_bytes : (rs : List Raw) → are_bytes rs ≡ true → RawsOk Byte rs
unfolding are_bytes
raws_bytes [] h = tt
raws_bytes (r ∷ rs) h =
    let two = (and-eq-true_iff (is_bytes r) (are_bytes rs)).0 h in
    (raw_bytes r two.0, raws_bytes rs two.1)

pub in_range_lem : InRange
in_range_lem k rs h = fits_in (run k rs) (run_ok Byte byte_none byte_less k rs (raws_bytes rs h))

pub stays_in_range : StaysInRange
stays_in_range d r b h = fits_in (next d r) (step_ok Byte byte_none byte_less d r (raw_bytes r b) (in_fits d h))
