-- On m's interrupt line: a bit of INT_STATUS that is set and has mask 0 asserts it in the very answer; and with INT_MSK 7Fh nothing does.
-- Assumes nothing.
use Prim.Native.Nat.{◌-◌, ◌/◌, ◌%◌, ◌+◌}
use native.Mathlib.Omega.{arith}
use mathlib.Core.Path.{◌≡◌, refl, sym, ap, ap₂, ◌∙◌}
use mathlib.Core.Bool.{beq, true≢false, and-eq-true_iff}
use lib.Bits.{bit_and, and_zero_r}
use borrow.Author.Tests.{eqb-true}
use Rattle.std.specs.Prelude.{◌&&◌, ◌∷◌}
use Rattle.ranges.specs.Names.{ℕ, Bool, true, false, not, List, [], eqb, Master, Zero, One, IntStatus, Kind, Device, Raw, Stepped}
use Rattle.arbiter.specs.Words.{bit, worth, of, side}
use Rattle.arbiter.specs.State.{scl_high, sda_high, bus_hung}
use Rattle.arbiter.specs.Registers.{int_status_byte, register_byte, reads_at, unmasked, is_asserted, output}
use Rattle.arbiter.specs.Steps.{lines_byte, taken, refused, run_from, run}
use Rattle.arbiter.specs.AuditWords.{next, reset, never}
use Rattle.audit.specs.SettingsKept.{mask_of, writes_to_mask}
use Rattle.sheets.specs.declared.Order.{Order}
use Rattle.sheets.specs.Settings.{order_events}
use Rattle.recovery.specs.Told.{line_of, LineTells, SheetsMasked}
use Rattle.arbiter.proofs.Bitwise.{same}
use Rattle.arbiter.proofs.Cases.{step_cases}
use Rattle.arbiter.proofs.Choice.{split}
use Rattle.arbiter.proofs.Every.{every, every_at, both, both_at}
use Rattle.arbiter.proofs.Runs.{never_comes}
use Rattle.audit.proofs.SettingsKept.{mask_kept, settings_reset}
use Rattle.guarantee.proofs.Devices.{starts}
use Rattle.recovery.proofs.Flags.{Flag, one, two}
use Rattle.recovery.proofs.Told.{grant_told, loss_told}

-- ---- the answer's last byte

abbrev lines_of : Bool → Bool → Bool → Bool → ℕ
lines_of a b scl sda = worth 1 a + worth 2 b + worth 4 scl + worth 8 sda

abbrev lines_test : Bool → Bool → Bool → Bool → Bool
lines_test a b scl sda = beq (bit 0 (lines_of a b scl sda)) a && beq (bit 1 (lines_of a b scl sda)) b

lines_tests : both (λ a. both (λ b. both (λ scl. both (λ sda. lines_test a b scl sda)))) ≡ true
unfolding both
lines_tests = refl

lines_show : (m : Master) (d : Device) → bit (of m 0 1) (lines_byte d) ≡ output m d
unfolding lines_byte
lines_show m d = go m
  where
    v : ℕ
    v = lines_of (output Zero d) (output One d) (scl_high d.bus) (sda_high d.bus)

    found : (beq (bit 0 v) (output Zero d) ≡ true) × (beq (bit 1 v) (output One d) ≡ true)
    found =
        (and-eq-true_iff (beq (bit 0 v) (output Zero d)) (beq (bit 1 v) (output One d))).0
        (both_at _ (both_at _ (both_at _ (both_at _ lines_tests (output Zero d)) (output One d)) (scl_high d.bus)) (sda_high d.bus))

    go : (m : Master) → bit (of m 0 1) v ≡ output m d
    go Zero = same (bit 0 v) (output Zero d) found.0
    go One = same (bit 1 v) (output One d) found.1

-- It is made of the device after the step, accepted or refused.
abbrev ShowsLines : Stepped → Type 0
ShowsLines s = s.answer.lines ≡ lines_byte s.device

line_shows : (m : Master) (d : Device) (r : Raw) → line_of m r d ≡ output m (next d r)
unfolding taken refused
line_shows m d r = ap (bit (of m 0 1)) (step_cases ShowsLines d r (λ e x s. refl) (λ n u. refl)) ∙ lines_show m (next d r)

-- ---- a bit that is set, with mask 0

abbrev mask_test : ℕ → ℕ → Bool
mask_test k n = beq (bit k (0x7F - n)) (not (bit k n))

mask_tests : every (λ n. mask_test 1 n && mask_test 2 n) 128 ≡ true
mask_tests = refl

mask_bits : (mask : ℕ) → (bit 1 (unmasked mask) ≡ not (bit 1 (mask % 128))) × (bit 2 (unmasked mask) ≡ not (bit 2 (mask % 128)))
mask_bits mask =
    let n : ℕ = mask % 128 in
    let found = (and-eq-true_iff (mask_test 1 n) (mask_test 2 n)).0 (every_at (λ n. mask_test 1 n && mask_test 2 n) 128 mask_tests n (omega arith)) in
    (same (bit 1 (0x7F - n)) (not (bit 1 n)) found.0, same (bit 2 (0x7F - n)) (not (bit 2 n)) found.1)

unmasked_1 : (mask : ℕ) → bit 1 mask ≡ false → bit 1 (unmasked mask) ≡ true
unmasked_1 mask h =
    let low : mask % 128 / 2 % 2 ≡ mask / 2 % 2 = omega arith in
    (mask_bits mask).0 ∙ ap not (ap (λ (n : ℕ). eqb n 1) low ∙ h)

unmasked_2 : (mask : ℕ) → bit 2 mask ≡ false → bit 2 (unmasked mask) ≡ true
unmasked_2 mask h =
    let low : mask % 128 / 4 % 2 ≡ mask / 4 % 2 = omega arith in
    (mask_bits mask).1 ∙ ap not (ap (λ (n : ℕ). eqb n 1) low ∙ h)

module _ (f : ℕ → Bool) (l : Flag f) where
  -- a byte with the bit set is not 0
  some : (x : ℕ) → f x ≡ true → eqb x 0 ≡ false
  some x h = split (eqb x 0) (λ e. absurd (true≢false (sym h ∙ ap f (eqb-true x 0 e) ∙ l.none))) (λ e. e)

  asserts : (m : Master) (d : Device) → f (reads_at IntStatus m d) ≡ true → f (unmasked (mask_of m d)) ≡ true → output m d ≡ true
  unfolding is_asserted register_byte
  asserts m d set on =
      let i : ℕ = int_status_byte (bus_hung d.bus) (side m d).ints in
      ap not (some (bit_and i (unmasked (mask_of m d))) (l.and i (unmasked (mask_of m d)) ∙ ap₂ ◌&&◌ set on))

pub line_tells : LineTells
line_tells m d r =
    let n : Device = next d r in (
      (λ taken on. line_shows m d r ∙ asserts (bit 2) two m n ((grant_told m d r).0 taken) (unmasked_2 (mask_of m n) on)),
      (λ lost on. line_shows m d r ∙ asserts (bit 1) one m n ((loss_told m d r).0 lost) (unmasked_1 (mask_of m n) on)),
    )

-- ---- INT_MSK 7Fh

masked : (m : Master) (d : Device) → mask_of m d ≡ 0x7F → output m d ≡ false
unfolding is_asserted
masked m d e =
    let i : ℕ = int_status_byte (bus_hung d.bus) (side m d).ints in
    ap (λ (n : ℕ). not (eqb (bit_and i (unmasked n)) 0)) e ∙ ap (λ (n : ℕ). not (eqb n 0)) (and_zero_r i)

-- A reset leaves it too, so it stays until m writes it.
mask_stays : (m : Master) (rs : List Raw) (d : Device) → mask_of m d ≡ 0x7F → never (writes_to_mask m) d rs ≡ true → mask_of m (run_from d rs) ≡ 0x7F
unfolding run_from
mask_stays m [] d e unwritten = e
mask_stays m (r ∷ rs) d e unwritten =
    let here = never_comes (writes_to_mask m) r rs d unwritten in
    mask_stays m rs (next d r) (split (reset r d) (λ h. (settings_reset m d r h).2) (λ h. mask_kept m d r h here.0 ∙ e)) here.1

start_mask : (k : Kind) (o : Order) (m : Master) → mask_of m (run k (order_events o)) ≡ 0x7F
start_mask k o Zero = ap (mask_of Zero) (starts k o)
start_mask k o One = ap (mask_of One) (starts k o)

pub sheets_masked : SheetsMasked
sheets_masked k o m later unwritten =
    let start : Device = run k (order_events o) in
    let kept = mask_stays m later start (start_mask k o m) unwritten in
    (kept, masked m (run_from start later) kept)
