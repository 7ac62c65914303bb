-- What a master reads of its interrupts over every run, and when its output is asserted.
-- Assumes nothing.
use Prim.Native.Nat.{◌<◌}
use mathlib.Core.Path.{◌≡◌, refl, sym, ap, subst, ◌∙◌}
use mathlib.Core.Bool.{Bool, true, false, not, ◌&&◌, ◌||◌, beq, and-eq-true_iff}
use Rattle.std.specs.Prelude.{◌+◌, ◌∷◌, ◌++◌}
use Rattle.ranges.specs.Names.{ℕ, List, [], Master, Zero, One, IntStatus, Kind, Device, Raw, Stepped}
use Rattle.arbiter.specs.Words.{bit, worth, of, side}
use Rattle.arbiter.specs.State.{scl_high, sda_high, bus_hung}
use Rattle.arbiter.specs.Registers.{int_status_byte, register_byte, reads_at, is_asserted, output}
use Rattle.arbiter.specs.Steps.{lines_byte, taken, refused, step, run_from, run}
use Rattle.arbiter.specs.AuditWords.{next}
use Rattle.ranges.specs.Ranges.{some_unmasked, IntStatusReads, IntMaskReads, OutputAsserted, AnswerAsserted}
use Rattle.arbiter.proofs.Choice.{not_true}
use Rattle.arbiter.proofs.Every.{every, every_at, both, both_at}
use Rattle.arbiter.proofs.Bitwise.{same}
use Rattle.arbiter.proofs.Cases.{step_cases}
use Rattle.arbiter.proofs.Runs.{runs_on}
use Rattle.ranges.proofs.Ranges.{any_ok}

-- ---- the interrupts

pub side_fits : (k : Kind) (rs : List Raw) (m : Master) → ((side m (run k rs)).ints < 64) × ((side m (run k rs)).mask < 128)
side_fits k rs Zero = let s = (any_ok k rs).zero in (s.0, s.1)
side_fits k rs One = let s = (any_ok k rs).one in (s.0, s.1)

abbrev status_test : Bool → ℕ → Bool
status_test hung i = beq (bit 6 (int_status_byte hung i)) hung && not (bit 7 (int_status_byte hung i))

status_tests : (hung : Bool) → every (status_test hung) 64 ≡ true
status_tests true = refl
status_tests false = refl

pub int_status_reads : IntStatusReads
unfolding register_byte
int_status_reads k rs m =
    let d : Device = run k rs in
    let v : ℕ = reads_at IntStatus m d in
    let hung : Bool = bus_hung d.bus in
    let test = every_at (status_test hung) 64 (status_tests hung) (side m d).ints (side_fits k rs m).0 in
    let two = (and-eq-true_iff (beq (bit 6 v) hung) (not (bit 7 v))).0 test in
    (same (bit 6 v) hung two.0, not_true (bit 7 v) two.1)

mask_tests : every (λ v. not (bit 7 v)) 128 ≡ true
mask_tests = refl

pub int_mask_reads : IntMaskReads
unfolding register_byte
int_mask_reads k rs m = not_true _ (every_at (λ v. not (bit 7 v)) 128 mask_tests (side m (run k rs)).mask (side_fits k rs m).1)

-- an output by the two bytes that a master reads
abbrev some_of : ℕ → ℕ → Bool
some_of v w =
    (bit 6 v && not (bit 6 w)) || (bit 5 v && not (bit 5 w)) || (bit 4 v && not (bit 4 w)) || (bit 3 v && not (bit 3 w)) || (bit 2 v && not (bit 2 w))
    || (bit 1 v && not (bit 1 w)) || (bit 0 v && not (bit 0 w))

abbrev output_test : Bool → ℕ → ℕ → Bool
output_test hung i mask = beq (is_asserted hung i mask) (some_of (int_status_byte hung i) mask)

output_tests : (hung : Bool) → every (λ i. every (output_test hung i) 128) 64 ≡ true
unfolding is_asserted
output_tests true = refl
output_tests false = refl

asserted_as : (m : Master) (d : Device) → (side m d).ints < 64 → (side m d).mask < 128 → output m d ≡ some_unmasked m d
unfolding register_byte
asserted_as m d hi hm =
    let hung : Bool = bus_hung d.bus in
    let i : ℕ = (side m d).ints in
    let mask : ℕ = (side m d).mask in
    same (output m d) (some_unmasked m d)
    (every_at (output_test hung i) 128 (every_at (λ i. every (output_test hung i) 128) 64 (output_tests hung) i hi) mask hm)

pub output_asserted : OutputAsserted
output_asserted k rs m = let both = side_fits k rs m in asserted_as m (run k rs) both.0 both.1

-- ---- the answer's last byte

abbrev lines_of : Bool → Bool → Bool → Bool → ℕ
lines_of a b scl sda = worth 1 a + worth 2 b + worth 4 scl + worth 8 sda

abbrev lines_test : Bool → Bool → Bool → Bool → Bool
lines_test a b scl sda = beq (bit 0 (lines_of a b scl sda)) a && beq (bit 1 (lines_of a b scl sda)) b

lines_tests : both (λ a. both (λ b. both (λ scl. both (λ sda. lines_test a b scl sda)))) ≡ true
unfolding both
lines_tests = refl

lines_show : (m : Master) (d : Device) → bit (of m 0 1) (lines_byte d) ≡ output m d
unfolding lines_byte
lines_show m d = go m
  where
    v : ℕ
    v = lines_of (output Zero d) (output One d) (scl_high d.bus) (sda_high d.bus)

    two : (beq (bit 0 v) (output Zero d) ≡ true) × (beq (bit 1 v) (output One d) ≡ true)
    two =
        (and-eq-true_iff (beq (bit 0 v) (output Zero d)) (beq (bit 1 v) (output One d))).0
        (both_at _ (both_at _ (both_at _ (both_at _ lines_tests (output Zero d)) (output One d)) (scl_high d.bus)) (sda_high d.bus))

    go : (m : Master) → bit (of m 0 1) v ≡ output m d
    go Zero = same (bit 0 v) (output Zero d) two.0
    go One = same (bit 1 v) (output One d) two.1

-- an answer is made of the device after the step, accepted or refused
abbrev ShowsLines : Stepped → Type 0
ShowsLines s = s.answer.lines ≡ lines_byte s.device

step_lines : (d : Device) (r : Raw) → ShowsLines (step d r)
unfolding taken refused
step_lines d r = step_cases ShowsLines d r (λ e x s. refl) (λ n u. refl)

pub answer_asserted : AnswerAsserted
unfolding run_from
answer_asserted k rs r m =
    let d : Device = next (run k rs) r in
    let on : d ≡ run k (rs ++ r ∷ []) = sym (runs_on k rs r []) in
    ap (bit (of m 0 1)) (step_lines (run k rs) r) ∙ lines_show m d
    ∙ subst (λ (n : Device). output m n ≡ some_unmasked m n) (sym on) (output_asserted k (rs ++ r ∷ []) m)
