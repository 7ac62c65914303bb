-- Faults: #104 refuses a capture with 12 exactly if a fault was counted or its last sample is inside a byte.
-- Assumes nothing.
use mathlib.Core.Path.{◌≡◌, refl, sym, ap, ◌∙◌}
use native.Mathlib.Omega.{arith}
use borrow.Author.Tests.{ne_eqb}
use Rattle.capture.specs.OneBus.{inside, heard}
use Rattle.capture.specs.Samples.{sign_of, sampled, both_silent, both_from, both_after}
use Rattle.capture.proofs.Joined.{cut_joined}
use Rattle.std.specs.Prelude.{◌+◌, ◌||◌, ◌∷◌}
use Rattle.watch.specs.Names.{ℕ, Bool, true, false, not, List, [], eqb, worth, Zero, One, Device, Both, Settings, Tally, Watcher}
use Rattle.watch.specs.Sample.{mended, both_mended, heard_now, ear_after, silent_ear}
use Rattle.watch.specs.Stream.{heard_by, watched_at, watched, beginning}
use Rattle.watch.specs.Found.{faults}
use Rattle.watch.specs.Answers.{FaultsTold}
use Rattle.watch.proofs.Mended.{heard_broken}
use Rattle.watch.proofs.Imported.{listening, both_mended_lem}

abbrev any_broken : Both → Bool
any_broken s = s.bus0.broken || s.bus1.broken

-- ---- choices

or_none : (b : Bool) → b ≡ (b || false)
or_none true = refl
or_none false = refl

or_assoc : (a b c : Bool) → (a || (b || c)) ≡ ((a || b) || c)
or_assoc true b c = refl
or_assoc false b c = refl

crossed : (a b c d : Bool) → ((a || b) || (c || d)) ≡ ((a || c) || (b || d))
crossed true b c d = refl
crossed false true true d = refl
crossed false true false d = refl
crossed false false true d = refl
crossed false false false d = refl

counted : (a b : Bool) (n : ℕ) → not (eqb (worth 1 a + worth 1 b + n) 0) ≡ ((a || b) || not (eqb n 0))
counted true true n = ap not (ne_eqb (1 + 1 + n) 0 (λ e. omega arith))
counted true false n = ap not (ne_eqb (1 + 0 + n) 0 (λ e. omega arith))
counted false true n = ap not (ne_eqb (0 + 1 + n) 0 (λ e. omega arith))
counted false false n = let e : 0 + 0 + n ≡ n = omega arith in ap (λ (k : ℕ). not (eqb k 0)) e

-- ---- from any sample on

module _ (c : Settings) where
  both_from_lem : (rest : List ℕ) (before since : ℕ) (s : Both) (d : Device) (t : Tally)
      → (watched rest (listening c before since (both_mended s) d t)).ear.both ≡ both_mended (both_from c.address before s rest)
  unfolding watched both_from watched_at heard_by ear_after heard_now
  both_from_lem [] before since s d t = refl
  both_from_lem (x ∷ rest) before since s d t =
      let after : Watcher = watched_at x (listening c before since (both_mended s) d t) in
      ap (λ (b : Both). (watched rest (listening c x after.ear.since b after.device after.tally)).ear.both) (both_mended_lem c.address before x s)
      ∙ both_from_lem rest x after.ear.since (sampled c.address before x s).both after.device after.tally

  broken_from : (rest : List ℕ) (before since : ℕ) (s : Both) (d : Device) (t : Tally)
      → any_broken (both_from c.address before s rest)
      ≡ (any_broken s || not (eqb (faults rest (listening c before since (both_mended s) d t)) 0))
  unfolding faults both_from watched_at heard_by ear_after heard_now sampled
  broken_from [] before since s d t = or_none (any_broken s)
  broken_from (x ∷ rest) before since s d t =
      let after : Watcher = watched_at x (listening c before since (both_mended s) d t) in
      let next : Both = (sampled c.address before x s).both in
      let new0 : Bool = (heard c.address (sign_of Zero before x) (mended s.bus0)).broken in
      let new1 : Bool = (heard c.address (sign_of One before x) (mended s.bus1)).broken in
      let later : ℕ = faults rest after in
      broken_from rest x after.ear.since next after.device after.tally
      ∙ (λ j. (heard_broken c.address (sign_of Zero before x) s.bus0 j || heard_broken c.address (sign_of One before x) s.bus1 j)
      || not (eqb (faults rest (listening c x after.ear.since (sym (both_mended_lem c.address before x s) j) after.device after.tally)) 0))
      ∙ ap (λ (b : Bool). b || not (eqb later 0)) (crossed s.bus0.broken new0 s.bus1.broken new1)
      ∙ sym (or_assoc (any_broken s) (new0 || new1) (not (eqb later 0)))
      ∙ ap (λ (b : Bool). any_broken s || b) (sym (counted new0 new1 later))

-- ---- a whole stream

pub faults_told : FaultsTold
unfolding watched faults both_after beginning silent_ear watched_at heard_by ear_after heard_now
faults_told k c [] = sym (cut_joined c.address [])
faults_told k c (x ∷ rest) =
    let after : Watcher = watched_at x (beginning k c) in
    let end : Both = both_from c.address x both_silent rest in
    let later : ℕ = faults rest after in
    sym (cut_joined c.address (x ∷ rest))
    ∙ crossed end.bus0.broken (inside end.bus0) end.bus1.broken (inside end.bus1)
    ∙ (λ j. broken_from c rest x after.ear.since both_silent after.device after.tally j || (inside end.bus0 || inside end.bus1))
    ∙ (λ j. sym (counted false false later) j || (inside (sym (both_from_lem c rest x after.ear.since both_silent after.device after.tally) j).bus0
    || inside (sym (both_from_lem c rest x after.ear.since both_silent after.device after.tally) j).bus1))
