-- Runs that reach the bound of Bound.antt, and others that come near it, for a part of each kind. proofs/BoundWitness.antt computes them all.
-- Assumes nothing.
use Rattle.std.specs.Prelude.{ℕ, zero, suc, ◌+◌, ◌*◌, ◌≤◌, ◌≡◌, List, [], ◌∷◌, ◌++◌, map, length, if◌then◌else◌}
use Rattle.arbiter.specs.Rules.{limit_of}
use Rattle.arbiter.specs.Steps.{step, run}
use Rattle.arbiter.specs.Marks.{lines, general_call}
use Rattle.arbiter.specs.Witnesses.{sets_rt, sets_contr}
use Rattle.arbiter.specs.declared.Master.TheVariants.{Zero, One}
use Rattle.arbiter.specs.declared.Kind.{Kind}
use Rattle.arbiter.specs.declared.Device.{Device}
use Rattle.arbiter.specs.declared.Raw.{Raw}
use Rattle.quiet.specs.Quiet.{tick}
use Rattle.advance.specs.Changes.{changes}
use Rattle.advance.specs.Advance.{changing}

-- ---- the runs

-- a soft reset with SMBUS_SWRST: SCL is held for 35 ticks
abbrev pub soft_reset : List Raw
soft_reset = sets_contr Zero 0x10 ++ general_call 0 0x06 ∷ []

-- and then both masters ask, with a reserve of two ticks each
abbrev pub both_reserve : List Raw
both_reserve = soft_reset ++ sets_rt Zero 2 ++ sets_rt One 2 ++ sets_contr Zero 0x01 ++ sets_contr One 0x01

-- both masters ask, with RT 00h and the idle timer on
abbrev pub both_idle : List Raw
both_idle = sets_contr Zero 0x21 ++ sets_contr One 0x21

-- an owner connected with SMBUS_DIS set; then SCL falls
abbrev pub scl_falls : List Raw
scl_falls = sets_contr Zero 0x45 ++ lines 0 1 1 ∷ []

-- ---- which ticks change something

-- of n ticks, the first of them numbered i
unfoldable pub changing_from : ℕ → ℕ → Device → List ℕ
changing_from i zero d = []
changing_from i (suc n) d =
    (if changes d (step d tick).device then i ∷ [] else []) ++ changing_from (i + 1) n (step d tick).device

-- of n ticks after the run
abbrev pub changing_at : ℕ → Kind → List Raw → List ℕ
changing_at n k rs = changing_from 1 n (run k rs)

-- They are as many as are counted.
abbrev pub AsMany : Type 0
AsMany = (i n : ℕ) (d : Device) → length (changing_from i n d) ≡ changing n d

pub record Row : Type 0 where
  pub found : List ℕ
  pub said : List ℕ

infix 15 ◌is◌
abbrev pub ◌is◌ : List ℕ → List ℕ → Row
found is said = record { found = found; said = said }

unfoldable pub rows : Kind → List Row
rows k =
    -- the hold ends and master 0 is granted; it loses two ticks later to master 1, which loses two ticks after that
    (changing_at 60 k both_reserve is 35 ∷ 37 ∷ 39 ∷ [])
    -- each loses at the idle count's limit, which is the kind's
    ∷ (changing_at 310 k both_idle is limit_of k ∷ (2 * limit_of k) ∷ [])
    -- and so after a hold
    ∷ (changing_at 340 k (soft_reset ++ both_idle) is 35 ∷ (35 + limit_of k) ∷ (35 + 2 * limit_of k) ∷ [])
    -- the owner is cut off, and the bus is hung
    ∷ (changing_at 510 k scl_falls is 35 ∷ 500 ∷ [])
    ∷ []

-- every row is as it says
abbrev pub RowsHold : Type 0
RowsHold = (k : Kind) → map (λ (r : Row). r.found) (rows k) ≡ map (λ (r : Row). r.said) (rows k)

-- So three is the least number that is never exceeded, of a part of either kind.
abbrev pub ThreeIsLeast : Type 0
ThreeIsLeast = (k : Kind) (most : ℕ) → ((rs : List Raw) (n : ℕ) → changing n (run k rs) ≤ most) → 3 ≤ most
