-- Refused events change nothing, so they can be left out of a run, and of the way back.
-- Assumes nothing.
use Prim.Native.Nat.{◌-◌}
use mathlib.Core.Path.{◌≡◌, refl, sym, ap, ◌∙◌, subst}
use Rattle.std.specs.Prelude.{◌∷◌, if◌then◌else◌}
use Rattle.ranges.specs.Names.{Bool, List, [], Device, Raw}
use Rattle.arbiter.specs.Words.{side}
use Rattle.arbiter.specs.Steps.{run_from}
use Rattle.arbiter.specs.AuditWords.{next, is_accepted}
use Rattle.arbiter.specs.Witnesses.{number}
use Rattle.guarantee.specs.Starts.{kept_if}
use Rattle.recovery.specs.Recipe.{GetsBus, ticks_since, accepted_of, RefusedLeftOut, RecoveryAmongRefused}
use Rattle.arbiter.proofs.Choice.{split}
use Rattle.arbiter.proofs.Settled.{refused_unchanged}
use Rattle.recovery.proofs.Recipe.{recovery_recipe, recovery_hold}

pub refused_left_out : RefusedLeftOut
unfolding run_from accepted_of
refused_left_out d [] = refl
refused_left_out d (r ∷ rs) =
    let more : run_from (next d r) rs ≡ run_from (next d r) (accepted_of (next d r) rs) = refused_left_out (next d r) rs in
    let keep : Bool → List Raw = λ (b : Bool). kept_if b r (accepted_of (next d r) rs) in
    split (is_accepted r d)
    (λ yes. more ∙ sym (ap (λ (b : Bool). run_from d (keep b)) yes))
    (λ none. more ∙ ap (λ (x : Device). run_from x (accepted_of (next d r) rs)) (refused_unchanged d r none)
    ∙ sym (ap (λ (b : Bool). run_from d (keep b)) none))

pub recovery_among_refused : RecoveryAmongRefused
recovery_among_refused d p s rs h =
    let all : List Raw = accepted_of d rs in
    let same : run_from d rs ≡ run_from d all = refused_left_out d rs in
    subst
    (λ (x : Device).
    (x.bus.hold ≡ (if (side p d).contr.swrst then 35 - ticks_since (number p) d all else 0)) × GetsBus p s x)
    (sym same) (recovery_hold d p s all h, recovery_recipe d p s all h)
