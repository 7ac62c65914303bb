-- A controller over the events of a start: after each the events still to come are those of a stage, and so much of its setting stands.
-- Assumes nothing.
use mathlib.Core.Path.{◌≡◌, refl, sym, ap, ap₂, ◌∙◌}
use mathlib.Core.Bool.{Bool, true, false, not, ◌&&◌, true≢false}
use mathlib.Core.List.{List, [], ◌∷◌, ◌++◌}
use Rattle.ranges.specs.Names.{Master, Zero, One, Kind, Device, Raw}
use Rattle.arbiter.specs.Effects.{fresh_side, power_up}
use Rattle.arbiter.specs.Steps.{run_from}
use Rattle.arbiter.specs.AuditWords.{next, reset, grant_taken, never}
use Rattle.arbiter.specs.Witnesses.{number}
use Rattle.sheets.specs.declared.Setting.{Setting}
use Rattle.guarantee.specs.Starts.{is_by, kept_if, those}
use Rattle.arbiter.proofs.Choice.{split}
use Rattle.arbiter.proofs.Runs.{never_comes}
use Rattle.guarantee.proofs.StartOthers.{left_by_others}
use Rattle.guarantee.proofs.StartRaws.{is_admitted, foreign, unreset}
use Rattle.guarantee.proofs.StartStages.{Stage, six, left, At, others_keep, not_empty, Led, own_leads}

-- ---- the events of a list that are such

pub those_first : (such : Raw → Bool) (r : Raw) (rs : List Raw) → such r ≡ true → those such (r ∷ rs) ≡ r ∷ those such rs
unfolding those
those_first such r rs h = ap (λ (b : Bool). kept_if b r (those such rs)) h

pub those_later : (such : Raw → Bool) (r : Raw) (rs : List Raw) → such r ≡ false → those such (r ∷ rs) ≡ those such rs
unfolding those
those_later such r rs h = ap (λ (b : Bool). kept_if b r (those such rs)) h

-- Where none is, the first is not.
pub those_none : (such : Raw → Bool) (r : Raw) (rs : List Raw) → those such (r ∷ rs) ≡ [] → (such r ≡ false) × (those such rs ≡ [])
those_none such r rs h =
    split (such r) (λ b. absurd (not_empty (sym (those_first such r rs b) ∙ h))) (λ b. (b, sym (those_later such r rs b) ∙ h))

-- an event that is of no port and neither LINES nor TICK
abbrev pub is_other : Raw → Bool
is_other r = not (is_admitted r)

pub others_none : (r : Raw) (rs : List Raw) → those is_other (r ∷ rs) ≡ [] → (is_admitted r ≡ true) × (those is_other rs ≡ [])
others_none r rs h = let b = those_none is_other r rs h in (not_false (is_admitted r) b.0, b.1)
  where
    not_false : (a : Bool) → not a ≡ false → a ≡ true
    not_false true e = refl
    not_false false e = absurd (true≢false e)

-- So no reset comes.
pub never_reset : (rs : List Raw) (d : Device) → those is_other rs ≡ [] → never reset d rs ≡ true
unfolding never
never_reset [] d h = refl
never_reset (r ∷ rs) d h =
    let b = others_none r rs h in
    ap₂ (λ (x y : Bool). not x && y) (unreset r d b.0) (never_reset rs (next d r) b.1)

-- ---- over the first events xs of a start, ys being the rest

module _ (Q : Type 0) (m : Master) (s : Setting) where
  abbrev mine : List Raw → List Raw
  mine rs = those (is_by (number m)) rs

  pub walk : (xs ys : List Raw) (d : Device) (g : Stage) → mine (xs ++ ys) ≡ left m s g → those is_other (xs ++ ys) ≡ []
      → (Q → never (grant_taken m) d (xs ++ ys) ≡ true) → At Q g m s d → Led Q m s (mine ys) (run_from d xs)
  unfolding run_from
  walk [] ys d g e o n a = record { stage = g; events = e; stands = a }
  walk (x ∷ xs) ys d g e o n a =
      let b = others_none x (xs ++ ys) o in
      let ungranted : Q → grant_taken m x d ≡ false = λ q. (never_comes (grant_taken m) x (xs ++ ys) d (n q)).0 in
      let later : Q → never (grant_taken m) (next d x) (xs ++ ys) ≡ true = λ q. (never_comes (grant_taken m) x (xs ++ ys) d (n q)).1 in
      split (is_by (number m) x)
      (λ h. let l = own_leads Q m s d g x (mine (xs ++ ys)) (sym (those_first (is_by (number m)) x (xs ++ ys) h) ∙ e) ungranted a in
      walk xs ys (next d x) l.stage l.events b.1 later l.stands)
      (λ h. walk xs ys (next d x) g (sym (those_later (is_by (number m)) x (xs ++ ys) h) ∙ e) b.1 later
      (others_keep Q g m s x d (left_by_others m x d (foreign m x d b.0 h)) ungranted a))

-- At power-up all six are to come.
pub at_power_up : (Q : Type 0) (k : Kind) (m : Master) (s : Setting) → At Q six m s (power_up k)
unfolding power_up fresh_side
at_power_up Q k Zero s = (refl, refl)
at_power_up Q k One s = (refl, refl)
