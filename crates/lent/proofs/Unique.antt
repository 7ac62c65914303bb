-- What each public call of `lent` promises leaves room for one result, and for one state of the lent device.
-- Assumes nothing.
use mathlib.Core.Path.{refl}
use base.Logic.{emp}
use borrow.Fn.Claims.{AllOf}
use borrow.Fn.Read.{Read, all_models, no_know, reads}
use borrow.Fn.World.{World, Pr}
use contract.Lifetimes.{Lfts}
use denote.Triple.Clauses.{AtExit}
use denote.Triple.Entry.{Args, Res}
use Rattle.arbiter.proofs.Once.{OneResult, OneLeft, once}
use Rattle.lent.specs.contracts.step_lent as step-lent
use Rattle.lent.proofs.step_standing.Reads as step-standing

-- ---- `step_lent`

-- The check reads the contract of a function that it covers (its `Reads`), and none of one that is walked by hand. So the contract of
-- `step_lent`, as the check has made it of the source, is read here, by the check's own rules.
module _ (κs : Lfts 1) (a : Args step-lent.signature κs) (r : Res step-lent.signature κs) (s : AtExit step-lent.ended κs) where
  abbrev ensures : (w : World) → Pr w
  ensures w = (step-lent.clauses w.𝓛 w.𝓜.mem w.𝓡.run κs a).ensures tt r s

  abbrev ensures_read : Read (λ w. emp w.𝓤) no_know ensures
  ensures_read = all_models ensures (λ w. search reads) (λ w. refl) (λ w. refl) (λ w. refl)

  abbrev pub Post : Type 0
  Post = AllOf ensures_read.tells

pub step_lent_once : OneLeft (λ κ s. s.0.now) Post
step_lent_once κ a x y s t p q = (once p.1 q.1, once p.0 q.0)

-- ---- `step_standing`

pub step_standing_once : OneResult step-standing.Post
step_standing_once κ a x y s t p q = once p q
