-- A claim is its master's as long as it requests, so that a waiting one is overtaken once at most, over every run.
-- Assumes nothing.
use Prim.Native.Nat.{◌≤◌}
use mathlib.Core.Path.{◌≡◌, refl, sym, ap, ◌∙◌}
use mathlib.Core.Bool.{true≢false, false≢true, and-false}
use mathlib.Core.Logic.{◌⊎◌, inl, inr, ⊎_elim}
use native.Mathlib.Omega.{arith}
use Rattle.std.specs.Prelude.{◌&&◌, ◌∷◌}
use Rattle.ranges.specs.Names.{Bool, true, false, not, List, [], Master, Zero, One, Ground, Sole, Turn, Nobody, Claims, Owns, Device, Raw}
use Rattle.arbiter.specs.Words.{worth, partner}
use Rattle.arbiter.specs.State.{owns_turn, owns, claims_turn, claims}
use Rattle.arbiter.specs.Steps.{run}
use Rattle.arbiter.specs.AuditWords.{next, requests, resting, reset, grant_taken, throughout}
use Rattle.audit.specs.Blocking.{times_in, OvertakenOnce}
use Rattle.arbiter.proofs.Choice.{split, owns_turn_lem, turn_owns}
use Rattle.arbiter.proofs.Runs.{now, hence}
use Rattle.arbiter.proofs.Owner.{heir, over_next}
use Rattle.arbiter.proofs.Raws.{refuses, takes, met}
use Rattle.arbiter.proofs.Settled.{Ready, all_ready}
use Rattle.arbiter.proofs.Tenure.{Owned, next_owned, run_owned, keeps, over, lot}
use Rattle.arbiter.proofs.Grounds.{has_turn, nobody_asks, still_there}
use Rattle.audit.proofs.Freed.{reset_frees}

-- ---- of a turn

-- Whoever is next has the claim.
heir_has : (rest : Bool) (p : Master) (g : Ground) → has_turn p (heir rest p g) ≡ true
heir_has true Zero g = refl
heir_has true One g = refl
heir_has false Zero g = refl
heir_has false One g = refl

-- Where the partner has the claim, m does not own.
other_not : (m : Master) (t : Turn) → has_turn (partner m) t ≡ true → owns_turn m t ≡ false
other_not m Nobody h = refl
other_not m (Claims k g) h = refl
other_not Zero (Owns Zero g) h = absurd (false≢true h)
other_not Zero (Owns One g) h = refl
other_not One (Owns Zero g) h = refl
other_not One (Owns One g) h = absurd (false≢true h)

-- The turn is nobody's where the partner has no claim and m neither claims nor owns.
nobody : (m : Master) (t : Turn) → has_turn (partner m) t ≡ false → owns_turn m t ≡ false → claims_turn m t ≡ false → t ≡ Nobody
nobody m Nobody h o c = refl
nobody Zero (Claims Zero g) h o c = absurd (true≢false c)
nobody Zero (Claims One g) h o c = absurd (true≢false h)
nobody One (Claims Zero g) h o c = absurd (true≢false h)
nobody One (Claims One g) h o c = absurd (true≢false c)
nobody Zero (Owns Zero g) h o c = absurd (true≢false o)
nobody Zero (Owns One g) h o c = absurd (true≢false h)
nobody One (Owns Zero g) h o c = absurd (true≢false h)
nobody One (Owns One g) h o c = absurd (true≢false o)

-- ---- one event, after which p requests

-- It is no reset.
pub asks_no_reset : (p : Master) (r : Raw) (d : Device) → requests p (next d r) ≡ true → reset r d ≡ false
asks_no_reset p r d q = split (reset r d) (λ h. absurd (true≢false (sym q ∙ ((reset_frees d r h).0 p).2))) (λ h. h)

-- p keeps its claim.
pub line_next : (p : Master) (r : Raw) (d : Device) → has_turn p d.arb.turn ≡ true → requests p (next d r) ≡ true
    → has_turn p (next d r).arb.turn ≡ true
line_next p r d h q =
    elim (met r d) [
      | refuses x ↦ ap (λ (n : Device). has_turn p n.arb.turn) x.after ∙ h
      | takes e x ↦ ap (λ (n : Device). has_turn p n.arb.turn) x.after ∙ still_there p e d h (sym (ap (requests p) x.after) ∙ q)
    ]

-- Where m owns, it owns still, or the claim is p's.
pub owner_next : (m : Master) (r : Raw) (d : Device) → Owned d → owns m d ≡ true → requests (partner m) (next d r) ≡ true
    → (owns m (next d r) ≡ true) ⊎ (has_turn (partner m) (next d r).arb.turn ≡ true)
owner_next m r d i o q =
    let n : Device = next d r in
    let p : Master = partner m in
    let t = owns_turn_lem m d.arb.turn o in
    elim (lot m r d (i m t.0 t.1) (asks_no_reset p r d q)) [
      | keeps k ↦ inl (turn_owns m n.arb.turn k.owner.turn)
      | over h c ↦ inr (ap (has_turn p) (over_next m n h q).turn ∙ heir_has (resting p n) p Sole)
    ]

-- ---- the events of a run, throughout which the partner requests

pub worth_one : (b : Bool) → worth 1 b ≤ 1
worth_one true = omega arith
worth_one false = omega arith

module _ (m : Master) where
  abbrev p : Master
  p = partner m

  -- where m is not newly granted, the rest counts
  uncounted : (r : Raw) (rs : List Raw) (d : Device) → grant_taken m r d ≡ false
      → times_in (grant_taken m) d (r ∷ rs) ≡ times_in (grant_taken m) (next d r) rs
  unfolding times_in
  uncounted r rs d h = let none : worth 1 (grant_taken m r d) ≡ 0 = ap (worth 1) h in omega arith

  -- and m is not if it does not own after the event
  untaken : (r : Raw) (d : Device) → owns m (next d r) ≡ false → grant_taken m r d ≡ false
  untaken r d h = ap (λ (b : Bool). not (owns m d) && b) h ∙ and-false (not (owns m d))

  -- The claim is the partner's: it stays so, and m is not granted.
  line_none : (rs : List Raw) (d : Device) → has_turn p d.arb.turn ≡ true → throughout (requests p) d rs ≡ true → times_in (grant_taken m) d rs ≡ 0
  unfolding times_in
  line_none [] d h st = refl
  line_none (r ∷ rs) d h st =
      let n : Device = next d r in
      let on = hence (requests p) r rs d st in
      let hn : has_turn p n.arb.turn ≡ true = line_next p r d h (now (requests p) rs n on) in
      uncounted r rs d (untaken r d (other_not m n.arb.turn hn)) ∙ line_none rs n hn on

  -- m owns: it is not newly granted, and then the claim is the partner's.
  owner_none : (rs : List Raw) (d : Device) → Owned d → owns m d ≡ true → throughout (requests p) d rs ≡ true → times_in (grant_taken m) d rs ≡ 0
  unfolding times_in
  owner_none [] d i o st = refl
  owner_none (r ∷ rs) d i o st =
      let n : Device = next d r in
      let on = hence (requests p) r rs d st in
      uncounted r rs d (ap (λ (b : Bool). not b && owns m n) o)
      ∙ ⊎_elim (λ (on-m : owns m n ≡ true). owner_none rs n (next_owned r d i) on-m on)
      (λ (hn : has_turn p n.arb.turn ≡ true). line_none rs n hn on) (owner_next m r d i o (now (requests p) rs n on))

  -- Otherwise m may be newly granted, and owns then.
  at_most_one : (rs : List Raw) (d : Device) → Owned d → throughout (requests p) d rs ≡ true → times_in (grant_taken m) d rs ≤ 1
  unfolding times_in
  at_most_one [] d i st = omega arith
  at_most_one (r ∷ rs) d i st =
      let n : Device = next d r in
      let on = hence (requests p) r rs d st in
      split (owns m n)
      (λ o. let none : times_in (grant_taken m) n rs ≡ 0 = owner_none rs n (next_owned r d i) o on in
      let first : worth 1 (grant_taken m r d) ≤ 1 = worth_one (grant_taken m r d) in
      omega arith)
      (λ o. let none : worth 1 (grant_taken m r d) ≡ 0 = ap (worth 1) (untaken r d o) in
      let rest : times_in (grant_taken m) n rs ≤ 1 = at_most_one rs n (next_owned r d i) on in
      omega arith)

  -- Where the turn is nobody's, nobody requests.
  silent : (d : Device) → Ready d → requests p d ≡ true → d.arb.turn ≡ Nobody → ⊥
  silent d ready q n = true≢false (sym q ∙ each p)
    where
      each : (j : Master) → requests j d ≡ false
      each Zero = (nobody_asks d ready n).0
      each One = (nobody_asks d ready n).1

  at_most : (rs : List Raw) (d : Device) → Owned d → Ready d → throughout (requests p) d rs ≡ true
      → times_in (grant_taken m) d rs ≤ worth 1 (claims m d)
  at_most rs d i ready st =
      split (has_turn p d.arb.turn)
      (λ h. let none : times_in (grant_taken m) d rs ≡ 0 = line_none rs d h st in omega arith)
      (λ h. split (owns m d)
      (λ o. let none : times_in (grant_taken m) d rs ≡ 0 = owner_none rs d i o st in omega arith)
      (λ o. split (claims m d)
      (λ c. let one : worth 1 (claims m d) ≡ 1 = ap (worth 1) c in
      let most : times_in (grant_taken m) d rs ≤ 1 = at_most_one rs d i st in
      omega arith)
      (λ c. absurd (silent d ready (now (requests p) rs d st) (nobody m d.arb.turn h o c)))))

pub overtaken_once : OvertakenOnce
overtaken_once k m rs later st = at_most m later (run k rs) (run_owned k rs) (all_ready k rs) st
