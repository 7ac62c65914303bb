-- The events of a recovery as four bytes: those between are foreign to both controllers, and the sender's own are foreign to its partner.
-- Assumes nothing.
use Prim.Native.Nat.{◌≤◌}
use mathlib.Core.Path.{◌≡◌, refl, sym, ap, ap₂, ◌∙◌}
use mathlib.Core.Bool.{true≢false, false≢true, or-true}
use native.Mathlib.Omega.{arith}
use borrow.Author.Tests.{eqb-true, le-ltb}
use Rattle.std.specs.Prelude.{◌&&◌, ◌||◌, ◌∷◌}
use Rattle.ranges.specs.Names.{ℕ, Bool, true, false, not, List, [], eqb, Master, Zero, One, Device, Raw, Event, Result, Unread, Ok, Err, UnknownKind}
use Rattle.ranges.specs.Names.{Err, BadField}
use Rattle.arbiter.specs.Words.{partner}
use Rattle.arbiter.specs.Events.{decode}
use Rattle.arbiter.specs.AuditWords.{accepted_as}
use Rattle.arbiter.specs.Witnesses.{number}
use Rattle.sheets.specs.declared.Setting.{Setting}
use Rattle.guarantee.specs.Starts.{is_by, is_between, those}
use Rattle.recovery.specs.Recipe.{is_unread, is_none, is_from}
use Rattle.arbiter.proofs.Choice.{split}
use Rattle.guarantee.proofs.StartOthers.{is_foreign, Foreign}
use Rattle.guarantee.proofs.StartRaws.{is_admitted, foreign}
use Rattle.guarantee.proofs.StartOwner.{not_by}
use Rattle.guarantee.proofs.StartStages.{Stage, six, five, four, three, two, one, none, left, heads, not_empty}
use Rattle.guarantee.proofs.StartWalk.{those_none}

-- ---- what may come between

-- LINES, TICK, or bytes that read as no event
abbrev pub is_quiet : Raw → Bool
is_quiet r = is_between r || is_none r

-- what may not come: it is neither p's own nor quiet
abbrev pub is_alien : Master → Raw → Bool
is_alien p r = not (is_from (number p) r || is_between r || is_none r)

pub not_false : (a : Bool) → not a ≡ false → a ≡ true
not_false true e = refl
not_false false e = absurd (true≢false e)

-- Where nothing comes that may not, what is not p's own is quiet.
pub quiet_next : (p : Master) (r : Raw) (rs : List Raw) → those (is_alien p) (r ∷ rs) ≡ [] → is_from (number p) r ≡ false
    → (is_quiet r ≡ true) × (those (is_alien p) rs ≡ [])
quiet_next p r rs h o =
    let b = those_none (is_alien p) r rs h in
    (not_false (is_quiet r) (sym (ap (λ (x : Bool). not (x || is_between r || is_none r)) o) ∙ b.0), b.1)

-- LINES and TICK are of no port.
between_by : (n : ℕ) (r : Raw) → is_between r ≡ true → is_by n r ≡ false
between_by n r h = ap (λ (b : Bool). b && eqb r.x n) (le-ltb r.kind 4 (go r.kind h))
  where
    go : (k : ℕ) → eqb k 5 || eqb k 6 ≡ true → 4 ≤ k
    go k e =
        split (eqb k 5)
        (λ b. let is : k ≡ 5 = eqb-true k 5 b in omega arith)
        (λ b. let is : k ≡ 6 = eqb-true k 6 (sym (ap (λ (x : Bool). x || eqb k 6) b) ∙ e) in omega arith)

-- Bytes that read as no event are taken for none.
unread : (such : Event → Device → Bool) (x : Result Event Unread) (d : Device) → is_unread x ≡ true → accepted_as such x d ≡ false
unread such (Ok e) d h = absurd (false≢true h)
unread such (Err UnknownKind) d h = refl
unread such (Err BadField) d h = refl

pub quiet_foreign : (m : Master) (r : Raw) (d : Device) → is_quiet r ≡ true → Foreign m r d
quiet_foreign m r d h =
    split (is_between r)
    (λ b. foreign m r d (ap₂ (λ (x y : Bool). is_by 0 r || x || y) refl b ∙ late (is_by 0 r) (is_by 1 r)) (between_by (number m) r b))
    (λ b. unread (λ (e : Event) (y : Device). not (is_foreign m e)) (decode r) d (sym (ap (λ (x : Bool). x || is_none r) b) ∙ h))
  where
    late : (a b : Bool) → a || b || true ≡ true
    late true b = refl
    late false true = refl
    late false false = refl

-- ---- the sender's own

own_number : (p : Master) → eqb (number p) (number p) ≡ true
own_number Zero = refl
own_number One = refl

-- The next of its six events is of its port,
own_by : (p : Master) (s : Setting) (g : Stage) (r : Raw) (es : List Raw) → r ∷ es ≡ left p s g → is_by (number p) r ≡ true
own_by p s six r es e = ap (is_by (number p)) (heads e).0 ∙ own_number p
own_by p s five r es e = ap (is_by (number p)) (heads e).0 ∙ own_number p
own_by p s four r es e = ap (is_by (number p)) (heads e).0 ∙ own_number p
own_by p s three r es e = ap (is_by (number p)) (heads e).0 ∙ own_number p
own_by p s two r es e = ap (is_by (number p)) (heads e).0 ∙ own_number p
own_by p s one r es e = ap (is_by (number p)) (heads e).0 ∙ own_number p
own_by p s none r es e = absurd (not_empty e)

-- and so foreign to its partner.
pub own_foreign : (p : Master) (s : Setting) (g : Stage) (r : Raw) (es : List Raw) (d : Device) → r ∷ es ≡ left p s g → Foreign (partner p) r d
own_foreign p s g r es d e =
    let by = own_by p s g r es e in
    foreign (partner p) r d (admitted p by) (not_by p r by)
  where
    admitted : (p : Master) → is_by (number p) r ≡ true → is_admitted r ≡ true
    admitted Zero h = ap (λ (b : Bool). b || is_by 1 r || is_between r) h
    admitted One h = ap (λ (b : Bool). is_by 0 r || b || is_between r) h ∙ ap (λ (b : Bool). b || is_between r) (or-true (is_by 0 r))
