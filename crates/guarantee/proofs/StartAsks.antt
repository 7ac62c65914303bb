-- The fifth event of a controller's setting, its CONTR byte: from there on its request stands if no tick comes, and where its partner has not
-- written its own it has the claim.
-- Assumes nothing.
use Prim.Native.Nat.{ℕ, zero, suc, ◌+◌, ◌≤◌}
use mathlib.Core.Path.{◌≡◌, refl, sym, ap, ap₂, ◌∙◌, subst}
use mathlib.Core.Bool.{Bool, true, false, not, ◌&&◌, true≢false}
use mathlib.Core.Logic.{inl, inr}
use mathlib.Core.List.{List, [], ◌∷◌, ◌++◌, append_assoc}
use native.Mathlib.Omega.{arith}
use lib.Dec.{ltb}
use lib.ListN.{length, length-append}
use borrow.Author.Tests.{ltb-true, ltb-false}
use Rattle.ranges.specs.Names.{Master, Kind, Device, Raw}
use Rattle.arbiter.specs.Effects.{power_up}
use Rattle.arbiter.specs.Steps.{run_from, run}
use Rattle.arbiter.specs.AuditWords.{next, tick, withdrawal_of, never}
use Rattle.arbiter.specs.Marks.{stop}
use Rattle.arbiter.specs.Witnesses.{number}
use Rattle.sheets.specs.declared.Setting.{Setting}
use Rattle.sheets.specs.Settings.{setting_events}
use Rattle.guarantee.specs.Starts.{is_by, is_tick_raw, those, OneAsksFirst}
use Rattle.arbiter.proofs.Choice.{split}
use Rattle.arbiter.proofs.Grounds.{has_turn}
use Rattle.arbiter.proofs.Tenure.{next_owned, run_owned}
use Rattle.guarantee.proofs.StartCalm.{Calm, calm_from}
use Rattle.guarantee.proofs.StartOthers.{left_by_others}
use Rattle.guarantee.proofs.StartRaws.{foreign, untick, stop_stays}
use Rattle.guarantee.proofs.StartStages.{Stage, six, five, four, three, two, one, none, left, Silent, Asking, At, heads, Led, asks}
use Rattle.guarantee.proofs.StartWalk.{those_first, those_later, those_none, is_other, others_none, never_reset, walk, at_power_up}

-- ---- lists

-- Such events of two lists, one after the other.
those_append : (such : Raw → Bool) (xs ys : List Raw) → those such (xs ++ ys) ≡ those such xs ++ those such ys
unfolding those
those_append such [] ys = refl
those_append such (x ∷ xs) ys =
    split (such x)
    (λ h. those_first such x (xs ++ ys) h ∙ ap (λ (l : List Raw). x ∷ l) (those_append such xs ys)
    ∙ sym (ap (λ (l : List Raw). l ++ those such ys) (those_first such x xs h)))
    (λ h. those_later such x (xs ++ ys) h ∙ those_append such xs ys ∙ sym (ap (λ (l : List Raw). l ++ those such ys) (those_later such x xs h)))

-- Where none is such, none of the later ones is.
pub none_after : (such : Raw → Bool) (xs ys : List Raw) → those such (xs ++ ys) ≡ [] → those such ys ≡ []
none_after such [] ys h = h
none_after such (x ∷ xs) ys h = none_after such xs ys (those_none such x (xs ++ ys) h).1

-- The event that is such after n of them.
pub record Found (such : Raw → Bool) (n : ℕ) (rs : List Raw) : Type 0 where
  pub before : List Raw
  pub r : Raw
  pub after : List Raw
  pub whole : rs ≡ before ++ r ∷ after
  pub count : length (those such before) ≡ n
  pub own : such r ≡ true

found_later : (such : Raw → Bool) (n : ℕ) (r : Raw) (rs : List Raw) → such r ≡ false → Found such n rs → Found such n (r ∷ rs)
found_later such n r rs b f =
    record {
      before = r ∷ f.before;
      r = f.r;
      after = f.after;
      whole = ap (λ (l : List Raw). r ∷ l) f.whole;
      count = ap length (those_later such r f.before b) ∙ f.count;
      own = f.own;
    }

found_next : (such : Raw → Bool) (n : ℕ) (r : Raw) (rs : List Raw) → such r ≡ true → Found such n rs → Found such (suc n) (r ∷ rs)
found_next such n r rs b f =
    record {
      before = r ∷ f.before;
      r = f.r;
      after = f.after;
      whole = ap (λ (l : List Raw). r ∷ l) f.whole;
      count = ap length (those_first such r f.before b) ∙ ap suc f.count;
      own = f.own;
    }

pub find : (such : Raw → Bool) (n : ℕ) (rs : List Raw) → suc n ≤ length (those such rs) → Found such n rs
unfolding those
find such n [] h = absurd (omega arith)
find such zero (r ∷ rs) h =
    split (such r) (λ b. record { before = []; r = r; after = rs; whole = refl; count = refl; own = b })
    (λ b. found_later such zero r rs b (find such zero rs (subst (λ (l : List Raw). 1 ≤ length l) (those_later such r rs b) h)))
find such (suc n) (r ∷ rs) h =
    split (such r)
    (λ b. let more : suc (suc n) ≤ suc (length (those such rs)) = subst (λ (l : List Raw). suc (suc n) ≤ length l) (those_first such r rs b) h in
    found_next such n r rs b (find such n rs (omega arith)))
    (λ b. found_later such (suc n) r rs b (find such (suc n) rs (subst (λ (l : List Raw). suc (suc n) ≤ length l) (those_later such r rs b) h)))

-- ---- the stage by what has come

module _ (k : Kind) (m : Master) (s : Setting) (before rest : List Raw) (e : those (is_by (number m)) (before ++ rest) ≡ setting_events (number m) s)
    (o : those is_other (before ++ rest) ≡ []) where
  reached : Led ⊥ m s (those (is_by (number m)) rest) (run k before)
  unfolding run
  reached = walk ⊥ m s before rest (power_up k) six e o (λ q. absurd q) (at_power_up ⊥ k m s)

  -- what has come and what is to come are six
  six_in_all : (g : Stage) → those (is_by (number m)) rest ≡ left m s g → length (those (is_by (number m)) before) + length (left m s g) ≡ 6
  six_in_all g h =
      sym (length-append (those (is_by (number m)) before) (left m s g))
      ∙ ap (λ (l : List Raw). length (those (is_by (number m)) before ++ l)) (sym h)
      ∙ ap length (sym (those_append (is_by (number m)) before rest) ∙ e)

  -- With no more than four it does not request.
  pub silent_early : length (those (is_by (number m)) before) ≤ 4 → Silent m (run k before)
  silent_early few = go reached.stage (six_in_all reached.stage reached.events) reached.stands
    where
      go : (g : Stage) → length (those (is_by (number m)) before) + length (left m s g) ≡ 6 → At ⊥ g m s (run k before) → Silent m (run k before)
      go six n a = a
      go five n a = a.0
      go four n a = a.0
      go three n a = a.0
      go two n a = a.0
      go one n a = absurd (omega arith)
      go none n a = absurd (omega arith)

  -- With four the CONTR byte is next.
  pub byte_next : length (those (is_by (number m)) before) ≡ 4 → At ⊥ two m s (run k before) × (those (is_by (number m)) rest ≡ left m s two)
  byte_next n4 = go reached.stage (six_in_all reached.stage reached.events) reached.events reached.stands
    where
      go : (g : Stage) → length (those (is_by (number m)) before) + length (left m s g) ≡ 6 → those (is_by (number m)) rest ≡ left m s g
          → At ⊥ g m s (run k before) → At ⊥ two m s (run k before) × (those (is_by (number m)) rest ≡ left m s two)
      go six n h a = absurd (omega arith)
      go five n h a = absurd (omega arith)
      go four n h a = absurd (omega arith)
      go three n h a = absurd (omega arith)
      go two n h a = (a, h)
      go one n h a = absurd (omega arith)
      go none n h a = absurd (omega arith)

-- ---- after the CONTR byte m sends its STOP alone, which is no withdrawal

module _ (m : Master) where
  quiet_none : (rs : List Raw) (d : Device) → those (is_by (number m)) rs ≡ [] → those is_other rs ≡ [] → never (withdrawal_of m) d rs ≡ true
  unfolding never
  quiet_none [] d e o = refl
  quiet_none (r ∷ rs) d e o =
      let a = others_none r rs o in
      let b = those_none (is_by (number m)) r rs e in
      ap₂ (λ (x y : Bool). not x && y) (left_by_others m r d (foreign m r d a.0 b.0)).stays (quiet_none rs (next d r) b.1 a.1)

  quiet_one : (rs : List Raw) (d : Device) → those (is_by (number m)) rs ≡ stop (number m) ∷ [] → those is_other rs ≡ [] → never (withdrawal_of m) d rs ≡ true
  unfolding never
  quiet_one [] d e o = refl
  quiet_one (r ∷ rs) d e o =
      let a = others_none r rs o in
      split (is_by (number m) r)
      (λ h. let b = heads (sym (those_first (is_by (number m)) r rs h) ∙ e) in
      ap₂ (λ (x y : Bool). not x && y) (ap (λ (x : Raw). withdrawal_of m x d) b.0 ∙ stop_stays m d) (quiet_none rs (next d r) b.1 a.1))
      (λ h. ap₂ (λ (x y : Bool). not x && y) (left_by_others m r d (foreign m r d a.0 h)).stays
      (quiet_one rs (next d r) (sym (those_later (is_by (number m)) r rs h) ∙ e) a.1))

never_ticks : (rs : List Raw) (d : Device) → those is_other rs ≡ [] → those is_tick_raw rs ≡ [] → never tick d rs ≡ true
unfolding never
never_ticks [] d o t = refl
never_ticks (r ∷ rs) d o t =
    let a = others_none r rs o in
    let b = those_none is_tick_raw r rs t in
    ap₂ (λ (x y : Bool). not x && y) (untick r d a.0 b.0) (never_ticks rs (next d r) a.1 b.1)

-- r is the CONTR byte of m, and no tick comes: m asks after it, and at the end; if it has the claim after r, then so at the end.
pub record Asks (m : Master) (d x : Device) : Type 0 where
  pub at : Asking m d
  pub end : Calm m x
  pub turn : has_turn m d.arb.turn ≡ true → has_turn m x.arb.turn ≡ true

pub asks_on : (k : Kind) (m : Master) (s : Setting) (before : List Raw) (r : Raw) (after : List Raw)
    → those (is_by (number m)) (before ++ r ∷ after) ≡ setting_events (number m) s → those is_other (before ++ r ∷ after) ≡ []
    → those is_tick_raw (before ++ r ∷ after) ≡ [] → length (those (is_by (number m)) before) ≡ 4 → is_by (number m) r ≡ true
    → Asks m (next (run k before) r) (run_from (next (run k before) r) after)
asks_on k m s before r after e o t n4 own =
    let d : Device = next (run k before) r in
    let next-byte = byte_next k m s before (r ∷ after) e o n4 in
    let b = heads (sym (those_first (is_by (number m)) r after own) ∙ next-byte.1) in
    let a : At ⊥ one m s d = subst (λ (x : Raw). At ⊥ one m s (next (run k before) x)) (sym b.0) (asks ⊥ m s (run k before) next-byte.0) in
    let others = (those_none is_other r after (none_after is_other before (r ∷ after) o)).1 in
    let ticks = (those_none is_tick_raw r after (none_after is_tick_raw before (r ∷ after) t)).1 in
    let all =
    calm_from m after d (never_reset after d others) (quiet_one m after d b.1 others) (never_ticks after d others ticks)
    (record { owned = next_owned r (run k before) (run_owned k before); whole = λ own. absurd (true≢false (sym own ∙ a.0.0)); request = a.0.1 }) in
    record { at = a.0; end = all.0; turn = all.1 }

-- ---- one of the two asks first

pub one_asks_first : OneAsksFirst
one_asks_first o rs h =
    let f = find (is_by 0) 4 rs (subst (λ (l : List Raw). 5 ≤ length l) (sym h.first) (omega arith)) in
    split (ltb 4 (length (those (is_by 1) f.before)))
    (λ b. let g = find (is_by 1) 4 f.before (ltb-true 4 (length (those (is_by 1) f.before)) b) in
    let four : length (those (is_by 0) f.before) ≡ 4 = f.count in
    let all : length (those (is_by 0) f.before) ≡ length (those (is_by 0) g.before) + length (those (is_by 0) (g.r ∷ g.after)) =
    ap (λ (l : List Raw). length (those (is_by 0) l)) g.whole ∙ ap length (those_append (is_by 0) g.before (g.r ∷ g.after))
    ∙ length-append (those (is_by 0) g.before) (those (is_by 0) (g.r ∷ g.after)) in
    inr
    (record {
      before = g.before;
      r = g.r;
      after = g.after ++ f.r ∷ f.after;
      whole = f.whole ∙ ap (λ (l : List Raw). l ++ f.r ∷ f.after) g.whole ∙ append_assoc g.before (g.r ∷ g.after) (f.r ∷ f.after);
      fifth = g.count;
      own = g.own;
      later = omega arith;
    }))
    (λ b. let few = ltb-false 4 (length (those (is_by 1) f.before)) b in
    inl (record { before = f.before; r = f.r; after = f.after; whole = f.whole; fifth = f.count; own = f.own; later = omega arith }))
