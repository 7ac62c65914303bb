-- Where m does not keep p out: p asks, the hold runs out, a STOP comes outside, and then only ticks. After some of these events p owns.
-- Assumes nothing.
use Prim.Native.Nat.{◌≤◌}
use native.Mathlib.Omega.{arith}
use mathlib.Core.Path.{◌≡◌, refl, sym, ap, ap₂, ◌∙◌, subst}
use mathlib.Core.Bool.{true≢false}
use mathlib.Core.Logic.{inl, inr, ⊎_elim}
use Rattle.std.specs.Prelude.{◌-◌, ◌&&◌, ◌||◌, ◌∷◌, ◌++◌}
use Rattle.ranges.specs.Names.{ℕ, Bool, true, false, not, List, [], Master, Zero, One, Kind, Device, Raw}
use Rattle.arbiter.specs.Words.{worth, partner, same_master}
use Rattle.arbiter.specs.State.{owns, claims, is_idle}
use Rattle.arbiter.specs.Effects.{power_up}
use Rattle.arbiter.specs.Order.{is_reset}
use Rattle.arbiter.specs.Steps.{run_from, run}
use Rattle.arbiter.specs.AuditWords.{next, requests, resting, reset, tick, ticks_in, never, throughout}
use Rattle.arbiter.specs.Marks.{tick as aTick, times}
use Rattle.recovery.specs.Crash.{is_of, sent_by, endless, crash_ticks, quiet_outside, gets_bus, blocks_bus, LetsIn, CrashFree}
use Rattle.arbiter.proofs.Choice.{split, not_true, turn_owns}
use Rattle.arbiter.proofs.Runs.{from_append}
use Rattle.arbiter.proofs.Settled.{Ready, all_ready}
use Rattle.arbiter.proofs.Tenure.{Owner, Owned, run_owned, next_owned}
use Rattle.arbiter.proofs.Grounds.{has_turn}
use Rattle.audit.proofs.Blocking.{claims_turn_lem, claimant_asks}
use Rattle.audit.proofs.Freed.{owned_from, ready_from, ready_next, hold_next, hold_run}
use Rattle.audit.proofs.Released.{unowned_released}
use Rattle.audit.proofs.WorstWait.{at_end}
use Rattle.guarantee.proofs.StartParts.{unasked}
use Rattle.recovery.proofs.Crash.{crash_blocks}
use Rattle.recovery.proofs.CrashTurns.{due_held, his, owner, claimant, turned, line_stays}
use Rattle.recovery.proofs.Ticks.{quiet, idle_quiet, ticks_never, ticks_count, stands}
use Rattle.recovery.proofs.Exact.{or_first, or_second, crash_exact}
use Rattle.recovery.proofs.Ways.{rests_on, asks_on, Way, gone, going, way_on, way_run, way_first}
use Rattle.recovery.proofs.Asked.{ask, ask_never, asked, fall, rise, falls, rises, fallen, risen, never_both, some_tick}

-- ---- where p gets the bus by ticks alone

-- p has the turn.
turn_gets : (m : Master) (d : Device) → has_turn (partner m) d.arb.turn ≡ true → gets_bus m d ≡ true
turn_gets m d h =
    let p : Master = partner m in
    let o : Bool = owns m d && is_idle d.bus && not (endless m d) in
    or_first (owns p d || claims p d || o) (claims m d && resting m d && quiet_outside d.bus && not (endless m d))
    (or_first (owns p d || claims p d) o (swapped (claims p d) (owns p d) h))
  where
    swapped : (a b : Bool) → a || b ≡ true → b || a ≡ true
    swapped true true h = refl
    swapped true false h = refl
    swapped false true h = refl
    swapped false false h = h

-- m owns on a quiet bus with something that ends its grant.
owner_gets : (m : Master) (d : Device) → Owner m d → quiet d.bus ≡ true → endless m d ≡ false → gets_bus m d ≡ true
owner_gets m d x h e =
    let p : Master = partner m in
    let o : Bool = owns m d && is_idle d.bus && not (endless m d) in
    or_first (owns p d || claims p d || o) (claims m d && resting m d && quiet_outside d.bus && not (endless m d))
    (or_second (owns p d || claims p d) o
    (ap₂ (λ (a b : Bool). a && not b) (ap₂ ◌&&◌ (turn_owns m d.arb.turn x.turn) (idle_quiet d.bus x.hold ∙ h)) e))

-- Without a hold, m on its way out, p asking and the bus quiet as long as m owns.
way_gets : (m : Master) (d : Device) → Ready d → requests (partner m) d ≡ true → d.bus.hold ≡ 0 → Way m d → (owns m d ≡ true → quiet d.bus ≡ true)
    → gets_bus m d ≡ true
way_gets m d ready q z (gone o r) h =
    elim (turned m d ready q) [
      | his t ↦ turn_gets m d t
      | owner g t ↦ absurd (true≢false (sym (turn_owns m d.arb.turn t) ∙ o))
      | claimant g t ↦ absurd (true≢false (sym (claimant_asks m d ready.1 t) ∙ r))
    ]
way_gets m d ready q z (going e l (inl x)) h = owner_gets m d x (h (turn_owns m d.arb.turn x.turn)) e
way_gets m d ready q z (going e l (inr (g, t, rest))) h = let some : 1 ≤ d.bus.hold = due_held m d ready t rest in absurd (omega arith)

-- ---- the statement

module _ (k : Kind) (m : Master) (rs : List Raw) where
  abbrev d : Device
  d = run k rs

  abbrev p : Master
  p = partner m

  -- p owns after these events, or after them and some ticks,
  abbrev Sent : List Raw → Type 0
  Sent pre = (never reset d pre ≡ true) × (never (sent_by m) d pre ≡ true)

  ticks_sent : (x : Device) (j : ℕ) → (never reset x (times j aTick) ≡ true) × (never (sent_by m) x (times j aTick) ≡ true)
  ticks_sent x j = (ticks_never (λ e y. is_reset e) (λ y. refl) j x, ticks_never (λ e y. is_of m e) (λ y. refl) j x)

  both_sent : (xs ys : List Raw) → Sent xs → (never reset (run_from d xs) ys ≡ true) × (never (sent_by m) (run_from d xs) ys ≡ true) → Sent (xs ++ ys)
  both_sent xs ys a b = (never_both reset xs ys d a.0 b.0, never_both (sent_by m) xs ys d a.1 b.1)

  lets_in : (pre : List Raw) → Sent pre → owns p (run_from d pre) ≡ true → LetsIn d m
  lets_in pre s o = record { later = pre; unreset = s.0; silent = s.1; granted = o }

  lets_ticks : (pre : List Raw) → Sent pre → (j : ℕ) → owns p (run_from (run_from d pre) (times j aTick)) ≡ true → LetsIn d m
  lets_ticks pre s j o =
      lets_in (pre ++ times j aTick) (both_sent pre (times j aTick) s (ticks_sent (run_from d pre) j))
      (ap (owns p) (from_append pre (times j aTick) d) ∙ o)

  -- by CrashExact.
  abbrev Gets : Device → Type 0
  Gets x = requests p x ≡ true → resting p x ≡ true → gets_bus m x ≡ true → (j : ℕ) × (owns p (run_from x (times j aTick)) ≡ true)

  gets_run : (all : List Raw) → Gets (run k all)
  gets_run all q rest h =
      let n : ℕ = crash_ticks k m (run k all) in
      some_tick p n (run k all) (crash_exact k m all n q rest (omega arith) ∙ ap not h)

  gets_in : (pre : List Raw) → Sent pre → requests p (run_from d pre) ≡ true → resting p (run_from d pre) ≡ true → gets_bus m (run_from d pre) ≡ true
      → LetsIn d m
  unfolding run
  gets_in pre s q rest h =
      let same : run k (rs ++ pre) ≡ run_from d pre = from_append rs pre (power_up k) in
      let t = subst Gets same (gets_run (rs ++ pre)) q rest h in
      lets_ticks pre s t.0 t.1

  -- p's three events
  asks_sent : Sent (ask p)
  asks_sent = (
    ask_never (λ e x. is_reset e) p (λ x. refl) (λ x. refl) (λ x. refl) d,
    ask_never (λ e x. is_of m e) p (λ x. other m) (λ x. other m) (λ x. other m) d,
  )
    where
      other : (m : Master) → same_master m (partner m) ≡ false
      other Zero = refl
      other One = refl

  module _ (out : owns p d ≡ false) where
    abbrev x : Device
    x = run_from d (ask p)

    asks : requests p x ≡ true
    asks = (asked p d out).0

    rests : resting p x ≡ true
    rests = (asked p d out).1

    -- The turn is p's already.
    turn_in : has_turn p d.arb.turn ≡ true → LetsIn d m
    turn_in h =
        let c = claims_turn_lem p d.arb.turn (first (claims p d) (owns p d) out h) in
        let st = (asked p d out).2 (claimant_asks p d (all_ready k rs).1 c.1) in
        gets_in (ask p) asks_sent asks rests (turn_gets m x (line_stays p (ask p) d h st))
      where
        first : (a b : Bool) → b ≡ false → a || b ≡ true → a ≡ true
        first true b n h = refl
        first false b n h = absurd (true≢false (sym h ∙ n))

    -- The hold runs out,
    abbrev n : ℕ
    n = x.bus.hold

    abbrev y : Device
    y = run_from x (times n aTick)

    abbrev waited : List Raw
    waited = ask p ++ times n aTick

    waited-sent : Sent waited
    waited-sent = both_sent (ask p) (times n aTick) asks_sent (ticks_sent x n)

    there : run_from d waited ≡ y
    there = from_append (ask p) (times n aTick) d

    unheld : y.bus.hold ≡ 0
    unheld =
        let left : y.bus.hold ≡ x.bus.hold - ticks_in x (times n aTick) = hold_run (times n aTick) x (ticks_sent x n).0 in
        let count : ticks_in x (times n aTick) ≡ n = ticks_count n x in
        omega arith

    -- and a STOP comes outside, p waiting all the while.
    module _ (w : Way m y) (q : requests p y ≡ true) (rest : resting p y ≡ true) (o : owns p y ≡ false) (i : Owned y) (ready : Ready y) where
      abbrev y1 : Device
      y1 = next y fall

      abbrev y2 : Device
      y2 = next y1 rise

      unreset : (v : Device) → (reset fall v ≡ false) × (reset rise v ≡ false)
      unreset v = ((falls v).same λ f u. is_reset f, (rises v).same λ f u. is_reset f)

      unsent : (j : Master) (v : Device) → (sent_by j fall v ≡ false) × (sent_by j rise v ≡ false)
      unsent j v = ((falls v).same λ f u. is_of j f, (rises v).same λ f u. is_of j f)

      w1 : Way m y1
      w1 = way_on m fall y i ready (unreset y).0 (unsent m y).0 w

      unheld1 : y1.bus.hold ≡ 0
      unheld1 = let left : y1.bus.hold ≡ y.bus.hold - worth 1 (tick fall y) = hold_next fall y (unreset y).0 in let none = unheld in omega arith

      unheld2 : y2.bus.hold ≡ 0
      unheld2 = let left : y2.bus.hold ≡ y1.bus.hold - worth 1 (tick rise y1) = hold_next rise y1 (unreset y1).1 in let none = unheld1 in omega arith

      quiet_then : Way m y1 → owns m y2 ≡ true → quiet y2.bus ≡ true
      quiet_then (gone u r) own =
          absurd (true≢false (sym own ∙ unasked m rise y1 u (asks_on m rise y1 (unreset y1).1 (unsent m y1).1 u ∙ r)))
      quiet_then (going e l c) own = risen y1 (fallen y).0 (fallen y).1 l unheld1

      stop-in : LetsIn d m
      unfolding never run_from
      stop-in =
          split (owns p y1)
          (λ own. lets_in (waited ++ fall ∷ []) (both_sent waited (fall ∷ []) waited-sent (one.0, one.1))
          (ap (owns p) (from_append waited (fall ∷ []) d ∙ ap (λ (v : Device). next v fall) there) ∙ own))
          (λ none. let here : run_from d (waited ++ fall ∷ rise ∷ []) ≡ y2 =
          from_append waited (fall ∷ rise ∷ []) d ∙ ap (λ (v : Device). next (next v fall) rise) there in
          let q2 : requests p y2 ≡ true = asks_on p rise y1 (unreset y1).1 (unsent p y1).1 none ∙ asks_on p fall y (unreset y).0 (unsent p y).0 o ∙ q in
          let r2 : resting p y2 ≡ true = rests_on p rise y1 (unreset y1).1 (unsent p y1).1 ∙ rests_on p fall y (unreset y).0 (unsent p y).0 ∙ rest in
          let i1 : Owned y1 = next_owned fall y i in
          let ready1 : Ready y1 = ready_next fall y ready in
          let h = way_gets m y2 (ready_next rise y1 ready1) q2 unheld2 (way_on m rise y1 i1 ready1 (unreset y1).1 (unsent m y1).1 w1) (quiet_then w1) in
          gets_in (waited ++ fall ∷ rise ∷ []) (both_sent waited (fall ∷ rise ∷ []) waited-sent (two.0, two.1))
          (ap (requests p) here ∙ q2) (ap (resting p) here ∙ r2) (ap (gets_bus m) here ∙ h))
        where
          v : Device
          v = run_from d waited

          one : (never reset v (fall ∷ []) ≡ true) × (never (sent_by m) v (fall ∷ []) ≡ true)
          one = (ap (λ (a : Bool). not a && true) (unreset v).0, ap (λ (a : Bool). not a && true) (unsent m v).0)

          two : (never reset v (fall ∷ rise ∷ []) ≡ true) × (never (sent_by m) v (fall ∷ rise ∷ []) ≡ true)
          two = (
            ap₂ (λ (a b : Bool). not a && (not b && true)) (unreset v).0 (unreset (next v fall)).1,
            ap₂ (λ (a b : Bool). not a && (not b && true)) (unsent m v).0 (unsent m (next v fall)).1,
          )

    -- m is out of the way, or on its way out.
    way_in : Way m d → LetsIn d m
    way_in w =
        split (throughout (λ (u : Device). not (owns p u)) x (times n aTick))
        (λ all. let st = stands m n x all asks rests in
        stop-in (subst (Way m) there (way_run m waited d (run_owned k rs) (all_ready k rs) waited-sent.0 waited-sent.1 w))
        (at_end (requests p) (times n aTick) x st.0) st.1
        (not_true (owns p y) (at_end (λ (u : Device). not (owns p u)) (times n aTick) x all))
        (owned_from (times n aTick) x (owned_from (ask p) d (run_owned k rs))) (ready_from (times n aTick) x (ready_from (ask p) d (all_ready k rs))))
        (λ some. let t = some_tick p n x some in lets_ticks (ask p) asks_sent t.0 t.1)

  free : blocks_bus m d ≡ false → LetsIn d m
  unfolding never run_from
  free h =
      split (owns p d) (λ own. lets_in [] (refl, refl) own)
      (λ out. ⊎_elim (λ (t : has_turn p d.arb.turn ≡ true). turn_in out t) (λ (w : Way m d). way_in out w)
      (way_first m d (run_owned k rs) (all_ready k rs) h (λ none. let l = unowned_released k rs none in ap₂ ◌&&◌ l.0 l.1)))

pub crash_free : CrashFree
crash_free k m rs = (λ h later nr ns. crash_blocks k m rs later nr ns h, free k m rs)
