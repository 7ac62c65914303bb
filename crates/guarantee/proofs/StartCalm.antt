-- A request without ticks: nobody loses, so that it stands, and whoever has the claim keeps it.
-- Assumes nothing.
use Prim.Native.Nat.{ℕ, ◌-◌}
use mathlib.Core.Path.{◌≡◌, sym, ap, ap₂, ◌∙◌}
use mathlib.Core.Bool.{Bool, true, false, not, ◌&&◌, true≢false}
use mathlib.Core.List.{List, [], ◌∷◌}
use native.Mathlib.Nat.{sub-zero}
use Rattle.ranges.specs.Names.{Master, Device, Raw}
use Rattle.arbiter.specs.Words.{worth, side}
use Rattle.arbiter.specs.State.{owns}
use Rattle.arbiter.specs.Effects.{effect}
use Rattle.arbiter.specs.Order.{is_reset, is_tick, levels}
use Rattle.arbiter.specs.Steps.{run_from}
use Rattle.arbiter.specs.AuditWords.{next, requests, reserve_of, lets_go, reset, tick, withdrawal_of, levelled, never}
use Rattle.arbiter.proofs.Choice.{split, if_false, owns_turn_lem}
use Rattle.arbiter.proofs.Effects.{counts, effect_counts, effect_side}
use Rattle.arbiter.proofs.Order.{side_kept, still_sides}
use Rattle.arbiter.proofs.Owner.{expired}
use Rattle.arbiter.proofs.Grounds.{has_turn}
use Rattle.arbiter.proofs.Raws.{refuses, takes, met}
use Rattle.arbiter.proofs.Reserve.{rt_kept, reserve_kept}
use Rattle.arbiter.proofs.Runs.{never_comes}
use Rattle.arbiter.proofs.Tenure.{Owned, Keeps, next_owned, keeps, over, lot, taken_fresh, rt_found, reserve_found}
use Rattle.audit.proofs.Overtaking.{line_next}
use Rattle.sheets.proofs.Started.{unexpired, levels_none}
use Rattle.guarantee.proofs.StartParts.{parts_request}

-- If m owns, its reserve count is its RT and the idle count 0, as the grant left them.
abbrev pub Whole : Master → Device → Type 0
Whole m d = owns m d ≡ true → (d.arb.reserve ≡ reserve_of m d) × (d.bus.idle ≡ 0)

-- ---- one event: no reset, no withdrawal of m's, no tick

module _ (m : Master) (r : Raw) (d : Device) (i : Owned d) (ok : reset r d ≡ false) (on : withdrawal_of m r d ≡ false) (still : tick r d ≡ false) where
  -- When part 3 looks, the idle count is 0 still,
  idle_found : d.bus.idle ≡ 0 → (levelled r d).bus.idle ≡ 0
  idle_found h =
      elim (met r d) [
        | refuses x ↦ ap (λ (n : Device). n.bus.idle) x.middle ∙ h
        | takes e x ↦
            (let no : is_reset e ≡ false = sym (x.same λ f y. is_reset f) ∙ ok in
            let un : is_tick e ≡ false = sym (x.same λ f y. is_tick f) ∙ still in
            ap (λ (n : Device). n.bus.idle) x.middle
            ∙ ap (λ (b : Bool). (levels b d.bus (effect e d)).bus.idle) no
            ∙ levels_none d.bus (effect e d) (ap (λ c. c.1) (effect_counts e d no ∙ if_false _ (counts d) un) ∙ h))
      ]

  -- and m's request stands.
  request_found : requests m d ≡ true → requests m (levelled r d) ≡ true
  unfolding levels
  request_found q =
      elim (met r d) [
        | refuses x ↦ ap (requests m) x.middle ∙ q
        | takes e x ↦
            ap (requests m) x.middle
            ∙ (effect_side m e d (sym (x.same λ f y. is_reset f) ∙ ok)).stands (sym (x.same (lets_go m)) ∙ on) q
      ]

  -- the reserve count loses nothing
  same_count : (n : ℕ) → n - worth 1 (tick r d) ≡ n
  same_count n = ap (λ (b : Bool). n - worth 1 b) still ∙ sub-zero n

  -- So an owner does not lose.
  unlost : owns m d ≡ true → Whole m d → expired m (levelled r d) ≡ false
  unlost o w =
      let l : Device = levelled r d in
      unexpired l.kind (side m l) l.arb.reserve l.bus
      (reserve_found r d ok ∙ same_count d.arb.reserve ∙ (w o).0 ∙ sym (rt_found m r d o ok))
      (idle_found (w o).1)

  owner_on : owns m d ≡ true → Whole m d → Keeps m r d
  owner_on o w =
      let t = owns_turn_lem m d.arb.turn o in
      elim (lot m r d (i m t.0 t.1) ok) [ keeps k ↦ k | over h c ↦ absurd (true≢false (sym (c on) ∙ unlost o w)) ]

  calm_whole : Whole m d → Whole m (next d r)
  calm_whole w a =
      let n : Device = next d r in
      split (owns m d)
      (λ o. let k = owner_on o w in
      let t = owns_turn_lem m d.arb.turn o in
      let owner = i m t.0 t.1 in (
        reserve_kept m r d owner ok k ∙ same_count d.arb.reserve ∙ (w o).0 ∙ sym (rt_kept m r d owner ok k),
        ap (λ x. x.2.idle) k.left ∙ idle_found (w o).1,
      ))
      (λ o. let f = (taken_fresh m r d (ap₂ (λ (x y : Bool). not x && y) o a)).0 in (f.reserve, f.idle))

  calm_request : Whole m d → requests m d ≡ true → requests m (next d r) ≡ true
  calm_request w q =
      split (owns m d)
      (λ o. let k = owner_on o w in
      ap (λ x. x.0) (side_kept m (next d r) (levelled r d) (still_sides (next d r) (levelled r d) k.left)) ∙ request_found q)
      (λ o. elim (met r d) [
        | refuses x ↦ ap (requests m) x.after ∙ q
        | takes e x ↦
            (ap (requests m) x.after ∙ parts_request m e d o
            ∙ (effect_side m e d (sym (x.same λ f y. is_reset f) ∙ ok)).stands (sym (x.same (lets_go m)) ∙ on) q)
      ])

-- ---- many

-- m requests and has not lost.
pub record Calm (m : Master) (d : Device) : Type 0 where
  pub owned : Owned d
  pub whole : Whole m d
  pub request : requests m d ≡ true

pub calm_from : (m : Master) (rs : List Raw) (d : Device) → never reset d rs ≡ true → never (withdrawal_of m) d rs ≡ true → never tick d rs ≡ true
    → Calm m d → Calm m (run_from d rs) × (has_turn m d.arb.turn ≡ true → has_turn m (run_from d rs).arb.turn ≡ true)
unfolding run_from
calm_from m [] d nr nw nt c = (c, λ h. h)
calm_from m (r ∷ rs) d nr nw nt c =
    let ok = never_comes reset r rs d nr in
    let on = never_comes (withdrawal_of m) r rs d nw in
    let no = never_comes tick r rs d nt in
    let q : requests m (next d r) ≡ true = calm_request m r d c.owned ok.0 on.0 no.0 c.whole c.request in
    let later =
    calm_from m rs (next d r) ok.1 on.1 no.1
    (record { owned = next_owned r d c.owned; whole = calm_whole m r d c.owned ok.0 on.0 no.0 c.whole; request = q }) in
    (later.0, λ h. later.1 (line_next m r d h q))
