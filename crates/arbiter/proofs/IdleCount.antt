-- The idle count on a bus that stays idle: it counts the ticks, so that with a reserve of 00h and the idle timer on a grant lasts one less than its limit.
-- Assumes nothing.
use Prim.Native.Nat.{◌<◌}
use mathlib.Core.Path.{◌≡◌, refl, sym, ap, ap₂, ◌∙◌, subst}
use mathlib.Core.Bool.{true≢false, false≢true, and-eq-true_iff, and-false}
use native.Mathlib.Nat.{add-zero}
use native.Mathlib.Omega.{arith}
use borrow.Author.Tests.{eq-eqb, ne_eqb, lt-ltb}
use Rattle.std.specs.Prelude.{◌+◌, ◌-◌, ◌&&◌, ◌||◌, ◌∷◌, if◌then◌else◌}
use Rattle.arbiter.specs.Types.{ℕ, Bool, true, false, not, List, [], eqb, Master, Bus, Device, Raw, Tick}
use Rattle.arbiter.specs.Rules.{limit_of, idle_limit}
use Rattle.arbiter.specs.Words.{worth}
use Rattle.arbiter.specs.State.{owns, scl_high, sda_high, is_idle}
use Rattle.arbiter.specs.Effects.{ticked_bus, ticked, effect}
use Rattle.arbiter.specs.Order.{is_reset, is_tick, busy_after, scl_changed, settled_bus, levels}
use Rattle.arbiter.specs.Steps.{run_from, run}
use Rattle.arbiter.specs.AuditWords.{next, reserve_of, idle_timer_on, reset, tick, withdrawal_of, levelled, ticks_in, never, throughout}
use Rattle.arbiter.specs.Audit.{IdleTimerEnds}
use Rattle.arbiter.proofs.Choice.{either, if_true, turn_owns}
use Rattle.arbiter.proofs.KindKept.{keeps_kind, runs_of_kind, levelled_kind}
use Rattle.arbiter.proofs.Runs.{never_comes, now, hence}
use Rattle.arbiter.proofs.Effects.{counts, effect_counts}
use Rattle.arbiter.proofs.Owner.{mid, expired, over_unowned}
use Rattle.arbiter.proofs.Raws.{Takes, refuses, takes, met, taken_tick, tick_no_reset}
use Rattle.arbiter.proofs.Tenure.{Owner, keeps, over, lot, taken_fresh, rt_found}
use Rattle.arbiter.proofs.Reserve.{rt_kept}
use Rattle.arbiter.proofs.Timer.{expires}

-- A tick adds one to the idle count of an idle bus that is below its limit.
counted : (d : Device) → is_idle d.bus ≡ true → d.bus.idle < idle_limit d → (b : Bool)
    → (if b then counts (ticked d) else counts d).1 ≡ d.bus.idle + worth 1 b
unfolding ticked
counted d idle low true = if_true _ _ (ap₂ (λ (a b : Bool). a && b) idle (lt-ltb d.bus.idle (idle_limit d) low))
counted d idle low false = sym (add-zero d.bus.idle)

-- When part 3 looks, the ticks of a bus that was idle are counted if it still is idle; else the count is 0.
pub idle_found : (r : Raw) (d : Device) → reset r d ≡ false → is_idle d.bus ≡ true → d.bus.idle < idle_limit d
    → (levelled r d).bus.idle ≡ (if is_idle (levelled r d).bus then d.bus.idle + worth 1 (tick r d) else 0)
unfolding levels
idle_found r d ok idle low =
    elim (met r d) [
      | refuses x ↦
          (ap (λ (n : Device). n.bus.idle) x.middle
          ∙ sym (add-zero d.bus.idle)
          ∙ sym (ap₂ (λ (a b : Bool). if a then d.bus.idle + worth 1 b else 0) (ap (λ (n : Device). is_idle n.bus) x.middle ∙ idle)
          (x.none λ f y. is_tick f)))
      | takes e x ↦
          (let b : Device = mid e d in
          ap (λ (n : Device). n.bus.idle) x.middle
          ∙ ap (λ (n : ℕ). if is_idle b.bus then n else 0)
          (ap (λ c. c.1) (effect_counts e d (sym (x.same λ f y. is_reset f) ∙ ok)) ∙ counted d idle low (is_tick e))
          ∙ sym (ap₂ (λ (a b : Bool). if a then d.bus.idle + worth 1 b else 0) (ap (λ (n : Device). is_idle n.bus) x.middle) (x.same λ f y. is_tick f)))
    ]

-- A tick moves no line when no hold runs, so that an idle bus stays idle.
calm : (busy scl sda : Bool) → not busy && scl && sda ≡ true
    → not ((busy || scl && scl && sda && not sda) && not (scl && scl && not sda && sda)) && scl && sda ≡ true
calm true scl sda h = absurd (false≢true h)
calm false false sda h = absurd (false≢true h)
calm false true false h = absurd (false≢true h)
calm false true true h = refl

tick_idle : (limit : ℕ) (b : Bus) → b.hold ≡ 0 → is_idle b ≡ true
    → is_idle (settled_bus (busy_after false b (ticked_bus limit b)) (scl_changed b (ticked_bus limit b)) (ticked_bus limit b)) ≡ true
tick_idle limit b z idle =
    let scl : Bool = scl_high b in
    let sda : Bool = sda_high b in
    let same : scl_high (ticked_bus limit b) ≡ scl = ap (λ (n : ℕ). b.outscl && b.drivescl && eqb n 0) (ap (λ (n : ℕ). n - 1) z ∙ sym z) in
    ap (λ (s : Bool). not ((b.busy || scl && s && sda && not sda) && not (scl && s && not sda && sda)) && s && sda) same
    ∙ calm b.busy scl sda idle

-- ---- the grant

-- m's idle timer is on, and the bus is idle.
abbrev idling : Master → Device → Bool
idling m d = idle_timer_on m d && is_idle d.bus

idling_both : (m : Master) (d : Device) → idling m d ≡ true → (idle_timer_on m d ≡ true) × (is_idle d.bus ≡ true)
idling_both m d h = (and-eq-true_iff (idle_timer_on m d) (is_idle d.bus)).0 h

-- Below the limit, the owner has not lost.
unexpired : (m : Master) (d : Device) → reserve_of m d ≡ 0 → d.bus.idle < idle_limit d → expired m d ≡ false
unexpired m d z low =
    expires m d z
    ∙ ap (λ (b : Bool). idle_timer_on m d && b) (ne_eqb d.bus.idle (idle_limit d) (λ e. omega arith))
    ∙ and-false (idle_timer_on m d)

-- At the tick that makes the limit, it has.
ends_at : (m : Master) (t : Raw) (d : Device) → Owner m d → reserve_of m d ≡ 0 → idling m d ≡ true → tick t d ≡ true → d.bus.idle + 1 ≡ idle_limit d
    → owns m (next d t) ≡ false
unfolding levels effect ticked
ends_at m t d o z i h e =
    let l : Device = levelled t d in
    let ok : reset t d ≡ false = tick_no_reset t d h in
    let x : Takes Tick t d = taken_tick t d h in
    let on = idling_both m d i in
    let zl : reserve_of m l ≡ 0 = rt_found m t d (turn_owns m d.arb.turn o.turn) ok ∙ z in
    let ol : idle_timer_on m l ≡ true = ap (idle_timer_on m) x.middle ∙ on.0 in
    let il : is_idle l.bus ≡ true = ap (λ (n : Device). is_idle n.bus) x.middle ∙ tick_idle (idle_limit d) d.bus o.hold on.1 in
    let el : l.bus.idle ≡ idle_limit l =
    idle_found t d ok on.1 (omega arith) ∙ ap₂ (λ (a b : Bool). if a then d.bus.idle + worth 1 b else 0) il h ∙ e ∙ sym (ap limit_of (levelled_kind t d))
    in
    let gone : expired m l ≡ true = expires m l zl ∙ ap₂ (λ (a b : Bool). a && b) ol (eq-eqb l.bus.idle (idle_limit l) el) in
    elim (lot m t d o ok) [
      | keeps k ↦ absurd (true≢false (sym gone ∙ k.unlost))
      | over h c ↦ over_unowned m (next d t) h
    ]

-- From any device in which m owns, as long as the idle count and the ticks to come are below the limit.
idles : (m : Master) (rs : List Raw) (d : Device) → Owner m d → reserve_of m d ≡ 0 → never reset d rs ≡ true → never (withdrawal_of m) d rs ≡ true
    → throughout (idling m) d rs ≡ true → d.bus.idle + ticks_in d rs < idle_limit d
    → (owns m (run_from d rs) ≡ true)
    × ((t : Raw) → tick t (run_from d rs) ≡ true → d.bus.idle + ticks_in d rs + 1 ≡ idle_limit d → owns m (next (run_from d rs) t) ≡ false)
unfolding run_from ticks_in
idles m [] d o z nr nw i low =
    (turn_owns m d.arb.turn o.turn, λ t h e. ends_at m t d o z (now (idling m) [] d i) h (omega arith))
idles m (r ∷ rs) d o z nr nw i low =
    let n : Device = next d r in
    let l : Device = levelled r d in
    let ok = never_comes reset r rs d nr in
    let on = never_comes (withdrawal_of m) r rs d nw in
    let later = hence (idling m) r rs d i in
    let idle : is_idle d.bus ≡ true = (idling_both m d (now (idling m) (r ∷ rs) d i)).1 in
    let count = idle_found r d ok.0 idle (omega arith) in
    elim (lot m r d o ok.0) [
      | keeps k ↦
          (let same : n.bus ≡ l.bus = ap (λ s. s.2) k.left in
          let il : is_idle l.bus ≡ true = ap is_idle (sym same) ∙ (idling_both m n (now (idling m) rs n later)).1 in
          let en : n.bus.idle ≡ d.bus.idle + worth 1 (tick r d) = ap (λ (b : Bus). b.idle) same ∙ count ∙ if_true _ 0 il in
          let limit : idle_limit n ≡ idle_limit d = ap limit_of (keeps_kind d r) in
          let rest = idles m rs n k.owner (rt_kept m r d o ok.0 k ∙ z) ok.1 on.1 later (omega arith) in
          (rest.0, λ t h e. rest.1 t h (omega arith)))
      | over h c ↦
          (let zl : reserve_of m l ≡ 0 = rt_found m r d (turn_owns m d.arb.turn o.turn) ok.0 ∙ z in
          let limit : idle_limit l ≡ idle_limit d = ap limit_of (levelled_kind r d) in
          let low-then : l.bus.idle < idle_limit l =
          subst (λ (x : ℕ). x < idle_limit l) (sym count) (either (λ (x : ℕ). x < idle_limit l) (is_idle l.bus) (λ y. omega arith) (λ y. omega arith))
          in
          absurd (true≢false (sym (c on.0) ∙ unexpired m l zl low-then)))
    ]

pub idle_timer_ends : IdleTimerEnds
idle_timer_ends k m rs r later g z nr nw i low =
    let d : Device = next (run k rs) r in
    let new = taken_fresh m r (run k rs) g in
    let start : d.bus.idle ≡ 0 = new.0.idle in
    let limit : idle_limit d ≡ limit_of k = ap limit_of (keeps_kind (run k rs) r ∙ runs_of_kind k rs) in
    let both = idles m later d new.1 z nr nw i (omega arith) in
    (both.0, λ t h e. both.1 t h (omega arith))
