-- The six events of a controller's setting, by how many are still to come: what stands of its setting at each stage, and that its own next event
-- leads to the next stage, and the events of others to none.
-- Assumes nothing.
use Prim.Native.Nat.{ℕ}
use mathlib.Core.Path.{◌≡◌, refl, sym, ap, ap₂, ◌∙◌, subst}
use mathlib.Core.Bool.{Bool, true, false, not, ◌&&◌, true≢false, false≢true}
use mathlib.Core.List.{List, [], ◌∷◌}
use Rattle.ranges.specs.Names.{Master, Contr, Rt, Writing, Device, Raw}
use Rattle.arbiter.specs.Words.{bit, side}
use Rattle.arbiter.specs.State.{owns, at_rest}
use Rattle.arbiter.specs.AuditWords.{next, requests, resting, reserve_of, grant_taken}
use Rattle.arbiter.specs.Marks.{command, write, stop}
use Rattle.arbiter.specs.Witnesses.{number}
use Rattle.audit.specs.SettingsKept.{bits_of}
use Rattle.sheets.specs.declared.Setting.{Setting}
use Rattle.sheets.specs.Settings.{control_byte, setting_events}
use Rattle.arbiter.proofs.Choice.{split}
use Rattle.arbiter.proofs.Tenure.{granted_at_rest}
use Rattle.guarantee.proofs.StartParts.{seat, unasked}
use Rattle.guarantee.proofs.StartOthers.{Left}
use Rattle.guarantee.proofs.StartOwn.{commands, stops, byte_stays, byte_rt, byte_stored, byte_written, rt_asks, contr_asks}

-- ---- the stages

-- so many events are still to come
pub data Stage : Type 0 where
  six : Stage
  five : Stage
  four : Stage
  three : Stage
  two : Stage
  one : Stage
  none : Stage

-- these
abbrev pub left : Master → Setting → Stage → List Raw
left m s six = setting_events (number m) s
left m s five =
    write (number m) s.reserve ∷ stop (number m) ∷ command (number m) 0x01 ∷ write (number m) (control_byte s) ∷ stop (number m) ∷ []
left m s four = stop (number m) ∷ command (number m) 0x01 ∷ write (number m) (control_byte s) ∷ stop (number m) ∷ []
left m s three = command (number m) 0x01 ∷ write (number m) (control_byte s) ∷ stop (number m) ∷ []
left m s two = write (number m) (control_byte s) ∷ stop (number m) ∷ []
left m s one = stop (number m) ∷ []
left m s none = []

-- m does not own and does not request; it does not own, and requests
abbrev pub Silent : Master → Device → Type 0
Silent m d = (owns m d ≡ false) × (requests m d ≡ false)

abbrev pub Asking : Master → Device → Type 0
Asking m d = (owns m d ≡ false) × (requests m d ≡ true)

-- its RT and its bits are as ordered
abbrev Reserved : Master → Setting → Device → Type 0
Reserved m s d = reserve_of m d ≡ s.reserve

abbrev pub Set : Master → Setting → Device → Type 0
Set m s d = (reserve_of m d ≡ s.reserve) × (bits_of m d ≡ (s.priority, false, s.idle, false))

-- What stands at each stage. At the last, m still asks if Q says that it has not been granted.
abbrev pub At : Type 0 → Stage → Master → Setting → Device → Type 0
At Q six m s d = Silent m d
At Q five m s d = Silent m d × (seat (side m d) ≡ (Rt, false, Writing))
At Q four m s d = Silent m d × (seat (side m d) ≡ (Rt, false, Writing)) × Reserved m s d
At Q three m s d = Silent m d × Reserved m s d
At Q two m s d = Silent m d × (seat (side m d) ≡ (Contr, false, Writing)) × Reserved m s d
At Q one m s d = Asking m d × (seat (side m d) ≡ (Contr, false, Writing)) × Set m s d
At Q none m s d = (resting m d ≡ true) × Set m s d × (Q → Asking m d)

-- ---- who is not granted

-- With its port open m is not granted,
unrested : (m : Master) (r : Raw) (d : Device) → owns m d ≡ false → resting m (next d r) ≡ false → owns m (next d r) ≡ false
unrested m r d o up =
    split (owns m (next d r))
    (λ h. absurd (true≢false (sym (granted_at_rest m d r (ap₂ (λ (a b : Bool). not a && b) o h)).0 ∙ up)))
    (λ h. h)

-- nor where it takes no grant.
ungranted : (m : Master) (r : Raw) (d : Device) → owns m d ≡ false → grant_taken m r d ≡ false → owns m (next d r) ≡ false
ungranted m r d o h = sym (ap (λ (b : Bool). not b && owns m (next d r)) o) ∙ h

pub silent_on : (m : Master) (r : Raw) (d : Device) → requests m (next d r) ≡ requests m d → Silent m d → Silent m (next d r)
silent_on m r d same s = (unasked m r d s.0 (same ∙ s.1), same ∙ s.1)

-- ---- an event of others

pub others_keep : (Q : Type 0) (g : Stage) (m : Master) (s : Setting) (r : Raw) (d : Device) → Left m r d → (Q → grant_taken m r d ≡ false)
    → At Q g m s d → At Q g m s (next d r)
others_keep Q six m s r d l n a = silent_on m r d (l.request a.0) a
others_keep Q five m s r d l n a = (silent_on m r d (l.request a.0.0) a.0, l.port ∙ a.1)
others_keep Q four m s r d l n a = (silent_on m r d (l.request a.0.0) a.0, l.port ∙ a.1, l.rt ∙ a.2)
others_keep Q three m s r d l n a = (silent_on m r d (l.request a.0.0) a.0, l.rt ∙ a.1)
others_keep Q two m s r d l n a = (silent_on m r d (l.request a.0.0) a.0, l.port ∙ a.1, l.rt ∙ a.2)
others_keep Q one m s r d l n a =
    let port = l.port ∙ a.1 in
    ((unrested m r d a.0.0 (ap (λ x. at_rest x.2) port), l.request a.0.0 ∙ a.0.1), port, (l.rt ∙ a.2.0, l.bits ∙ a.2.1))
others_keep Q none m s r d l n a = (
  ap (λ x. at_rest x.2) l.port ∙ a.0,
  (l.rt ∙ a.1.0, l.bits ∙ a.1.1),
  λ q. let b = a.2 q in (ungranted m r d b.0 (n q), l.request b.0 ∙ b.1),
)

-- ---- m's own

-- the bits of the ordered CONTR byte
abbrev five_bits : ℕ → Bool × Bool × Bool × Bool × Bool
five_bits v = (bit 7 v, bit 6 v, bit 5 v, bit 4 v, bit 0 v)

abbrev five_of : Bool → Bool → Bool × Bool × Bool × Bool × Bool
five_of p i = (p, false, i, false, true)

control_bits : (s : Setting) → five_bits (control_byte s) ≡ five_of s.priority s.idle
unfolding control_byte
control_bits s = go s.priority s.idle
  where
    go : (p i : Bool) → five_bits (control_byte (record { reserve = s.reserve; priority = p; idle = i })) ≡ five_of p i
    go true true = refl
    go true false = refl
    go false true = refl
    go false false = refl

-- A list that is not empty has one first event and one rest.
pub heads : {r q : Raw} {rs qs : List Raw} → r ∷ rs ≡ q ∷ qs → (r ≡ q) × (rs ≡ qs)
heads h = (cc, cc)

pub not_empty : {r : Raw} {rs : List Raw} → r ∷ rs ≡ [] → ⊥
not_empty h = false≢true (ap is_empty h)
  where
    is_empty : List Raw → Bool
    is_empty [] = true
    is_empty (r ∷ rs) = false

-- What stands after m's next event, at the stage that it leads to.
pub record Led (Q : Type 0) (m : Master) (s : Setting) (es : List Raw) (d : Device) : Type 0 where
  pub stage : Stage
  pub events : es ≡ left m s stage
  pub stands : At Q stage m s d

-- The CONTR byte makes m ask, with its port still open.
pub asks : (Q : Type 0) (m : Master) (s : Setting) (d : Device) → At Q two m s d → At Q one m s (next d (write (number m) (control_byte s)))
asks Q m s d a =
    let v : ℕ = control_byte s in
    let bits = control_bits s in
    let port = byte_stays m Contr v d a.1 in (
      (unrested m (write (number m) v) d a.0.0 (ap (λ x. at_rest x.2) port), contr_asks m v d a.1 a.0.0 ∙ ap (λ b. b.4) bits),
      port,
      (byte_rt m Contr v d a.1 refl ∙ a.2, byte_written m Contr v d a.1 refl ∙ ap (λ b. (b.0, b.1, b.2, b.3)) bits),
    )

module _ (Q : Type 0) (m : Master) (s : Setting) (d : Device) where
  -- if it is the one that is to come
  leads : (g : Stage) (q r : Raw) (es qs : List Raw) → r ∷ es ≡ q ∷ qs → qs ≡ left m s g → At Q g m s (next d q) → Led Q m s es (next d r)
  leads g q r es qs e f a =
      record { stage = g; events = (heads e).1 ∙ f; stands = subst (λ (x : Raw). At Q g m s (next d x)) (sym (heads e).0) a }

  pub own_leads : (g : Stage) (r : Raw) (es : List Raw) → r ∷ es ≡ left m s g → (Q → grant_taken m r d ≡ false) → At Q g m s d
      → Led Q m s es (next d r)
  own_leads six r es e n a =
      let c = commands m 0x03 d refl in
      leads five _ r es _ e refl (silent_on m (command (number m) 0x03) d (c.1.request a.0) a, c.0)
  own_leads five r es e n a =
      let v : ℕ = s.reserve in
      leads four _ r es _ e refl
      (silent_on m (write (number m) v) d (rt_asks m v d a.1 a.0.0) a.0, byte_stays m Rt v d a.1, byte_stored m Rt v d a.1 refl a.0.0)
  own_leads four r es e n a =
      let c = stops m d (ap (λ x. at_rest x.2) a.1) in
      leads three _ r es _ e refl (silent_on m (stop (number m)) d (c.1.request a.0.0) a.0, c.1.rt ∙ a.2)
  own_leads three r es e n a =
      let c = commands m 0x01 d refl in
      leads two _ r es _ e refl (silent_on m (command (number m) 0x01) d (c.1.request a.0.0) a.0, c.0, c.1.rt ∙ a.1)
  own_leads two r es e n a = leads one _ r es _ e refl (asks Q m s d a)
  own_leads one r es e n a =
      let c = stops m d (ap (λ x. at_rest x.2) a.1) in
      let is = (heads e).0 in
      leads none _ r es _ e refl (
        c.0,
        (c.1.rt ∙ a.2.0, c.1.bits ∙ a.2.1),
        λ q. (ungranted m (stop (number m)) d a.0.0 (sym (ap (λ (x : Raw). grant_taken m x d) is) ∙ n q), c.1.request a.0.0 ∙ a.0.1),
      )
  own_leads none r es e n a = absurd (not_empty e)
