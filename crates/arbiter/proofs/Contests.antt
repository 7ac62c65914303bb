-- The ground of a claim is 2 or 3 after a PAIR alone: only then do both masters come to request at once.
-- Assumes nothing.
use mathlib.Core.Path.{◌≡◌, refl, sym, ap, ◌∙◌, subst}
use mathlib.Core.Bool.{true≢false, false≢true, and-eq-true_iff}
use Rattle.arbiter.specs.Types.{ℕ, true, false, not, eqb, Master, Zero, One, Turn}
use Rattle.arbiter.specs.Types.{Nobody, Claims, Owns, Device, Event, Command, Write, Read, Stop, Pair, Lines, Tick, Pulse, Reset, GeneralCall, Ok}
use Rattle.arbiter.specs.Types.{Stepped}
use Rattle.arbiter.specs.Words.{partner}
use Rattle.arbiter.specs.Events.{decode, soft_reset}
use Rattle.arbiter.specs.Order.{is_reset, levels, losses}
use Rattle.arbiter.specs.Effects.{written, was_read, lined, ticked, effect}
use Rattle.arbiter.specs.Steps.{parts, refused, taken, run}
use Rattle.arbiter.specs.AuditWords.{next, requests}
use Rattle.arbiter.specs.Grounds.{has_claim, ContestIsPair}
use Rattle.arbiter.proofs.Choice.{split, if_false, not_true}
use Rattle.arbiter.proofs.Order.{owned, after, after_sides, side_kept, losses_unowned}
use Rattle.arbiter.proofs.Cases.{step_cases}
use Rattle.arbiter.proofs.Effects.{mail_kept}
use Rattle.arbiter.proofs.Owner.{mid, turn_kept}
use Rattle.arbiter.proofs.Resets.{reset_request, reset_turn}
use Rattle.arbiter.proofs.Settled.{Ready, all_ready}
use Rattle.arbiter.proofs.Seen.{ground_shown_lem}
use Rattle.arbiter.proofs.Grounds.{has_turn, next_made, still_there, nobody_asks}

-- ---- part 1

-- Where nobody requests, no event but a PAIR makes both request: a WRITE is one master's, and its partner gets mail at most.
only_pair : (e : Event) (d : Device) → requests Zero d ≡ false → requests One d ≡ false → requests Zero (effect e d) ≡ true → requests One (effect e d) ≡ true
    → (v0 : ℕ) × (v1 : ℕ) × (e ≡ Pair v0 v1)
unfolding effect written was_read lined ticked
only_pair (Command Zero c) d z o a b = absurd (true≢false (sym b ∙ o))
only_pair (Command One c) d z o a b = absurd (true≢false (sym a ∙ z))
only_pair (Write Zero v) d z o a b = absurd (true≢false (sym b ∙ ap (λ k. k.0) (mail_kept d.side0.pointer v d.side1) ∙ o))
only_pair (Write One v) d z o a b = absurd (true≢false (sym a ∙ ap (λ k. k.0) (mail_kept d.side1.pointer v d.side0) ∙ z))
only_pair (Read Zero) d z o a b = absurd (true≢false (sym b ∙ o))
only_pair (Read One) d z o a b = absurd (true≢false (sym a ∙ z))
only_pair (Stop Zero) d z o a b = absurd (true≢false (sym b ∙ o))
only_pair (Stop One) d z o a b = absurd (true≢false (sym a ∙ z))
only_pair (Pair v0 v1) d z o a b = (v0, v1, refl)
only_pair (Lines scl sda intin) d z o a b = absurd (true≢false (sym a ∙ z))
only_pair Tick d z o a b = absurd (true≢false (sym a ∙ z))
only_pair (Pulse sda) d z o a b = absurd (true≢false (sym a ∙ z))
only_pair Reset d z o a b = absurd (true≢false (sym a ∙ reset_request Zero Reset d refl))
only_pair (GeneralCall k v) d z o a b =
    split (soft_reset v) (λ h. absurd (true≢false (sym a ∙ reset_request Zero (GeneralCall k v) d h)))
    (λ h. absurd (true≢false (sym a ∙ ap (requests Zero) (if_false _ d h) ∙ z)))

-- ---- a step

-- A claim is one master's,
not_both : (m : Master) (t : Turn) → has_turn (partner m) t ≡ true → has_turn m t ≡ false
not_both m Nobody h = refl
not_both Zero (Claims Zero g) h = absurd (false≢true h)
not_both Zero (Claims One g) h = refl
not_both One (Claims Zero g) h = refl
not_both One (Claims One g) h = absurd (false≢true h)
not_both Zero (Owns Zero g) h = absurd (false≢true h)
not_both Zero (Owns One g) h = refl
not_both One (Owns Zero g) h = refl
not_both One (Owns One g) h = absurd (false≢true h)

-- and the turn is nobody's where it is neither's.
neither_has : (m : Master) (t : Turn) → has_turn m t ≡ false → has_turn (partner m) t ≡ false → t ≡ Nobody
neither_has m Nobody h p = refl
neither_has Zero (Claims Zero g) h p = absurd (true≢false h)
neither_has Zero (Claims One g) h p = absurd (true≢false p)
neither_has One (Claims Zero g) h p = absurd (true≢false p)
neither_has One (Claims One g) h p = absurd (true≢false h)
neither_has Zero (Owns Zero g) h p = absurd (true≢false h)
neither_has Zero (Owns One g) h p = absurd (true≢false p)
neither_has One (Owns Zero g) h p = absurd (true≢false p)
neither_has One (Owns One g) h p = absurd (true≢false h)

-- Then what requests after the step requested after part 1.
asked_first : (p : Master) (e : Event) (d : Device) → d.arb.turn ≡ Nobody → requests p (parts e d) ≡ true → requests p (effect e d) ≡ true
unfolding parts levels
asked_first p e d n q =
    let b : Device = mid e d in
    let t : b.arb.turn ≡ Nobody =
    split (is_reset e) (λ h. reset_turn e d h) (λ h. turn_kept e d Nobody h n)
    in
    let u : losses b ≡ b = losses_unowned b (ap owned t) in
    sym (ap (λ k. k.0) (side_kept p (after e (losses b)) (losses b) (after_sides e (losses b))) ∙ ap (requests p) u) ∙ q

-- the two masters, whichever is m
both_of : (P : Master → Type 0) (m : Master) → P m → P (partner m) → P Zero × P One
both_of P Zero x y = (x, y)
both_of P One x y = (y, x)

contest : (m : Master) (e : Event) (d : Device) → Ready d → has_turn m d.arb.turn ≡ false → has_turn m (parts e d).arb.turn ≡ true
    → requests m (parts e d) ≡ true → requests (partner m) (parts e d) ≡ true → (v0 : ℕ) × (v1 : ℕ) × (e ≡ Pair v0 v1)
contest m e d ready b a mine theirs =
    let p : Master = partner m in
    let n : d.arb.turn ≡ Nobody =
    neither_has m d.arb.turn b
    (split (has_turn p d.arb.turn)
    (λ h. absurd (true≢false (sym a ∙ not_both m (parts e d).arb.turn (still_there p e d h theirs))))
    (λ h. h))
    in
    let quiet = nobody_asks d ready n in
    let loud = both_of (λ (j : Master). requests j (effect e d) ≡ true) m (asked_first m e d n mine) (asked_first p e d n theirs) in
    only_pair e d quiet.0 quiet.1 loud.0 loud.1

pub contest_is_pair : ContestIsPair
unfolding taken refused
contest_is_pair k m rs r h other =
    let d : Device = run k rs in
    let n : Device = next d r in
    let both = (and-eq-true_iff (not (has_claim m d)) (has_claim m n)).0 h in
    let b : has_claim m d ≡ false = not_true (has_claim m d) both.0 in
    let made = next_made m r d h in
    let theirs : requests (partner m) n ≡ true =
    split (requests (partner m) n) (λ q. q)
    (λ q. absurd (true≢false (sym (ap (λ (x : ℕ). eqb x 1) (ground_shown_lem d r ∙ made.ground ∙ if_false _ 1 q)) ∙ other)))
    in
    step_cases (λ (s : Stepped). s.device ≡ n → (v0 : ℕ) × (v1 : ℕ) × (decode r ≡ Ok (Pair v0 v1))) d r
    (λ e dec seq same. let found = contest m e d (all_ready k rs) b (subst (λ (x : Device). has_claim m x ≡ true) (sym same) both.1)
    (subst (λ (x : Device). requests m x ≡ true) (sym same) made.request) (subst (λ (x : Device). requests (partner m) x ≡ true) (sym same) theirs) in
    (found.0, found.1, dec ∙ ap Ok found.2))
    (λ c u same. absurd (true≢false (sym both.1 ∙ ap (has_claim m) (sym same) ∙ b))) refl
