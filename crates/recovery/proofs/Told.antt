-- What INT_STATUS, as it is read, tells of one event.
-- Assumes nothing.
use mathlib.Core.Path.{◌≡◌, refl, sym, ap, ap₂, ◌∙◌}
use mathlib.Core.Bool.{false≢true, or-false, and-not_self}
use Rattle.std.specs.Prelude.{◌&&◌, ◌||◌}
use Rattle.ranges.specs.Names.{ℕ, Bool, true, false, not, Master, IntStatus, Device, Event}
use Rattle.arbiter.specs.Words.{bit, side}
use Rattle.arbiter.specs.State.{owns, bus_hung}
use Rattle.arbiter.specs.Registers.{hung_int, register_byte, reads_at}
use Rattle.arbiter.specs.Effects.{effect}
use Rattle.arbiter.specs.Order.{is_reset}
use Rattle.arbiter.specs.Steps.{parts}
use Rattle.arbiter.specs.AuditWords.{next, lets_go, reset, withdrawal_of, grant_taken}
use Rattle.recovery.specs.Told.{sees_grant, sees_loss, loss_of, GrantTold, LossTold}
use Rattle.arbiter.proofs.Raws.{Refuses, Takes, refuses, takes, met}
use Rattle.recovery.proofs.Flags.{Flag, one, two, other}
use Rattle.recovery.proofs.Turns.{gets, gets_taken, loses_ended}
use Rattle.recovery.proofs.Interrupts.{effect_quiet, parts_told}

-- as it is read
module _ (f : ℕ → Bool) (l : Flag f) where
  read_flag : (m : Master) (d : Device) → f (reads_at IntStatus m d) ≡ f (side m d).ints
  unfolding register_byte
  read_flag m d = other f l hung_int (bus_hung d.bus) (side m d).ints l.hung

or_true : (b : Bool) → b || true ≡ true
or_true true = refl
or_true false = refl

pub grant_told : GrantTold
grant_told m d r =
    elim (met r d) [
      | refuses x ↦ ((λ h. absurd (false≢true (sym (same_owner x) ∙ h))), λ h. ap (sees_grant m) x.after ∙ h ∙ sym (same_owner x))
      | takes e x ↦
          (let left : Bool = bit 2 (side m (effect e d)).ints in
          let taken : gets m e d ≡ grant_taken m r d = gets_taken m e d ∙ ap (λ (n : Device). not (owns m d) && owns m n) (sym x.after) in
          let found : sees_grant m (next d r) ≡ (left || false) || grant_taken m r d =
          ap (sees_grant m) x.after
          ∙ read_flag (bit 2) two m (parts e d)
          ∙ parts_told (bit 2) two m e d
          ∙ ap (λ (b : Bool). (left || false) || b) taken
          in
          let quiet : sees_grant m d ≡ false → left ≡ false = λ h. effect_quiet (bit 2) two m e d (sym (read_flag (bit 2) two m d) ∙ h) in (
            (λ h. found ∙ ap (λ (b : Bool). (left || false) || b) h ∙ or_true (left || false)),
            (λ h. found ∙ ap (λ (b : Bool). (b || false) || grant_taken m r d) (quiet h)),
          ))
    ]
  where
    same_owner : Refuses r d → grant_taken m r d ≡ false
    same_owner x = ap (λ (n : Device). not (owns m d) && owns m n) x.after ∙ go (owns m d)
      where
        go : (b : Bool) → not b && b ≡ false
        go true = refl
        go false = refl

pub loss_told : LossTold
loss_told m d r =
    elim (met r d) [
      | refuses x ↦ ((λ h. absurd (false≢true (sym (same_owner x) ∙ h))), λ h. ap (sees_loss m) x.after ∙ h ∙ sym (same_owner x))
      | takes e x ↦
          (let left : Bool = bit 1 (side m (effect e d)).ints in
          let found : sees_loss m (next d r) ≡ (left || loss_of m r d) || false =
          ap (sees_loss m) x.after
          ∙ read_flag (bit 1) one m (parts e d)
          ∙ parts_told (bit 1) one m e d
          ∙ ap (λ (b : Bool). (left || b) || false) (loses_ended m e d ∙ sym (said e x))
          in
          let quiet : sees_loss m d ≡ false → left ≡ false = λ h. effect_quiet (bit 1) one m e d (sym (read_flag (bit 1) one m d) ∙ h) in (
            (λ h. found ∙ ap (λ (b : Bool). (left || b) || false) h ∙ ap (λ (b : Bool). b || false) (or_true left)),
            (λ h. found ∙ ap (λ (b : Bool). (b || loss_of m r d) || false) (quiet h) ∙ or-false (loss_of m r d)),
          ))
    ]
  where
    said : (e : Event) → Takes e r d → loss_of m r d ≡ (owns m d && not (owns m (parts e d))) && not (is_reset e) && not (lets_go m e d)
    said e x =
        ap (λ (n : Device). (owns m d && not (owns m n)) && not (reset r d) && not (withdrawal_of m r d)) x.after
        ∙ ap₂ (λ (a b : Bool). (owns m d && not (owns m (parts e d))) && not a && not b) (x.same λ f y. is_reset f) (x.same (lets_go m))

    same_owner : Refuses r d → loss_of m r d ≡ false
    same_owner x =
        ap (λ (n : Device). (owns m d && not (owns m n)) && not (reset r d) && not (withdrawal_of m r d)) x.after
        ∙ ap (λ (b : Bool). b && not (reset r d) && not (withdrawal_of m r d)) (and-not_self (owns m d))
