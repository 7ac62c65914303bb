-- An accepted TICK is told from its four bytes alone: 6 and three zeros.
-- Assumes nothing.
use mathlib.Core.Path.{◌≡◌, refl, sym, ap, ◌∙◌}
use mathlib.Core.Bool.{Bool, true, false, ◌&&◌, true≢false}
use lib.Dec.{eqb}
use borrow.Author.Tests.{eqb-true}
use Prim.Native.Nat.{ℕ}
use Rattle.arbiter.specs.Events.{unused, zero_or_one, master, level, fitting, decode, in_sequence}
use Rattle.arbiter.specs.Order.{is_tick}
use Rattle.arbiter.specs.AuditWords.{accepted_as, tick}
use Rattle.arbiter.specs.declared.Raw.{Raw}
use Rattle.arbiter.specs.declared.Device.{Device}
use Rattle.arbiter.specs.declared.Event.{Event}
use Rattle.arbiter.specs.declared.Event.TheVariants.{Command, Write, Read, Stop, Pair, Lines, Tick, Pulse, Reset, GeneralCall}
use Rattle.std.specs.Prelude.{Result}
use Rattle.arbiter.specs.declared.Unread.{Unread}
use Rattle.arbiter.proofs.Choice.{split, either}
use Rattle.traces.specs.Ticks.{is_tick_raw}

module _ (d : Device) where
  abbrev ticks : Result Event Unread → Bool
  ticks x = accepted_as (λ (e : Event) (y : Device). is_tick e) x d

  abbrev No : Result Event Unread → Type 0
  No x = ticks x ≡ false

  and_false : (b : Bool) → b && false ≡ false
  and_false true = refl
  and_false false = refl

  -- another event is none, whether its fields fit or not
  other : (ok : Bool) (e : Event) → is_tick e ≡ false → No (fitting ok e)
  other true e h = ap (λ (b : Bool). in_sequence e d && b) h ∙ and_false (in_sequence e d)
  other false e h = refl

  not_six : (r : Raw) → eqb r.kind 6 ≡ false → No (decode r)
  unfolding decode
  not_six r h =
      either No (eqb r.kind 0) (λ t. other (zero_or_one r.x && unused r.z) (Command (master r.x) r.y) refl) λ f0.
      either No (eqb r.kind 1) (λ t. other (zero_or_one r.x && unused r.z) (Write (master r.x) r.y) refl) λ f1.
      either No (eqb r.kind 2) (λ t. other (zero_or_one r.x && unused r.y && unused r.z) (Read (master r.x)) refl) λ f2.
      either No (eqb r.kind 3) (λ t. other (zero_or_one r.x && unused r.y && unused r.z) (Stop (master r.x)) refl) λ f3.
      either No (eqb r.kind 4) (λ t. other (unused r.z) (Pair r.x r.y) refl) λ f4.
      either No (eqb r.kind 5) (λ t. other (zero_or_one r.x && zero_or_one r.y && zero_or_one r.z) (Lines (level r.x) (level r.y) (level r.z))
      refl) λ f5.
      either No (eqb r.kind 6) (λ t. absurd (true≢false (sym t ∙ h))) λ f6.
      either No (eqb r.kind 7) (λ t. other (zero_or_one r.x && unused r.y && unused r.z) (Pulse (level r.x)) refl) λ f7.
      either No (eqb r.kind 8) (λ t. other (unused r.x && unused r.y && unused r.z) Reset refl) λ f8.
      either No (eqb r.kind 9) (λ t. other (zero_or_one r.x && unused r.z) (GeneralCall (master r.x) r.y) refl) λ f9. refl

  fits_tick : (ok : Bool) → ticks (fitting ok Tick) ≡ ok
  unfolding in_sequence
  fits_tick true = refl
  fits_tick false = refl

  abbrev raw : ℕ → Raw → Raw
  raw k r = record { kind = k; x = r.x; y = r.y; z = r.z }

  six : (r : Raw) → ticks (decode (raw 6 r)) ≡ unused r.x && unused r.y && unused r.z
  unfolding decode
  six r = fits_tick (unused r.x && unused r.y && unused r.z)

pub told_tick : (r : Raw) (d : Device) → tick r d ≡ is_tick_raw r
told_tick r d =
    split (eqb r.kind 6)
    (λ t. ap (λ (k : ℕ). ticks d (decode (raw d k r))) (eqb-true _ 6 t) ∙ six d r ∙ sym (simp t))
    (λ f. not_six d r f ∙ sym (simp f))
