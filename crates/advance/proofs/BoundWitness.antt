-- Every row of specs/BoundWitness.antt holds: antt computes each. So no number below three is never exceeded.
-- Assumes nothing.
use Prim.Native.Nat.{ℕ, zero, suc, ◌+◌}
use mathlib.Core.Path.{◌≡◌, refl, ap, ◌∙◌}
use mathlib.Core.Bool.{Bool, true, false}
use mathlib.Core.List.{List, [], ◌∷◌, ◌++◌}
use lib.ListN.{length, get_or}
use native.Mathlib.Omega.{arith}
use Rattle.arbiter.specs.Rules.{rules_of}
use Rattle.std.specs.Prelude.{if◌then◌else◌}
use Rattle.arbiter.specs.Words.{worth, byte_of}
use Rattle.arbiter.specs.Registers.{contr_byte, status_byte, register_byte, is_asserted, own_written, mail_written, drives_written, turn_written}
use Rattle.arbiter.specs.Events.{decode, in_sequence, acknowledged, outcome}
use Rattle.arbiter.specs.Effects.{commanded, written, paired, was_read, lined, ticked, fresh_side, was_reset, power_up, effect}
use Rattle.arbiter.specs.Order.{levels, lost, losses_from, losses, cut_from, cut, winner, claim, granted, grant_from, grant, joined, clocked, kept_joined}
use Rattle.arbiter.specs.Order.{connect_from, connect}
use Rattle.arbiter.specs.Steps.{parts, owner_byte, lines_byte, byte_read, refused, taken, step_event, step_decoded, step, run_from, run}
use Rattle.arbiter.specs.declared.Kind.TheVariants.{Pca9641, Tpt29641}
use Rattle.arbiter.specs.declared.Device.{Device}
use Rattle.quiet.specs.Quiet.{tick}
use Rattle.advance.specs.Changes.{same_but_counts, same_shown, changes}
use Rattle.advance.specs.Advance.{changing}
use Rattle.advance.specs.BoundWitness.{both_reserve, changing_from, changing_at, AsMany, rows, RowsHold, ThreeIsLeast}

pub rows_hold : RowsHold
unfolding rules_of byte_of contr_byte status_byte register_byte is_asserted own_written mail_written drives_written turn_written
    decode in_sequence acknowledged outcome commanded written paired was_read lined ticked fresh_side was_reset power_up effect
    levels lost losses_from losses cut_from cut winner claim granted grant_from grant joined clocked kept_joined connect_from connect
    parts owner_byte lines_byte byte_read refused taken step_event step_decoded step run_from run
    same_but_counts same_shown changes changing_from rows
rows_hold Pca9641 = refl
rows_hold Tpt29641 = refl

-- ---- as many as are counted

one_or_none : (b : Bool) (i : ℕ) (ns : List ℕ) → length ((if b then i ∷ [] else []) ++ ns) ≡ worth 1 b + length ns
one_or_none true i ns = omega arith
one_or_none false i ns = omega arith

pub as_many : AsMany
unfolding changing_from changing
as_many i zero d = refl
as_many i (suc n) d =
    let next : Device = (step d tick).device in
    one_or_none (changes d next) i (changing_from (i + 1) n next) ∙ ap (λ (c : ℕ). worth 1 (changes d next) + c) (as_many (i + 1) n next)

-- so the first row is one of three
pub three_is_least : ThreeIsLeast
unfolding rows
three_is_least k most h =
    let three : length (changing_at 60 k both_reserve) ≡ 3 = ap (λ (ns : List (List ℕ)). length (get_or ns 0 [])) (rows_hold k) in
    omega (arith, three, as_many 1 60 (run k both_reserve), h both_reserve 60)
