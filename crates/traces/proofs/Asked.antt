-- What the tests of the loop over events tell: a byte that moves nothing else, a move of the turn, and which event four bytes are.
-- Assumes nothing.
use Prim.Native.Nat.{ℕ}
use mathlib.Core.Path.{◌≡◌, refl, ap, ◌∙◌}
use mathlib.Core.Bool.{Bool, true, false, not, ◌&&◌, ◌||◌, false≢true, and-eq-true_iff}
use lib.Dec.{eqb}
use borrow.Author.Tests.{eqb-true}
use Rattle.arbiter.specs.Words.{bit}
use Rattle.arbiter.specs.State.{claims_turn, at_rest, for_writing}
use Rattle.arbiter.specs.Events.{unused, zero_or_one, level, master, fitting, decode}
use Rattle.arbiter.specs.Registers.{register_number}
use Rattle.arbiter.specs.declared.Master.{Master}
use Rattle.arbiter.specs.declared.Turn.{Turn}
use Rattle.arbiter.specs.declared.Register.{Register}
use Rattle.arbiter.specs.declared.Register.TheVariants.{Id, Contr, Status, Rt, IntStatus, IntMask, MailLow, MailHigh}
use Rattle.arbiter.specs.declared.Side.{Side}
use Rattle.arbiter.specs.declared.Bus.{Bus}
use Rattle.arbiter.specs.declared.Arbitration.{Arbitration}
use Rattle.arbiter.specs.declared.Raw.{Raw}
use Rattle.arbiter.specs.declared.Event.{Event}
use Rattle.arbiter.specs.declared.Event.TheVariants.{Command, Write, Read, Stop, Pair, Lines, Pulse, Reset, GeneralCall}
use Rattle.std.specs.Prelude.{Result, Ok}
use Rattle.arbiter.specs.declared.Unread.{Unread}
use Rattle.light.specs.Ended.{leaves_turn}
use Rattle.light.specs.Turns.{is_contr, is_nobody}
use Rattle.traces.specs.Sides.{byte_is_light}
use Rattle.traces.specs.Turns.{stop_grants, byte_claims}

pub first_holds : (p q : Bool) → p && q ≡ true → p ≡ true
first_holds true q h = refl
first_holds false q h = h

four_hold : (p q u v : Bool) → p && q && u && v ≡ true → (p ≡ true) × (q ≡ true) × (u ≡ true) × (v ≡ true)
four_hold true true true v h = (refl, refl, refl, h)
four_hold true true false v h = absurd (false≢true h)
four_hold true false u v h = absurd (false≢true h)
four_hold false q u v h = absurd (false≢true h)

-- a byte that moves neither turn nor drives, by the number of its register
pub light_by_number : (at : Register) (m : Master) (granted : Bool) (v : ℕ) (t : Turn) (connect : Bool)
    → (not (eqb (register_number at) 1) || leaves_turn m (bit 0 v) t) && not (eqb (register_number at) 2 && granted && not connect)
    ≡ byte_is_light at m granted v t connect
light_by_number Id m granted v t connect = refl
light_by_number Contr m granted v t connect = go (leaves_turn m (bit 0 v) t)
  where
    go : (b : Bool) → b && true ≡ b
    go true = refl
    go false = refl
light_by_number Status m granted v t connect = refl
light_by_number Rt m granted v t connect = refl
light_by_number IntStatus m granted v t connect = refl
light_by_number IntMask m granted v t connect = refl
light_by_number MailLow m granted v t connect = refl
light_by_number MailHigh m granted v t connect = refl

-- what the two tests for a move of the turn tell
pub stop_told : (r : Raw) (b : Bus) (a : Arbitration) (s : Side) → stop_grants r b a s ≡ true
    → (r.kind ≡ 3) × (zero_or_one r.x && unused r.y && unused r.z ≡ true) × (not (at_rest s.port) ≡ true)
    × (claims_turn (master r.x) a.turn && eqb b.hold 0 ≡ true)
stop_told r b a s h =
    let all = four_hold (eqb r.kind 3) (zero_or_one r.x && unused r.y && unused r.z) (not (at_rest s.port))
    (claims_turn (master r.x) a.turn && eqb b.hold 0) h in
    (eqb-true r.kind 3 all.0, all.1, all.2, all.3)

pub claim_told : (r : Raw) (a : Arbitration) (s : Side) → byte_claims r a s ≡ true
    → (r.kind ≡ 1) × (zero_or_one r.x && unused r.z ≡ true) × (for_writing s.port ≡ true) × (is_contr s.pointer ≡ true) × (bit 0 r.y ≡ true)
    × (is_nobody a.turn ≡ true)
claim_told r a s h =
    let last = (and-eq-true_iff (eqb r.kind 1 && (zero_or_one r.x && unused r.z) && for_writing s.port && is_contr s.pointer && bit 0 r.y)
    (is_nobody a.turn)).0 h in
    let most = (and-eq-true_iff (eqb r.kind 1 && (zero_or_one r.x && unused r.z) && for_writing s.port && is_contr s.pointer) (bit 0 r.y)).0
    last.0 in
    let all = four_hold (eqb r.kind 1) (zero_or_one r.x && unused r.z) (for_writing s.port) (is_contr s.pointer) most.0 in
    (eqb-true r.kind 1 all.0, all.1, all.2, all.3, most.1, last.1)

module _ (r : Raw) (k : ℕ) (kind : r.kind ≡ k) where
  abbrev same : Result Event Unread
  same = decode (record { kind = k; x = r.x; y = r.y; z = r.z })

  as_kind : decode r ≡ same
  as_kind = ap (λ (n : ℕ). decode (record { kind = n; x = r.x; y = r.y; z = r.z })) kind

-- the event of a kind whose fields fit
fitted : (e : Event) (t : Bool) → t ≡ true → fitting t e ≡ Ok e
fitted e t h = ap (λ (b : Bool). fitting b e) h

module _ (r : Raw) where
  pub reads_command : r.kind ≡ 0 → zero_or_one r.x && unused r.z ≡ true → decode r ≡ Ok (Command (master r.x) r.y)
  unfolding decode
  reads_command k h = as_kind r 0 k ∙ fitted _ _ h

  pub reads_write : r.kind ≡ 1 → zero_or_one r.x && unused r.z ≡ true → decode r ≡ Ok (Write (master r.x) r.y)
  unfolding decode
  reads_write k h = as_kind r 1 k ∙ fitted _ _ h

  pub reads_read : r.kind ≡ 2 → zero_or_one r.x && unused r.y && unused r.z ≡ true → decode r ≡ Ok (Read (master r.x))
  unfolding decode
  reads_read k h = as_kind r 2 k ∙ fitted _ _ h

  pub reads_stop : r.kind ≡ 3 → zero_or_one r.x && unused r.y && unused r.z ≡ true → decode r ≡ Ok (Stop (master r.x))
  unfolding decode
  reads_stop k h = as_kind r 3 k ∙ fitted _ _ h

  pub reads_pair : r.kind ≡ 4 → unused r.z ≡ true → decode r ≡ Ok (Pair r.x r.y)
  unfolding decode
  reads_pair k h = as_kind r 4 k ∙ fitted _ _ h

  pub reads_lines : r.kind ≡ 5 → zero_or_one r.x && zero_or_one r.y && zero_or_one r.z ≡ true → decode r
      ≡ Ok (Lines (level r.x) (level r.y) (level r.z))
  unfolding decode
  reads_lines k h = as_kind r 5 k ∙ fitted _ _ h

  pub reads_pulse : r.kind ≡ 7 → zero_or_one r.x && unused r.y && unused r.z ≡ true → decode r ≡ Ok (Pulse (level r.x))
  unfolding decode
  reads_pulse k h = as_kind r 7 k ∙ fitted _ _ h

  pub reads_reset : r.kind ≡ 8 → unused r.x && unused r.y && unused r.z ≡ true → decode r ≡ Ok Reset
  unfolding decode
  reads_reset k h = as_kind r 8 k ∙ fitted _ _ h

  pub reads_call : r.kind ≡ 9 → zero_or_one r.x && unused r.z ≡ true → decode r ≡ Ok (GeneralCall (master r.x) r.y)
  unfolding decode
  reads_call k h = as_kind r 9 k ∙ fitted _ _ h
