-- The wait of a device that an order started.
-- Assumes nothing.
use Prim.Native.Nat.{ℕ}
use mathlib.Core.Path.{◌≡◌, sym, ap, ◌∙◌, subst}
use mathlib.Core.List.{List, ◌++◌}
use Rattle.arbiter.specs.Steps.{run}
use Rattle.arbiter.specs.AuditWords.{reserve_of}
use Rattle.arbiter.specs.declared.Master.{Master}
use Rattle.arbiter.specs.declared.Master.TheVariants.{Zero, One}
use Rattle.arbiter.specs.declared.Ground.TheVariants.{Sole}
use Rattle.arbiter.specs.declared.Kind.{Kind}
use Rattle.arbiter.specs.declared.Raw.{Raw}
use Rattle.audit.specs.WaitAsSet.{is_within}
use Rattle.sheets.specs.declared.Order.{Order}
use Rattle.sheets.specs.Settings.{order_of, order_events}
use Rattle.sheets.specs.Started.{Outset}
use Rattle.guarantee.specs.Guarantee.{reserve_in, Guaranteed, OrderGuarantees, SheetsGuarantee, GuaranteedWithin, OrderGuaranteesWithin}
use Rattle.guarantee.specs.Guarantee.{SheetsGuaranteeWithin}
use Rattle.arbiter.proofs.Tenure.{run_owned}
use Rattle.audit.proofs.WaitAsSet.{never_beyond, within_self, wait_as_set}
use Rattle.sheets.proofs.Complete.{events_read}
use Rattle.sheets.proofs.Started.{stands_at_power_up}

-- each master has its ordered reserve
pub reserve_set : (k : Kind) (o : Order) (m : Master) → reserve_of m (run k (order_events o)) ≡ reserve_in m o
unfolding run
reserve_set k o Zero = ap (λ (x : Outset). x.master0.reserve) (stands_at_power_up k o)
reserve_set k o One = ap (λ (x : Outset). x.master1.reserve) (stands_at_power_up k o)

-- and no hold runs, for master 0 owns
started_unheld : (k : Kind) (o : Order) → (run k (order_events o)).bus.hold ≡ 0
unfolding run
started_unheld k o = (run_owned k (order_events o) Zero Sole (ap (λ (x : Outset). x.turn) (stands_at_power_up k o))).hold

pub order_guarantees_within : OrderGuaranteesWithin
order_guarantees_within k o m before later most more within nr ns long =
    wait_as_set k m (order_events o) before later most more (ap (is_within most) (reserve_set k o m) ∙ within) (started_unheld k o) nr ns long

pub order_guarantees : OrderGuarantees
order_guarantees k o m before later more some nr ns long =
    let most : ℕ = reserve_in m o in
    order_guarantees_within k o m before later most more (within_self most some) nr (never_beyond most m (before ++ later) (run k (order_events o)) ns) long

-- ---- the bytes of a pair are the events of its order

pub sheets_guarantee : SheetsGuarantee
sheets_guarantee k board house buffer m h =
    subst (λ (rs : List Raw). Guaranteed k rs m (reserve_in m (order_of board house))) (sym (events_read board house buffer h))
    (order_guarantees k (order_of board house) m)

pub sheets_guarantee_within : SheetsGuaranteeWithin
sheets_guarantee_within k board house buffer m h =
    subst (λ (rs : List Raw). GuaranteedWithin k rs m (reserve_in m (order_of board house))) (sym (events_read board house buffer h))
    (order_guarantees_within k (order_of board house) m)
