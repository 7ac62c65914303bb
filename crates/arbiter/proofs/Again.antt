-- Where there is nothing to settle (proofs/Settled.antt), parts 2 to 7 change nothing; so they change nothing after any run.
-- Assumes nothing.
use mathlib.Core.Path.{◌≡◌, refl, sym, ap, ap₂, ◌∙◌}
use mathlib.Core.Bool.{Bool, true, false, not, ◌&&◌, ◌||◌, false≢true, or-false}
use Rattle.arbiter.specs.Types.{ℕ, Master, Zero, One, Turn, Nobody, Claims, Owns, Bus, Switch, Apart, Initialising, Closed}
use Rattle.arbiter.specs.Types.{NoClock, Device}
use Rattle.std.specs.Prelude.{if◌then◌else◌}
use Rattle.arbiter.specs.Words.{same_master}
use Rattle.arbiter.specs.Parts.{with_turn, with_bus}
use Rattle.arbiter.specs.Parts.{with_arb}
use Rattle.arbiter.specs.State.{owns_turn, owns, scl_high, sda_high, is_idle}
use Rattle.arbiter.specs.Order.{busy_after, scl_changed, settled_bus, levels, lost, losses_from, losses, cut_from, cut}
use Rattle.arbiter.specs.Order.{claim, granted, grant_from, grant, switched, joined, clocked, kept_joined}
use Rattle.arbiter.specs.Order.{connect_from, connect}
use Rattle.arbiter.specs.Steps.{run}
use Rattle.arbiter.specs.Audit.{parts_again, AllSettled}
use Rattle.arbiter.proofs.Choice.{either, split, if_true, if_false, turn_owns}
use Rattle.arbiter.proofs.Connected.{serves, asks_on, Served, unserved, all_served}
use Rattle.arbiter.proofs.Settled.{Still, loses, is_due, Claimed, Ready, all_ready}

-- ---- part 2

-- no line has moved, so there is neither START nor STOP
pub busy_stays : (b : Bus) → busy_after false b b ≡ b.busy
busy_stays b = go b.busy (scl_high b) (sda_high b)
  where
    go : (busy scl sda : Bool) → (busy || scl && scl && sda && not sda) && not (scl && scl && not sda && sda) ≡ busy
    go true false sda = refl
    go false false sda = refl
    go true true true = refl
    go true true false = refl
    go false true true = refl
    go false true false = refl

-- and SCL's level has not changed
pub scl_stays : (b : Bus) → scl_changed b b ≡ false
scl_stays b = split (scl_high b) (λ h. simp (h)) (λ h. simp (h))

-- counts that are 0 already are not zeroed
zeroed : (t : Bool) (n : ℕ) → (t ≡ true → n ≡ 0) → (if t then 0 else n) ≡ n
zeroed true n h = sym (h refl)
zeroed false n h = refl

zeroed_else : (t : Bool) (n : ℕ) → (t ≡ false → n ≡ 0) → (if t then n else 0) ≡ n
zeroed_else true n h = refl
zeroed_else false n h = sym (h refl)

-- a still bus is levelled already
pub bus_again : (b : Bus) → Still b → settled_bus b.busy false b ≡ b
bus_again b still =
    λ i. record {
      outscl = b.outscl;
      outsda = b.outsda;
      intin = b.intin;
      drivescl = b.drivescl;
      drivesda = b.drivesda;
      busy = b.busy;
      hold = b.hold;
      idle = zeroed_else (is_idle b) b.idle still.2 i;
      lowscl = zeroed (scl_high b) b.lowscl still.0 i;
      lowsda = zeroed (sda_high b || false) b.lowsda (λ h. still.1 (sym (or-false (sda_high b)) ∙ h)) i;
    }

pub bus_stays : (b : Bus) → Still b → settled_bus (busy_after false b b) (scl_changed b b) b ≡ b
bus_stays b still = ap₂ (λ (busy changed : Bool). settled_bus busy changed b) (busy_stays b) (scl_stays b) ∙ bus_again b still

levels_again : (d : Device) → Still d.bus → levels false d.bus d ≡ d
unfolding levels
levels_again d still = ap (λ (b : Bus). with_bus b d) (bus_stays d.bus still)

-- ---- parts 3 to 7

-- part 3
losses_again : (t : Turn) (d : Device) → loses t d ≡ false → losses_from t d ≡ d
unfolding losses_from
losses_again Nobody d h = refl
losses_again (Claims m g) d h = refl
losses_again (Owns m g) d h = if_false (lost m d) d h

-- part 4, which needs a tick
cut_again : (t : Turn) (d : Device) → cut_from false t d ≡ d
unfolding cut_from
cut_again Nobody d = refl
cut_again (Claims m g) d = refl
cut_again (Owns m g) d = refl

-- part 5
claim_again : (d : Device) → Claimed d → claim d ≡ d
unfolding claim
claim_again d h = ap (λ (t : Turn). with_arb (with_turn t d.arb) d) h

-- part 6
grant_again : (t : Turn) (d : Device) → is_due t d ≡ false → grant_from t d ≡ d
unfolding grant_from
grant_again Nobody d h = refl
grant_again (Claims m g) d h = if_false (granted m g d) d h
grant_again (Owns m g) d h = refl

-- the switch is open where nobody owns and asks
open_again : (d : Device) → Served d → ((j : Master) → owns j d && asks_on j d ≡ false) → switched Apart d ≡ d
open_again d h none = ap (λ (w : Switch). switched w d) (sym (unserved d.arb.switch λ j. h j ∙ none j))

-- where m does not ask, nobody is m and asks
unasked : (j m : Master) (on : Master → Bool) → on m ≡ false → same_master j m && on j ≡ false
unasked Zero Zero on h = h
unasked Zero One on h = refl
unasked One Zero on h = refl
unasked One One on h = h

-- with no clock, a switch that serves m goes on serving it
kept_again : (m : Master) (w : Switch) (d : Device) → serves m w ≡ true → kept_joined NoClock m w d ≡ d
unfolding kept_joined clocked
kept_again m Apart d s = absurd (false≢true s)
kept_again m (Initialising k n) d s = if_true d (joined m d) s
kept_again m (Closed k) d s = if_true d (joined m d) s

-- part 7: the switch serves the owner that asks already, and is open already if there is none
connect_again : (t : Turn) (d : Device) → d.arb.turn ≡ t → Served d → connect_from NoClock t d ≡ d
unfolding connect_from
connect_again Nobody d e h = open_again d h λ j. ap (λ (t : Turn). owns_turn j t && asks_on j d) e
connect_again (Claims m g) d e h = open_again d h λ j. ap (λ (t : Turn). owns_turn j t && asks_on j d) e
connect_again (Owns m g) d e h =
    either (λ (x : Device). x ≡ d) (asks_on m d)
    (λ a. kept_again m d.arb.switch d (h m ∙ ap₂ ◌&&◌ (turn_owns m d.arb.turn e) a))
    (λ a. open_again d h λ j. ap (λ (t : Turn). owns_turn j t && asks_on j d) e ∙ unasked j m (λ j. asks_on j d) a)

-- ---- all of them, one after the other

settles : (d : Device) → Ready d → Served d → parts_again d ≡ d
unfolding losses cut grant connect
settles d ((still, stays), claimed, waits) served =
    ap (λ (x : Device). connect NoClock (grant (claim (cut false (losses x))))) (levels_again d still)
    ∙ ap (λ (x : Device). connect NoClock (grant (claim (cut false x)))) (losses_again d.arb.turn d stays)
    ∙ ap (λ (x : Device). connect NoClock (grant (claim x))) (cut_again d.arb.turn d)
    ∙ ap (λ (x : Device). connect NoClock (grant x)) (claim_again d claimed)
    ∙ ap (λ (x : Device). connect NoClock x) (grant_again d.arb.turn d waits)
    ∙ connect_again d.arb.turn d refl served

pub all_settled : AllSettled
all_settled k rs = settles (run k rs) (all_ready k rs) (all_served k rs)
