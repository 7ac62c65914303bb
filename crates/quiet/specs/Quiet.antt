-- Quiet of `quiet`: how many TICKs from a device on change nothing but counts. What that means are the laws at the end.
-- Assumes nothing.
use Rattle.std.specs.Prelude.{ℕ, ◌+◌, ◌-◌, ◌<◌, ◌≤◌, ◌≡◌, Bool, not, ◌&&◌, ◌||◌, eqb, ltb, replicate, if◌then◌else◌}
use Rattle.arbiter.specs.Rules.{idle_limit}
use Rattle.arbiter.specs.Words.{side}
use Rattle.arbiter.specs.State.{scl_high, sda_high, is_idle, scl_hung_limit, sda_hung_limit, bus_hung}
use Rattle.arbiter.specs.Order.{cut_ticks}
use Rattle.arbiter.specs.Steps.{answer, step, run_from}
use Rattle.arbiter.specs.declared.Turn.{Turn}
use Rattle.arbiter.specs.declared.Turn.TheVariants.{Nobody, Claims, Owns}
use Rattle.arbiter.specs.declared.Side.{Side}
use Rattle.arbiter.specs.declared.Bus.{Bus}
use Rattle.arbiter.specs.declared.Device.{Device}
use Rattle.arbiter.specs.declared.Raw.{Raw}
use Rattle.arbitration.specs.Quiet.{no_claim, no_grant}
use Rattle.connection.specs.Quiet.{switch_stays}
use Rattle.quiet.specs.Counts.{least, after_ticks}

-- ---- what each count has left: so many ticks before the one that matters

-- stands for no end in sight
abbrev pub no_end : ℕ
no_end = 65535

-- the tick that ends the hold may let SCL rise, and lets a claimant be granted
abbrev pub hold_left : ℕ → ℕ
hold_left hold = if eqb hold 0 then no_end else hold - 1

-- the tick that makes SCL low for 35 cuts, and the one that makes 500 hangs the bus; past 500 it counts no more
abbrev pub scl_left : Bool → ℕ → ℕ
scl_left high low = if high then no_end else if ltb low cut_ticks then cut_ticks - 1 - low else if ltb low scl_hung_limit then scl_hung_limit - 1 - low else no_end

abbrev pub sda_left : Bool → ℕ → ℕ
sda_left high low = if high then no_end else if ltb low sda_hung_limit then sda_hung_limit - 1 - low else no_end

-- an owner with RT 00h loses at the limit of the idle count, if its idle timer is on
abbrev pub idle_left : ℕ → Bool → ℕ → ℕ
idle_left limit timer idle = if timer then (if ltb idle limit then limit - 1 - idle else 0) else no_end

-- any other loses where its reserve is over on an idle bus: at once if it is 0. Without idle bus nobody loses.
abbrev pub owner_left : ℕ → Side → ℕ → Bus → ℕ
owner_left limit s reserve b =
    if is_idle b then (if eqb s.rt 0 then idle_left limit s.contr.idletimer b.idle else reserve - 1) else no_end

abbrev pub turn_left : Turn → Device → ℕ
turn_left Nobody d = no_end
turn_left (Claims m g) d = no_end
turn_left (Owns m g) d = owner_left (idle_limit d) (side m d) d.arb.reserve d.bus

-- ---- nothing else to settle

-- part 2: a high line's low count is 0, and so is the idle count of a bus that is not idle
abbrev pub is_still : Bus → Bool
is_still b = (not (scl_high b) || eqb b.lowscl 0) && (not (sda_high b) || eqb b.lowsda 0) && (is_idle b || eqb b.idle 0)

-- parts 5 to 7: nothing to claim, to grant or to switch
abbrev pub is_calm : Turn → Device → Bool
is_calm t d = switch_stays t d && no_grant t d && no_claim t d

-- ---- how many

-- the smallest of what each count has left
unfoldable pub counts_left : Device → ℕ
counts_left d =
    let b : Bus = d.bus in
    least (least (hold_left b.hold) (turn_left d.arb.turn d)) (least (scl_left (scl_high b) b.lowscl) (sda_left (sda_high b) b.lowsda))

-- So many TICKs change nothing but counts; none where a TICK has something to settle.
unfoldable pub quiet_ticks : Device → ℕ
quiet_ticks d = if is_still d.bus && is_calm d.arb.turn d then counts_left d else 0

-- ---- the laws, of every device value, reached or not

abbrev pub tick : Raw
tick = record { kind = 6; x = 0; y = 0; z = 0 }

-- Each of them moves the counts on by one, and is answered alike.
abbrev pub Quiet : Type 0
Quiet = (d : Device) (j : ℕ) → j < quiet_ticks d → step (after_ticks j d) tick ≡ record { device = after_ticks (j + 1) d; answer = answer 0 0 d }

-- the device after n TICK events
unfoldable pub ticks : ℕ → Device → Device
ticks n d = run_from d (replicate n tick)

-- So after j of them the counts have moved on by j, and nothing else has changed: nor have the levels and BUS_HUNG.
pub record Same (before after : Device) : Type 0 where
  pub scl : scl_high after.bus ≡ scl_high before.bus
  pub sda : sda_high after.bus ≡ sda_high before.bus
  pub hung : bus_hung after.bus ≡ bus_hung before.bus

abbrev pub QuietTogether : Type 0
QuietTogether = (d : Device) (j : ℕ) → j ≤ quiet_ticks d → (ticks j d ≡ after_ticks j d) × Same d (after_ticks j d)
