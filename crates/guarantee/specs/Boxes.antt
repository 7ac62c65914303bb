-- The boxes that do not last: the priority and idle boxes of a sheet live in CONTR, and a controller has to write CONTR again to connect. That byte
-- takes both boxes' place. proofs/Boxes.antt proves it.
-- Assumes nothing.
use Rattle.std.specs.Prelude.{ℕ, ◌+◌, ◌-◌, ◌≡◌, Bool, true, false, ◌&&◌, List, ◌++◌, eqb}
use Rattle.arbiter.specs.Rules.{limit_of}
use Rattle.arbiter.specs.Words.{bit, partner, of}
use Rattle.arbiter.specs.State.{owns}
use Rattle.arbiter.specs.Steps.{run_from, run}
use Rattle.arbiter.specs.AuditWords.{next, requests, is_contr, accepted, reset, never, throughout}
use Rattle.arbiter.specs.Marks.{tick, times}
use Rattle.arbiter.specs.Witnesses.{sets_contr}
use Rattle.arbiter.specs.declared.Master.{Master}
use Rattle.arbiter.specs.declared.Kind.{Kind}
use Rattle.arbiter.specs.declared.Device.{Device}
use Rattle.arbiter.specs.declared.Raw.{Raw}
use Rattle.arbiter.specs.declared.Event.{Event}
use Rattle.audit.specs.SettingsKept.{bits_of, writes_at, byte_by, writes_to_contr}
use Rattle.sheets.specs.declared.Setting.{Setting}
use Rattle.sheets.specs.declared.Order.{Order}
use Rattle.sheets.specs.Settings.{control_byte, order_events}
use Rattle.guarantee.specs.Guarantee.{reserve_in}

abbrev pub setting_in : Master → Order → Setting
setting_in m o = of m o.master0 o.master1

-- ---- every order, every run after it

-- r is m's byte v in CONTR
abbrev pub is_contr_byte : Master → ℕ → Raw → Device → Bool
is_contr_byte m v r d = accepted (λ (e : Event) (x : Device). writes_at is_contr m e x && eqb (byte_by m e) v) r d

-- PRIORITY and IDLE_TIMER_DIS are as the boxes say until m's next byte in CONTR. That byte decides anew, whatever the boxes say.
abbrev pub BoxesOverwritten : Type 0
BoxesOverwritten =
    (k : Kind) (o : Order) (m : Master) (later : List Raw) → let start : Device = run k (order_events o) in
    let d : Device = run_from start later in
    never reset start later ≡ true → never (writes_to_contr m) start later ≡ true
    → (bits_of m d ≡ ((setting_in m o).priority, false, (setting_in m o).idle, false))
    × ((r : Raw) (v : ℕ) → is_contr_byte m v r d ≡ true → bits_of m (next d r) ≡ (bit 7 v, bit 6 v, bit 5 v, bit 4 v))

-- The byte that connects and keeps the boxes: that of the order, and BUS_CONNECT.
abbrev pub keeping_byte : Setting → ℕ
keeping_byte s = control_byte s + 0x04

abbrev pub BoxesKept : Type 0
BoxesKept =
    (m : Master) (s : Setting) (r : Raw) (d : Device) → is_contr_byte m (keeping_byte s) r d ≡ true
    → bits_of m (next d r) ≡ (s.priority, false, s.idle, false)

-- ---- what it comes to, for a reserve of 0

-- After the start m's partner withdraws and asks again, so that m owns and the partner waits; and m connects with such a byte.
abbrev pub connects_with : Kind → Order → Master → ℕ → Device
connects_with k o m v =
    run_from (run k (order_events o)) (sets_contr (partner m) 0x00 ++ sets_contr (partner m) 0x01 ++ sets_contr m v)

-- With 05h, which has no idle bit, the partner waits however many ticks come, also where the idle box is ticked 1.
abbrev pub IdleBoxDropped : Type 0
IdleBoxDropped =
    (k : Kind) (o : Order) (m : Master) (n : ℕ) → reserve_in m o ≡ 0
    → throughout (λ (x : Device). owns m x && requests (partner m) x) (connects_with k o m 0x05) (times n tick) ≡ true

-- With 25h, which has it, the partner owns at the tick that makes the part's idle limit, and not one tick earlier.
abbrev pub IdleBoxKept : Type 0
IdleBoxKept =
    (k : Kind) (o : Order) (m : Master) → reserve_in m o ≡ 0
    → (owns (partner m) (run_from (connects_with k o m 0x25) (times (limit_of k) tick)) ≡ true)
    × (owns m (run_from (connects_with k o m 0x25) (times (limit_of k - 1) tick)) ≡ true)
