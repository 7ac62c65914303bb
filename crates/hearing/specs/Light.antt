-- Light of `hearing`: samples that the code takes the short way, still ones, which show nothing on either bus, and light ones, which bring at
-- most a bit to a byte in hand. proofs/Light.antt proves that both short ways end where the long one does.
-- Assumes nothing.
use Rattle.std.specs.Prelude.{ℕ, Bool, not, ◌&&◌, ◌||◌, eqb, ltb, if◌then◌else◌, None}
use Rattle.arbiter.specs.Words.{bit}
use Rattle.arbiter.specs.declared.Master.TheVariants.{Zero, One}
use Rattle.capture.specs.declared.Levels.{Levels}
use Rattle.capture.specs.declared.Listener.{Listener}
use Rattle.capture.specs.declared.Both.{Both}
use Rattle.capture.specs.declared.Heard.{Heard}
use Rattle.capture.specs.OneBus.{levels, rises, is_outside, shifted}

-- the sample before again, or both SCL low
unfoldable pub is_still : ℕ → ℕ → Bool
is_still before now = eqb before now || (not (bit 0 now) && not (bit 2 now))

-- START or STOP
unfoldable pub is_marked : Levels → Levels → Bool
is_marked was now = was.scl && now.scl && ((was.sda && not now.sda) || (not was.sda && now.sda))

-- the next clock brings a bit to a byte in hand
unfoldable pub has_room : Listener → Bool
has_room l = not (is_outside l.awaited) && ltb l.clocks 8

-- no clock but the first eight of a byte, and neither START nor STOP
unfoldable pub is_light : Levels → Levels → Listener → Bool
is_light was now l = if rises was now then has_room l else not (is_marked was now)

unfoldable pub are_light : ℕ → ℕ → Both → Bool
are_light before now s = is_light (levels Zero before) (levels Zero now) s.bus0 && is_light (levels One before) (levels One now) s.bus1

-- the bit, where there is one
unfoldable pub lightly : Levels → Levels → Listener → Listener
lightly was now l = if rises was now then shifted now.sda l else l

unfoldable pub both_lightly : ℕ → ℕ → Both → Both
both_lightly before now s =
    record {
      bus0 = lightly (levels Zero before) (levels Zero now) s.bus0;
      bus1 = lightly (levels One before) (levels One now) s.bus1;
    }

abbrev pub unheard : Both → Heard
unheard s = record { both = s; given0 = None; given1 = None }
