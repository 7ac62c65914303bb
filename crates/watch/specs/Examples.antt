-- Short streams, and what is found in them: READs that differ, faults, and the events' bytes. They show the order inside one sample, when a TICK is due, what the
-- first sample gives, and that listening goes on after a fault. They are of bus 0 at address 70h, with bus 1 idle. proofs/Examples.antt proves the table whole.
-- Assumes nothing.
use Rattle.std.specs.Prelude.{◌≡◌, ◌+◌, ◌∷◌, ◌++◌}
use Rattle.arbiter.specs.declared.Kind.TheVariants.{Pca9641}
use Rattle.capture.specs.Events.{event_bytes}
use Rattle.capture.specs.Examples.{idle, clock, byte, byte_with, start, start_again, stop, command}
use Rattle.watch.specs.Names.{ℕ, Bool, true, false, List, [], map, Settings, Check, Watcher}
use Rattle.watch.specs.Stream.{watched, events_in, beginning}

-- ---- settings, and samples with the bus below

abbrev pub settings : ℕ → Bool → Settings
settings every below = record { address = 0x70; every = every; below = below }

-- the three lines below, 70h being all of them high
abbrev pub over : ℕ → List ℕ → List ℕ
over lines samples = map (λ (x : ℕ). lines + x) samples

-- ---- a row

pub record Row : Type 0 where
  pub found : List ℕ
  pub wanted : List ℕ

abbrev pub fresh : ℕ → Bool → Watcher
fresh every below = beginning Pca9641 (settings every below)

-- READs that differ, faults, and the events' bytes
abbrev pub told : ℕ → Bool → List ℕ → List ℕ
told every below samples =
    (watched samples (fresh every below)).tally.differences ∷ (watched samples (fresh every below)).tally.faults
    ∷ event_bytes (events_in samples (fresh every below))

abbrev pub first_told : Check → List ℕ
first_told k = k.sample ∷ k.heard ∷ k.expected ∷ []

unfoldable pub examples : List Row
examples =
    -- so many samples after the first one are a TICK, and again as many; with 0 there are none
    record { found = told 2 false (idle ∷ idle ∷ idle ∷ idle ∷ idle ∷ []); wanted = 0 ∷ 0 ∷ 6 ∷ 0 ∷ 0 ∷ 0 ∷ 6 ∷ 0 ∷ 0 ∷ 0 ∷ [] }
    ∷ record { found = told 1 false (idle ∷ idle ∷ idle ∷ []); wanted = 0 ∷ 0 ∷ 6 ∷ 0 ∷ 0 ∷ 0 ∷ 6 ∷ 0 ∷ 0 ∷ 0 ∷ [] }
    ∷ record { found = told 0 false (idle ∷ idle ∷ idle ∷ []); wanted = 0 ∷ 0 ∷ [] }
    -- SCL below falls and rises; without the setting nothing below is heard
    ∷ record { found = told 0 true (0x7F ∷ 0x6F ∷ 0x6F ∷ 0x7F ∷ []); wanted = 0 ∷ 0 ∷ 5 ∷ 0 ∷ 1 ∷ 1 ∷ 5 ∷ 1 ∷ 1 ∷ 1 ∷ [] }
    ∷ record { found = told 0 false (0x7F ∷ 0x6F ∷ 0x6F ∷ 0x7F ∷ []); wanted = 0 ∷ 0 ∷ [] }
    -- the first sample is held against three high lines: SDA is low in the one, INT_IN in the other
    ∷ record { found = told 0 true (0x5F ∷ []); wanted = 0 ∷ 0 ∷ 5 ∷ 1 ∷ 0 ∷ 1 ∷ [] }
    ∷ record { found = told 0 true (0x3F ∷ []); wanted = 0 ∷ 0 ∷ 5 ∷ 1 ∷ 1 ∷ 0 ∷ [] }
    -- all in one sample, the fortieth after the first: LINES, then the STOP, then the TICK
    ∷ record {
      found = told 40 true (over 0x70 (idle ∷ (command ++ 0x0C ∷ 0x0D ∷ [])) ++ over 0x60 (0x0F ∷ []));
      wanted = 0 ∷ 0 ∷ 0 ∷ 0 ∷ 1 ∷ 0 ∷ 5 ∷ 0 ∷ 1 ∷ 1 ∷ 3 ∷ 0 ∷ 0 ∷ 0 ∷ 6 ∷ 0 ∷ 0 ∷ 0 ∷ [];
    }
    -- a START inside a byte is a fault, and the transfer that it begins is heard
    ∷ record {
      found = told 0 false (idle ∷ (start ++ byte 0xE0 ++ clock true ++ clock true ++ start_again ++ byte 0xE0 ++ byte 0x01 ++ stop));
      wanted = 0 ∷ 1 ∷ 0 ∷ 0 ∷ 1 ∷ 0 ∷ 3 ∷ 0 ∷ 0 ∷ 0 ∷ [];
    }
    -- a READ of ID, which is 38h: it agrees; with another byte it differs, and is told with its sample
    ∷ record {
      found = told 0 false (idle ∷ (start ++ byte 0xE1 ++ byte_with true 0x38 ++ stop));
      wanted = 0 ∷ 0 ∷ 2 ∷ 0 ∷ 0 ∷ 0 ∷ 3 ∷ 0 ∷ 0 ∷ 0 ∷ [];
    }
    ∷ record {
      found = told 0 false (idle ∷ (start ++ byte 0xE1 ++ byte_with true 0x39 ++ stop));
      wanted = 1 ∷ 0 ∷ 2 ∷ 0 ∷ 0 ∷ 0 ∷ 3 ∷ 0 ∷ 0 ∷ 0 ∷ [];
    }
    ∷ record {
      found = first_told (watched (idle ∷ (start ++ byte 0xE1 ++ byte_with true 0x39 ++ stop)) (fresh 0 false)).tally.first;
      wanted = 37 ∷ 0x39 ∷ 0x38 ∷ [];
    }
    ∷ []

abbrev pub found : Row → List ℕ
found r = r.found

abbrev pub wanted : Row → List ℕ
wanted r = r.wanted

abbrev pub ExamplesHold : Type 0
ExamplesHold = map found examples ≡ map wanted examples
