-- The scripts of traces/rules/, each with the answers of its listing, in one table that proofs/Rows.antt proves. It is written from them
-- by the commands of docs/RULES.md, and a test tells when it is stale.
-- Assumes nothing.
use Rattle.std.specs.Prelude.{◌≡◌, List, [], ◌∷◌, map}
use Rattle.arbiter.specs.declared.Kind.TheVariants.{Pca9641, Tpt29641}
use Rattle.arbiter.specs.Marks.{command, write, read, stop, pair, lines, tick, pulse, reset, general_call}
use Rattle.rulebook.specs.Scripts.{Script, part◌does◌, ◌gives◌, ◌ticks◌, found, told}

unfoldable pub rules : List Script
rules =
    -- ask-again
    (part Pca9641 does
    command 0 0x01 gives 0x0000000C ∷ write 0 0x01 gives 0x0000200C ∷ stop 0 gives 0x0000210C ∷ command 1 0x01 gives 0x0000210C
    ∷ write 1 0x01 gives 0x0000210C ∷ stop 1 gives 0x0000210C ∷ command 0 0x01 gives 0x0000210C ∷ write 0 0x00 gives 0x0000220C
    ∷ write 0 0x01 gives 0x0000220C ∷ stop 0 gives 0x0000220C ∷ 5 ticks 0x0000220C ∷ [])
    -- ask-alone
    ∷ (part Pca9641 does
    command 1 0x01 gives 0x0000000C ∷ write 1 0x01 gives 0x0000200C ∷ read 1 gives 0x0001200C ∷ stop 1 gives 0x0000220C
    ∷ command 1 0x01 gives 0x0000220C ∷ read 1 gives 0x0003220C ∷ stop 1 gives 0x0000220C ∷ [])
    -- ask-both
    ∷ (part Pca9641 does
    command 0 0x01 gives 0x0000000C ∷ command 1 0x01 gives 0x0000000C ∷ pair 0x01 0x01 gives 0x0000600C ∷ pair 0x00 0x00 gives 0x0000000C
    ∷ pair 0x81 0x81 gives 0x0000600C ∷ stop 0 gives 0x0000600C ∷ stop 1 gives 0x0000620C ∷ [])
    -- ask-ground-stays
    ∷ (part Pca9641 does
    command 0 0x01 gives 0x0000000C ∷ command 1 0x01 gives 0x0000000C ∷ pair 0x01 0x01 gives 0x0000600C ∷ stop 0 gives 0x0000610C
    ∷ write 1 0x00 gives 0x0000610C ∷ stop 1 gives 0x0000610C ∷ command 0 0x01 gives 0x0000610C ∷ write 0 0x81 gives 0x0000610C
    ∷ write 0 0x00 gives 0x0000000C ∷ stop 0 gives 0x0000000C ∷ [])
    -- ask-last
    ∷ (part Pca9641 does
    command 0 0x01 gives 0x0000000C ∷ write 0 0x01 gives 0x0000200C ∷ stop 0 gives 0x0000210C ∷ command 0 0x01 gives 0x0000210C
    ∷ command 1 0x01 gives 0x0000210C ∷ pair 0x00 0x00 gives 0x0000000C ∷ pair 0x01 0x01 gives 0x0000600C ∷ stop 0 gives 0x0000600C
    ∷ stop 1 gives 0x0000620C ∷ [])
    -- ask-port-open
    ∷ (part Pca9641 does
    command 0 0x01 gives 0x0000000C ∷ write 0 0x01 gives 0x0000200C ∷ command 1 0x01 gives 0x0000200C ∷ write 1 0x81 gives 0x0000200C
    ∷ stop 1 gives 0x0000200C ∷ 10 ticks 0x0000200C ∷ write 0 0x00 gives 0x0000220C ∷ stop 0 gives 0x0000220C ∷ [])
    -- ask-priority
    ∷ (part Pca9641 does
    command 1 0x01 gives 0x0000000C ∷ write 1 0x01 gives 0x0000200C ∷ stop 1 gives 0x0000220C ∷ command 0 0x01 gives 0x0000220C
    ∷ command 1 0x01 gives 0x0000220C ∷ pair 0x00 0x00 gives 0x0000000C ∷ pair 0x01 0x81 gives 0x0000400C ∷ stop 0 gives 0x0000400C
    ∷ stop 1 gives 0x0000420C ∷ [])
    -- bus-connect
    ∷ (part Pca9641 does
    command 0 0x01 gives 0x0000000C ∷ write 0 0x05 gives 0x0000200C ∷ stop 0 gives 0x0000250C ∷ command 1 0x01 gives 0x0000250C
    ∷ write 1 0x05 gives 0x0000250C ∷ stop 1 gives 0x0000250C ∷ 2 ticks 0x0000250C ∷ command 0 0x01 gives 0x0000250C
    ∷ write 0 0x01 gives 0x0000210C ∷ 2 ticks 0x0000210C ∷ write 0 0x00 gives 0x00002A0C ∷ stop 0 gives 0x00002A0C ∷ 2 ticks 0x00002A0C ∷ [])
    -- bus-drives
    ∷ (part Pca9641 does
    command 1 0x02 gives 0x0000000C ∷ write 1 0x00 gives 0x0000000C ∷ stop 1 gives 0x0000000C ∷ command 0 0x01 gives 0x0000000C
    ∷ write 0 0x01 gives 0x0000200C ∷ stop 0 gives 0x0000210C ∷ command 0 0x02 gives 0x0000210C ∷ write 0 0x40 gives 0x00002104
    ∷ 2 ticks 0x00002104 ∷ write 0 0x00 gives 0x00002100 ∷ 2 ticks 0x00002100 ∷ write 0 0x40 gives 0x00002104
    ∷ write 0 0xC0 gives 0x0000210C ∷ write 0 0x00 gives 0x00002100 ∷ command 0 0x01 gives 0x00002100 ∷ write 0 0x05 gives 0x0000250C
    ∷ command 0 0x02 gives 0x0000250C ∷ write 0 0x00 gives 0x0000250C ∷ stop 0 gives 0x0000250C ∷ [])
    -- bus-hung-scl
    ∷ (part Pca9641 does
    command 0 0x05 gives 0x0000000C ∷ write 0 0x3F gives 0x0000000C ∷ stop 0 gives 0x0000000C ∷ lines 0 1 1 gives 0x00000008
    ∷ 499 ticks 0x00000008 ∷ tick gives 0x00000009 ∷ command 0 0x02 gives 0x00000009 ∷ read 0 gives 0x008C0009 ∷ stop 0 gives 0x00000009
    ∷ command 1 0x02 gives 0x00000009 ∷ read 1 gives 0x008C0009 ∷ stop 1 gives 0x00000009 ∷ lines 1 1 1 gives 0x0000000C ∷ [])
    -- bus-hung-sda
    ∷ (part Pca9641 does
    command 0 0x05 gives 0x0000000C ∷ write 0 0x3F gives 0x0000000C ∷ stop 0 gives 0x0000000C ∷ lines 1 0 1 gives 0x00000004
    ∷ 400 ticks 0x00000004 ∷ lines 0 0 1 gives 0x00000000 ∷ lines 1 0 1 gives 0x00000004 ∷ 500 ticks 0x00000004 ∷ tick gives 0x00000005
    ∷ lines 0 0 1 gives 0x00000000 ∷ [])
    -- bus-init-ends
    ∷ (part Pca9641 does
    command 0 0x01 gives 0x0000000C ∷ write 0 0x0D gives 0x0000200C ∷ stop 0 gives 0x0000310C ∷ pulse 0 gives 0x0000310C
    ∷ pulse 0 gives 0x0000310C ∷ pulse 1 gives 0x0000250C ∷ command 0 0x01 gives 0x0000250C ∷ read 0 gives 0x0007250C
    ∷ stop 0 gives 0x0000250C ∷ [])
    -- bus-init-fails
    ∷ (part Pca9641 does
    command 0 0x01 gives 0x0000000C ∷ write 0 0x0D gives 0x0000200C ∷ stop 0 gives 0x0000310C ∷ pulse 0 gives 0x0000310C
    ∷ pulse 0 gives 0x0000310C ∷ pulse 0 gives 0x0000310C ∷ pulse 0 gives 0x0000310C ∷ pulse 0 gives 0x0000310C ∷ pulse 0 gives 0x0000310C
    ∷ pulse 0 gives 0x0000310C ∷ pulse 0 gives 0x0000310C ∷ pulse 0 gives 0x0000210C ∷ command 0 0x81 gives 0x0000210C
    ∷ read 0 gives 0x0003210C ∷ read 0 gives 0x00CA210C ∷ stop 0 gives 0x0000210C ∷ command 1 0x02 gives 0x0000210C
    ∷ read 1 gives 0x00CB210C ∷ stop 1 gives 0x0000210C ∷ [])
    -- bus-init-left
    ∷ (part Pca9641 does
    command 0 0x01 gives 0x0000000C ∷ write 0 0x0D gives 0x0000200C ∷ stop 0 gives 0x0000310C ∷ pulse 0 gives 0x0000310C
    ∷ command 0 0x01 gives 0x0000310C ∷ write 0 0x09 gives 0x0000210C ∷ read 0 gives 0x000B210C ∷ stop 0 gives 0x0000210C
    ∷ pulse 1 gives 0x0400210C ∷ command 0 0x01 gives 0x0000210C ∷ write 0 0x0D gives 0x0000310C ∷ stop 0 gives 0x0000310C
    ∷ pulse 1 gives 0x0000250C ∷ [])
    -- bus-scl-cut
    ∷ (part Pca9641 does
    command 0 0x01 gives 0x0000000C ∷ write 0 0x45 gives 0x0000200C ∷ stop 0 gives 0x0000250C ∷ lines 0 1 1 gives 0x00002508
    ∷ 34 ticks 0x00002508 ∷ 6 ticks 0x00002108 ∷ lines 1 1 1 gives 0x0000210C ∷ command 0 0x01 gives 0x0000210C ∷ read 0 gives 0x0043210C
    ∷ stop 0 gives 0x0000210C ∷ [])
    -- grant-at-stop
    ∷ (part Pca9641 does
    command 0 0x01 gives 0x0000000C ∷ write 0 0x01 gives 0x0000200C ∷ 3 ticks 0x0000200C ∷ stop 0 gives 0x0000210C ∷ 3 ticks 0x0000210C ∷ [])
    -- grant-idle-reserve
    ∷ (part Pca9641 does
    command 0 0x03 gives 0x0000000C ∷ write 0 0x96 gives 0x0000000C ∷ stop 0 gives 0x0000000C ∷ command 0 0x01 gives 0x0000000C
    ∷ write 0 0x21 gives 0x0000200C ∷ stop 0 gives 0x0000210C ∷ 149 ticks 0x0000210C ∷ 11 ticks 0x0000000C ∷ [])
    -- grant-idle-timer
    ∷ (part Pca9641 does
    command 0 0x01 gives 0x0000000C ∷ write 0 0x21 gives 0x0000200C ∷ stop 0 gives 0x0000210C ∷ 60 ticks 0x0000210C
    ∷ lines 1 0 1 gives 0x00002104 ∷ lines 1 1 1 gives 0x0000210C ∷ 100 ticks 0x0000210C ∷ 51 ticks 0x0000000C ∷ [])
    -- grant-idle-timer-tpt29641
    ∷ (part Tpt29641 does
    command 0 0x01 gives 0x0000000C ∷ write 0 0x21 gives 0x0000200C ∷ stop 0 gives 0x0000210C ∷ 60 ticks 0x0000210C
    ∷ lines 1 0 1 gives 0x00002104 ∷ lines 1 1 1 gives 0x0000210C ∷ 150 ticks 0x0000210C ∷ tick gives 0x0000000C ∷ [])
    -- grant-partner-next
    ∷ (part Pca9641 does
    command 0 0x03 gives 0x0000000C ∷ write 0 0x05 gives 0x0000000C ∷ stop 0 gives 0x0000000C ∷ command 0 0x01 gives 0x0000000C
    ∷ write 0 0x01 gives 0x0000200C ∷ stop 0 gives 0x0000210C ∷ command 1 0x83 gives 0x0000210C ∷ write 1 0x03 gives 0x0000210C
    ∷ command 1 0x01 gives 0x0000210C ∷ write 1 0x01 gives 0x0000210C ∷ stop 1 gives 0x0000210C ∷ 4 ticks 0x0000210C ∷ tick gives 0x0000220C
    ∷ command 0 0x01 gives 0x0000220C ∷ write 0 0x01 gives 0x0000220C ∷ 2 ticks 0x0000220C ∷ 2 ticks 0x0000200C ∷ stop 0 gives 0x0000210C ∷ [])
    -- grant-reserve-busy
    ∷ (part Pca9641 does
    command 0 0x03 gives 0x0000000C ∷ write 0 0x02 gives 0x0000000C ∷ stop 0 gives 0x0000000C ∷ command 0 0x01 gives 0x0000000C
    ∷ write 0 0x05 gives 0x0000200C ∷ stop 0 gives 0x0000250C ∷ tick gives 0x0000250C ∷ lines 1 0 1 gives 0x00002504 ∷ 4 ticks 0x00002504
    ∷ lines 1 1 1 gives 0x0000000C ∷ [])
    -- grant-reserve-ends
    ∷ (part Pca9641 does
    command 0 0x03 gives 0x0000000C ∷ write 0 0x05 gives 0x0000000C ∷ stop 0 gives 0x0000000C ∷ command 0 0x01 gives 0x0000000C
    ∷ write 0 0x05 gives 0x0000200C ∷ stop 0 gives 0x0000250C ∷ 4 ticks 0x0000250C ∷ tick gives 0x0000000C ∷ command 0 0x01 gives 0x0000000C
    ∷ read 0 gives 0x0000000C ∷ stop 0 gives 0x0000000C ∷ command 0 0x04 gives 0x0000000C ∷ read 0 gives 0x0006000C
    ∷ stop 0 gives 0x0000000C ∷ [])
    -- grant-rt-00
    ∷ (part Pca9641 does
    command 0 0x01 gives 0x0000000C ∷ write 0 0x01 gives 0x0000200C ∷ stop 0 gives 0x0000210C ∷ command 1 0x01 gives 0x0000210C
    ∷ write 1 0x01 gives 0x0000210C ∷ stop 1 gives 0x0000210C ∷ 300 ticks 0x0000210C ∷ [])
    -- grant-rt-locked
    ∷ (part Pca9641 does
    command 0 0x03 gives 0x0000000C ∷ write 0 0x04 gives 0x0000000C ∷ stop 0 gives 0x0000000C ∷ command 0 0x01 gives 0x0000000C
    ∷ write 0 0x01 gives 0x0000200C ∷ stop 0 gives 0x0000210C ∷ command 0 0x03 gives 0x0000210C ∷ write 0 0xFF gives 0x0000210C
    ∷ read 0 gives 0x0004210C ∷ stop 0 gives 0x0000210C ∷ 3 ticks 0x0000210C ∷ tick gives 0x0000000C ∷ [])
    -- int-clash
    ∷ (part Pca9641 does
    command 1 0x05 gives 0x0000000C ∷ write 1 0x5F gives 0x0000000C ∷ command 0 0x07 gives 0x0000000C ∷ write 0 0x12 gives 0x0000000E
    ∷ command 1 0x07 gives 0x0000000E ∷ read 1 gives 0x0012000E ∷ command 0 0x07 gives 0x0000000E ∷ command 1 0x04 gives 0x0000000E
    ∷ pair 0x34 0x20 gives 0x0000000E ∷ read 1 gives 0x0020000E ∷ stop 0 gives 0x0000000E ∷ stop 1 gives 0x0000000E ∷ [])
    -- int-hung
    ∷ (part Pca9641 does
    command 0 0x05 gives 0x0000000C ∷ write 0 0x3F gives 0x0000000C ∷ stop 0 gives 0x0000000C ∷ lines 0 1 1 gives 0x00000008
    ∷ 499 ticks 0x00000008 ∷ tick gives 0x00000009 ∷ command 0 0x04 gives 0x00000009 ∷ write 0 0x7F gives 0x00000009
    ∷ read 0 gives 0x00400009 ∷ stop 0 gives 0x00000009 ∷ lines 1 1 1 gives 0x0000000C ∷ command 0 0x04 gives 0x0000000C
    ∷ read 0 gives 0x0000000C ∷ stop 0 gives 0x0000000C ∷ [])
    -- int-in
    ∷ (part Pca9641 does
    command 0 0x05 gives 0x0000000C ∷ write 0 0x7E gives 0x0000000C ∷ stop 0 gives 0x0000000C ∷ command 1 0x05 gives 0x0000000C
    ∷ write 1 0x7E gives 0x0000000C ∷ stop 1 gives 0x0000000C ∷ lines 1 1 0 gives 0x0000000F ∷ command 0 0x04 gives 0x0000000F
    ∷ write 0 0x01 gives 0x0000000E ∷ stop 0 gives 0x0000000E ∷ lines 1 1 0 gives 0x0000000E ∷ lines 1 1 1 gives 0x0000000E
    ∷ lines 1 1 0 gives 0x0000000F ∷ [])
    -- int-mask
    ∷ (part Pca9641 does
    command 0 0x01 gives 0x0000000C ∷ write 0 0x01 gives 0x0000200C ∷ stop 0 gives 0x0000210C ∷ command 0 0x05 gives 0x0000210C
    ∷ write 0 0x7B gives 0x0000210D ∷ command 0 0x02 gives 0x0000210D ∷ write 0 0xE0 gives 0x0000210D ∷ command 0 0x04 gives 0x0000210D
    ∷ read 0 gives 0x000C210D ∷ command 0 0x04 gives 0x0000210D ∷ write 0 0x04 gives 0x0000210C ∷ read 0 gives 0x0008210C
    ∷ stop 0 gives 0x0000210C ∷ [])
    -- mail-full
    ∷ (part Pca9641 does
    command 0 0x86 gives 0x0000000C ∷ write 0 0x34 gives 0x0000000C ∷ write 0 0x12 gives 0x0000000C ∷ command 0 0x86 gives 0x0000000C
    ∷ write 0 0x78 gives 0x0000000C ∷ write 0 0x56 gives 0x0000000C ∷ command 1 0x86 gives 0x0000000C ∷ read 1 gives 0x0034000C
    ∷ read 1 gives 0x0012000C ∷ command 0 0x07 gives 0x0000000C ∷ write 0 0x9A gives 0x0000000C ∷ command 1 0x86 gives 0x0000000C
    ∷ read 1 gives 0x0034000C ∷ read 1 gives 0x009A000C ∷ stop 0 gives 0x0000000C ∷ stop 1 gives 0x0000000C ∷ [])
    -- mail-pointer-read
    ∷ (part Pca9641 does
    command 0 0x85 gives 0x0000000C ∷ read 0 gives 0x007F000C ∷ read 0 gives 0x0000000C ∷ read 0 gives 0x0000000C ∷ read 0 gives 0x0038000C
    ∷ read 0 gives 0x0000000C ∷ stop 0 gives 0x0000000C ∷ command 0 0x00 gives 0x0000000C ∷ read 0 gives 0x0038000C
    ∷ read 0 gives 0x0038000C ∷ stop 0 gives 0x0000000C ∷ [])
    -- mail-pointer-write
    ∷ (part Pca9641 does
    command 0 0x86 gives 0x0000000C ∷ write 0 0x34 gives 0x0000000C ∷ write 0 0x12 gives 0x0000000C ∷ write 0 0x00 gives 0x0000000C
    ∷ write 0 0x01 gives 0x0000000C ∷ stop 0 gives 0x0000000C ∷ command 0 0x01 gives 0x0000000C ∷ read 0 gives 0x0000000C
    ∷ stop 0 gives 0x0000000C ∷ [])
    -- mail-pointer-write-tpt29641
    ∷ (part Tpt29641 does
    command 0 0x86 gives 0x0000000C ∷ write 0 0x34 gives 0x0000000C ∷ write 0 0x12 gives 0x0000000C ∷ write 0 0x00 gives 0x0100000C
    ∷ write 0 0x01 gives 0x0000200C ∷ stop 0 gives 0x0000210C ∷ command 0 0x01 gives 0x0000210C ∷ read 0 gives 0x0003210C
    ∷ stop 0 gives 0x0000210C ∷ [])
    -- mail-word
    ∷ (part Pca9641 does
    command 0 0x05 gives 0x0000000C ∷ write 0 0x6F gives 0x0000000C ∷ stop 0 gives 0x0000000C ∷ command 1 0x05 gives 0x0000000C
    ∷ write 1 0x5F gives 0x0000000C ∷ stop 1 gives 0x0000000C ∷ command 0 0x86 gives 0x0000000C ∷ write 0 0x34 gives 0x0000000C
    ∷ write 0 0x12 gives 0x0000000E ∷ stop 0 gives 0x0000000E ∷ command 1 0x86 gives 0x0000000E ∷ read 1 gives 0x0034000E
    ∷ read 1 gives 0x0012000F ∷ stop 1 gives 0x0000000F ∷ command 1 0x86 gives 0x0000000F ∷ read 1 gives 0x0034000F
    ∷ read 1 gives 0x0012000F ∷ stop 1 gives 0x0000000F ∷ [])
    -- reset-ends-hold
    ∷ (part Pca9641 does
    command 0 0x01 gives 0x0000000C ∷ write 0 0x10 gives 0x0000000C ∷ stop 0 gives 0x0000000C ∷ general_call 0 0x06 gives 0x00000008
    ∷ 5 ticks 0x00000008 ∷ reset gives 0x0000000C ∷ command 0 0x01 gives 0x0000000C ∷ write 0 0x10 gives 0x0000000C
    ∷ stop 0 gives 0x0000000C ∷ general_call 0 0x06 gives 0x00000008 ∷ 5 ticks 0x00000008 ∷ general_call 0 0x06 gives 0x0000000C ∷ [])
    -- reset-general-call
    ∷ (part Pca9641 does
    command 0 0x01 gives 0x0000000C ∷ write 0 0x05 gives 0x0000200C ∷ stop 0 gives 0x0000250C ∷ command 1 0x01 gives 0x0000250C
    ∷ write 1 0x01 gives 0x0000250C ∷ stop 1 gives 0x0000250C ∷ general_call 1 0x04 gives 0x0100250C ∷ 2 ticks 0x0000250C
    ∷ general_call 1 0x06 gives 0x0000000C ∷ 2 ticks 0x0000000C ∷ command 1 0x01 gives 0x0000000C ∷ write 1 0x01 gives 0x0000200C
    ∷ stop 1 gives 0x0000220C ∷ [])
    -- reset-hold
    ∷ (part Pca9641 does
    command 0 0x01 gives 0x0000000C ∷ write 0 0x10 gives 0x0000000C ∷ stop 0 gives 0x0000000C ∷ general_call 0 0x06 gives 0x00000008
    ∷ command 1 0x01 gives 0x00000008 ∷ write 1 0x01 gives 0x00002008 ∷ stop 1 gives 0x00002008 ∷ 34 ticks 0x00002008 ∷ 2 ticks 0x0000220C ∷ [])
    -- reset-levels
    ∷ (part Pca9641 does
    lines 1 0 1 gives 0x00000004 ∷ reset gives 0x00000004 ∷ lines 0 0 1 gives 0x00000000 ∷ lines 0 1 1 gives 0x00000008
    ∷ lines 1 1 1 gives 0x0000000C ∷ command 0 0x03 gives 0x0000000C ∷ write 0 0x02 gives 0x0000000C ∷ stop 0 gives 0x0000000C
    ∷ command 0 0x01 gives 0x0000000C ∷ write 0 0x01 gives 0x0000200C ∷ stop 0 gives 0x0000210C ∷ tick gives 0x0000210C
    ∷ tick gives 0x0000000C ∷ [])
    -- reset-pin
    ∷ (part Pca9641 does
    command 0 0x83 gives 0x0000000C ∷ write 0 0x32 gives 0x0000000C ∷ write 0 0x00 gives 0x0000000C ∷ write 0 0x00 gives 0x0000000C
    ∷ command 0 0x01 gives 0x0000000C ∷ write 0 0x05 gives 0x0000200C ∷ stop 0 gives 0x0000250D ∷ command 1 0x01 gives 0x0000250D
    ∷ write 1 0x01 gives 0x0000250D ∷ stop 1 gives 0x0000250D ∷ reset gives 0x0000000C ∷ read 0 gives 0x0038000C ∷ stop 0 gives 0x0000000C
    ∷ command 0 0x85 gives 0x0000000C ∷ read 0 gives 0x007F000C ∷ stop 0 gives 0x0000000C ∷ command 1 0x01 gives 0x0000000C
    ∷ read 1 gives 0x0000000C ∷ stop 1 gives 0x0000000C ∷ [])
    ∷ []

-- what the definitions give every script from power-up of its part is what its listing says
abbrev pub RuleRowsHold : Type 0
RuleRowsHold = map found rules ≡ map told rules
