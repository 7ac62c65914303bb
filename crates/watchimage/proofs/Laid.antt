-- A listener's parts, written one after the other, are the listener laid out.
-- Assumes nothing.
use Prim.Native.Nat.{ℕ, ◌+◌, ◌≤◌}
use mathlib.Core.Path.{◌≡◌, sym, ap, ap₂, ◌∙◌}
use mathlib.Core.List.{List, ◌++◌, append_assoc}
use native.Mathlib.Omega.{arith}
use lib.ListN.{length, drop, length-append}
use Rattle.layout.specs.Layout.{image_of}
use Rattle.layout.proofs.Fits.{whole}
use Rattle.watch.specs.declared.Tally.{Tally}
use Rattle.watch.specs.declared.Watcher.{Watcher}
use Rattle.watchlayout.specs.Numbers.{long_bytes}
use Rattle.watchlayout.specs.Places.{watch_length, settings_bytes, ear_bytes, check_bytes, laid}
use Rattle.watchimage.specs.Parts.{with_part, count_bytes, read_bytes}
use Rattle.watchimage.proofs.Parts.{joined, all_of}

-- the counts, and the buffer after each of them
pub counts_put : (t : Tally) (b b1 b2 b3 b4 b5 b6 : List ℕ) → length b ≡ watch_length → b1 ≡ with_part 58 (long_bytes t.samples) b
    → b2 ≡ with_part 66 (long_bytes t.events) b1 → b3 ≡ with_part 74 (long_bytes t.reads) b2 → b4 ≡ with_part 82 (long_bytes t.differences) b3
    → b5 ≡ with_part 90 (long_bytes t.faults) b4 → b6 ≡ with_part 98 (long_bytes t.fault) b5 → b6 ≡ with_part 58 (count_bytes t) b
counts_put t b b1 b2 b3 b4 b5 b6 h e1 e2 e3 e4 e5 e6 =
    let one : List ℕ = long_bytes t.samples in
    let two : List ℕ = long_bytes t.events in
    let three : List ℕ = long_bytes t.reads in
    let four : List ℕ = long_bytes t.differences in
    let five : List ℕ = long_bytes t.faults in
    let six : List ℕ = long_bytes t.fault in
    let fits : 106 ≤ length b = omega arith in
    let d2 : b2 ≡ with_part 58 (one ++ two) b = e2 ∙ ap (λ (l : List ℕ). with_part 66 two l) e1 ∙ joined 58 one two b (omega arith) in
    let d3 : b3 ≡ with_part 58 ((one ++ two) ++ three) b = e3 ∙ ap (λ (l : List ℕ). with_part 74 three l) d2 ∙ joined 58 (one ++ two) three b (omega arith) in
    let d4 : b4 ≡ with_part 58 (((one ++ two) ++ three) ++ four) b = e4 ∙ ap (λ (l : List ℕ). with_part 82 four l) d3
    ∙ joined 58 ((one ++ two) ++ three) four b (omega arith) in
    let d5 : b5 ≡ with_part 58 ((((one ++ two) ++ three) ++ four) ++ five) b = e5 ∙ ap (λ (l : List ℕ). with_part 90 five l) d4
    ∙ joined 58 (((one ++ two) ++ three) ++ four) five b (omega arith) in
    e6 ∙ ap (λ (l : List ℕ). with_part 98 six l) d5 ∙ joined 58 ((((one ++ two) ++ three) ++ four) ++ five) six b (omega arith)

-- the three READs
pub reads_put : (t : Tally) (b b1 b2 b3 : List ℕ) → length b ≡ watch_length → b1 ≡ with_part 106 (check_bytes t.first) b
    → b2 ≡ with_part 118 (check_bytes t.read0) b1 → b3 ≡ with_part 130 (check_bytes t.read1) b2 → b3 ≡ with_part 106 (read_bytes t) b
reads_put t b b1 b2 b3 h e1 e2 e3 =
    let one : List ℕ = check_bytes t.first in
    let two : List ℕ = check_bytes t.read0 in
    let three : List ℕ = check_bytes t.read1 in
    let fits : 142 ≤ length b = omega arith in
    let d2 : b2 ≡ with_part 106 (one ++ two) b = e2 ∙ ap (λ (l : List ℕ). with_part 118 two l) e1 ∙ joined 106 one two b (omega arith) in
    e3 ∙ ap (λ (l : List ℕ). with_part 130 three l) d2 ∙ joined 106 (one ++ two) three b (omega arith)

-- a part after those at the front
next : (at : ℕ) (p q b : List ℕ) → length p ≡ at → at + length q ≤ length b → with_part at q (with_part 0 p b) ≡ with_part 0 (p ++ q) b
next at p q b long fits =
    let here : at ≡ 0 + length p = omega arith in
    ap (λ (n : ℕ). with_part n q (with_part 0 p b)) here ∙ joined 0 p q b (omega arith)

-- the image of the device first
all_laid : (w : Watcher) (b : List ℕ) → length b ≡ watch_length
    → with_part 106 (read_bytes w.tally) (with_part 58 (count_bytes w.tally) (with_part 44 (ear_bytes w.ear) (with_part 38 (settings_bytes w.settings)
    (with_part 0 (image_of w.device) b)))) ≡ laid w
unfolding laid
all_laid w b h =
    let image : List ℕ = image_of w.device in
    let settings : List ℕ = settings_bytes w.settings in
    let ear : List ℕ = ear_bytes w.ear in
    let counts : List ℕ = count_bytes w.tally in
    let reads : List ℕ = read_bytes w.tally in
    let first : length image ≡ 38 = whole w.device in
    let two : length (image ++ settings) ≡ 44 = length-append image settings ∙ ap (λ (n : ℕ). n + 6) first in
    let three : length ((image ++ settings) ++ ear) ≡ 58 = length-append (image ++ settings) ear ∙ ap (λ (n : ℕ). n + 14) two in
    let four : length (((image ++ settings) ++ ear) ++ counts) ≡ 106 = length-append ((image ++ settings) ++ ear) counts ∙ ap (λ (n : ℕ). n + 48) three in
    let five : length ((((image ++ settings) ++ ear) ++ counts) ++ reads) ≡ 142 = length-append (((image ++ settings) ++ ear) ++ counts) reads
    ∙ ap (λ (n : ℕ). n + 36) four in
    ap (λ (l : List ℕ). with_part 106 reads (with_part 58 counts (with_part 44 ear l))) (next 38 image settings b first (omega arith))
    ∙ ap (λ (l : List ℕ). with_part 106 reads (with_part 58 counts l)) (next 44 (image ++ settings) ear b two (omega arith))
    ∙ ap (λ (l : List ℕ). with_part 106 reads l) (next 58 ((image ++ settings) ++ ear) counts b three (omega arith))
    ∙ next 106 (((image ++ settings) ++ ear) ++ counts) reads b four (omega arith)
    ∙ all_of ((((image ++ settings) ++ ear) ++ counts) ++ reads) b (five ∙ sym h)
    ∙ simp append_assoc

-- and the buffer after each part
pub all_put : (w : Watcher) (b image b1 b2 b3 b4 : List ℕ) → length b ≡ watch_length → image ≡ image_of w.device
    → b1 ≡ with_part 38 (settings_bytes w.settings) (image ++ drop 38 b) → b2 ≡ with_part 44 (ear_bytes w.ear) b1
    → b3 ≡ with_part 58 (count_bytes w.tally) b2 → b4 ≡ with_part 106 (read_bytes w.tally) b3 → b4 ≡ laid w
all_put w b image b1 b2 b3 b4 h e0 e1 e2 e3 e4 =
    let settings : List ℕ = settings_bytes w.settings in
    let ear : List ℕ = ear_bytes w.ear in
    let counts : List ℕ = count_bytes w.tally in
    let reads : List ℕ = read_bytes w.tally in
    let long : 38 ≡ 0 + length (image_of w.device) = omega (arith, whole w.device) in
    let d0 : image ++ drop 38 b ≡ with_part 0 (image_of w.device) b = ap₂ (λ (l : List ℕ) (n : ℕ). l ++ drop n b) e0 long in
    let d1 : b1 ≡ with_part 38 settings (with_part 0 (image_of w.device) b) = e1 ∙ ap (λ (l : List ℕ). with_part 38 settings l) d0 in
    e4 ∙ ap (λ (l : List ℕ). with_part 106 reads l) (e3 ∙ ap (λ (l : List ℕ). with_part 58 counts l) (e2 ∙ ap (λ (l : List ℕ). with_part 44 ear l) d1))
    ∙ all_laid w b h
