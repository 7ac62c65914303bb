-- A record in range comes back from its image, and an image in range from its record.
-- Assumes nothing.
use Prim.Native.Nat.{ℕ, zero, suc, ◌+◌, ◌<◌}
use mathlib.Core.Path.{◌≡◌, sym, ap, ◌∙◌}
use mathlib.Core.Bool.{and-eq-true_iff}
use mathlib.Core.List.{List, [], ◌∷◌}
use native.Mathlib.Omega.{arith}
use lib.Dec.{leb}
use lib.ListN.{length, drop, drop_of_length-le}
use lib.Seq.{drop-cons}
use Rattle.arbiter.specs.Traces.{byte_at}
use Rattle.ranges.specs.Ranges.{pulses}
use Rattle.arbiter.specs.declared.Master.TheVariants.{Zero, One}
use Rattle.arbiter.specs.declared.Device.{Device}
use Rattle.layout.specs.Layout.{registers, counts, shared, part, port, image_length, laid_out, image_of, word_at}
use Rattle.layout.specs.Layout.{kind_in, side_in, bus_in, arb_in, device_in}
use Rattle.layout.specs.Laws.{ReadBack, LaidOutBack}
use Rattle.layout.proofs.Numbers.{register_back, port_back, turn_back, last_back, kind_back, flag_back, switch_back, contr_back, word_back}
use Rattle.layout.proofs.Numbers.{register_same, port_same, turn_same, last_same, kind_same, flag_same, switch_same, contr_same, low_same, high_same}
use Rattle.layout.proofs.Fits.{Fit, fit, image_good, held_pulses}

-- ---- the record from its image, part by part

side0_back : (d : Device) → side_in 0 32 (image_of d) ≡ d.side0
unfolding image_of laid_out side_in
side0_back d =
    let s = d.side0 in
    simp ((contr_back s.contr).0, (flag_back s.mail.full).0, (port_back s.port).0, (register_back s.pointer).0, (flag_back s.auto).0)

side1_back : (d : Device) → side_in 7 35 (image_of d) ≡ d.side1
unfolding image_of laid_out side_in
side1_back d =
    let s = d.side1 in
    simp ((contr_back s.contr).0, (flag_back s.mail.full).0, (port_back s.port).0, (register_back s.pointer).0, (flag_back s.auto).0)

bus_back : (d : Device) → bus_in (image_of d) ≡ d.bus
unfolding image_of laid_out bus_in
bus_back d =
    let b = d.bus in
    simp (
      word_back b.lowscl,
      word_back b.lowsda,
      (flag_back b.outscl).0,
      (flag_back b.outsda).0,
      (flag_back b.intin).0,
      (flag_back b.drivescl).0,
      (flag_back b.drivesda).0,
      (flag_back b.busy).0,
    )

arb_back : (d : Device) → pulses d.arb.switch < 9 → arb_in (image_of d) ≡ d.arb
unfolding image_of laid_out arb_in
arb_back d few =
    let a = d.arb in
    simp ((turn_back a.turn).0, (last_back a.last).0, (switch_back a.switch few).0, (flag_back a.initfail).0)

kind_in_back : (d : Device) → kind_in (image_of d) ≡ d.kind
unfolding image_of laid_out
kind_in_back d = (kind_back d.kind).0

pub read_back : ReadBack
unfolding device_in
read_back d h = simp (kind_in_back d, side0_back d, side1_back d, bus_back d, arb_back d (held_pulses d h))

-- ---- a list is its elements

abbrev each : ℕ → ℕ → List ℕ → List ℕ
each zero k b = []
each (suc n) k b = byte_at k b ∷ each n (suc k) b

each_all : (n k : ℕ) (b : List ℕ) → n + k ≡ length b → each n k b ≡ drop k b
each_all zero k b h = sym (drop_of_length-le b {i = k} (omega arith))
each_all (suc n) k b h =
    let inside : k < length b = omega arith in
    let rest : n + suc k ≡ length b = omega arith in
    ap (λ (l : List ℕ). byte_at k b ∷ l) (each_all n (suc k) b rest) ∙ sym (drop-cons b k 0 inside)

-- ---- the image from its record, group by group

module _ (b : List ℕ) (f : Fit b) where
  registers0_same : laid_out (registers Zero) (device_in b) ≡ each 7 0 b
  unfolding laid_out device_in side_in
  registers0_same =
      let (contr, (_, (_, (_, (_, (_, (full, _))))))) = f.zero in
      simp (contr_same (byte_at 0 b) contr, flag_same (byte_at 6 b) full)

  registers1_same : laid_out (registers One) (device_in b) ≡ each 7 7 b
  unfolding laid_out device_in side_in
  registers1_same =
      let (contr, (_, (_, (_, (_, (_, (full, _))))))) = f.one in
      simp (contr_same (byte_at 7 b) contr, flag_same (byte_at 13 b) full)

  counts_same : laid_out counts (device_in b) ≡ each 7 14 b
  unfolding laid_out device_in bus_in arb_in
  counts_same =
      let (_, (_, (scl, (sda, _)))) = f.counted in
      let low-scl = ((and-eq-true_iff (leb (byte_at 16 b) 255) (leb (word_at 16 b) 500)).0 scl).0 in
      let low-sda = ((and-eq-true_iff (leb (byte_at 18 b) 255) (leb (word_at 18 b) 501)).0 sda).0 in
      simp (
        low_same (byte_at 16 b) (byte_at 17 b) low-scl,
        high_same (byte_at 16 b) (byte_at 17 b) low-scl,
        low_same (byte_at 18 b) (byte_at 19 b) low-sda,
        high_same (byte_at 18 b) (byte_at 19 b) low-sda,
      )

  shared_same : laid_out shared (device_in b) ≡ each 10 21 b
  unfolding laid_out device_in bus_in arb_in
  shared_same =
      let (scl, (sda, (int, (dscl, (dsda, (busy, (turn, (last, (switch, (fail, _)))))))))) = f.common in
      simp (
        flag_same (byte_at 21 b) scl,
        flag_same (byte_at 22 b) sda,
        flag_same (byte_at 23 b) int,
        flag_same (byte_at 24 b) dscl,
        flag_same (byte_at 25 b) dsda,
        flag_same (byte_at 26 b) busy,
        turn_same (byte_at 27 b) turn,
        last_same (byte_at 28 b) last,
        switch_same (byte_at 29 b) switch,
        flag_same (byte_at 30 b) fail,
      )

  part_same : laid_out part (device_in b) ≡ each 1 31 b
  unfolding laid_out device_in
  part_same = simp (kind_same (byte_at 31 b) f.kind.0)

  port0_same : laid_out (port Zero) (device_in b) ≡ each 3 32 b
  unfolding laid_out device_in side_in
  port0_same =
      let (at, (pointer, (auto, _))) = f.port0 in
      simp (port_same (byte_at 32 b) at, register_same (byte_at 33 b) pointer, flag_same (byte_at 34 b) auto)

  port1_same : laid_out (port One) (device_in b) ≡ each 3 35 b
  unfolding laid_out device_in side_in
  port1_same =
      let (at, (pointer, (auto, _))) = f.port1 in
      simp (port_same (byte_at 35 b) at, register_same (byte_at 36 b) pointer, flag_same (byte_at 37 b) auto)

  image_same : length b ≡ image_length → image_of (device_in b) ≡ b
  unfolding image_of
  image_same long =
      simp (registers0_same, registers1_same, counts_same, shared_same, part_same, port0_same, port1_same) (each_all 38 0 b (sym long))

pub laid_out_back : LaidOutBack
laid_out_back b h = image_same b (fit b h) (image_good b h).0
