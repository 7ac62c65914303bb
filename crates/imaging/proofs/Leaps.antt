-- An advance on the image itself: the bytes that a jump moves, those in which two images differ, and the image after the ticks so far.
-- Assumes nothing.
use Prim.Native.Nat.{ℕ, ◌+◌, ◌-◌, ◌<◌, ◌≤◌}
use mathlib.Core.Path.{◌≡◌, refl, sym, ap, ap₂, subst, ◌∙◌}
use mathlib.Core.Bool.{Bool, true, false, ◌&&◌, and-eq-true_iff}
use mathlib.Core.List.{List, ◌++◌}
use native.Mathlib.Omega.{arith}
use lib.Dec.{eqb}
use lib.ListN.{length, take, drop, length-drop}
use lib.Seq.{get_or-take, get_or-drop, take-length, length-take-le}
use Rattle.arbiter.specs.Words.{worth}
use Rattle.arbiter.specs.Registers.{control_of}
use Rattle.arbiter.specs.Effects.{register_at}
use Rattle.arbiter.specs.Steps.{step, run_from}
use Rattle.arbiter.specs.Traces.{byte_at, kind_of}
use Rattle.arbiter.specs.declared.Device.{Device}
use Rattle.arbiter.proofs.Choice.{if_true}
use Rattle.ranges.specs.Ranges.{in_range}
use Rattle.ranges.proofs.Ranges.{stays_in_range}
use Rattle.layout.specs.Numbers.{port_of, last_of, turn_of, switch_of}
use Rattle.layout.specs.Layout.{counts, image_length, laid_out, image_of, side_in, bus_in, arb_in, device_in}
use Rattle.layout.specs.Images.{is_image, image_after}
use Rattle.layout.proofs.Fits.{record_fits, image_fits}
use Rattle.layout.proofs.Back.{read_back, laid_out_back}
use Rattle.quiet.specs.Counts.{with_counts, after_ticks}
use Rattle.quiet.specs.Quiet.{quiet_ticks, tick, ticks}
use Rattle.quiet.proofs.Ticks.{quiet_together}
use Rattle.advance.specs.Changes.{same_but_counts, changes, bare}
use Rattle.advance.specs.Advance.{changing}
use Rattle.advance.proofs.Agree.{bare_eq}
use Rattle.advance.proofs.Compared.{bare_same}
use Rattle.advance.proofs.Onward.{ticks_more, changing_more, changing_quiet}
use Rattle.imaging.proofs.OnImages.{ticks_in_range}

-- ---- a jump: the counts in their place, and the other bytes as they were

counts_in_place : (j : ℕ) (d : Device) → take 14 (image_of d) ++ (laid_out counts (after_ticks j d) ++ drop 7 (drop 14 (image_of d)))
    ≡ image_of (after_ticks j d)
unfolding image_of laid_out after_ticks with_counts
counts_in_place j d = refl

pub jumped : (b : List ℕ) (j : ℕ) → is_image b ≡ true
    → take 14 b ++ (laid_out counts (after_ticks j (device_in b)) ++ drop 7 (drop 14 b)) ≡ image_of (after_ticks j (device_in b))
jumped b j h =
    ap (λ (l : List ℕ). take 14 l ++ (laid_out counts (after_ticks j (device_in b)) ++ drop 7 (drop 14 l))) (sym (laid_out_back b h))
    ∙ counts_in_place j (device_in b)

seven : (d : Device) → length (laid_out counts d) ≡ 7
unfolding laid_out
seven d = refl

-- the counts fill their place
pub counts_fill : (b a : List ℕ) (d : Device) → length b ≡ image_length → a ≡ laid_out counts d → length (take 7 (drop 14 b)) ≡ length a
counts_fill b a d long made =
    let rest : length (drop 14 b) ≡ length b - 14 = length-drop 14 b in
    length-take-le 7 (drop 14 b) (omega (arith, rest, long)) ∙ sym (ap length made ∙ seven d)

-- ---- two images, in the bytes beside the counts

low_byte : (b c : List ℕ) → take 14 c ≡ take 14 b → (k : ℕ) → k < 14 → byte_at k c ≡ byte_at k b
low_byte b c e k h = sym (get_or-take 14 c k 0 h) ∙ ap (byte_at k) e ∙ get_or-take 14 b k 0 h

high_byte : (b c : List ℕ) → drop 21 c ≡ drop 21 b → (k : ℕ) → byte_at (21 + k) c ≡ byte_at (21 + k) b
high_byte b c e k = sym (get_or-drop 21 c k 0) ∙ ap (byte_at k) e ∙ get_or-drop 21 b k 0

bytes_bare : (b c : List ℕ) → take 14 c ≡ take 14 b → drop 21 c ≡ drop 21 b → bare (device_in c) ≡ bare (device_in b)
unfolding device_in side_in bus_in arb_in with_counts
bytes_bare b c e f =
    let l : (k : ℕ) → k < 14 → byte_at k c ≡ byte_at k b = low_byte b c e in
    let h : (k : ℕ) → byte_at (21 + k) c ≡ byte_at (21 + k) b = high_byte b c f in
    λ i. record {
      kind = kind_of (h 10 i);
      side0 = record {
        contr = control_of (l 0 (omega arith) i);
        rt = l 1 (omega arith) i;
        ints = l 2 (omega arith) i;
        mask = l 3 (omega arith) i;
        mail = record { low = l 4 (omega arith) i; high = l 5 (omega arith) i; full = eqb (l 6 (omega arith) i) 1 };
        port = port_of (h 11 i);
        pointer = register_at (h 12 i);
        auto = eqb (h 13 i) 1;
      };
      side1 = record {
        contr = control_of (l 7 (omega arith) i);
        rt = l 8 (omega arith) i;
        ints = l 9 (omega arith) i;
        mask = l 10 (omega arith) i;
        mail = record { low = l 11 (omega arith) i; high = l 12 (omega arith) i; full = eqb (l 13 (omega arith) i) 1 };
        port = port_of (h 14 i);
        pointer = register_at (h 15 i);
        auto = eqb (h 16 i) 1;
      };
      bus = record {
        outscl = eqb (h 0 i) 1;
        outsda = eqb (h 1 i) 1;
        intin = eqb (h 2 i) 1;
        drivescl = eqb (h 3 i) 1;
        drivesda = eqb (h 4 i) 1;
        busy = eqb (h 5 i) 1;
        hold = 0;
        idle = 0;
        lowscl = 0;
        lowsda = 0;
      };
      arb = record {
        turn = turn_of (h 6 i);
        last = last_of (h 7 i);
        switch = switch_of (h 8 i);
        initfail = eqb (h 9 i) 1;
        reserve = 0;
      };
    }

bare_laid : (d e : Device) → bare e ≡ bare d → (take 14 (image_of e) ≡ take 14 (image_of d)) × (drop 21 (image_of e) ≡ drop 21 (image_of d))
unfolding image_of laid_out with_counts
bare_laid d e p = (ap (λ (x : Device). take 14 (image_of x)) p, ap (λ (x : Device). drop 21 (image_of x)) p)

bare_bytes : (b c : List ℕ) → is_image b ≡ true → is_image c ≡ true → bare (device_in c) ≡ bare (device_in b)
    → (take 14 c ≡ take 14 b) × (drop 21 c ≡ drop 21 b)
bare_bytes b c hb hc p =
    let two = bare_laid (device_in b) (device_in c) p in
    let from = sym (laid_out_back c hc) in
    let to = laid_out_back b hb in
    (ap (take 14) from ∙ two.0 ∙ ap (take 14) to, ap (drop 21) from ∙ two.1 ∙ ap (drop 21) to)

both_ways : (p q : Bool) → (p ≡ true → q ≡ true) → (q ≡ true → p ≡ true) → p ≡ q
both_ways true q f g = sym (f refl)
both_ways false true f g = g refl
both_ways false false f g = refl

abbrev pub Tells : Bool → List ℕ → List ℕ → Type 0
Tells r a b = (r ≡ true → a ≡ b) × (a ≡ b → r ≡ true)

-- a part of a list to its end is what is left without its front
to_end : (l : List ℕ) → take (length l - 21) (drop 21 l) ≡ drop 21 l
to_end l = ap (λ (n : ℕ). take n (drop 21 l)) (sym (length-drop 21 l)) ∙ take-length (drop 21 l)

told_to_end : (b c : List ℕ) (rest : Bool) → Tells rest (take (length b - 21) (drop 21 b)) (take (length c - 21) (drop 21 c))
    → Tells rest (drop 21 b) (drop 21 c)
told_to_end b c rest r = (λ t. sym (to_end b) ∙ r.0 t ∙ to_end c, λ e. r.1 (to_end b ∙ e ∙ sym (to_end c)))

pub alike : (b c : List ℕ) (first rest : Bool) → is_image b ≡ true → is_image c ≡ true → Tells first (take 14 b) (take 14 c)
    → Tells rest (take (length b - 21) (drop 21 b)) (take (length c - 21) (drop 21 c)) → first && rest ≡ same_but_counts (device_in b) (device_in c)
alike b c first rest hb hc f ends =
    let r = told_to_end b c rest ends in
    both_ways (first && rest) (same_but_counts (device_in b) (device_in c))
    (λ t.
    let two = (and-eq-true_iff first rest).0 t in
    bare_same (device_in b) (device_in c) (bytes_bare b c (sym (f.0 two.0)) (sym (r.0 two.1))))
    (λ t.
    let two = bare_bytes b c hb hc (bare_eq (device_in b) (device_in c) t) in
    ap₂ ◌&&◌ (f.1 (sym two.0)) (r.1 (sym two.1)))

-- ---- one tick

pub tick_leaves : (b : List ℕ) → is_image b ≡ true → image_after b tick ≡ image_of (step (device_in b) tick).device
unfolding image_after
tick_leaves b h = if_true _ _ h

pub tick_stays : (b : List ℕ) → is_image b ≡ true → is_image (image_of (step (device_in b) tick).device) ≡ true
tick_stays b h = record_fits (step (device_in b) tick).device (stays_in_range (device_in b) tick refl (image_fits b h))

pub tick_back : (b : List ℕ) → is_image b ≡ true → device_in (image_of (step (device_in b) tick).device) ≡ (step (device_in b) tick).device
tick_back b h = read_back (step (device_in b) tick).device (stays_in_range (device_in b) tick refl (image_fits b h))

-- ---- the image after k ticks

pub at_start : (b : List ℕ) (n : ℕ) → is_image b ≡ true → (b ≡ image_of (ticks (n - n) (device_in b))) × (0 ≡ changing (n - n) (device_in b))
unfolding ticks run_from changing
at_start b n h =
    let none : 0 ≡ n - n = omega arith in
    (sym (laid_out_back b h) ∙ ap (λ (k : ℕ). image_of (ticks k (device_in b))) none, ap (λ (k : ℕ). changing k (device_in b)) none)

pub so_far_image : (d : Device) (k : ℕ) (b : List ℕ) → in_range d ≡ true → b ≡ image_of (ticks k d) → is_image b ≡ true
so_far_image d k b fits e = subst (λ (l : List ℕ). is_image l ≡ true) (sym e) (record_fits (ticks k d) (ticks_in_range k d fits))

so_far_device : (d : Device) (k : ℕ) (b : List ℕ) → in_range d ≡ true → b ≡ image_of (ticks k d) → device_in b ≡ ticks k d
so_far_device d k b fits e = ap device_in e ∙ read_back (ticks k d) (ticks_in_range k d fits)

one_more : (d : Device) (k : ℕ) → (step (ticks k d) tick).device ≡ ticks (k + 1) d
unfolding ticks run_from
one_more d k = sym (ticks_more k 1 d)

one_told : (d : Device) (k : ℕ) → changing k d + worth 1 (changes (ticks k d) (step (ticks k d) tick).device) ≡ changing (k + 1) d
unfolding changing
one_told d k =
    let one : ℕ = worth 1 (changes (ticks k d) (step (ticks k d) tick).device) in
    let none : changing k d + one ≡ changing k d + (one + 0) = omega arith in
    none ∙ sym (changing_more k 1 d)

-- A tick that is taken, of an image that is the one after k ticks.
pub ticked : (d : Device) (k : ℕ) (b c : List ℕ) (told one : ℕ) → in_range d ≡ true → b ≡ image_of (ticks k d) → told ≡ changing k d
    → one ≡ worth 1 (changes (device_in b) (step (device_in b) tick).device) → c ≡ image_of (step (device_in b) tick).device
    → (c ≡ image_of (ticks (k + 1) d)) × (told + one ≡ changing (k + 1) d)
ticked d k b c told one fits at so now left =
    let here = so_far_device d k b fits at in (
      left ∙ ap (λ (x : Device). image_of (step x tick).device) here ∙ ap image_of (one_more d k),
      ap₂ ◌+◌ so (now ∙ ap (λ (x : Device). worth 1 (changes x (step x tick).device)) here) ∙ one_told d k,
    )

-- And a jump over j quiet ones.
pub leapt : (d : Device) (k j : ℕ) (b c : List ℕ) → in_range d ≡ true → b ≡ image_of (ticks k d) → j ≤ quiet_ticks (device_in b)
    → c ≡ image_of (after_ticks j (device_in b)) → (c ≡ image_of (ticks (k + j) d)) × (changing k d ≡ changing (k + j) d)
leapt d k j b c fits at few left =
    let here = so_far_device d k b fits at in
    let quiet = subst (λ (x : Device). j ≤ quiet_ticks x) here few in
    let none : changing j (ticks k d) ≡ 0 = changing_quiet j (ticks k d) quiet in
    let same : changing k d + changing j (ticks k d) ≡ changing k d = omega arith in (
      left ∙ ap (λ (x : Device). image_of (after_ticks j x)) here
          ∙ ap image_of (sym (quiet_together (ticks k d) j quiet).0 ∙ sym (ticks_more k j d)),
      sym same ∙ sym (changing_more k j d),
    )
