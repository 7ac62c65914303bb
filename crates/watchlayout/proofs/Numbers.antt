-- Numbers of four and of eight bytes come back from their bytes; the bytes are bytes where the number fits, and the number fits where they are.
-- Assumes nothing.
use Prim.Native.Nat.{ℕ, zero, suc, ◌+◌, ◌*◌, ◌/◌, ◌%◌, ◌≤◌, ◌<◌}
use mathlib.Core.Path.{◌≡◌, refl, ap₂}
use mathlib.Core.Bool.{true, ◌&&◌, and-eq-true_iff}
use mathlib.Core.List.{List, [], ◌∷◌, ◌++◌}
use native.Mathlib.Omega.{arith}
use lib.Dec.{leb}
use borrow.Author.Tests.{leb-true, le-leb}
use Rattle.arbiter.specs.Events.{master}
use Rattle.arbiter.specs.Traces.{byte_at}
use Rattle.arbiter.specs.declared.Master.{Master}
use Rattle.arbiter.specs.declared.Master.TheVariants.{Zero, One}
use Rattle.capture.specs.Events.{master_byte}
use Rattle.capture.specs.declared.Awaited.{Awaited}
use Rattle.capture.specs.declared.Awaited.TheVariants.{NoByte, AddressByte, CommandByte, WriteByte, ReadByte, CallByte, SkippedByte}
use Rattle.layout.proofs.Numbers.{word_back}
use Rattle.watch.specs.Stream.{top}
use Rattle.watchlayout.specs.Numbers.{double_bytes, long_bytes, awaited_number, awaited_of}
use Rattle.watchlayout.specs.Places.{bytes_fit}

-- ---- there and back

pub awaited_back : (a : Awaited) → (awaited_of (awaited_number a) ≡ a) × (leb (awaited_number a) 6 ≡ true)
unfolding awaited_number
awaited_back NoByte = (refl, refl)
awaited_back AddressByte = (refl, refl)
awaited_back CommandByte = (refl, refl)
awaited_back WriteByte = (refl, refl)
awaited_back ReadByte = (refl, refl)
awaited_back CallByte = (refl, refl)
awaited_back SkippedByte = (refl, refl)

pub master_back : (m : Master) → (master (master_byte m) ≡ m) × (leb (master_byte m) 1 ≡ true)
master_back Zero = (refl, refl)
master_back One = (refl, refl)

-- a number of four bytes from them, and one of eight
abbrev from_word : ℕ → ℕ
from_word n = n % 256 + 256 * (n / 256)

abbrev from_double : ℕ → ℕ
from_double n = from_word (n % 65536) + 65536 * from_word (n / 65536)

abbrev from_long : ℕ → ℕ
from_long n = from_double (n % 4294967296) + 4294967296 * from_double (n / 4294967296)

pub double_back : (n : ℕ) → from_double n ≡ n
double_back n =
    let low : from_word (n % 65536) ≡ n % 65536 = word_back (n % 65536) in
    let high : from_word (n / 65536) ≡ n / 65536 = word_back (n / 65536) in
    omega arith

pub long_back : (n : ℕ) → from_long n ≡ n
long_back n =
    let low : from_double (n % 4294967296) ≡ n % 4294967296 = double_back (n % 4294967296) in
    let high : from_double (n / 4294967296) ≡ n / 4294967296 = double_back (n / 4294967296) in
    let whole : n % 4294967296 + 4294967296 * (n / 4294967296) ≡ n = omega arith in
    joined (from_double (n % 4294967296)) (from_double (n / 4294967296)) (n % 4294967296) (n / 4294967296) n low high whole
  where
    joined : (a b c d n : ℕ) → a ≡ c → b ≡ d → c + 4294967296 * d ≡ n → a + 4294967296 * b ≡ n
    joined a b c d n p q h = omega arith

-- ---- bytes

-- all numbers of a list are bytes
abbrev pub Small : List ℕ → Type 0
Small [] = Unit {0}
Small (x ∷ xs) = (x ≤ 255) × Small xs

pub small_append : (p q : List ℕ) → Small p → Small q → Small (p ++ q)
small_append [] q h g = g
small_append (x ∷ p) q h g = (h.0, small_append p q h.1 g)

pub double_small : (n : ℕ) → n < 4294967296 → Small (double_bytes n)
double_small n h = (omega arith, (omega arith, (omega arith, (omega arith, tt))))

pub long_small : (n : ℕ) → n ≤ top → Small (long_bytes n)
unfolding top
long_small n h =
    small_append (double_bytes (n % 4294967296)) (double_bytes (n / 4294967296)) (double_small (n % 4294967296) (omega arith))
    (double_small (n / 4294967296) (omega arith))

-- numbers of eight bytes, one after the other
abbrev pub longs : List ℕ → List ℕ
longs [] = []
longs (n ∷ ns) = long_bytes n ++ longs ns

abbrev pub Low : List ℕ → Type 0
Low [] = Unit {0}
Low (n ∷ ns) = (n ≤ top) × Low ns

pub longs_small : (ns : List ℕ) → Low ns → Small (longs ns)
longs_small [] h = tt
longs_small (n ∷ ns) h = small_append (long_bytes n) (longs ns) (long_small n h.0) (longs_small ns h.1)

-- so many bytes of a buffer, one by one
abbrev pub each : ℕ → ℕ → List ℕ → List ℕ
each zero at b = []
each (suc n) at b = byte_at at b ∷ each n (suc at) b

pub small_fits : (n at : ℕ) (b : List ℕ) → Small (each n at b) → bytes_fit at n b ≡ true
unfolding bytes_fit
small_fits zero at b h = refl
small_fits (suc n) at b h = ap₂ ◌&&◌ (le-leb (byte_at at b) 255 h.0) (small_fits n (suc at) b h.1)

pub fits_small : (n at : ℕ) (b : List ℕ) → bytes_fit at n b ≡ true → Small (each n at b)
unfolding bytes_fit
fits_small zero at b h = tt
fits_small (suc n) at b h =
    let two = (and-eq-true_iff (leb (byte_at at b) 255) (bytes_fit (suc at) n b)).0 h in
    (leb-true (byte_at at b) 255 two.0, fits_small n (suc at) b two.1)

-- what four bytes from `at` on say, and what eight
abbrev pub double_of : ℕ → ℕ → ℕ → ℕ → ℕ
double_of a b c d = a + 256 * b + 65536 * (c + 256 * d)

small_double : (a b c d : ℕ) → a ≤ 255 → b ≤ 255 → c ≤ 255 → d ≤ 255 → double_of a b c d < 4294967296
small_double a b c d ha hb hc hd = omega arith

below : (x y : ℕ) → x < 4294967296 → y < 4294967296 → x + 4294967296 * y ≤ top
unfolding top
below x y p q = omega arith

abbrev pub after4 : ℕ → ℕ
after4 n = suc (suc (suc (suc n)))

abbrev pub double_from : ℕ → List ℕ → ℕ
double_from at b = double_of (byte_at at b) (byte_at (suc at) b) (byte_at (suc (suc at)) b) (byte_at (suc (suc (suc at))) b)

-- the first four of some bytes, and the others
pub double_fits : (n at : ℕ) (b : List ℕ) → Small (each (after4 n) at b) → (double_from at b < 4294967296) × Small (each n (after4 at) b)
double_fits n at b s = let (h0, (h1, (h2, (h3, more)))) = s in (small_double _ _ _ _ h0 h1 h2 h3, more)

-- the first eight, and the others
pub long_fits : (n at : ℕ) (b : List ℕ) → Small (each (after4 (after4 n)) at b)
    → (double_from at b + 4294967296 * double_from (after4 at) b ≤ top) × Small (each n (after4 (after4 at)) b)
long_fits n at b s =
    let low = double_fits (after4 n) at b s in
    let high = double_fits n (after4 at) b low.1 in
    (below (double_from at b) (double_from (after4 at) b) low.0 high.0, high.1)
