-- Request #110 for C and Rust: the row of a shelf as one lent buffer of bytes. Its records stand one after the other, each its address and
-- then the image of its device (request #108).
-- Assumes nothing.
use Rattle.std.specs.Prelude.{ℕ, zero, suc, ◌/◌, ◌%◌, Bool, true, ◌&&◌, List, [], ◌∷◌, ◌++◌, eqb, length, take, drop, if◌then◌else◌}
use Rattle.arbiter.specs.Traces.{byte_at}
use Rattle.layout.specs.Layout.{image_length, image_of, device_in}
use Rattle.layout.specs.Images.{is_image}
use Rattle.shelf.specs.declared.Record.{Record}

-- a byte for the address, and 38 for the image
abbrev pub record_bytes : ℕ
record_bytes = 39

abbrev pub record_count : List ℕ → ℕ
record_count b = length b / record_bytes

-- ---- a row laid out

abbrev pub bytes_of_record : Record → List ℕ
bytes_of_record c = c.address ∷ image_of c.device

unfoldable pub bytes_of_row : List Record → List ℕ
bytes_of_row [] = []
bytes_of_row (c ∷ row) = bytes_of_record c ++ bytes_of_row row

-- ---- a row read back

-- the image of the first record of these bytes, and the record
abbrev pub image_in : List ℕ → List ℕ
image_in b = take image_length (drop 1 b)

abbrev pub record_in : List ℕ → Record
record_in b = record { address = byte_at 0 b; device = device_in (image_in b) }

-- the first n records of these bytes
unfoldable pub records_to : ℕ → List ℕ → List Record
records_to zero b = []
records_to (suc n) b = record_in b ∷ records_to n (drop record_bytes b)

unfoldable pub records_in : List ℕ → List Record
records_in b = records_to (record_count b) b

-- ---- the refusals of a buffer: 9 for a length that is no multiple of 39, then 16 for an image with a field outside its range, in whichever
-- record. An empty buffer is an empty row.

unfoldable pub images_fit : ℕ → List ℕ → Bool
images_fit zero b = true
images_fit (suc n) b = is_image (image_in b) && images_fit n (drop record_bytes b)

unfoldable pub row_number : List ℕ → ℕ
row_number b = if eqb (length b % record_bytes) 0 then (if images_fit (record_count b) b then 0 else 16) else 9

-- the buffer holds a row
abbrev pub is_row : List ℕ → Bool
is_row b = eqb (row_number b) 0
