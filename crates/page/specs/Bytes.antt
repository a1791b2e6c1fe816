-- Numbers in a list of bytes, the low byte first. Past the end all bytes are 0.
use Rattle.std.specs.Prelude.{ℕ, ◌+◌, ◌*◌, ◌/◌, ◌%◌, List, [], ◌∷◌, slice_index, slice_set}

abbrev pub get16 : List ℕ → ℕ → ℕ
get16 p i = slice_index p i + slice_index p (i + 1) * 256

abbrev pub get32 : List ℕ → ℕ → ℕ
get32 p i = slice_index p i + slice_index p (i + 1) * 256 + slice_index p (i + 2) * 65536 + slice_index p (i + 3) * 16777216

abbrev pub get64 : List ℕ → ℕ → ℕ
get64 p i = get32 p i + get32 p (i + 4) * 4294967296

-- the bytes p with the bytes bs written from place i, as far as they go
abbrev pub put_bytes : List ℕ → ℕ → List ℕ → List ℕ
put_bytes p i [] = p
put_bytes p i (b ∷ bs) = put_bytes (slice_set p i b) (i + 1) bs

-- the bytes with v written at place i, as far as they go
abbrev pub put16 : List ℕ → ℕ → ℕ → List ℕ
put16 p i v = slice_set (slice_set p i (v % 256)) (i + 1) (v / 256 % 256)

abbrev pub put32 : List ℕ → ℕ → ℕ → List ℕ
put32 p i v = slice_set (slice_set (slice_set (slice_set p i (v % 256)) (i + 1) (v / 256 % 256)) (i + 2) (v / 65536 % 256)) (i + 3) (v / 16777216 % 256)
