-- Two-bit codes in bytes.
use Rattle.std.specs.Prelude.{ℕ, ◌+◌, ◌*◌, ◌/◌, ◌%◌, ◌^◌, List, length, slice_index, slice_set}

-- the code from bit 2k of a byte, and the byte with that code replaced
abbrev pub code_in : ℕ → ℕ → ℕ
code_in byte k = byte / 2 ^ (2 * k) % 4

abbrev pub with_code : ℕ → ℕ → ℕ → ℕ
with_code byte k code = byte / 2 ^ (2 * k + 2) * 2 ^ (2 * k + 2) + code * 2 ^ (2 * k) + byte % 2 ^ (2 * k)

-- the number x lies in byte (x div 4) mod length, from bit 2 * (x mod 4)
abbrev pub code_at : List ℕ → ℕ → ℕ
code_at memory x = code_in (slice_index memory (x / 4 % length memory)) (x % 4)

abbrev pub put_code : List ℕ → ℕ → ℕ → List ℕ
put_code memory x code = slice_set memory (x / 4 % length memory) (with_code (slice_index memory (x / 4 % length memory)) (x % 4) code)
