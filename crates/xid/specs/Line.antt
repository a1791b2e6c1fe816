-- All numbers in the order in which they are given out, lap after lap, as places 0, 1, 2 .. of an endless line.
use Rattle.std.specs.Prelude.{ℕ, ◌+◌, ◌*◌, ◌/◌, ◌%◌}

-- the number at a place: a lap has the 2^32 - 3 numbers from 3 on
abbrev pub number_on : ℕ → ℕ
number_on p = 3 + p % 4294967293

-- the same with its lap in front, so that it never comes round
unfoldable pub full_number : ℕ → ℕ
full_number p = number_on p + 4294967296 * (p / 4294967293)
