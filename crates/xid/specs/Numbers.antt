-- Transaction numbers: 32 bits; 0 stands for none, 1 and 2 are never used, and 3 follows the last number.
use Rattle.std.specs.Prelude.{ℕ, ◌+◌, ◌-◌, ◌%◌, Bool, cond, ◌&&◌, ◌==◌, nat_le, nat_lt}

-- how far x lies from `from` on, round the end: (x - from) mod 2^32
abbrev pub distance : ℕ → ℕ → ℕ
distance from x = ((x + 4294967296) - from) % 4294967296

-- the number that lies so far from `from` on
abbrev pub number_at : ℕ → ℕ → ℕ
number_at from d = (from + d) % 4294967296

-- a comes before b: (a - b) mod 2^32 is at least 2^31
abbrev pub precedes : ℕ → ℕ → Bool
precedes a b = nat_le 2147483648 (distance b a)

abbrev pub successor : ℕ → ℕ
successor n = cond (n == 4294967295) 3 (n + 1)

-- x is a number, and lies from `oldest` on before `next`
abbrev pub in_window : ℕ → ℕ → ℕ → Bool
in_window oldest next x = nat_le 3 x && nat_lt x 4294967296 && nat_lt (distance oldest x) (distance oldest next)
