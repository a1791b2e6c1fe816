-- Numbers as places on an endless line.
use Rattle.std.proofs.Common.{◌≡◌, ℕ, ◌+◌, ◌*◌, ◌/◌, ◌<◌, ◌≤◌, true, false, arith}
use Rattle.std.proofs.lemmas.Bool.{le-leb, lt-leb}
use Rattle.std.proofs.lemmas.Bool.Decides.{nat_tests}
use Rattle.xid.specs.Numbers.{distance, precedes, successor}
use Rattle.xid.specs.Line.{number_on, full_number}
use Rattle.xid.specs.Laws.{LineIsOrdered}

pub number_on_low : (p : ℕ) → 3 ≤ number_on p
number_on_low p = omega arith

pub number_on_high : (p : ℕ) → number_on p < 4294967296
number_on_high p = omega arith

pub number_on_next : (p : ℕ) → successor (number_on p) ≡ number_on (p + 1)
number_on_next p = grind (arith, nat_tests)

pub full_number_less : (p q : ℕ) → p < q → full_number p < full_number q
unfolding full_number
full_number_less p q h = omega arith

pub full_number_most : (p q : ℕ) → p ≤ q → full_number p ≤ full_number q
unfolding full_number
full_number_most p q h = omega arith

-- of numbers with k and l laps before them, that are less than a round apart
distance_laps : (a b k l : ℕ) → a < 4294967296 → b < 4294967296 → b + 4294967296 * l ≤ a + 4294967296 * k
    → a + 4294967296 * k < b + 4294967296 * l + 4294967296 → b + 4294967296 * l + distance b a ≡ a + 4294967296 * k
distance_laps a b k l ah bh up near = omega arith

pub distance_full : (p q : ℕ) → p ≤ q → full_number q < full_number p + 4294967296 → full_number p + distance (number_on p) (number_on q) ≡ full_number q
unfolding full_number
distance_full p q h k = distance_laps (number_on q) (number_on p) (q / 4294967293) (p / 4294967293) (number_on_high q) (number_on_high p) (full_number_most p q h) k

distance_round : (a b : ℕ) → 0 < distance a b → a < 4294967296 → b < 4294967296 → distance b a + distance a b ≡ 4294967296
distance_round a b h ah bh = omega arith

pub line_before : (p q : ℕ) → p < q → full_number q < full_number p + 2147483648 → precedes (number_on p) (number_on q) ≡ true
line_before p q h k =
    let m = full_number_less p q h in
    let a : full_number p + distance (number_on p) (number_on q) ≡ full_number q = distance_full p q (omega arith) (omega arith) in
    let b = distance_round (number_on p) (number_on q) (omega arith) (number_on_high p) (number_on_high q) in
    le-leb 2147483648 (distance (number_on q) (number_on p)) (omega arith)

pub line_not_after : (p q : ℕ) → p ≤ q → full_number q < full_number p + 2147483648 → precedes (number_on q) (number_on p) ≡ false
line_not_after p q h k =
    let a : full_number p + distance (number_on p) (number_on q) ≡ full_number q = distance_full p q h (omega arith) in
    lt-leb 2147483648 (distance (number_on p) (number_on q)) (omega arith)

pub line_is_ordered : LineIsOrdered
line_is_ordered = record { follows = number_on_next; before = line_before; not_after = line_not_after }
