-- Laws of numbers, codes and sources, as the contracts of `laws` state them.
use Rattle.std.specs.Prelude.{◌≡◌, ℕ, ◌+◌, ◌<◌, ◌≤◌, true, false, cond, ◌⊎◌, Decides, ◌==◌, ◌≢◌, nat_lt}
use Rattle.xid.specs.declared.statuses.Status.{Status}
use Rattle.xid.specs.declared.statuses.Status.TheVariants.{Open}
use Rattle.xid.specs.Numbers.{distance, precedes, successor, in_window}
use Rattle.xid.specs.Statuses.{code_of, status_of}
use Rattle.xid.specs.Meaning.{Meaning, forgettable}
use Rattle.xid.specs.Line.{number_on, full_number}

abbrev pub CodesReadBack : Type 0
CodesReadBack = (s : Status) → status_of (code_of s) ≡ s

-- Counted on from o, the successor is one further, and four further at the end, where 0, 1 and 2 are passed over.
abbrev pub SuccessorIsNext : Type 0
SuccessorIsNext = (o n : ℕ) → 3 ≤ o → o < 4294967296 → n < 4294967296 → distance o n < 2147483648
    → distance o (successor n) ≡ distance o n + cond (n == 4294967295) 4 1

-- Inside a window of 2^31 the order is that of the distances from its start, wherever the numbers come round.
abbrev pub OrderInWindow : Type 0
OrderInWindow = (o a b : ℕ) → o < 4294967296 → a < 4294967296 → b < 4294967296 → distance o a < 2147483648 → distance o b < 2147483648
    → precedes a b ≡ nat_lt (distance o a) (distance o b)

-- Two numbers precede each other only if they lie 2^31 apart.
abbrev pub NotBothBefore : Type 0
NotBothBefore = (a b : ℕ) → a < 4294967296 → b < 4294967296 → precedes a b ≡ true → precedes b a ≡ true → distance a b ≡ 2147483648

-- Along the line each number is followed by its successor, and the earlier of two places under 2^31 apart precedes the later one, and not the other way round.
pub record LineIsOrdered : Type 0 where
  pub follows : (p : ℕ) → successor (number_on p) ≡ number_on (p + 1)
  pub before : (p q : ℕ) → p < q → full_number q < full_number p + 2147483648 → precedes (number_on p) (number_on q) ≡ true
  pub not_after : (p q : ℕ) → p ≤ q → full_number q < full_number p + 2147483648 → precedes (number_on q) (number_on p) ≡ false

-- Forget accepts c if it is in the window or next, and no number with a smaller distance from the oldest is open; and nothing else.
abbrev pub ForgetRule : Type 0
ForgetRule = (m : Meaning) (c : ℕ) → m.oldest < 4294967296 → Decides (forgettable m c)
    (((in_window m.oldest m.next c ≡ true) ⊎ (c ≡ m.next))
    × ((x : ℕ) → x < 4294967296 → distance m.oldest x < distance m.oldest c → m.status x ≢ Open))
