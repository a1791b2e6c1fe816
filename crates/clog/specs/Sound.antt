-- What two-bit pages keep: which memory fits, and what it holds for the numbers of a window.
use Rattle.std.specs.Prelude.{◌≡◌, ℕ, ◌+◌, ◌*◌, ◌<◌, ◌≤◌, Bool, true, cond, ◌&&◌, List, length, ◌==◌, count_ones, nat_le}
use Rattle.xid.specs.declared.statuses.Status.{Status}
use Rattle.xid.specs.Numbers.{distance}
use Rattle.xid.specs.Statuses.{status_of}
use Rattle.xid.specs.Meaning.{Known}
use Rattle.clog.specs.Codes.{code_at}

-- 16 to 16,384 bytes, a power of two: one bit of the size is set
abbrev pub fitting_size : ℕ → Bool
fitting_size size = nat_le 16 size && nat_le size 16384 && count_ones size == 1

-- the status in the slot of a number, whether it lies in the window or not
abbrev pub stored_in : List ℕ → ℕ → Status
stored_in memory x = status_of (code_at memory x)

-- full when the next number lies 4 * length or more from the oldest
abbrev pub full_at : List ℕ → ℕ → ℕ → Bool
full_at memory oldest next = nat_le (4 * length memory) (distance oldest next)

-- What pages keep: a memory that fits, numbers of at least 3, and a window whose numbers have a status and a slot each. The next
-- number lies up to three further on where it has just come round to 3.
pub record Sound (memory : List ℕ) (oldest next : ℕ) : Type 0 where
  pub size : fitting_size (length memory) ≡ true
  pub oldest_low : 3 ≤ oldest
  pub oldest_high : oldest < 4294967296
  pub next_low : 3 ≤ next
  pub next_high : next < 4294967296
  pub known : Known oldest next (stored_in memory)
  pub held : distance oldest next ≤ 4 * length memory + cond (next == 3) 3 0
