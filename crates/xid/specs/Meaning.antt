-- What a status source means, and what each call answers and makes of it.
use Rattle.std.specs.Prelude.{◌≡◌, ℕ, zero, suc, ◌<◌, ◌≤◌, Bool, true, false, cond, not, ◌&&◌, ◌||◌, Ok, Err, Result, ◌==◌}
use Rattle.xid.specs.declared.statuses.Status.{Status}
use Rattle.xid.specs.declared.statuses.Status.TheVariants.{Open, Unknown}
use Rattle.xid.specs.declared.statuses.End.{End}
use Rattle.xid.specs.declared.source.TurnedDown.{TurnedDown}
use Rattle.xid.specs.declared.source.TurnedDown.TheVariants.{Full, NotOpen, NotForgettable}
use Rattle.xid.specs.declared.window.Window.{Window}
use Rattle.xid.specs.Numbers.{distance, number_at, successor, in_window}
use Rattle.xid.specs.Statuses.{end_status, is_open, is_known}

-- The oldest and the next number, whether the source is full, and the status of each number: unknown outside the window.
pub record Meaning : Type 0 where
  pub oldest : ℕ
  pub next : ℕ
  pub full : Bool
  pub status : ℕ → Status

-- the numbers from the oldest on before the next
abbrev pub window_of : Meaning → Window
window_of m = record { oldest = m.oldest; next = m.next }

-- What every source keeps: numbers of at least 3, a status for each number of the window and for no other, and the three laws
-- short (the window is under 2^31), empty (nothing in the window: not full) and long (2,000,000,000 or more: full).
pub record Lawful (m : Meaning) : Type 0 where
  pub oldest_low : 3 ≤ m.oldest
  pub oldest_high : m.oldest < 4294967296
  pub next_low : 3 ≤ m.next
  pub next_high : m.next < 4294967296
  pub inside : (x : ℕ) → in_window m.oldest m.next x ≡ true → is_known (m.status x) ≡ true
  pub outside : (x : ℕ) → in_window m.oldest m.next x ≡ false → m.status x ≡ Unknown
  pub short : distance m.oldest m.next < 2147483648
  pub empty : m.oldest ≡ m.next → m.full ≡ false
  pub long : 2000000000 ≤ distance m.oldest m.next → m.full ≡ true

-- each number of the window has a status
abbrev pub Known : ℕ → ℕ → (ℕ → Status) → Type 0
Known oldest next stored = (x : ℕ) → in_window oldest next x ≡ true → is_known (stored x) ≡ true

-- A status for each number of the window, where `stored` has one for every number, and unknown outside.
abbrev pub windowed : ℕ → ℕ → (ℕ → Status) → ℕ → Status
windowed oldest next stored x = cond (in_window oldest next x) (stored x) Unknown

abbrev pub meaning_by : ℕ → ℕ → Bool → (ℕ → Status) → Meaning
meaning_by oldest next full stored = record { oldest = oldest; next = next; full = full; status = windowed oldest next stored }

-- the statuses, with another one for x
abbrev pub with_status : (ℕ → Status) → ℕ → Status → ℕ → Status
with_status status x s y = cond (y == x) s (status y)

-- In what follows f says whether the source is full afterwards, which the laws alone bind.

-- open: turned down exactly if the source is full; else the next number is open, and the one after it is next
abbrev pub open_answer : Meaning → Result ℕ TurnedDown
open_answer m = cond m.full (Err Full) (Ok m.next)

abbrev pub after_open : Meaning → Bool → Meaning
after_open m f = cond m.full m
    (record { oldest = m.oldest; next = successor m.next; full = f; status = with_status m.status m.next Open })

-- close: turned down exactly if x is not open; else x has that end
abbrev pub close_answer : Meaning → ℕ → Result (Unit {0}) TurnedDown
close_answer m x = cond (is_open (m.status x)) (Ok tt) (Err NotOpen)

abbrev pub after_close : Meaning → ℕ → End → Bool → Meaning
after_close m x e f = cond (is_open (m.status x))
    (record { oldest = m.oldest; next = m.next; full = f; status = with_status m.status x (end_status e) }) m

-- none of the d numbers from `oldest` on is open
abbrev pub none_open : (ℕ → Status) → ℕ → ℕ → Bool
none_open status oldest zero = true
none_open status oldest (suc d) = not (is_open (status (number_at oldest d))) && none_open status oldest d

-- c is in the window or next, and no open number lies before it
abbrev pub forgettable_by : ℕ → ℕ → (ℕ → Status) → ℕ → Bool
forgettable_by oldest next status c = (in_window oldest next c || c == next) && none_open status oldest (distance oldest c)

abbrev pub forgettable : Meaning → ℕ → Bool
forgettable m c = forgettable_by m.oldest m.next m.status c

-- forget: turned down exactly if c is not forgettable; else c is the oldest, and the numbers before it are not known
abbrev pub forget_answer : Meaning → ℕ → Result (Unit {0}) TurnedDown
forget_answer m c = cond (forgettable m c) (Ok tt) (Err NotForgettable)

abbrev pub after_forget : Meaning → ℕ → Bool → Meaning
after_forget m c f = cond (forgettable m c)
    (meaning_by c m.next f m.status) m
