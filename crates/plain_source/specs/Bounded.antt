-- What the plain source keeps.
use Rattle.std.specs.Prelude.{ℕ, ◌<◌, ◌≤◌, List, slice_index_or}
use Rattle.xid.specs.declared.statuses.Status.{Status}
use Rattle.xid.specs.declared.statuses.Status.TheVariants.{Unknown}
use Rattle.xid.specs.Numbers.{distance}
use Rattle.xid.specs.Meaning.{Known}

-- the status at the place of a number, which is its distance from the oldest
abbrev pub stored_at : List Status → ℕ → ℕ → Status
stored_at statuses oldest x = slice_index_or statuses (distance oldest x) Unknown

-- numbers of at least 3, and a window whose numbers have a status and a place: the last number can come round, four further on
pub record Bounded (oldest next : ℕ) (stored : ℕ → Status) : Type 0 where
  pub oldest_low : 3 ≤ oldest
  pub oldest_high : oldest < 4294967296
  pub next_low : 3 ≤ next
  pub next_high : next < 4294967296
  pub known : Known oldest next stored
  pub near : distance oldest next ≤ 11
