-- Snapshots, and what is running for one; the horizon.
use Rattle.std.specs.Prelude.{◌≡◌, ℕ, ◌<◌, Bool, cond, not, ◌&&◌, ◌||◌, List, [], ◌∷◌, is_some, Some, None, filter, Option, nat_lt}
use Rattle.std.specs.List.{best_of, prefix_len, AllByRecursion}
use Rattle.xid.specs.Numbers.{distance, precedes, in_window}
use Rattle.xid.specs.Meaning.{Meaning}
use Rattle.snapshot.specs.declared.snapshots.Snapshot.{Snapshot}
use Rattle.snapshot.specs.Lists.{numbers_of, is_listed}

pub record SnapshotData : Type 0 where
  pub xmin : ℕ
  pub xmax : ℕ
  pub listed : List ℕ

-- x lies nearer than y, from o on
abbrev pub nearer : ℕ → ℕ → ℕ → Bool
nearer o x y = nat_lt (distance o x) (distance o y)

-- the nearest of n and xs
abbrev pub nearest : ℕ → ℕ → List ℕ → ℕ
nearest o n xs = best_of (nearer o) n xs

-- Of the active numbers those in the window are listed; xmin is the nearest listed one, or the next number, which is xmax.
abbrev pub snapshot_at : ℕ → ℕ → List ℕ → SnapshotData
snapshot_at oldest next active = record {
  xmin = nearest oldest next (filter (in_window oldest next) active);
  xmax = next;
  listed = filter (in_window oldest next) active;
}

-- x does not precede xmin, and does not precede xmax or is listed
abbrev pub running : SnapshotData → ℕ → Bool
running s x = not (precedes x s.xmin) && (not (precedes x s.xmax) || is_listed x s.listed)

-- Counted on from xmin, xmax is under 2^31 away, and the listed numbers come before it.
pub record SnapshotFacts (s : SnapshotData) : Type 0 where
  pub short : distance s.xmin s.xmax < 2147483648
  pub before : AllByRecursion (λ x. distance s.xmin x < distance s.xmin s.xmax) s.listed

-- a snapshot that is taken of a source with this meaning
pub record Taken (m : Meaning) (active : List ℕ) (s : SnapshotData) : Type 0 where
  pub value : s ≡ snapshot_at m.oldest m.next active
  pub facts : SnapshotFacts s

-- the xmins of the places that are taken
abbrev pub xmins : List (Option SnapshotData) → List ℕ
xmins [] = []
xmins (None ∷ ps) = xmins ps
xmins (Some s ∷ ps) = s.xmin ∷ xmins ps

-- how many places are taken before the first that is not
abbrev pub lowest_free : List (Option SnapshotData) → ℕ
lowest_free ps = prefix_len is_some ps

-- the first of the 16 places that is not taken
abbrev pub first_free : List (Option SnapshotData) → Option ℕ
first_free ps = cond (nat_lt (lowest_free ps) 16) (Some (lowest_free ps)) None

-- the nearest, from the oldest number on, of the next number, the active numbers and the xmins
abbrev pub horizon_of : ℕ → ℕ → List ℕ → List (Option SnapshotData) → ℕ
horizon_of oldest next active places = nearest oldest (nearest oldest next active) (xmins places)

-- what the code holds
abbrev pub data_of : Snapshot → SnapshotData
data_of s = record { xmin = s.xmin; xmax = s.xmax; listed = numbers_of s.listed }
