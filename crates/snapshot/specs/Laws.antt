-- What the nearest number is, and the horizon.
use Rattle.std.specs.Prelude.{ℕ, ◌≤◌, List, ◌∷◌, ◌++◌, Option}
use Rattle.std.specs.List.{ContainsAt, AllByRecursion}
use Rattle.xid.specs.Numbers.{distance}
use Rattle.snapshot.specs.Snapshots.{SnapshotData, nearest, xmins, horizon_of}

pub record Least (o n : ℕ) (xs : List ℕ) (x : ℕ) : Type 0 where
  pub least : AllByRecursion (λ y. distance o x ≤ distance o y) (n ∷ xs)
  pub one_of : ContainsAt (n ∷ xs) x

abbrev pub NearestIsLeast : Type 0
NearestIsLeast = (o n : ℕ) (xs : List ℕ) → Least o n xs (nearest o n xs)

-- no active number and no xmin lies before the horizon, nor does the next number; and it is one of them
abbrev pub HorizonIsLeast : Type 0
HorizonIsLeast = (o n : ℕ) (active : List ℕ) (places : List (Option SnapshotData)) → Least o n (active ++ xmins places) (horizon_of o n active places)
