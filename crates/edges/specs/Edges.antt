-- The edges of the rules, as one table over the definitions.
use Rattle.std.specs.Prelude.{◌≡◌, ℕ, Bool, true, false, List, [], ◌∷◌, length}
use Rattle.std.specs.List.{AllByRecursion}
use Rattle.page.specs.Slots.{Version}
use Rattle.page_room.specs.Room.{takes}
use Rattle.page_write.specs.Empty.{empty_page}
use Rattle.page_write_laws.specs.Edges.{put_all, EachHas}
use Rattle.xid.specs.Numbers.{precedes}
use Rattle.snapshot.specs.Snapshots.{SnapshotData, running}

-- a snapshot with xmin 101 and xmax 103, and 101 listed
abbrev pub sample : SnapshotData
sample = record { xmin = 101; xmax = 103; listed = 101 ∷ [] }

-- what is asked, and what the answer must be
abbrev pub edges : List (Bool × Bool)
edges =
    (precedes 4294967295 3, true) ∷
    (precedes 3 2147483650, true) ∷
    (precedes 3 2147483651, true) ∷
    (precedes 2147483651 3, true) ∷
    (running sample 100, false) ∷
    (running sample 101, true) ∷
    (running sample 102, false) ∷
    (running sample 103, true) ∷ []

-- whether an empty page that has taken k rows of kind 1 takes one more; their versions have 33 bytes
abbrev pub TakesAnother : ℕ → Bool → Type 0
TakesAnother k answer = (vs : List Version) → EachHas 33 vs → length vs ≡ k → takes 0 (put_all empty_page vs) 33 ≡ answer

-- the order of the numbers and what runs for a snapshot; 185 rows of kind 1, and not 186
pub record Edges : Type 0 where
  pub order : AllByRecursion (λ row. row.0 ≡ row.1) edges
  pub row185 : TakesAnother 184 true
  pub row186 : TakesAnother 185 false
